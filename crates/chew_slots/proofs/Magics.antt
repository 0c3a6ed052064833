-- Which format an open slot has, and what it is read as then.
use Rattle.std.specs.Prelude.{◌≡◌, ℕ, true, false, bytes_eq, List, take, drop, cond, Option, Some, None, Result, Err, IfNone, IfSome}
use Rattle.std.proofs.Common.{ap, ap₂}
use Rattle.chew_spec_image.specs.ReadNodes.{unless_fault}
use Rattle.chew_spec_image.specs.Reading.{image_reading}
use Rattle.chew_spec_slots.specs.Reading.{digest_fault, image_in, plain_fault, saved_as, saved_in}
use Rattle.chew_spec_slots.specs.Slot.{Saved, digest_magic, magic}

pub plain-in : (bytes : List ℕ) → bytes_eq (take 8 (drop 1 bytes)) magic ≡ true → saved_in bytes ≡ unless_fault (plain_fault bytes) (saved_as bytes (image_reading (image_in bytes)))
unfolding saved_in
plain-in bytes is = ap (λ b. cond b (unless_fault (plain_fault bytes) (saved_as bytes (image_reading (image_in bytes))))
    (cond (bytes_eq (take 8 (drop 1 bytes)) digest_magic) (unless_fault (digest_fault bytes) (saved_as bytes (image_reading (image_in bytes)))) (Err 1))) is

pub digest-in : (bytes : List ℕ) → bytes_eq (take 8 (drop 1 bytes)) magic ≡ false → bytes_eq (take 8 (drop 1 bytes)) digest_magic ≡ true
    → saved_in bytes ≡ unless_fault (digest_fault bytes) (saved_as bytes (image_reading (image_in bytes)))
unfolding saved_in
digest-in bytes other is = ap₂ (λ a b. cond a (unless_fault (plain_fault bytes) (saved_as bytes (image_reading (image_in bytes))))
    (cond b (unless_fault (digest_fault bytes) (saved_as bytes (image_reading (image_in bytes)))) (Err 1))) other is

pub neither-in : (bytes : List ℕ) → bytes_eq (take 8 (drop 1 bytes)) magic ≡ false → bytes_eq (take 8 (drop 1 bytes)) digest_magic ≡ false → saved_in bytes ≡ Err 1
unfolding saved_in
neither-in bytes first second = ap₂ (λ a b. cond a (unless_fault (plain_fault bytes) (saved_as bytes (image_reading (image_in bytes))))
    (cond b (unless_fault (digest_fault bytes) (saved_as bytes (image_reading (image_in bytes)))) (Err 1))) first second

-- with the first fault before the image, or none
pub some-by : (fault : Option ℕ) (saved next : Result Saved ℕ) → saved ≡ unless_fault fault next → IfSome fault (λ place. saved ≡ Err place)
some-by None saved next is = tt
some-by (Some place) saved next is = is

pub none-by : (fault : Option ℕ) (saved next : Result Saved ℕ) → saved ≡ unless_fault fault next → IfNone fault (saved ≡ next)
none-by None saved next is = is
none-by (Some place) saved next is = tt
