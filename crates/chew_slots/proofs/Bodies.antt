-- The body of a slot, by its parts.
use Rattle.std.specs.Prelude.{◌≡◌, ℕ, List, ◌++◌, length}
use Rattle.std.specs.Int.{w64, to_le_bytes}
use Rattle.std.proofs.Common.{sym, ap, ap₂, ◌∙◌}
use Rattle.chew_spec_image.specs.Image.{image}
use Rattle.chew_spec_slots.specs.Slot.{Saved, body, digest, digest_magic, fields}

pub body-by : (saved : Saved) (image_bytes front last all : List ℕ) → image saved.checkpoint.rows ≡ image_bytes
    → front ≡ digest_magic ++ (to_le_bytes w64 saved.seq ++ (to_le_bytes w64 saved.checkpoint.life ++ (to_le_bytes w64 (length image_bytes) ++ image_bytes)))
    → last ≡ digest front → all ≡ front ++ last → all ≡ body saved
body-by saved image_bytes front last all image_is front_is last_is all_is =
    let whole : front ≡ fields digest_magic saved =
    front_is ∙ ap (λ (i : List ℕ). digest_magic ++ (to_le_bytes w64 saved.seq ++ (to_le_bytes w64 saved.checkpoint.life ++ (to_le_bytes w64 (length i) ++ i)))) (sym image_is) in
    all_is ∙ ap₂ (λ (v w : List ℕ). v ++ w) whole (last_is ∙ ap digest whole)
