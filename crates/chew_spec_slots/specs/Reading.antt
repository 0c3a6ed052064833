-- How the bytes of a slot read: as shut, as what they stand for, or as damaged at the first faulty place.
use Rattle.std.specs.Prelude.{ℕ, ◌+◌, ◌-◌, Bool, ◌&&◌, not, ◌==◌, nat_le, bytes_eq, List, length, take, drop, slice_index, Option, None, Result, Ok, Err, if◌then◌else◌}
use Rattle.chew_spec_syllable.specs.Row.{Row}
use Rattle.chew_spec_image.specs.Fields.{u64_at}
use Rattle.chew_spec_image.specs.ReadNodes.{checked, unless_fault}
use Rattle.chew_spec_image.specs.Reading.{image_reading}
use Rattle.chew_spec_slots.specs.Slot.{Saved, digest, digest_magic, magic, open_gate, rows_limit}

-- a shut slot has no rule
pub data SlotReading : Type 0 where
  Shut : SlotReading
  Open : Saved → SlotReading
  Faulty : (place : ℕ) → SlotReading

-- a slot is open where it has all its fields but the image, and its gate is open
abbrev pub is_open : List ℕ → Bool
is_open bytes = nat_le 33 (length bytes) && (slice_index bytes 0 == open_gate)

-- the gate is shut, and so it stays whatever a crash makes of a later write behind it
abbrev pub is_surely_shut : List ℕ → Bool
is_surely_shut bytes = nat_le 1 (length bytes) && not (slice_index bytes 0 == open_gate)

-- the fields, by their places
abbrev pub seq_in : List ℕ → ℕ
seq_in bytes = u64_at bytes 9

abbrev pub life_in : List ℕ → ℕ
life_in bytes = u64_at bytes 17

abbrev pub image_len : List ℕ → ℕ
image_len bytes = u64_at bytes 25

abbrev pub image_in : List ℕ → List ℕ
image_in bytes = take (image_len bytes) (drop 33 bytes)

-- all behind the gate up to the image's end, and the digest of it that stands there
abbrev pub digested : List ℕ → List ℕ
digested bytes = take (32 + image_len bytes) (drop 1 bytes)

abbrev pub digest_in : List ℕ → List ℕ
digest_in bytes = take 32 (drop (33 + image_len bytes) bytes)

-- the first faulty place before the image: no seq, or an image that reaches past the slot; in the second format a digest
-- that does, or one that differs
abbrev pub plain_fault : List ℕ → Option ℕ
plain_fault bytes =
    checked (nat_le 1 (seq_in bytes)) 9
    (checked (nat_le (image_len bytes) (length bytes - 33)) (length bytes)
    None)

abbrev pub digest_fault : List ℕ → Option ℕ
digest_fault bytes =
    checked (nat_le 1 (seq_in bytes)) 9
    (checked (nat_le (image_len bytes + 32) (length bytes - 33)) (length bytes)
    (checked (bytes_eq (digest (digested bytes)) (digest_in bytes)) (33 + image_len bytes)
    None))

-- what a slot with this image stands for
abbrev pub saved_as : List ℕ → Result (List Row) ℕ → Result Saved ℕ
saved_as bytes (Err place) = Err (33 + place)
saved_as bytes (Ok rows) =
    if nat_le (length rows) rows_limit
    then Ok (record { seq = seq_in bytes; checkpoint = record { life = life_in bytes; rows = rows } })
    else Err 41

-- what an open slot stands for, or its first faulty place
unfoldable pub saved_in : List ℕ → Result Saved ℕ
saved_in bytes =
    let magic_in = take 8 (drop 1 bytes) in
    if bytes_eq magic_in magic then unless_fault (plain_fault bytes) (saved_as bytes (image_reading (image_in bytes)))
    else (if bytes_eq magic_in digest_magic then unless_fault (digest_fault bytes) (saved_as bytes (image_reading (image_in bytes)))
    else Err 1)

abbrev pub as_open : Result Saved ℕ → SlotReading
as_open (Ok saved) = Open saved
as_open (Err place) = Faulty place

abbrev pub slot_reading : List ℕ → SlotReading
slot_reading bytes = if is_open bytes then as_open (saved_in bytes) else Shut
