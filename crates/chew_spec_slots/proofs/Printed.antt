-- A slot that is printed reads as what it was printed for, whatever follows it.
use Rattle.std.specs.Prelude.{◌≡◌, ℕ, ◌+◌, ◌-◌, ◌*◌, ◌^◌, ◌<◌, ◌≤◌, Bool, true, false, ◌&&◌, ◌==◌, nat_le, bytes_eq, List, ◌∷◌, ◌++◌, length, take, drop, cond, Option, Some, None, Result, Ok, Err, refl}
use Rattle.std.specs.Int.{w64, to_le_bytes, from_le_bytes}
use Rattle.std.proofs.Common.{arith, sym, ap, ap₂, ◌∙◌, append_assoc, length-append}
use Rattle.std.proofs.lemmas.Bool.Decides.{nat_tests}
use Rattle.std.proofs.lemmas.List.{drop-drop, drop_at, length-drop, take_at}
use Rattle.std.proofs.lemmas.Nat.{from_le_bytes-to_le_bytes_8}
use Rattle.std.proofs.lemmas.Slice.Eq.{bytes_eq-Decides}
use Rattle.sha2.proofs.Facts256.{length-sha256}
use Rattle.chew_spec_syllable.specs.Row.{Row}
use Rattle.chew_spec_image.specs.Fields.{Counts, u64_at}
use Rattle.chew_spec_image.specs.Image.{image}
use Rattle.chew_spec_image.specs.ReadNodes.{checked, unless_fault}
use Rattle.chew_spec_image.specs.Reading.{counts_fault, counts_in, header_fault, image_end, image_reading, keys_due, rows_for}
use Rattle.chew_spec_slots.specs.Reading.{SlotReading, Open, Faulty, as_open, digest_fault, digest_in, digested, image_in, image_len, life_in, plain_fault, saved_as, saved_in, seq_in, slot_reading}
use Rattle.chew_spec_slots.specs.Slot.{IsSaved, Saved, body, digest, digest_magic, fields, magic, open_gate, plain_slot, rows_limit, slot}

-- the eight bytes from a place on, and what follows them
record HasEight (bytes : List ℕ) (place : ℕ) (eight rest : List ℕ) : Type 0 where
  there : drop place bytes ≡ eight ++ rest
  long : length eight ≡ 8

eight-take : (bytes : List ℕ) (place : ℕ) (eight rest : List ℕ) → HasEight bytes place eight rest → take 8 (drop place bytes) ≡ eight
eight-take bytes place eight rest has = ap (take 8) has.there ∙ take_at eight rest 8 has.long

eight-drop : (bytes : List ℕ) (place : ℕ) (eight rest : List ℕ) → HasEight bytes place eight rest → drop (place + 8) bytes ≡ rest
eight-drop bytes place eight rest has = sym (drop-drop 8 place bytes) ∙ ap (drop 8) has.there ∙ drop_at eight rest 8 has.long

-- a slot by its parts
record HasParts (bytes magic_in : List ℕ) (seq life len : ℕ) (behind : List ℕ) : Type 0 where
  magic : HasEight bytes 1 magic_in (to_le_bytes w64 seq ++ (to_le_bytes w64 life ++ (to_le_bytes w64 len ++ behind)))

parts-seq : (bytes magic_in : List ℕ) (seq life len : ℕ) (behind : List ℕ) → HasParts bytes magic_in seq life len behind → HasEight bytes 9 (to_le_bytes w64 seq) (to_le_bytes w64 life ++ (to_le_bytes w64 len ++ behind))
parts-seq bytes magic_in seq life len behind parts = record { there = eight-drop bytes 1 magic_in _ parts.magic; long = refl }

parts-life : (bytes magic_in : List ℕ) (seq life len : ℕ) (behind : List ℕ) → HasParts bytes magic_in seq life len behind → HasEight bytes 17 (to_le_bytes w64 life) (to_le_bytes w64 len ++ behind)
parts-life bytes magic_in seq life len behind parts = record { there = eight-drop bytes 9 (to_le_bytes w64 seq) _ (parts-seq bytes magic_in seq life len behind parts); long = refl }

parts-len : (bytes magic_in : List ℕ) (seq life len : ℕ) (behind : List ℕ) → HasParts bytes magic_in seq life len behind → HasEight bytes 25 (to_le_bytes w64 len) behind
parts-len bytes magic_in seq life len behind parts = record { there = eight-drop bytes 17 (to_le_bytes w64 life) _ (parts-life bytes magic_in seq life len behind parts); long = refl }

parts-behind : (bytes magic_in : List ℕ) (seq life len : ℕ) (behind : List ℕ) → HasParts bytes magic_in seq life len behind → drop 33 bytes ≡ behind
parts-behind bytes magic_in seq life len behind parts = eight-drop bytes 25 (to_le_bytes w64 len) behind (parts-len bytes magic_in seq life len behind parts)

-- its fields
parts-number : (bytes eight rest : List ℕ) (place n : ℕ) → HasEight bytes place (to_le_bytes w64 n) rest → n < 2 ^ 64 → u64_at bytes place ≡ n
parts-number bytes eight rest place n has fits = ap (from_le_bytes w64) (eight-take bytes place (to_le_bytes w64 n) rest has) ∙ from_le_bytes-to_le_bytes_8 n fits

fits-test : (m n : ℕ) → m ≤ n → nat_le m n ≡ true
fits-test m n h = grind (arith, nat_tests)

-- an image that reads is no longer than an image of the most rows
checked-holds : (b : Bool) (place : ℕ) (next : Option ℕ) → checked b place next ≡ None → b ≡ true
checked-holds true place next is = refl
checked-holds false place next is = absurd cc

checked-next : (b : Bool) (place : ℕ) (next : Option ℕ) → checked b place next ≡ None → next ≡ None
checked-next true place next is = is
checked-next false place next is = absurd cc

unless-none : {X : Type 0} (fault : Option ℕ) (next : Result X ℕ) (x : X) → unless_fault fault next ≡ Ok x → fault ≡ None
unless-none None next x is = refl
unless-none (Some place) next x is = absurd cc

le-holds : (m n : ℕ) → nat_le m n ≡ true → m ≤ n
le-holds m n h = grind (arith, nat_tests)

eq-holds : (m n : ℕ) → (m == n) ≡ true → m ≡ n
eq-holds m n h = grind (arith, nat_tests)

and-second : (a b : Bool) → (a && b) ≡ true → b ≡ true
and-second true b is = is
and-second false b is = absurd cc

counts-short : (counts : Counts) (len : ℕ) → counts_fault counts len ≡ None → len ≤ 60_000_036
counts-short counts len none =
    let rows = le-holds counts.rows 250_000 (checked-holds _ _ _ none) in
    let after_rows = checked-next _ _ _ none in
    let nodes = le-holds counts.nodes (11 * counts.rows + 1) (and-second (nat_le 1 counts.nodes) (nat_le counts.nodes (11 * counts.rows + 1)) (checked-holds _ _ _ after_rows)) in
    let after_nodes = checked-next _ _ _ after_rows in
    let text = le-holds counts.text (44 * counts.rows) (checked-holds _ _ _ after_nodes) in
    let whole = eq-holds len (image_end counts) (checked-holds _ _ _ (checked-next _ _ _ after_nodes)) in
    omega arith

pub image-short : (bytes : List ℕ) (rows : List Row) → image_reading bytes ≡ Ok rows → length bytes ≤ 60_000_036
unfolding image_reading
image-short bytes rows reads =
    let none = unless-none (header_fault bytes) (rows_for bytes (counts_in bytes) (keys_due bytes (counts_in bytes))) rows reads in
    counts-short (counts_in bytes) (length bytes) (checked-next _ _ _ (checked-next _ _ _ none))

regroup-plain : (m s l n i r : List ℕ) → (m ++ (s ++ (l ++ (n ++ i)))) ++ r ≡ m ++ (s ++ (l ++ (n ++ (i ++ r))))
regroup-plain m s l n i r = simp append_assoc

regroup : (m s l n i d r : List ℕ) → ((m ++ (s ++ (l ++ (n ++ i)))) ++ d) ++ r ≡ m ++ (s ++ (l ++ (n ++ (i ++ (d ++ r)))))
regroup m s l n i d r = simp append_assoc

-- the fields behind a gate are 32 bytes and the image
length-fields : (m s l n i : List ℕ) → length m ≡ 8 → length s ≡ 8 → length l ≡ 8 → length n ≡ 8 → length (m ++ (s ++ (l ++ (n ++ i)))) ≡ 32 + length i
length-fields m s l n i a b c d = omega (arith, length-append m (s ++ (l ++ (n ++ i))), length-append s (l ++ (n ++ i)), length-append l (n ++ i), length-append n i)

-- what a slot with these parts is read as
record ReadsAs (bytes magic_in : List ℕ) (saved : Saved) (image_bytes tail : List ℕ) : Type 0 where
  magic : take 8 (drop 1 bytes) ≡ magic_in
  seq : seq_in bytes ≡ saved.seq
  life : life_in bytes ≡ saved.checkpoint.life
  len : image_len bytes ≡ length image_bytes
  whole : drop 33 bytes ≡ image_bytes ++ tail
  image : image_in bytes ≡ image_bytes
  long : length bytes ≡ 33 + (length image_bytes + length tail)

reads-as : (bytes magic_in : List ℕ) (saved : Saved) (image_bytes tail : List ℕ) → HasParts bytes magic_in saved.seq saved.checkpoint.life (length image_bytes) (image_bytes ++ tail)
    → saved.seq < 2 ^ 64 → saved.checkpoint.life < 2 ^ 64 → length image_bytes < 2 ^ 64 → ReadsAs bytes magic_in saved image_bytes tail
reads-as bytes magic_in saved image_bytes tail parts seq life len =
    let behind = image_bytes ++ tail in
    let the_len = parts-number bytes (to_le_bytes w64 (length image_bytes)) behind 25 (length image_bytes) (parts-len bytes magic_in saved.seq saved.checkpoint.life (length image_bytes) behind parts) len in
    let whole = parts-behind bytes magic_in saved.seq saved.checkpoint.life (length image_bytes) behind parts in
    record {
      magic = eight-take bytes 1 magic_in _ parts.magic;
      seq = parts-number bytes (to_le_bytes w64 saved.seq) _ 9 saved.seq (parts-seq bytes magic_in saved.seq saved.checkpoint.life (length image_bytes) behind parts) seq;
      life = parts-number bytes (to_le_bytes w64 saved.checkpoint.life) _ 17 saved.checkpoint.life (parts-life bytes magic_in saved.seq saved.checkpoint.life (length image_bytes) behind parts) life;
      len = the_len;
      whole = whole;
      image = ap₂ take the_len whole ∙ take_at image_bytes tail (length image_bytes) refl;
      long = length-by bytes (to_le_bytes w64 (length image_bytes)) image_bytes tail (parts-len bytes magic_in saved.seq saved.checkpoint.life (length image_bytes) behind parts).there refl;
    }
  where
    length-by : (bytes eight image_bytes tail : List ℕ) → drop 25 bytes ≡ eight ++ (image_bytes ++ tail) → length eight ≡ 8 → length bytes ≡ 33 + (length image_bytes + length tail)
    length-by bytes eight image_bytes tail is long =
        omega (arith, length-drop 25 bytes, ap length is, length-append eight (image_bytes ++ tail), length-append image_bytes tail)

-- what a slot may stand for, but for the number of its rows
record IsPrinted (saved : Saved) : Type 0 where
  first : 1 ≤ saved.seq
  seq : saved.seq < 2 ^ 64
  life : saved.checkpoint.life < 2 ^ 64
  image : image_reading (image saved.checkpoint.rows) ≡ Ok saved.checkpoint.rows

is-printed : (saved : Saved) → IsSaved saved → IsPrinted saved
is-printed saved is = record { first = is.first; seq = is.seq; life = is.life; image = is.image }

-- what it is read as, by that number
abbrev read_by : (fits : Bool) → Saved → Result Saved ℕ
read_by fits saved = cond {A = Result Saved ℕ} fits (Ok saved) (Err 41)

abbrev read_as : Saved → Result Saved ℕ
read_as saved = read_by (nat_le (length saved.checkpoint.rows) rows_limit) saved

saved-as : (bytes : List ℕ) (saved : Saved) → seq_in bytes ≡ saved.seq → life_in bytes ≡ saved.checkpoint.life → saved_as bytes (Ok saved.checkpoint.rows) ≡ read_as saved
saved-as bytes saved seq life =
    ap₂ (λ s l. read_as (record { seq = s; checkpoint = record { life = l; rows = saved.checkpoint.rows } })) seq life

open-reading : (behind : List ℕ) (read : Result Saved ℕ) → 32 ≤ length behind → saved_in (open_gate ∷ behind) ≡ read → slot_reading (open_gate ∷ behind) ≡ as_open read
open-reading behind read long is =
    ap (λ b. cond (b && true) (as_open (saved_in (open_gate ∷ behind))) SlotReading.Shut) (fits-test 33 (length (open_gate ∷ behind)) (omega arith)) ∙ ap as_open is

plain-saved : (bytes : List ℕ) → take 8 (drop 1 bytes) ≡ magic → saved_in bytes ≡ unless_fault (plain_fault bytes) (saved_as bytes (image_reading (image_in bytes)))
unfolding saved_in
plain-saved bytes is = ap (λ m. cond (bytes_eq m magic) (unless_fault (plain_fault bytes) (saved_as bytes (image_reading (image_in bytes))))
    (cond (bytes_eq m digest_magic) (unless_fault (digest_fault bytes) (saved_as bytes (image_reading (image_in bytes)))) (Err 1))) is

digest-saved : (bytes : List ℕ) → take 8 (drop 1 bytes) ≡ digest_magic → saved_in bytes ≡ unless_fault (digest_fault bytes) (saved_as bytes (image_reading (image_in bytes)))
unfolding saved_in
digest-saved bytes is = ap (λ m. cond (bytes_eq m magic) (unless_fault (plain_fault bytes) (saved_as bytes (image_reading (image_in bytes))))
    (cond (bytes_eq m digest_magic) (unless_fault (digest_fault bytes) (saved_as bytes (image_reading (image_in bytes)))) (Err 1))) is

image-saved : (bytes magic_in tail : List ℕ) (saved : Saved) → IsPrinted saved → ReadsAs bytes magic_in saved (image saved.checkpoint.rows) tail → saved_as bytes (image_reading (image_in bytes)) ≡ read_as saved
image-saved bytes magic_in tail saved is reads =
    ap (λ i. saved_as bytes (image_reading i)) reads.image ∙ ap (saved_as bytes) is.image ∙ saved-as bytes saved reads.seq reads.life

-- a slot of the first format
plain-as : (saved : Saved) (rest : List ℕ) → IsPrinted saved → slot_reading (plain_slot saved ++ rest) ≡ as_open (read_as saved)
plain-as saved rest is =
    let i = image saved.checkpoint.rows in
    let bytes = plain_slot saved ++ rest in
    let short = image-short i saved.checkpoint.rows is.image in
    let parts : HasParts bytes magic saved.seq saved.checkpoint.life (length i) (i ++ rest) = record {
      magic = record {
        there = regroup-plain magic (to_le_bytes w64 saved.seq) (to_le_bytes w64 saved.checkpoint.life) (to_le_bytes w64 (length i)) i rest;
        long = refl;
      };
    } in
    let reads = reads-as bytes magic saved i rest parts is.seq is.life (omega arith) in
    open-reading (fields magic saved ++ rest) (read_as saved) (omega (arith, reads.long))
    (plain-saved bytes reads.magic
    ∙ ap (λ fault. unless_fault fault (saved_as bytes (image_reading (image_in bytes))))
    (ap₂ (λ a b. checked a 9 (checked b (length bytes) None)) (fits-test 1 (seq_in bytes) (omega (arith, reads.seq, is.first))) (fits-test (image_len bytes) (length bytes - 33) (omega (arith, reads.len, reads.long))))
    ∙ image-saved bytes magic rest saved is reads)

pub length-digest : (bytes : List ℕ) → length (digest bytes) ≡ 32
unfolding digest
length-digest bytes = length-sha256 bytes

-- a slot of the second format
digest-as : (saved : Saved) (rest : List ℕ) → IsPrinted saved → slot_reading (slot saved ++ rest) ≡ as_open (read_as saved)
digest-as saved rest is =
    let i = image saved.checkpoint.rows in
    let f = fields digest_magic saved in
    let d = digest f in
    let bytes = slot saved ++ rest in
    let short = image-short i saved.checkpoint.rows is.image in
    let parts : HasParts bytes digest_magic saved.seq saved.checkpoint.life (length i) (i ++ (d ++ rest)) = record {
      magic = record {
        there = regroup digest_magic (to_le_bytes w64 saved.seq) (to_le_bytes w64 saved.checkpoint.life) (to_le_bytes w64 (length i)) i d rest;
        long = refl;
      };
    } in
    let reads = reads-as bytes digest_magic saved i (d ++ rest) parts is.seq is.life (omega arith) in
    let thirty_two : length d ≡ 32 = length-digest f in
    let tail : length (d ++ rest) ≡ 32 + length rest = length-append d rest ∙ ap (λ n. n + length rest) thirty_two in
    let long_fields : length f ≡ 32 + length i = length-fields digest_magic (to_le_bytes w64 saved.seq) (to_le_bytes w64 saved.checkpoint.life) (to_le_bytes w64 (length i)) i refl refl refl refl in
    let fields_in : digested bytes ≡ f = ap₂ (λ n list. take n list) (ap (λ n. 32 + n) reads.len) (append_assoc f d rest) ∙ take_at f (d ++ rest) (32 + length i) long_fields in
    let digest_there : digest_in bytes ≡ d =
    ap (λ n. take 32 (drop (33 + n) bytes)) reads.len
    ∙ ap (take 32) (sym (drop-drop (length i) 33 bytes) ∙ ap (drop (length i)) reads.whole ∙ drop_at i (d ++ rest) (length i) refl)
    ∙ take_at d rest 32 thirty_two in
    let same : bytes_eq (digest (digested bytes)) (digest_in bytes) ≡ true =
    ap₂ bytes_eq (ap digest fields_in) digest_there ∙ (bytes_eq-Decides d d).1 refl in
    open-reading ((f ++ d) ++ rest) (read_as saved) (omega (arith, reads.long))
    (digest-saved bytes reads.magic
    ∙ ap (λ fault. unless_fault fault (saved_as bytes (image_reading (image_in bytes))))
    (ap₂ (λ a b. checked a 9 (checked b (length bytes) (checked (bytes_eq (digest (digested bytes)) (digest_in bytes)) (33 + image_len bytes) None)))
    (fits-test 1 (seq_in bytes) (omega (arith, reads.seq, is.first))) (fits-test (image_len bytes + 32) (length bytes - 33) (omega (arith, reads.len, reads.long, tail)))
    ∙ ap (λ c. checked c (33 + image_len bytes) None) same)
    ∙ image-saved bytes digest_magic (d ++ rest) saved is reads)

-- few enough rows, or too many
few-read : (saved : Saved) → length saved.checkpoint.rows ≤ rows_limit → as_open (read_as saved) ≡ Open saved
few-read saved few = ap (λ b. as_open (read_by b saved)) (fits-test (length saved.checkpoint.rows) rows_limit few)

many-read : (saved : Saved) → rows_limit < length saved.checkpoint.rows → as_open (read_as saved) ≡ Faulty 41
many-read saved many = ap (λ b. as_open (read_by b saved)) (past-test (length saved.checkpoint.rows) rows_limit many)
  where
    past-test : (m n : ℕ) → n < m → nat_le m n ≡ false
    past-test m n h = grind (arith, nat_tests)

pub printed-plain : (saved : Saved) (rest : List ℕ) → IsSaved saved → slot_reading (plain_slot saved ++ rest) ≡ Open saved
printed-plain saved rest is = plain-as saved rest (is-printed saved is) ∙ few-read saved is.few

pub printed : (saved : Saved) (rest : List ℕ) → IsSaved saved → slot_reading (slot saved ++ rest) ≡ Open saved
printed saved rest is = digest-as saved rest (is-printed saved is) ∙ few-read saved is.few

pub too-many-plain : (saved : Saved) (rest : List ℕ) → 1 ≤ saved.seq → saved.seq < 2 ^ 64 → saved.checkpoint.life < 2 ^ 64 → image_reading (image saved.checkpoint.rows) ≡ Ok saved.checkpoint.rows
    → rows_limit < length saved.checkpoint.rows → slot_reading (plain_slot saved ++ rest) ≡ Faulty 41
too-many-plain saved rest first seq life image many = plain-as saved rest (record { first = first; seq = seq; life = life; image = image }) ∙ many-read saved many

pub too-many : (saved : Saved) (rest : List ℕ) → 1 ≤ saved.seq → saved.seq < 2 ^ 64 → saved.checkpoint.life < 2 ^ 64 → image_reading (image saved.checkpoint.rows) ≡ Ok saved.checkpoint.rows
    → rows_limit < length saved.checkpoint.rows → slot_reading (slot saved ++ rest) ≡ Faulty 41
too-many saved rest first seq life image many = digest-as saved rest (record { first = first; seq = seq; life = life; image = image }) ∙ many-read saved many

-- what is written behind a gate fits a slot
pub body-fits : (saved : Saved) → IsSaved saved → 1 + length (body saved) ≤ 60_000_101
body-fits saved is =
    let i = image saved.checkpoint.rows in
    let f = fields digest_magic saved in
    let long_fields : length f ≡ 32 + length i = length-fields digest_magic (to_le_bytes w64 saved.seq) (to_le_bytes w64 saved.checkpoint.life) (to_le_bytes w64 (length i)) i refl refl refl refl in
    omega (arith, image-short i saved.checkpoint.rows is.image, length-append f (digest f), length-digest f)
