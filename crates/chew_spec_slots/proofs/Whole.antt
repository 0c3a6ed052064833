-- What reads as a checkpoint begins with the printed slot of that checkpoint, in the format of its magic.
use Rattle.std.specs.Prelude.{◌≡◌, ◌⊎◌, ℕ, zero, suc, ◌+◌, ◌-◌, ◌^◌, ◌<◌, ◌≤◌, Bool, true, false, ◌&&◌, ◌==◌, nat_le, bytes_eq, List, [], ◌∷◌, ◌++◌, length, take, drop, slice_index, cond, Option, None, Result, Ok, Err, refl}
use Rattle.std.specs.Int.{w64, to_le_bytes, from_le_bytes}
use Rattle.std.proofs.Common.{arith, get_or, inl, inr, sym, ap, ap₂, ◌∙◌, subst, ⊎_elim}
use Rattle.std.proofs.Math.Seq.{take-add}
use Rattle.std.proofs.lemmas.Bool.{cases_lt}
use Rattle.std.proofs.lemmas.Bool.Decides.{nat_tests}
use Rattle.std.proofs.lemmas.List.{drop-drop, get_or-drop, get_or-take, append-nil, length-append, length-drop, length-take, length-take-le, take-append-drop}
use Rattle.std.proofs.lemmas.Nat.{le_bytes_8}
use Rattle.std.proofs.lemmas.Slice.Eq.{bytes_eq-Decides}
use Rattle.chew_spec_syllable.specs.Row.{Row}
use Rattle.chew_spec_image.specs.Fields.{AreBytes, u64_at}
use Rattle.chew_spec_image.specs.Image.{image}
use Rattle.chew_spec_image.specs.ReadNodes.{unless_fault}
use Rattle.chew_spec_image.specs.Reading.{image_reading}
use Rattle.chew_spec_image.proofs.BytesBack.{part}
use Rattle.chew_spec_image.proofs.ReadKeys.{checked_none, unless_ok}
use Rattle.chew_spec_image.proofs.Unique.{is_read}
use Rattle.chew_spec_slots.specs.Reading.{Shut, Open, as_open, digest_fault, digest_in, digested, image_in, image_len, is_open, life_in, plain_fault, saved_as, saved_in, seq_in, slot_reading}
use Rattle.chew_spec_slots.specs.Slot.{IsSaved, Saved, body, digest, digest_magic, fields, magic, open_gate, plain_slot, rows_limit, slot}

-- tests
le-holds : (m n : ℕ) → nat_le m n ≡ true → m ≤ n
le-holds m n h = grind (arith, nat_tests)

eq-holds : (m n : ℕ) → (m == n) ≡ true → m ≡ n
eq-holds m n h = grind (arith, nat_tests)

both : (a b : Bool) → (a && b) ≡ true → (a ≡ true) × (b ≡ true)
both true b is = (refl, is)
both false b is = absurd cc

-- parts of bytes
length-part : (bytes : List ℕ) (place len : ℕ) → place + len ≤ length bytes → length (part bytes place len) ≡ len
length-part bytes place len h = let d = length-drop place bytes in length-take-le len (drop place bytes) (omega arith)

past : (bytes : List ℕ) (i : ℕ) → length bytes ≤ i → get_or bytes i 0 ≡ 0
past [] i h = refl
past (b ∷ bytes) zero h = absurd (omega arith)
past (b ∷ bytes) (suc i) h = past bytes i (omega arith)

part-bytes : (bytes : List ℕ) (place len : ℕ) → AreBytes bytes → AreBytes (part bytes place len)
part-bytes bytes place len are i = ⊎_elim
    (λ (h : i < len). let e = get_or-take len (drop place bytes) i 0 h ∙ get_or-drop place bytes i 0 in let b = are (place + i) in omega arith)
    (λ (h : len ≤ i). let l = short bytes in let e = past (part bytes place len) i (omega arith) in omega arith)
    (cases_lt i len)
  where
    short : (bs : List ℕ) → length (part bs place len) ≤ len
    short bs = let l = length-take len (drop place bs) in omega arith

-- a part behind another
joined : (bytes : List ℕ) (place a b next all : ℕ) (x y : List ℕ) → x ≡ part bytes place a → y ≡ part bytes next b → next ≡ place + a → all ≡ a + b → x ++ y ≡ part bytes place all
joined bytes place a b next all x y p q n s =
    ap₂ (λ (v w : List ℕ). v ++ w) p (q ∙ ap (λ (k : ℕ). part bytes k b) n)
    ∙ sym (take-add a b (drop place bytes) ∙ ap (λ (l : List ℕ). part bytes place a ++ take b l) (drop-drop a place bytes))
    ∙ ap (part bytes place) (sym s)

number-back : (bytes : List ℕ) (place : ℕ) → AreBytes bytes → place + 8 ≤ length bytes → to_le_bytes w64 (u64_at bytes place) ≡ part bytes place 8
number-back bytes place are h = le_bytes_8 (part bytes place 8) (u64_at bytes place) (length-part bytes place 8 h) (part-bytes bytes place 8 are) refl

number-fits : (bytes : List ℕ) → AreBytes bytes → from_le_bytes w64 bytes < 2 ^ 64
number-fits bytes are = omega (arith, are 0, are 1, are 2, are 3, are 4, are 5, are 6, are 7)

-- bytes by their gate and what follows a part behind it
gate-and-part : (bytes : List ℕ) (gate n : ℕ) (x : List ℕ) → 1 ≤ length bytes → slice_index bytes 0 ≡ gate → x ≡ part bytes 1 n → bytes ≡ (gate ∷ x) ++ drop (1 + n) bytes
gate-and-part [] gate n x some is same = absurd (omega arith)
gate-and-part (first ∷ behind) gate n x some is same =
    ap₂ (λ (g : ℕ) (list : List ℕ). g ∷ list) is
    (sym (take-append-drop n behind) ∙ ap₂ (λ (v w : List ℕ). v ++ w) (sym same) (drop-drop n 1 (first ∷ behind)))

-- what is known of bytes that read as a checkpoint, before their magic
record IsOpen (bytes : List ℕ) (saved : Saved) : Type 0 where
  long : 33 ≤ length bytes
  gate : slice_index bytes 0 ≡ open_gate
  reads : saved_in bytes ≡ Ok saved

is-open : (bytes : List ℕ) (saved : Saved) → slot_reading bytes ≡ Open saved → IsOpen bytes saved
is-open bytes saved is = by (is_open bytes) refl is
  where
    read : (r : Result Saved ℕ) → as_open r ≡ Open saved → r ≡ Ok saved
    read (Ok other) e = cc
    read (Err place) e = absurd cc

    by : (b : Bool) → is_open bytes ≡ b → cond b (as_open (saved_in bytes)) Shut ≡ Open saved → IsOpen bytes saved
    by true opens e =
        let parts = both (nat_le 33 (length bytes)) (slice_index bytes 0 == open_gate) opens in
        record { long = le-holds 33 (length bytes) parts.0; gate = eq-holds (slice_index bytes 0) open_gate parts.1; reads = read (saved_in bytes) e }
    by false opens e = absurd cc

-- the magic, and what is read behind it
record HasMagic (bytes : List ℕ) (saved : Saved) (magic_in : List ℕ) (fault : Option ℕ) : Type 0 where
  magic : take 8 (drop 1 bytes) ≡ magic_in
  no_fault : fault ≡ None
  behind : saved_as bytes (image_reading (image_in bytes)) ≡ Ok saved

which-magic : (bytes : List ℕ) (saved : Saved) → saved_in bytes ≡ Ok saved → HasMagic bytes saved magic (plain_fault bytes) ⊎ HasMagic bytes saved digest_magic (digest_fault bytes)
unfolding saved_in
which-magic bytes saved is = by (bytes_eq (take 8 (drop 1 bytes)) magic) (bytes_eq (take 8 (drop 1 bytes)) digest_magic) refl refl is
  where
    has : (magic_in : List ℕ) (fault : Option ℕ) → bytes_eq (take 8 (drop 1 bytes)) magic_in ≡ true → unless_fault fault (saved_as bytes (image_reading (image_in bytes))) ≡ Ok saved → HasMagic bytes saved magic_in fault
    has magic_in fault same e =
        let r = unless_ok fault (saved_as bytes (image_reading (image_in bytes))) saved e in
        record { magic = (bytes_eq-Decides (take 8 (drop 1 bytes)) magic_in).0 same; no_fault = r.0; behind = r.1 }

    by : (a b : Bool) → bytes_eq (take 8 (drop 1 bytes)) magic ≡ a → bytes_eq (take 8 (drop 1 bytes)) digest_magic ≡ b
        → cond a (unless_fault (plain_fault bytes) (saved_as bytes (image_reading (image_in bytes)))) (cond b (unless_fault (digest_fault bytes) (saved_as bytes (image_reading (image_in bytes)))) (Err 1)) ≡ Ok saved
        → HasMagic bytes saved magic (plain_fault bytes) ⊎ HasMagic bytes saved digest_magic (digest_fault bytes)
    by true b same other e = inl (has magic (plain_fault bytes) same e)
    by false true same other e = inr (has digest_magic (digest_fault bytes) other e)
    by false false same other e = absurd cc

-- what was read of the fields and the image
record HasImage (bytes : List ℕ) (saved : Saved) : Type 0 where
  whole : record { seq = seq_in bytes; checkpoint = record { life = life_in bytes; rows = saved.checkpoint.rows } } ≡ saved
  reads : image_reading (image_in bytes) ≡ Ok saved.checkpoint.rows
  few : length saved.checkpoint.rows ≤ rows_limit

has-image : (bytes : List ℕ) (saved : Saved) → saved_as bytes (image_reading (image_in bytes)) ≡ Ok saved → HasImage bytes saved
has-image bytes saved is = by (image_reading (image_in bytes)) refl is
  where
    by : (r : Result (List Row) ℕ) → image_reading (image_in bytes) ≡ r → saved_as bytes r ≡ Ok saved → HasImage bytes saved
    by (Err place) reads e = absurd cc
    by (Ok rows) reads e = fits (nat_le (length rows) rows_limit) refl e
      where
        same : (found : Saved) → as_open (Ok found) ≡ Open saved → found ≡ saved
        same found e = cc

        fits : (b : Bool) → nat_le (length rows) rows_limit ≡ b
            → cond {A = Result Saved ℕ} b (Ok (record { seq = seq_in bytes; checkpoint = record { life = life_in bytes; rows = rows } })) (Err 41) ≡ Ok saved → HasImage bytes saved
        fits true few e =
            let the_same = same (record { seq = seq_in bytes; checkpoint = record { life = life_in bytes; rows = rows } }) (ap as_open e) in
            subst (λ s. HasImage bytes s) the_same (record { whole = refl; reads = reads; few = le-holds (length rows) rows_limit few })
        fits false few e = absurd cc

-- the fields and the image are those that are printed
record HasFields (bytes magic_in : List ℕ) (saved : Saved) : Type 0 where
  fields : fields magic_in saved ≡ part bytes 1 (32 + image_len bytes)
  is_saved : IsSaved saved

has-fields : (bytes magic_in : List ℕ) (saved : Saved) → AreBytes bytes → take 8 (drop 1 bytes) ≡ magic_in → 1 ≤ seq_in bytes → 33 ≤ length bytes → 33 + image_len bytes ≤ length bytes
    → HasImage bytes saved → HasFields bytes magic_in saved
has-fields bytes magic_in saved are magic first long fits has =
    let rows = saved.checkpoint.rows in
    let printed = (is_read (image_in bytes) rows (part-bytes bytes 33 (image_len bytes) are) has.reads).image in
    let image_long : length (image rows) ≡ image_len bytes = ap length printed ∙ length-part bytes 33 (image_len bytes) fits in
    let seq : seq_in bytes ≡ saved.seq = ap (λ (s : Saved). s.seq) has.whole in
    let life : life_in bytes ≡ saved.checkpoint.life = ap (λ (s : Saved). s.checkpoint.life) has.whole in
    let len_there : to_le_bytes w64 (length (image rows)) ≡ part bytes 25 8 = ap (to_le_bytes w64) image_long ∙ number-back bytes 25 are (omega arith) in
    let seq_there : to_le_bytes w64 saved.seq ≡ part bytes 9 8 = ap (to_le_bytes w64) (sym seq) ∙ number-back bytes 9 are (omega arith) in
    let life_there : to_le_bytes w64 saved.checkpoint.life ≡ part bytes 17 8 = ap (to_le_bytes w64) (sym life) ∙ number-back bytes 17 are (omega arith) in
    record {
      fields =
          joined bytes 1 8 (24 + image_len bytes) 9 (32 + image_len bytes) magic_in _ (sym magic)
          (joined bytes 9 8 (16 + image_len bytes) 17 (24 + image_len bytes) (to_le_bytes w64 saved.seq) _ seq_there
          (joined bytes 17 8 (8 + image_len bytes) 25 (16 + image_len bytes) (to_le_bytes w64 saved.checkpoint.life) _ life_there
          (joined bytes 25 8 (image_len bytes) 33 (8 + image_len bytes) (to_le_bytes w64 (length (image rows))) (image rows) len_there printed refl refl)
          refl (omega arith)) refl (omega arith)) refl (omega arith);
      is_saved = record {
        first = omega (arith, first, seq);
        seq = omega (arith, seq, number-fits (part bytes 9 8) (part-bytes bytes 9 8 are));
        life = omega (arith, life, number-fits (part bytes 17 8) (part-bytes bytes 17 8 are));
        image = ap image_reading printed ∙ has.reads;
        few = has.few;
      };
    }

-- what reads as a checkpoint, in either format
pub record IsWhole (bytes magic_in : List ℕ) (saved : Saved) (printed : List ℕ) : Type 0 where
  pub magic : take 8 (drop 1 bytes) ≡ magic_in
  pub is_saved : IsSaved saved
  pub begins : (rest : List ℕ) × (bytes ≡ printed ++ rest)

whole-plain : (bytes : List ℕ) (saved : Saved) → AreBytes bytes → IsOpen bytes saved → HasMagic bytes saved magic (plain_fault bytes) → IsWhole bytes magic saved (plain_slot saved)
whole-plain bytes saved are opens has =
    let a = checked_none (nat_le 1 (seq_in bytes)) 9 _ has.no_fault in
    let b = checked_none (nat_le (image_len bytes) (length bytes - 33)) (length bytes) None a.1 in
    let first = le-holds 1 (seq_in bytes) a.0 in
    let fits = le-holds (image_len bytes) (length bytes - 33) b.0 in
    let f = has-fields bytes magic saved are has.magic first opens.long (omega (arith, opens.long)) (has-image bytes saved has.behind) in
    record {
      magic = has.magic;
      is_saved = f.is_saved;
      begins = (drop (1 + (32 + image_len bytes)) bytes, gate-and-part bytes open_gate (32 + image_len bytes) (fields magic saved) (omega (arith, opens.long)) opens.gate f.fields);
    }

whole-digest : (bytes : List ℕ) (saved : Saved) → AreBytes bytes → IsOpen bytes saved → HasMagic bytes saved digest_magic (digest_fault bytes) → IsWhole bytes digest_magic saved (slot saved)
whole-digest bytes saved are opens has =
    let a = checked_none (nat_le 1 (seq_in bytes)) 9 _ has.no_fault in
    let b = checked_none (nat_le (image_len bytes + 32) (length bytes - 33)) (length bytes) _ a.1 in
    let d = checked_none (bytes_eq (digest (digested bytes)) (digest_in bytes)) (33 + image_len bytes) None b.1 in
    let first = le-holds 1 (seq_in bytes) a.0 in
    let fits = le-holds (image_len bytes + 32) (length bytes - 33) b.0 in
    let f = has-fields bytes digest_magic saved are has.magic first opens.long (omega (arith, opens.long)) (has-image bytes saved has.behind) in
    let same : digest (digested bytes) ≡ digest_in bytes = (bytes_eq-Decides (digest (digested bytes)) (digest_in bytes)).0 d.0 in
    let digest_there : digest (fields digest_magic saved) ≡ part bytes (33 + image_len bytes) 32 = ap digest f.fields ∙ same in
    let body_there : body saved ≡ part bytes 1 (64 + image_len bytes) =
    joined bytes 1 (32 + image_len bytes) 32 (33 + image_len bytes) (64 + image_len bytes) (fields digest_magic saved) (digest (fields digest_magic saved)) f.fields digest_there (omega arith) (omega arith) in
    record {
      magic = has.magic;
      is_saved = f.is_saved;
      begins = (drop (1 + (64 + image_len bytes)) bytes, gate-and-part bytes open_gate (64 + image_len bytes) (body saved) (omega (arith, opens.long)) opens.gate body_there);
    }

pub whole : (bytes : List ℕ) (saved : Saved) → AreBytes bytes → slot_reading bytes ≡ Open saved → IsWhole bytes magic saved (plain_slot saved) ⊎ IsWhole bytes digest_magic saved (slot saved)
whole bytes saved are is =
    let opens = is-open bytes saved is in
    ⊎_elim (λ has. inl (whole-plain bytes saved are opens has)) (λ has. inr (whole-digest bytes saved are opens has)) (which-magic bytes saved opens.reads)

-- by the magic alone
abbrev pub either : {P : Type 0} → (bytes : List ℕ) (saved : Saved) → AreBytes bytes → slot_reading bytes ≡ Open saved
    → (IsWhole bytes magic saved (plain_slot saved) → P) → (IsWhole bytes digest_magic saved (slot saved) → P) → P
either bytes saved are is f g = ⊎_elim f g (whole bytes saved are is)

apart-magics : (list : List ℕ) → list ≡ magic → list ≡ digest_magic → ⊥
apart-magics list p q = differ (ap (λ l. slice_index l 7) (sym p ∙ q))
  where
    differ : slice_index magic 7 ≡ slice_index digest_magic 7 → ⊥
    differ e = omega arith

pub begins-plain : (bytes : List ℕ) (saved : Saved) → AreBytes bytes → slot_reading bytes ≡ Open saved → take 8 (drop 1 bytes) ≡ magic → (rest : List ℕ) × (bytes ≡ plain_slot saved ++ rest)
begins-plain bytes saved are is magic_is = either bytes saved are is (λ w. w.begins) (λ w. absurd (apart-magics (take 8 (drop 1 bytes)) magic_is w.magic))

pub begins-digest : (bytes : List ℕ) (saved : Saved) → AreBytes bytes → slot_reading bytes ≡ Open saved → take 8 (drop 1 bytes) ≡ digest_magic → (rest : List ℕ) × (bytes ≡ slot saved ++ rest)
begins-digest bytes saved are is magic_is = either bytes saved are is (λ w. absurd (apart-magics (take 8 (drop 1 bytes)) w.magic magic_is)) (λ w. w.begins)

pub magic-of : (bytes : List ℕ) (saved : Saved) → AreBytes bytes → slot_reading bytes ≡ Open saved → (take 8 (drop 1 bytes) ≡ magic) ⊎ (take 8 (drop 1 bytes) ≡ digest_magic)
magic-of bytes saved are is = either bytes saved are is (λ w. inl w.magic) (λ w. inr w.magic)

pub saved-of : (bytes : List ℕ) (saved : Saved) → AreBytes bytes → slot_reading bytes ≡ Open saved → IsSaved saved
saved-of bytes saved are is = either bytes saved are is (λ w. w.is_saved) (λ w. w.is_saved)

-- with nothing behind it
nothing-behind : (bytes printed : List ℕ) → length bytes ≡ length printed → (rest : List ℕ) × (bytes ≡ printed ++ rest) → bytes ≡ printed
nothing-behind bytes printed long begins = none begins.0 begins.1
  where
    none : (rest : List ℕ) → bytes ≡ printed ++ rest → bytes ≡ printed
    none [] is = is ∙ append-nil printed
    none (b ∷ rest) is = absurd (omega (arith, long, ap length is, length-append printed (b ∷ rest)))

pub whole-slot : (bytes : List ℕ) (saved : Saved) → AreBytes bytes → slot_reading bytes ≡ Open saved → take 8 (drop 1 bytes) ≡ digest_magic → length bytes ≡ length (slot saved) → bytes ≡ slot saved
whole-slot bytes saved are is magic_is long = nothing-behind bytes (slot saved) long (begins-digest bytes saved are is magic_is)
