-- The number of the mark that a text begins with.
use Rattle.std.proofs.Common.{ℕ, zero, suc, ◌+◌, ◌-◌, ◌/◌, ◌%◌, ◌<◌, ◌≤◌, ◌≡◌, true, false, ◌&&◌, eqb, ltb, leb, List, [], ◌∷◌, ◌++◌, length, drop, take, get_or, Some, None, encode_utf8, nat_eq, refl, subst, ◌⊎◌, inl, inr, sym, ap, ◌∙◌, arith}
use lib.Utf8.{encode}
use Rattle.std.specs.List.{starts_with, position_or_len, range_with_len}
use Rattle.std.specs.Option.{option_map_or}
use Rattle.std.proofs.lemmas.Bool.{false_from_ne_true, lt-ltb, le-ltb, leb-true, le-leb, eqb-true, cond-true, cond-false, cond_both, and_parts, and_from}
use Rattle.std.proofs.lemmas.Bool.Decides.{Decides-eqb}
use Rattle.std.proofs.lemmas.List.FromFn.{get_or-range_with_len, length-range_with_len}
use Rattle.std.proofs.lemmas.List.Sums.{position_or_len_is}
use Rattle.std.proofs.lemmas.Slice.Eq.{starts_is}
use Rattle.std.proofs.lemmas.Str.{encode_same}
use Rattle.std.proofs.Math.Seq.{drop-append_seam, take-length}
use Rattle.std.proofs.lemmas.List.{length-drop}
use Rattle.chew_spec_syllable.specs.SyllableText.{mark_number, mark_text, after_mark, initial_marks, medial_marks, final_marks, tone_marks, front_parts}
use Rattle.chew_spec_syllable.specs.Syllable.{Parts}
use Rattle.chew_syllable.specs.Front.{Reads, block_byte, tone_byte}

begins_yes : (text rest : List ℕ) (mark : ℕ) → text ≡ encode_utf8 mark ++ rest → starts_with nat_eq text (encode_utf8 mark) ≡ true
begins_yes text rest mark e = (starts_is Decides-eqb text (encode_utf8 mark) _ refl).1 rest e

begins_rest : (text : List ℕ) (mark : ℕ) → starts_with nat_eq text (encode_utf8 mark) ≡ true → text ≡ encode_utf8 mark ++ drop (length (encode_utf8 mark)) text
begins_rest text mark e = (starts_is Decides-eqb text (encode_utf8 mark) _ refl).0 e

-- the number by the first place
number_at : (marks text : List ℕ) (i : ℕ) → i < length marks → position_or_len (λ mark. starts_with nat_eq text (encode_utf8 mark)) marks ≡ i → mark_number marks text ≡ suc i
number_at marks text i l e =
    rw e (ap (λ o. option_map_or suc o 0) (cond-true (ltb i (length marks)) (Some i) None (lt-ltb i (length marks) l)))

number_zero : (marks text : List ℕ) → position_or_len (λ mark. starts_with nat_eq text (encode_utf8 mark)) marks ≡ length marks → mark_number marks text ≡ 0
number_zero marks text e =
    rw e (ap (λ o. option_map_or suc o 0) (cond-false (ltb (length marks) (length marks)) (Some (length marks)) None (le-ltb (length marks) (length marks) (omega arith))))

-- the mark is read where none before it is the same
pub reads_here : (marks text rest : List ℕ) (i : ℕ) → i < length marks → text ≡ encode_utf8 (get_or marks i 0) ++ rest
    → ((k : ℕ) → k < i → get_or marks k 0 ≡ get_or marks i 0 → ⊥) → Reads marks text (suc i) rest
reads_here marks text rest i l e apart =
    let earlier : (k : ℕ) → k < i → starts_with nat_eq text (encode_utf8 (get_or marks k 0)) ≡ false =
    λ k h. false_from_ne_true _ (λ yes. apart k h (encode_same (get_or marks k 0) (get_or marks i 0) _ rest (sym (begins_rest text (get_or marks k 0) yes) ∙ e)).0) in
    let place = position_or_len_is (λ mark. starts_with nat_eq text (encode_utf8 mark)) marks i 0 (omega arith) earlier (λ h. begins_yes text rest (get_or marks i 0) e) in
    let number = number_at marks text i l place in
    record {
      number = number;
      rest = ap (λ n. drop (length (mark_text marks n)) text) number ∙ (ap (λ xs. drop (length (encode_utf8 (get_or marks i 0))) xs) e ∙ drop-append_seam (encode_utf8 (get_or marks i 0)) rest);
    }

-- where the text begins with none of the marks, nothing is read
pub reads_none : (marks text : List ℕ) → ((i : ℕ) (rest : List ℕ) → i < length marks → text ≡ encode_utf8 (get_or marks i 0) ++ rest → ⊥) → Reads marks text 0 text
reads_none marks text none =
    let never : (k : ℕ) → k < length marks → starts_with nat_eq text (encode_utf8 (get_or marks k 0)) ≡ false =
    λ k h. false_from_ne_true _ (λ yes. none k _ h (begins_rest text (get_or marks k 0) yes)) in
    let place = position_or_len_is (λ mark. starts_with nat_eq text (encode_utf8 mark)) marks (length marks) 0 (omega arith) never (λ h. absurd (omega arith)) in
    let number = number_zero marks text place in
    record {
      number = number;
      rest = ap (λ n. drop (length (mark_text marks n)) text) number;
    }

-- the bytes of a character of the block Bopomofo
block_bytes : (m : ℕ) → 0x3100 ≤ m → m < 0x3140 → encode_utf8 m ≡ 0xE3 ∷ 0x84 ∷ (m - 0x3080) ∷ []
unfolding encode
block_bytes m low high =
    rw (le-ltb m 128 (omega arith), le-ltb m 2048 (omega arith), lt-ltb m 65536 (omega arith))
    (let a : 224 + m / 4096 ≡ 0xE3 = omega arith in
    let b : 128 + m / 64 % 64 ≡ 0x84 = omega arith in
    let c : 128 + m % 64 ≡ m - 0x3080 = omega arith in
    rw (a, b, c) refl)

-- a mark of a range of the block, and its bytes
range_mark : (first count i : ℕ) → first + count ≤ 64 → i < count → get_or (range_with_len (0x3100 + first) count) i 0 ≡ 0x3100 + first + i
range_mark first count i fits h = get_or-range_with_len (0x3100 + first) count i 0 h

range_bytes : (first count i : ℕ) → first + count ≤ 64 → i < count → encode_utf8 (get_or (range_with_len (0x3100 + first) count) i 0) ≡ 0xE3 ∷ 0x84 ∷ (0x80 + first + i) ∷ []
range_bytes first count i fits h =
    let third : 0x3100 + first + i - 0x3080 ≡ 0x80 + first + i = omega arith in
    ap encode_utf8 (range_mark first count i fits h) ∙ (block_bytes (0x3100 + first + i) (omega arith) (omega arith) ∙ ap (λ b. 0xE3 ∷ 0x84 ∷ b ∷ []) third)

-- a text of the block, by its three bytes and what follows
three_bytes : (text : List ℕ) → 3 ≤ length text → get_or text 0 0 ≡ 0xE3 → get_or text 1 0 ≡ 0x84 → text ≡ 0xE3 ∷ 0x84 ∷ get_or text 2 0 ∷ drop 3 text
three_bytes [] h e f = absurd (omega arith)
three_bytes (a ∷ []) h e f = absurd (omega arith)
three_bytes (a ∷ b ∷ []) h e f = absurd (omega arith)
three_bytes (a ∷ b ∷ third ∷ rest) h e f = cc

block_shape : (text : List ℕ) → 0 < block_byte text → text ≡ 0xE3 ∷ 0x84 ∷ block_byte text ∷ drop 3 text
block_shape text =
    cond_both (leb 3 (length text) && (eqb (get_or text 0 0) 0xE3 && eqb (get_or text 1 0) 0x84)) (get_or text 2 0) 0
    (λ byte. 0 < byte → text ≡ 0xE3 ∷ 0x84 ∷ byte ∷ drop 3 text)
    (λ e h.
    let p = and_parts _ _ e in
    let q = and_parts _ _ p.1 in
    three_bytes text (leb-true _ _ p.0) (eqb-true _ _ q.0) (eqb-true _ _ q.1))
    (λ e h. absurd (omega arith))

block_back : (text rest : List ℕ) (third : ℕ) → text ≡ 0xE3 ∷ 0x84 ∷ third ∷ rest → block_byte text ≡ third
block_back text rest third e =
    ap block_byte e ∙ cond-true (leb 3 (length (0xE3 ∷ 0x84 ∷ third ∷ rest)) && true) third 0 (and_from _ _ (le-leb 3 (length (0xE3 ∷ 0x84 ∷ third ∷ rest)) (omega arith)) refl)

-- a mark of the range is read by its third byte
pub block_here : (text : List ℕ) (first count : ℕ) → first + count ≤ 64 → 0x80 + first ≤ block_byte text → block_byte text < 0x80 + first + count
    → Reads (range_with_len (0x3100 + first) count) text (block_byte text - (0x80 + first) + 1) (drop 3 text)
block_here text first count fits low high =
    let i = block_byte text - (0x80 + first) in
    let h : i < count = omega arith in
    let same : 0x80 + first + i ≡ block_byte text = omega arith in
    let one : suc i ≡ i + 1 = omega arith in
    let marks = range_with_len (0x3100 + first) count in
    let shape = block_shape text (omega arith) in
    let bytes = range_bytes first count i fits h ∙ ap (λ b. 0xE3 ∷ 0x84 ∷ b ∷ []) same in
    subst (λ n. Reads marks text n (drop 3 text)) one
    (reads_here marks text (drop 3 text) i (let n = length-range_with_len (0x3100 + first) count in omega arith)
    (shape ∙ sym (ap (λ xs. xs ++ drop 3 text) bytes))
    (λ k less e. let a = range_mark first count k fits (omega arith) in let b = range_mark first count i fits h in omega arith))

-- a text that begins with no mark of the range
pub block_none : (text : List ℕ) (first count : ℕ) → first + count ≤ 64 → (0x80 + first ≤ block_byte text → block_byte text < 0x80 + first + count → ⊥)
    → Reads (range_with_len (0x3100 + first) count) text 0 text
block_none text first count fits none =
    reads_none (range_with_len (0x3100 + first) count) text
    (λ i rest l e.
    let n = length-range_with_len (0x3100 + first) count in
    let h : i < count = omega arith in
    let byte = block_back text rest (0x80 + first + i) (e ∙ ap (λ xs. xs ++ rest) (range_bytes first count i fits h)) in
    none (omega arith) (omega arith))

-- a text that begins as a tone's mark does, by its two bytes and what follows
two_bytes : (text : List ℕ) → 2 ≤ length text → get_or text 0 0 ≡ 0xCB → text ≡ 0xCB ∷ get_or text 1 0 ∷ drop 2 text
two_bytes [] h e = absurd (omega arith)
two_bytes (a ∷ []) h e = absurd (omega arith)
two_bytes (a ∷ second ∷ rest) h e = cc

tone_shape : (text : List ℕ) → 0 < tone_byte text → text ≡ 0xCB ∷ tone_byte text ∷ drop 2 text
tone_shape text =
    cond_both (leb 2 (length text) && eqb (get_or text 0 0) 0xCB) (get_or text 1 0) 0
    (λ byte. 0 < byte → text ≡ 0xCB ∷ byte ∷ drop 2 text)
    (λ e h. let p = and_parts _ _ e in two_bytes text (leb-true _ _ p.0) (eqb-true _ _ p.1))
    (λ e h. absurd (omega arith))

tone_back : (text rest : List ℕ) (second : ℕ) → text ≡ 0xCB ∷ second ∷ rest → tone_byte text ≡ second
tone_back text rest second e =
    ap tone_byte e ∙ cond-true (leb 2 (length (0xCB ∷ second ∷ rest)) && true) second 0 (and_from _ _ (le-leb 2 (length (0xCB ∷ second ∷ rest)) (omega arith)) refl)

-- each tone is read by its second byte
tone_1 : (rest : List ℕ) → Reads tone_marks (0xCB ∷ 0x99 ∷ rest) 1 rest
unfolding encode
tone_1 rest = record { number = refl; rest = refl }

tone_2 : (rest : List ℕ) → Reads tone_marks (0xCB ∷ 0x8A ∷ rest) 2 rest
unfolding encode
tone_2 rest = record { number = refl; rest = refl }

tone_3 : (rest : List ℕ) → Reads tone_marks (0xCB ∷ 0x87 ∷ rest) 3 rest
unfolding encode
tone_3 rest = record { number = refl; rest = refl }

tone_4 : (rest : List ℕ) → Reads tone_marks (0xCB ∷ 0x8B ∷ rest) 4 rest
unfolding encode
tone_4 rest = record { number = refl; rest = refl }

-- the same, said of a text by its second byte
tone_text : (text : List ℕ) (byte n : ℕ) → 0 < byte → tone_byte text ≡ byte → Reads tone_marks (0xCB ∷ byte ∷ drop 2 text) n (drop 2 text) → Reads tone_marks text n (drop 2 text)
tone_text text byte n h e reads =
    subst (λ xs. Reads tone_marks xs n (drop 2 text)) (sym (tone_shape text (omega arith) ∙ ap (λ b. 0xCB ∷ b ∷ drop 2 text) e)) reads

pub dot_here : (text : List ℕ) → tone_byte text ≡ 0x99 → Reads tone_marks text 1 (drop 2 text)
dot_here text e = tone_text text 0x99 1 (omega arith) e (tone_1 (drop 2 text))

pub rising_here : (text : List ℕ) → tone_byte text ≡ 0x8A → Reads tone_marks text 2 (drop 2 text)
rising_here text e = tone_text text 0x8A 2 (omega arith) e (tone_2 (drop 2 text))

pub dipping_here : (text : List ℕ) → tone_byte text ≡ 0x87 → Reads tone_marks text 3 (drop 2 text)
dipping_here text e = tone_text text 0x87 3 (omega arith) e (tone_3 (drop 2 text))

pub falling_here : (text : List ℕ) → tone_byte text ≡ 0x8B → Reads tone_marks text 4 (drop 2 text)
falling_here text e = tone_text text 0x8B 4 (omega arith) e (tone_4 (drop 2 text))

-- and of no tone's mark
tone_bytes : (text rest : List ℕ) (i : ℕ) → i < 4 → text ≡ encode_utf8 (get_or tone_marks i 0) ++ rest
    → (tone_byte text ≡ 0x99) ⊎ ((tone_byte text ≡ 0x8A) ⊎ ((tone_byte text ≡ 0x87) ⊎ (tone_byte text ≡ 0x8B)))
unfolding encode
tone_bytes text rest zero h e = inl (tone_back text rest 0x99 e)
tone_bytes text rest (suc zero) h e = inr (inl (tone_back text rest 0x8A e))
tone_bytes text rest (suc (suc zero)) h e = inr (inr (inl (tone_back text rest 0x87 e)))
tone_bytes text rest (suc (suc (suc zero))) h e = inr (inr (inr (tone_back text rest 0x8B e)))
tone_bytes text rest (suc (suc (suc (suc i)))) h e = absurd (omega arith)

pub no_tone_here : (text : List ℕ) → (tone_byte text ≡ 0x99 → ⊥) → (tone_byte text ≡ 0x8A → ⊥) → (tone_byte text ≡ 0x87 → ⊥) → (tone_byte text ≡ 0x8B → ⊥) → Reads tone_marks text 0 text
no_tone_here text a b c d =
    reads_none tone_marks text (λ i rest l e. elim (tone_bytes text rest i l e) [ inl x ↦ a x | inr w ↦ elim w [ inl x ↦ b x | inr w ↦ elim w [ inl x ↦ c x | inr x ↦ d x ] ] ])

-- what follows, from a place on, as a slice has it
pub as_slice : (marks text : List ℕ) (n at : ℕ) → Reads marks text n (drop at text) → Reads marks text n (take (length text - at) (drop at text))
as_slice marks text n at reads =
    subst (Reads marks text n) (sym (ap (λ k. take k (drop at text)) (sym (length-drop at text)) ∙ take-length (drop at text))) reads

abbrev parts_by : ℕ → ℕ → ℕ → ℕ → Parts
parts_by initial medial final tone = record { initial = initial; medial = medial; final = final; tone = tone }

-- parts are the same where their numbers are
same_parts : (a b c d i m f t : ℕ) → a ≡ i → b ≡ m → c ≡ f → d ≡ t
    → parts_by a b c d ≡ parts_by i m f t
same_parts a b c d i m f t p q r s = rw (p, q, r, s) refl

-- the four parts that a text begins with, read one after another
pub front_is : (text on_medial on_final on_tone behind : List ℕ) (initial medial final tone : ℕ)
    → Reads initial_marks text initial on_medial → Reads medial_marks on_medial medial on_final → Reads final_marks on_final final on_tone → Reads tone_marks on_tone tone behind
    → parts_by initial medial final tone ≡ front_parts text
front_is text on_medial on_final on_tone behind initial medial final tone a b c d =
    let to_final = ap (after_mark medial_marks) a.rest ∙ b.rest in
    let to_tone = ap (after_mark final_marks) to_final ∙ c.rest in
    same_parts initial medial final tone _ _ _ _ (sym a.number) (sym (ap (mark_number medial_marks) a.rest ∙ b.number))
    (sym (ap (mark_number final_marks) to_final ∙ c.number)) (sym (ap (mark_number tone_marks) to_tone ∙ d.number))
