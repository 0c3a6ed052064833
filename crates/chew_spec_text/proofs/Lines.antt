-- The lines of a text.
use Rattle.std.proofs.Common.{not, ◌≡◌, ℕ, ◌-◌, ◌≤◌, Bool, true, false, eqb, List, [], ◌∷◌, ◌++◌, length, take, drop, map, refl, sym, ap, ◌∙◌, arith}
use Rattle.std.specs.List.{flat_map, join_with_byte, list_all, list_any, slice_split, ends_with}
use Rattle.std.specs.Cmp.Lexicographic.{pointwise}
use Rattle.std.specs.Prelude.{nat_eq}
use Rattle.std.proofs.Math.Seq.{drop-append_seam, take-append_seam}
use Rattle.std.proofs.lemmas.Bool.{cond_both, and_parts, and_from, and_left, or_parts, or_from, ne_eqb, eqb-false, cond-true, cond-false, not-true, not_from_false}
use Rattle.std.proofs.lemmas.List.{append-nil, append_assoc, length-append, map-append}
use Rattle.std.proofs.lemmas.List.Splits.{join_with_byte-slice_split}
use Rattle.chew_spec_text.specs.Line.{with_line_feed}
use Rattle.chew_spec_text.specs.Lines.{is_line, lines_of, with_return, without_return}
use Rattle.chew_spec_text.proofs.Splits.{split_at, none_dropped, none_taken, none_pass, parts_free, split_all}

-- the byte is a line feed, a carriage return
abbrev pub is_feed : ℕ → Bool
is_feed byte = eqb byte 10

abbrev pub is_return : ℕ → Bool
is_return byte = eqb byte 13

-- lines, each ended by a line feed, and a rest
split_lines : (lines : List (List ℕ)) (rest : List ℕ) → list_all is_line lines ≡ true
    → slice_split is_feed (flat_map with_line_feed lines ++ rest) ≡ lines ++ slice_split is_feed rest
split_lines [] rest h = refl
split_lines (line ∷ lines) rest h =
    let both = and_parts _ _ h in
    let more = flat_map with_line_feed lines in
    ap (slice_split is_feed) (append_assoc (with_line_feed line) more rest ∙ append_assoc line (10 ∷ []) (more ++ rest))
    ∙ (split_at is_feed 10 line (more ++ rest) refl (not-true _ both.0) ∙ ap (λ ls. line ∷ ls) (split_lines lines rest both.1))

-- and what their ends leave
lines_ended : (lines : List (List ℕ)) → list_all is_line lines ≡ true → lines_of (flat_map with_line_feed lines) ≡ map without_return lines ++ [] ∷ []
lines_ended lines h =
    ap lines_of (sym (append-nil (flat_map with_line_feed lines)))
    ∙ (ap (map without_return) (split_lines lines [] h) ∙ map-append without_return lines ([] ∷ []))

-- lines of which none ends by a carriage return are read as themselves
pub lines_back : (lines : List (List ℕ)) → list_all is_line lines ≡ true → map without_return lines ≡ lines
    → lines_of (flat_map with_line_feed lines) ≡ lines ++ [] ∷ []
lines_back lines h e = lines_ended lines h ∙ ap (λ ls. ls ++ [] ∷ []) e

-- one carriage return at the end is dropped
return_dropped : (line : List ℕ) → without_return (with_return line) ≡ line
return_dropped line =
    let number : length (line ++ 13 ∷ []) - 1 ≡ length line = omega (arith, length-append line (13 ∷ [])) in
    cond-true (ends_with nat_eq (line ++ 13 ∷ []) (13 ∷ [])) _ _ (ap (λ n. pointwise nat_eq (13 ∷ []) (drop n (line ++ 13 ∷ []))) number ∙ ap (pointwise nat_eq (13 ∷ [])) (drop-append_seam line (13 ∷ [])))
    ∙ (ap (λ n. take n (line ++ 13 ∷ [])) number ∙ take-append_seam line (13 ∷ []))

-- at each line
returns_dropped : (lines : List (List ℕ)) → map without_return (map with_return lines) ≡ lines
returns_dropped [] = refl
returns_dropped (line ∷ lines) = ap (λ l. l ∷ map without_return (map with_return lines)) (return_dropped line) ∙ ap (λ ls. line ∷ ls) (returns_dropped lines)

-- a carriage return is no line feed
still_line : (line : List ℕ) → list_any is_feed line ≡ false → list_any is_feed (line ++ 13 ∷ []) ≡ false
still_line [] h = refl
still_line (x ∷ line) h = let both = or_parts _ _ h in or_from _ _ both.0 (still_line line both.1)

-- nor are those of lines
still_lines : (lines : List (List ℕ)) → list_all is_line lines ≡ true → list_all is_line (map with_return lines) ≡ true
still_lines [] h = refl
still_lines (line ∷ lines) h =
    let both = and_parts _ _ h in and_from _ _ (not_from_false _ (still_line line (not-true _ both.0))) (still_lines lines both.1)

-- lines with carriage returns at their ends are read as themselves
pub returned_back : (lines : List (List ℕ)) → list_all is_line lines ≡ true → lines_of (flat_map with_line_feed (map with_return lines)) ≡ lines ++ [] ∷ []
returned_back lines h = lines_ended (map with_return lines) (still_lines lines h) ∙ ap (λ ls. ls ++ [] ∷ []) (returns_dropped lines)

-- where no byte is a carriage return, none stands first
no_return_first : (xs : List ℕ) → list_any is_return xs ≡ false → pointwise nat_eq (13 ∷ []) xs ≡ false
no_return_first [] h = refl
no_return_first (x ∷ xs) h =
    let both = or_parts _ _ h in and_left _ _ (ne_eqb 13 x (λ e. eqb-false x 13 both.0 (sym e)))

-- then the line stays
pub stays : (line : List ℕ) → list_any is_return line ≡ false → without_return line ≡ line
stays line h =
    cond-false (ends_with nat_eq line (13 ∷ [])) _ _ (no_return_first (drop (length line - 1) line) (none_dropped is_return (length line - 1) line h))

-- without carriage returns the text is no longer
pub shorter : (lines : List (List ℕ)) → length (flat_map with_line_feed lines) ≤ length (flat_map with_line_feed (map with_return lines))
shorter [] = omega arith
shorter (line ∷ lines) =
    let more = shorter lines in
    let returned = flat_map with_line_feed (map with_return lines) in
    omega (
      arith,
      length-append (with_line_feed line) (flat_map with_line_feed lines),
      length-append line (10 ∷ []),
      length-append (with_line_feed (with_return line)) returned,
      length-append (with_return line) (10 ∷ []),
      length-append line (13 ∷ []),
    )

-- a line without a line feed has none once its carriage return is dropped
without_clean : (line : List ℕ) → is_line line ≡ true → is_line (without_return line) ≡ true
without_clean line h =
    cond_both (ends_with nat_eq line (13 ∷ [])) (take (length line - 1) line) line (λ l. is_line l ≡ true)
    (λ _. not_from_false _ (none_taken is_feed (length line - 1) line (not-true _ h))) (λ _. h)

-- nor have those of parts
parts_clean : (parts : List (List ℕ)) → list_all is_line parts ≡ true → list_all is_line (map without_return parts) ≡ true
parts_clean [] h = refl
parts_clean (part ∷ parts) h = let both = and_parts _ _ h in and_from _ _ (without_clean part both.0) (parts_clean parts both.1)

-- no line of a text has a line feed
pub no_line_feed : (text : List ℕ) → list_all is_line (lines_of text) ≡ true
no_line_feed text = parts_clean (slice_split is_feed text) (parts_free is_feed text)

-- parts without a carriage return stay
all_stay : (parts : List (List ℕ)) → list_all (list_all (λ byte. not (is_return byte))) parts ≡ true → map without_return parts ≡ parts
all_stay [] h = refl
all_stay (part ∷ parts) h =
    let both = and_parts _ _ h in
    ap (λ l. l ∷ map without_return parts) (stays part (none_pass is_return part both.0)) ∙ ap (λ ls. part ∷ ls) (all_stay parts both.1)

-- a text without a carriage return is its lines, joined
pub lines_joined : (text : List ℕ) → list_all (λ byte. not (is_return byte)) text ≡ true → join_with_byte 10 (lines_of text) ≡ text
lines_joined text h =
    ap (join_with_byte 10) (all_stay (slice_split is_feed text) (split_all (λ byte. not (is_return byte)) is_feed text h))
    ∙ join_with_byte-slice_split 10 text
