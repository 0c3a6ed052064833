-- The rows and the choice of the known run are such that it can be segmented.
use Rattle.std.proofs.Common.{◌≡◌, ℕ, zero, suc, ◌<◌, ◌≤◌, true, false, [], ◌∷◌, ◌++◌, refl, arith}
use Rattle.std.specs.List.{list_any}
use Rattle.std.specs.Str.{chars}
use Rattle.std.proofs.lemmas.List.Elements.{All-cons, All-nil}
use Rattle.std.proofs.lemmas.List.Kept.{AllPairs-cons}
use Rattle.chew_spec_dictionary.specs.Call.{Hit}
use Rattle.chew_spec_phrasing.specs.CanSegment.{CanSegment, cell_at, interval_of}
use Rattle.chew_spec_phrasing.specs.CombinedRows.{is_hit_at}
use Rattle.chew_spec_phrasing.specs.Known.{attempt, be, choice, five_hits, hit, plan, survey}
use Rattle.chew_spec_phrasing.specs.Usable.{Choice, choice_end, meets, phrase_len}
use Rattle.chew_spec_phrasing.proofs.InOrder.{AllPairs-nil}

singles : (cell : ℕ) → cell < 2 → list_any (is_hit_at (cell_at cell)) five_hits ≡ true
singles zero l = refl
singles (suc zero) l = refl
singles (suc (suc cell)) l = absurd (omega arith)

pub CanSegment-five_hits : CanSegment five_hits (choice 0 survey 100 ∷ []) 2
unfolding chars
CanSegment-five_hits = record {
  rows_have_lengths =
      let P = λ (row : Hit). phrase_len row.phrase ≡ row.len in
      All-cons P (hit 0 1 plan 200) (hit 0 1 survey 100 ∷ hit 0 2 (survey ++ attempt) 9318 ∷ hit 1 1 be 9000 ∷ hit 1 1 attempt 300 ∷ []) refl
      (All-cons P (hit 0 1 survey 100) (hit 0 2 (survey ++ attempt) 9318 ∷ hit 1 1 be 9000 ∷ hit 1 1 attempt 300 ∷ []) refl
      (All-cons P (hit 0 2 (survey ++ attempt) 9318) (hit 1 1 be 9000 ∷ hit 1 1 attempt 300 ∷ []) refl
      (All-cons P (hit 1 1 be 9000) (hit 1 1 attempt 300 ∷ []) refl
      (All-cons P (hit 1 1 attempt 300) [] refl (All-nil P)))));
  choices_have_cells = All-cons (λ c. 0 < phrase_len c.phrase) (choice 0 survey 100) [] (omega arith) (All-nil (λ (c : Choice). 0 < phrase_len c.phrase));
  choices_within = All-cons (λ c. choice_end c ≤ 2) (choice 0 survey 100) [] (omega arith) (All-nil (λ (c : Choice). choice_end c ≤ 2));
  choices_apart = AllPairs-cons (λ c d. meets (interval_of c) d ≡ false) (choice 0 survey 100) [] (All-nil (λ (d : Choice). meets (interval_of (choice 0 survey 100)) d ≡ false)) (AllPairs-nil (λ (c d : Choice). meets (interval_of c) d ≡ false));
  has_singles = λ cell l outside. singles cell l;
}
