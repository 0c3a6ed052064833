-- The next of the lines that are left.
use Rattle.std.proofs.Common.{◌≡◌, ℕ, Bool, false, List, [], ◌∷◌, ◌++◌, map, refl, ap, sym, ◌∙◌}
use Rattle.chew_spec_text.specs.Lines.{lines_of, without_return}
use Rattle.chew_spec_text.proofs.Lines.{is_feed}
use Rattle.chew_spec_text.proofs.Splits.{last_part, split_at}
use Rattle.chew_text.specs.LinesLeft.{lines_left}
use Rattle.chew_text.proofs.Cuts.{Lacks, stands_not}

-- where a line feed follows
pub line_cut : (all : List (List ℕ)) (ended : Bool) (rest line cut behind : List ℕ) → all ≡ lines_left ended rest → ended ≡ false
    → rest ≡ cut ++ 10 ∷ behind → Lacks 10 cut → line ≡ without_return cut → all ≡ line ∷ lines_left ended behind
line_cut all ended rest line cut behind h more whole lacks is =
    h ∙ (ap (λ e. lines_left e rest) more
    ∙ (ap lines_of whole ∙ (ap (map without_return) (split_at is_feed 10 cut behind refl (stands_not 10 cut lacks))
    ∙ (ap (λ l. l ∷ lines_of behind) (sym is) ∙ ap (λ e. line ∷ lines_left e behind) (sym more)))))

-- where none follows
pub last_line : (all : List (List ℕ)) (ended : Bool) (rest line : List ℕ) → all ≡ lines_left ended rest → ended ≡ false
    → Lacks 10 rest → line ≡ without_return rest → all ≡ line ∷ []
last_line all ended rest line h more lacks is =
    h ∙ (ap (λ e. lines_left e rest) more
    ∙ (ap (map without_return) (last_part is_feed rest (stands_not 10 rest lacks)) ∙ ap (λ l. l ∷ []) (sym is)))
