-- The text of a syllable is read as its code.
use Rattle.std.proofs.Common.{◌≡◌, ◌∙◌, List, ℕ, Ok, ap, sym, subst, true}
use Rattle.chew_spec_syllable.specs.Syllable.{code_of, is_syllable}
use Rattle.chew_spec_syllable.specs.SyllableText.{code_or_place, code_reading}
use Rattle.chew_spec_syllable.proofs.CodeParts.{code_back}
use Rattle.chew_spec_syllable.proofs.Reading.{text_read}
use Rattle.chew_syllable.proofs.text.print_bopomofo.Goals as goal

pub returns-clause-read : goal.returns-clause-read
returns-clause-read c =
    let valid : is_syllable c.parts.result ≡ true = c.parts.ensures.valid in
    subst (λ (text : List ℕ). code_reading text ≡ Ok c.args.syllable) (sym c.text.ensures)
    (ap code_or_place (text_read c.parts.result valid) ∙ (ap (λ p. Ok (code_of p)) c.parts.ensures.value ∙ ap Ok (code_back c.args.syllable)))
