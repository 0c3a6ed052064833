-- The name that ends at the first '>', and that there is none.
use Rattle.std.proofs.Common.{List, ℕ, ◌∷◌, ap, sym, ◌∙◌}
use Rattle.chew_spec_text.specs.KeyStroke.{keys_in}
use Rattle.chew_script.specs.Keys.{key_of}
use Rattle.chew_script.proofs.KeyNames.{name_clean, name_front, no_end, no_name}
use Rattle.chew_script.proofs.keys.first_name.Goals as goal

pub returns-clause-some : goal.returns-clause-some
returns-clause-some c =
    let named = sym c.in_ok-key.ensures in
    ap (λ (l : List ℕ). keys_in (60 ∷ l)) c.in_ok-name.ensures.whole
    ∙ name_front c.in_ok-name.name.now c.in_ok-name.rest.now (key_of c.in_ok-key.key) c.in_ok-name.ensures.first (name_clean c.in_ok-name.name.now (key_of c.in_ok-key.key) named) named

pub returns-in_err-key-clause-none : goal.returns-in_err-key-clause-none
returns-in_err-key-clause-none c =
    rw c.from_residual-in_err-key.ensures (
    ap (λ (l : List ℕ). keys_in (60 ∷ l)) c.in_ok-name.ensures.whole
    ∙ no_name c.in_ok-name.name.now c.in_ok-name.rest.now c.in_ok-name.ensures.first (sym c.in_err-key.ensures)
    )

pub returns-in_err-name-clause-none : goal.returns-in_err-name-clause-none
returns-in_err-name-clause-none c = rw c.from_residual.ensures (no_end c.args.text.now c.in_err-name.ensures.none)
