-- The keys are the generated ones, and the lines tell what came of them.
use Rattle.std.proofs.Common.{◌≡◌, ◌∙◌, [], ap, get_or, length, subst, sym, true}
use Rattle.std.specs.List.{list_all}
use Rattle.std.proofs.lemmas.List.{length-map}
use Rattle.chew_spec_text.specs.KeyStroke.{is_key_stroke}
use Rattle.chew_spec_text.specs.Script.{Script}
use Rattle.chew_spec_generator.specs.Generator.{generated_keys}
use Rattle.chew_spec_generator.proofs.Reading.{generated_named}
use Rattle.chew_script.specs.Keys.{key_of, keys_of}
use Rattle.chew_make.proofs.Making.{lines_told}
use Rattle.chew_make.proofs.make.made.Goals as goal

pub summary_of-requires : goal.summary_of-requires
summary_of-requires c =
    let keys : keys_of c.first_keys-keys.result.now ≡ generated_keys c.args.number =
    c.first_keys-keys.ensures ∙ ap (λ (s : Script). get_or s.contexts 0 []) c.in_ok-script.ensures in
    subst (λ l. list_all is_key_stroke l ≡ true) (sym keys) (generated_named c.args.number)

pub returns : goal.returns
returns c =
    let keys : keys_of c.first_keys-keys.result.now ≡ generated_keys c.args.number =
    c.first_keys-keys.ensures ∙ ap (λ (s : Script). get_or s.contexts 0 []) c.in_ok-script.ensures in
    lines_told c.args.number c.in_ok-text.text.items c.in_ok-summary.summary (keys_of c.first_keys-keys.result.now) (length c.first_keys-keys.result.now)
    c.in_ok-text.ensures c.in_ok-summary.ensures (sym (length-map c.first_keys-keys.result.now key_of)) keys
