-- One key more was typed.
use Rattle.std.proofs.Common.{◌≡◌, ◌+◌, ◌<◌, ◌∙◌, ℕ, List, [], ◌∷◌, ◌++◌, length, take, ap, refl, sym, subst, arith, get_or, true}
use Rattle.std.specs.List.{list_all}
use Rattle.std.proofs.lemmas.List.{get_or-map, length-map, take_all, take_more}
use Rattle.chew_spec_syllable.specs.Row.{is_row}
use Rattle.chew_spec_dictionary.proofs.Found.{each_of_all}
use Rattle.chew_spec_editor.specs.Invariant.{HasSingles}
use Rattle.chew_spec_editor.proofs.Asked.{may-empty}
use Rattle.chew_spec_text.specs.KeyStroke as spec
use Rattle.chew_spec_text.specs.KeyStroke.{is_key_stroke}
use Rattle.chew_spec_session.specs.Context.{Basis}
use Rattle.chew_spec_program.specs.Make.{typed_over}
use Rattle.chew_script.specs.Keys.{key_of, keys_of}
use Rattle.chew_script.specs.declared.keystroke.KeyStroke.{KeyStroke}
use Rattle.chew_script.specs.declared.keystroke.KeyStroke.TheVariants.{Char}
use Rattle.chew_make.specs.Counts.{basis_in, counted, tally_of}
use Rattle.chew_make.specs.declared.typist.Typist.{Typist}
use Rattle.chew_make.proofs.Counting.{typed_key, typed_none}
use Rattle.chew_make.proofs.typing.type_keys.Goals as goal

pub loop-key-init : goal.loop-key-init
loop-key-init c =
    let empty = c.in_ok-typist.ensures in
    record {
      typed = typed_none c.args.settings.now c.args.system.now (tally_of c.in_ok-typist.typist) (ap tally_of empty);
      singles = subst (λ (t : Typist). HasSingles c.args.system.now t.editor.buffer.cells) (sym empty) (may-empty c.args.system.now c.args.settings.now c.requires.settings).singles;
      pairs = subst (λ (t : Typist). list_all is_row t.plain.dictionary.pairs ≡ true) (sym empty) refl;
    }

pub type_key-requires-clause-key : goal.type_key-requires-clause-key
type_key-requires-clause-key c =
    let keys : List spec.KeyStroke = keys_of c.args.keys.now in
    let i : ℕ = c.loop-key.key-index in
    let key : KeyStroke = get_or c.args.keys.now i (Char 0) in
    let in_code : i < length c.args.keys.now = omega arith in
    ap is_key_stroke (sym (get_or-map key_of c.args.keys.now i (Char 0) (key_of key) in_code))
    ∙ each_of_all is_key_stroke keys i (key_of key) c.requires.keys (rw length-map (omega arith))

pub loop-key-preserved : goal.loop-key-preserved
loop-key-preserved c =
    let basis : Basis = basis_in c.args.settings.now c.args.system.now in
    let keys : List spec.KeyStroke = keys_of c.args.keys.now in
    let i : ℕ = c.loop-key.key-index in
    let key : KeyStroke = get_or c.args.keys.now i (Char 0) in
    let inside : i < length keys = rw length-map (omega arith) in
    let in_code : i < length c.args.keys.now = omega arith in
    let longer : take i keys ++ (key_of key ∷ []) ≡ take (i + 1) keys =
    ap (λ (k : spec.KeyStroke). take i keys ++ (k ∷ [])) (sym (get_or-map key_of c.args.keys.now i (Char 0) (key_of key) in_code)) ∙ sym (take_more keys i (key_of key) inside) in
    record {
      typed = typed_key basis (take i keys) (key_of key) (tally_of c.loop-key.typist) (tally_of c.in_ok-typist-2.typist) c.loop-key.invariant.typed c.in_ok-typist-2.ensures.value
          ∙ ap (λ (l : List spec.KeyStroke). counted (typed_over basis l)) longer;
      singles = c.in_ok-typist-2.ensures.singles;
      pairs = c.in_ok-typist-2.ensures.pairs;
    }

pub returns : goal.returns
returns c =
    let keys : List spec.KeyStroke = keys_of c.args.keys.now in
    c.loop-key.invariant.typed
    ∙ ap (λ (l : List spec.KeyStroke). counted (typed_over (basis_in c.args.settings.now c.args.system.now) l))
    (take_all c.loop-key.key-index keys (rw length-map (omega arith)))
