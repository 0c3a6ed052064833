-- One key more was handled, or the keys end here.
use Rattle.std.proofs.Common.{◌≡◌, ◌≤◌, ◌<◌, ◌+◌, ◌∙◌, ℕ, List, length, ap, refl, subst, sym, arith, get_or}
use Rattle.std.proofs.lemmas.List.{get_or-map, length-map}
use Rattle.chew_spec_dictionary.specs.History.{is_legal, start_of}
use Rattle.chew_spec_dictionary.proofs.Found.{each_of_all}
use Rattle.chew_spec_editor.specs.Editor.{Editor}
use Rattle.chew_spec_editor.specs.Invariant.{HasSingles}
use Rattle.chew_spec_editor.specs.Keys.{calls_asked, press}
use Rattle.chew_spec_editor.proofs.Asked.{may-empty}
use Rattle.chew_spec_text.specs.KeyStroke as spec
use Rattle.chew_spec_text.specs.KeyStroke.{is_key_stroke}
use Rattle.chew_spec_session.specs.Context.{Basis}
use Rattle.chew_script.specs.Keys.{key_of, keys_of}
use Rattle.chew_script.specs.declared.keystroke.KeyStroke.{KeyStroke}
use Rattle.chew_script.specs.declared.keystroke.KeyStroke.TheVariants.{Char}
use Rattle.chew_session.specs.Typing.{Asks, Turns}
use Rattle.chew_session.proofs.Calling.{if_ok, on_err}
use Rattle.chew_session.proofs.Talking.{talks-begin, talks-more, typed-all, typed-stopped}
use Rattle.chew_session.proofs.context.type_keys.Goals as goal

pub loop-key-init : goal.loop-key-init
loop-key-init g c =
    let basis : Basis = record { system = g.L.Lexicon.rows c.args.system.now; settings = c.args.settings.now; start = start_of c.args.shared.now.start } in
    record {
      ours = c.requires.ours;
      who = refl;
      legal = ap (is_legal basis.start) c.requires.unseen;
      talks = talks-begin basis c.args.pass.who c.new-editor.result c.args.pass.seen c.args.text.now.items c.new-editor.ensures c.requires.unseen c.requires.empty;
      singles = subst (λ (e : Editor). HasSingles basis.system e.buffer.cells) (sym c.new-editor.ensures) (may-empty basis.system c.args.settings.now c.requires.settings).singles;
      counted = refl;
    }

-- the key at a place, among the context's
at-place : (items lent : List KeyStroke) (i : ℕ) → lent ≡ items → i < length lent → key_of (get_or lent i (Char 0)) ≡ get_or (keys_of items) i (key_of (get_or lent i (Char 0)))
at-place items lent i same within =
    let key : KeyStroke = get_or lent i (Char 0) in
    sym (get_or-map key_of lent i (Char 0) (key_of key) within) ∙ ap (λ (l : List KeyStroke). get_or (keys_of l) i (key_of key)) same

in-keys : (items lent : List KeyStroke) (i : ℕ) → lent ≡ items → i < length lent → i < length (keys_of items)
in-keys items lent i same within = let inside : i < length items = subst (λ (l : List KeyStroke). i < length l) same within in rw length-map inside

pub handle_key-after-requires-clause-key : goal.handle_key-after-requires-clause-key
handle_key-after-requires-clause-key g c =
    let items : List KeyStroke = c.args.actor.now.keys.items in
    let lent : List KeyStroke = c.deref-key-items.result.now in
    let i : ℕ = c.loop-key.key-index in
    let key : KeyStroke = get_or lent i (Char 0) in
    let in_code : i < length lent = omega arith in
    ap is_key_stroke (at-place items lent i c.deref-key-items.ensures.value in_code)
    ∙ each_of_all is_key_stroke (keys_of items) i (key_of key) c.requires.keys (in-keys items lent i c.deref-key-items.ensures.value in_code)

pub loop-key-preserved : goal.loop-key-preserved
loop-key-preserved g c =
    let basis : Basis = record { system = g.L.Lexicon.rows c.args.system.now; settings = c.args.settings.now; start = start_of c.args.shared.now.start } in
    let items : List KeyStroke = c.args.actor.now.keys.items in
    let lent : List KeyStroke = c.deref-key-items.result.now in
    let i : ℕ = c.loop-key.key-index in
    let key : spec.KeyStroke = key_of (get_or lent i (Char 0)) in
    let in_code : i < length lent = omega arith in
    record {
      ours = c.handle_key-after.ensures.ours;
      who = c.handle_key-after.ensures.who ∙ c.loop-key.invariant.who;
      legal = c.handle_key-after.ensures.legal;
      talks = talks-more basis c.args.pass.who c.loop-key.pass.who (keys_of items) i key c.loop-key.editor c.in-Ok.next c.loop-key.pass.seen c.handle_key-after.result.0.seen
          c.loop-key.text.items c.handle_key-after.new.text.items c.loop-key.invariant.who
          (in-keys items lent i c.deref-key-items.ensures.value in_code) (at-place items lent i c.deref-key-items.ensures.value in_code) c.loop-key.invariant.talks
          (if_ok (λ (e : Editor). Turns basis.system basis.start c.loop-key.pass.who key c.loop-key.editor e c.loop-key.pass.seen c.handle_key-after.result.0.seen
          c.loop-key.text.items c.handle_key-after.new.text.items) c.handle_key-after.result.1 c.in-Ok.next c.in-Ok.is c.handle_key-after.ensures.ok);
      singles = if_ok (λ (e : Editor). HasSingles basis.system e.buffer.cells) c.handle_key-after.result.1 c.in-Ok.next c.in-Ok.is c.handle_key-after.ensures.singles;
      counted = ap (λ (n : ℕ). n + 1) c.loop-key.invariant.counted;
    }

pub returns-clause-typed : goal.returns-clause-typed
returns-clause-typed g c =
    let basis : Basis = record { system = g.L.Lexicon.rows c.args.system.now; settings = c.args.settings.now; start = start_of c.args.shared.now.start } in
    let items : List KeyStroke = c.args.actor.now.keys.items in
    let within : c.loop-key.key-index ≤ length items = subst (λ (l : List KeyStroke). c.loop-key.key-index ≤ length l) c.deref-key-items.ensures.value (omega arith) in
    typed-all basis c.args.pass.who (keys_of items) c.loop-key.key-index c.loop-key.handled c.loop-key.editor c.loop-key.pass.seen c.loop-key.text.items
    c.loop-key.invariant.counted (rw length-map within) c.loop-key.invariant.talks

pub returns-in-Err-clause-typed : goal.returns-in-Err-clause-typed
returns-in-Err-clause-typed g c =
    let basis : Basis = record { system = g.L.Lexicon.rows c.args.system.now; settings = c.args.settings.now; start = start_of c.args.shared.now.start } in
    let items : List KeyStroke = c.args.actor.now.keys.items in
    let lent : List KeyStroke = c.deref-key-items.result.now in
    let i : ℕ = c.loop-key.key-index in
    let key : spec.KeyStroke = key_of (get_or lent i (Char 0)) in
    let in_code : i < length lent = omega arith in
    typed-stopped basis c.args.pass.who c.loop-key.pass.who (keys_of items) i c.loop-key.handled key c.loop-key.editor c.loop-key.pass.seen c.handle_key-after.result.0.seen
    c.loop-key.text.items c.handle_key-after.new.text.items c.loop-key.invariant.who c.loop-key.invariant.counted
    (in-keys items lent i c.deref-key-items.ensures.value in_code) (at-place items lent i c.deref-key-items.ensures.value in_code)
    (on_err (c.handle_key-after.new.text.items ≡ c.loop-key.text.items) c.handle_key-after.result.1 c.in-Err.field-0 c.in-Err.is c.handle_key-after.ensures.kept)
    c.loop-key.invariant.talks
    (on_err (Asks basis.start c.loop-key.pass.who (calls_asked (press basis.system c.loop-key.editor key)) c.loop-key.pass.seen c.handle_key-after.result.0.seen)
    c.handle_key-after.result.1 c.in-Err.field-0 c.in-Err.is c.handle_key-after.ensures.err)
