-- The base takes the place of the base and of what waits, and the layers go on to stand for the plain map.
use Rattle.std.proofs.Common.{◌≡◌, ◌≤◌, List, [], ◌∷◌, ◌++◌, true≢false, IsSome, is_some, ap, ap₂, sym, ◌∙◌, subst, length, map, refl}
use Rattle.std.specs.Arc.{arc_value}
use Rattle.std.specs.Option.{option_map_or}
use Rattle.std.proofs.lemmas.List.{map-append}
use Rattle.chew_spec_syllable.specs.Row.{Row}
use Rattle.chew_spec_dictionary.specs.Call.{Install}
use Rattle.chew_spec_layers.specs.Layers.{Layers, Waiting, frozen_marks, map_in}
use Rattle.chew_spec_layers.specs.Overlay.{overlay}
use Rattle.chew_plain.specs.Call.{entry_of}
use Rattle.chew_layers.specs.Inside.{layers_in}
use Rattle.chew_layers.proofs.Calls.{installed_keeps, marks_waiting, some_waiting}
use Rattle.chew_layers.proofs.Keeping.{below_installed, installed_map}
use Rattle.chew_layers.proofs.layers.Layers.install.Goals as goal

pub invariant_of-self : goal.invariant_of-self
invariant_of-self c =
    let s : Layers = layers_in c.self.inside in
    let rows : List Row = arc_value c.replace-base.new.dest in
    let waits : IsSome s.frozen = ap (λ (l : Layers). is_some l.frozen) c.self.view_is ∙ c.requires.waits in
    let is_rows : rows ≡ overlay s.base (frozen_marks s.frozen) =
    ap (λ it. arc_value it) c.replace-base.ensures.after ∙ c.requires.map ∙ ap (λ (l : Layers). overlay l.base (frozen_marks l.frozen)) (sym c.self.view_is) in
    let held = some_waiting s.frozen waits in
    let number : c.waiting_number-number.result ≡ held.0.number = c.waiting_number-number.ensures held.0 (ap (λ (l : Layers). l.frozen) (sym c.self.view_is) ∙ held.1) in
    let journal : map entry_of c.push_reserved.new.self.items ≡ s.journal ++ record { who = c.args.who; call = Install c.waiting_number-number.result } ∷ [] =
    ap (map entry_of) c.push_reserved.ensures.items ∙ map-append entry_of c.self.inside.journal.items _ in
    let first : option_map_or (λ base. arc_value base) c.self.inside.first (arc_value c.self.inside.base) ≡ arc_value c.first_of.result =
    ap₂ (λ kept base. option_map_or (λ it. arc_value it) kept (arc_value base)) (sym c.take.ensures.value) (sym c.replace-base.ensures.value) ∙ sym c.first_of.ensures in
    let marks : frozen_marks s.frozen ≡ c.self.inside.frozen =
    marks_waiting (λ at. let it : Waiting = record { marks = c.self.inside.frozen; number = at.number; life = at.life } in it) c.self.inside.frozen (λ at. refl) c.self.inside.waits waits in
    let below : overlay rows c.new.result ≡ overlay s.base c.self.inside.frozen =
    ap (overlay rows) c.new.ensures ∙ below_installed s c.self.invariant.stands rows is_rows ∙ ap (overlay s.base) marks in
    let all : overlay (overlay rows []) s.fresh ≡ map_in s = installed_map s c.self.invariant.stands rows is_rows in
    record {
      stands = installed_keeps s c.args.who (arc_value c.first_of.result) rows c.waiting_number-number.result (map entry_of c.push_reserved.new.self.items) c.self.invariant.stands held.0 held.1 first
          is_rows number journal;
      count = c.self.invariant.count ∙ ap (λ (l : List Row). length l) (sym all);
      few = c.self.invariant.few;
      cap = c.self.invariant.cap;
      below = subst (λ (l : List Row). length l ≤ 200_000) (sym below) c.self.invariant.below;
      none = λ h. c.new.ensures;
      room = λ h. absurd (true≢false (sym h));
    }
