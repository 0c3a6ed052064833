-- New layers stand for the map that they are over.
use Rattle.std.proofs.Common.{◌≡◌, ◌≤◌, List, [], true, true≢false, ap, sym, ◌∙◌, subst, length, map, arith}
use Rattle.std.specs.Arc.{arc_value}
use Rattle.chew_spec_syllable.specs.Row.{Row}
use Rattle.chew_spec_dictionary.specs.Dictionary.{is_map}
use Rattle.chew_spec_layers.specs.Overlay.{overlay}
use Rattle.chew_spec_layers.proofs.Overlays.{overlay_nothing}
use Rattle.chew_plain.specs.Call.{entry_of}
use Rattle.chew_layers.proofs.Calls.{new_keeps}
use Rattle.chew_layers.proofs.Keeping.{new_map}
use Rattle.chew_layers.proofs.layers.Layers.of.Goals as goal

pub invariant_of-layers : goal.invariant_of-layers
invariant_of-layers c =
    let rows = arc_value c.args.base in
    let same : c.deref.result.now ≡ rows = c.deref.ensures in
    let m : is_map rows ≡ true = ap is_map (sym same) ∙ c.total-count.ensures.map in
    let count : c.total-count.result ≡ length rows = c.total-count.ensures.value ∙ ap (λ (l : List Row). length l) same in
    let all : overlay (overlay rows []) c.new-2.result ≡ rows = ap (overlay (overlay rows [])) c.new-2.ensures ∙ new_map rows m in
    let below : overlay rows c.new.result ≡ rows = ap (overlay rows) c.new.ensures ∙ overlay_nothing rows m in
    record {
      stands = new_keeps (record { pairs = rows; life = c.args.life; cap = c.args.cap }) c.new-2.result (map entry_of c.new-3.result.items) m c.new-2.ensures
          (ap (map entry_of) c.new-3.ensures.items);
      count = count ∙ ap (λ (l : List Row). length l) (sym all);
      few = omega (arith, count, c.requires.few);
      cap = c.requires.cap;
      below = subst (λ (l : List Row). length l ≤ 200_000) (sym below) c.requires.few;
      none = λ h. c.new.ensures;
      room = λ h. absurd (true≢false (sym h));
    }
