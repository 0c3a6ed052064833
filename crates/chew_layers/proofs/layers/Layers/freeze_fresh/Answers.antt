-- The fresh marks wait, and the layers go on to stand for the plain map.
use Rattle.std.proofs.Common.{◌≡◌, ◌≤◌, ℕ, List, [], ◌∷◌, ◌++◌, None, ap, ap₂, sym, ◌∙◌, subst, length, map, rules, arith}
use Rattle.std.proofs.lemmas.List.{map-append, length-map}
use Rattle.chew_spec_syllable.specs.Row.{Row}
use Rattle.chew_spec_dictionary.specs.Call.{Call, Freeze as FreezeCall}
use Rattle.chew_spec_dictionary.specs.History.{Entry}
use Rattle.chew_spec_layers.specs.Layers.{Layers, map_in}
use Rattle.chew_spec_layers.specs.Mark.{Marked}
use Rattle.chew_spec_layers.specs.Overlay.{overlay}
use Rattle.chew_plain.specs.Call.{entry_of}
use Rattle.chew_layers.specs.Inside.{layers_in}
use Rattle.chew_layers.proofs.Calls.{freeze_keeps, not_none}
use Rattle.chew_layers.proofs.Keeping.{below_frozen, frozen_map}
use Rattle.chew_layers.proofs.layers.Layers.freeze_fresh.Goals as goal

pub invariant_of-self-2 : goal.invariant_of-self-2
invariant_of-self-2 c =
    let s : Layers = layers_in c.self.inside in
    let e : s.frozen ≡ None = ap (λ (l : Layers). l.frozen) c.self.view_is ∙ c.requires.none in
    let fresh : c.replace.new.dest ≡ [] = c.replace.ensures.after ∙ c.new.ensures in
    let number : c.len.result ≡ length c.self.inside.journal.items = search rules in
    let journal : map entry_of c.push_reserved.new.self.items ≡ map entry_of c.self.inside.journal.items ++ entry_of c.args.entry ∷ [] =
    ap (map entry_of) (c.push_reserved.ensures.items ∙ ap (λ l. l ++ c.args.entry ∷ []) c.reserve.ensures.items) ∙ map-append entry_of c.self.inside.journal.items (c.args.entry ∷ []) in
    let called : entry_of c.args.entry ≡ record { who = c.args.entry.who; call = FreezeCall } = ap (λ (call : Call). let made : Entry = record { who = c.args.entry.who; call = call } in made) c.requires.call in
    let all : overlay (overlay s.base c.replace.result) c.replace.new.dest ≡ map_in s =
    ap₂ (λ (marks newer : List Marked). overlay (overlay s.base marks) newer) c.replace.ensures.value fresh ∙ frozen_map s c.self.invariant.stands e in
    let below : overlay s.base c.replace.result ≡ map_in s = ap (overlay s.base) c.replace.ensures.value ∙ below_frozen s c.self.invariant.stands e in
    record {
      stands = freeze_keeps s c.args.entry.who c.replace.result c.replace.new.dest c.len.result (map entry_of c.push_reserved.new.self.items) c.self.invariant.stands e c.replace.ensures.value fresh
          (number ∙ sym (length-map c.self.inside.journal.items entry_of)) (journal ∙ ap (λ (made : Entry). s.journal ++ made ∷ []) called);
      count = c.self.invariant.count ∙ ap (λ (l : List Row). length l) (sym all);
      few = c.self.invariant.few;
      cap = c.self.invariant.cap;
      below = subst (λ (l : List Row). length l ≤ 200_000) (sym below) (subst (λ (n : ℕ). n ≤ 200_000) c.self.invariant.count c.self.invariant.few);
      none = λ h. absurd (not_none _ h);
      room = λ h. omega (arith, c.in_ok-reserve.ensures.ok, c.push_reserved.ensures.len, c.push_reserved.ensures.capacity);
    }
