-- The mark is that of the forget.
use Rattle.std.proofs.Common.{ap, ◌∙◌, ◌≡◌, length, arith}
use Rattle.chew_spec_dictionary.specs.System.{row_of}
use Rattle.chew_spec_layers.specs.Layers.{Layers, map_in}
use Rattle.chew_plain.specs.Call.{call_of}
use Rattle.chew_layers.proofs.Calls.{buried_count, buried_more, buried_stands, some_row}
use Rattle.chew_layers.proofs.layers.Layers.bury.Goals as goal

pub mark-requires-clause-stands : goal.mark-requires-clause-stands
mark-requires-clause-stands c =
    let held = some_row (row_of (map_in c.args.self.now) c.args.key.now c.args.phrase.now) c.requires.held in
    buried_stands c.args.self.now c.keeps.ensures.stands c.args.entry.who (call_of c.args.entry.call) c.args.key.now c.args.phrase.now held.0 c.self.inside.life c.requires.call held.1
    (ap (λ (s : Layers). s.life) c.self.view_is)

pub mark-requires-clause-count : goal.mark-requires-clause-count
mark-requires-clause-count c =
    let held = some_row (row_of (map_in c.args.self.now) c.args.key.now c.args.phrase.now) c.requires.held in
    let count : c.self.inside.count ≡ length (map_in c.args.self.now) = c.self.invariant.count ∙ ap (λ (s : Layers). length (map_in s)) c.self.view_is in
    omega (
      arith,
      count,
      buried_count c.args.self.now c.keeps.ensures.stands c.args.entry.who (call_of c.args.entry.call) c.args.key.now c.args.phrase.now held.0 c.self.inside.life c.requires.call held.1
          (ap (λ (s : Layers). s.life) c.self.view_is),
    )

pub returns-clause-left : goal.returns-clause-left
returns-clause-left c =
    let held = some_row (row_of (map_in c.args.self.now) c.args.key.now c.args.phrase.now) c.requires.held in
    buried_more c.args.self.now c.keeps.ensures.stands c.args.entry.who (call_of c.args.entry.call) c.args.key.now c.args.phrase.now held.0 c.self.inside.life c.requires.call held.1
    (ap (λ (s : Layers). s.life) c.self.view_is) c.mark.new.self c.keeps.ensures.few c.in_ok-mark.ensures.ok
