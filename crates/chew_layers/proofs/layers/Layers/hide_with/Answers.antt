-- The mark is that of the hide.
use Rattle.std.proofs.Common.{ap, sym, ◌∙◌, List, length}
use Rattle.chew_spec_syllable.specs.Row.{Row}
use Rattle.chew_spec_dictionary.specs.HiddenPairs.{hidden_time}
use Rattle.chew_spec_layers.specs.Layers.{Layers}
use Rattle.chew_plain.specs.Call.{call_of}
use Rattle.chew_layers.proofs.Calls.{hidden_map, hidden_more, hidden_stands}
use Rattle.chew_layers.proofs.layers.Layers.hide_with.Goals as goal

pub mark-requires-clause-stands : goal.mark-requires-clause-stands
mark-requires-clause-stands c =
    hidden_stands c.args.self.now c.keeps.ensures.stands c.args.entry.who (call_of c.args.entry.call) c.args.key.now c.args.phrase.now c.args.freq c.self.inside.life c.requires.hide
    (ap (λ (s : Layers). s.life) c.self.view_is)

pub mark-requires-clause-count : goal.mark-requires-clause-count
mark-requires-clause-count c =
    c.requires.count hidden_time
    ∙ ap (λ (rows : List Row). length rows) (sym (hidden_map c.args.self.now c.keeps.ensures.stands c.args.entry.who (call_of c.args.entry.call) c.args.key.now c.args.phrase.now c.args.freq c.self.inside.life
    c.requires.hide (ap (λ (s : Layers). s.life) c.self.view_is)))

pub returns-clause-left : goal.returns-clause-left
returns-clause-left c =
    hidden_more c.args.self.now c.keeps.ensures.stands c.args.entry.who (call_of c.args.entry.call) c.args.key.now c.args.phrase.now c.args.freq c.self.inside.life c.requires.hide
    (ap (λ (s : Layers). s.life) c.self.view_is) c.mark.new.self c.args.count c.requires.few (c.requires.count hidden_time) c.in_ok-mark.ensures.ok
