-- The mark is that of the learn.
use Rattle.std.proofs.Common.{ap, sym, ◌∙◌, ◌≡◌, ◌+◌, ◌-◌, ◌^◌, List, min, length, rules}
use Rattle.chew_spec_syllable.specs.Row.{Row}
use Rattle.chew_spec_dictionary.specs.Dictionary.{time_of_learn}
use Rattle.chew_spec_layers.specs.Layers.{Layers, dictionary_in}
use Rattle.chew_plain.specs.Call.{call_of}
use Rattle.chew_layers.proofs.Calls.{learnt_map, learnt_more, learnt_stands}
use Rattle.chew_layers.proofs.layers.Layers.learn_with.Goals as goal

pub mark-requires-clause-stands : goal.mark-requires-clause-stands
mark-requires-clause-stands c =
    let time : c.min-time.result ≡ min c.self.inside.life (2 ^ 64 - 2) = search rules in
    let life : c.saturating_add.result ≡ min (c.self.inside.life + 1) (2 ^ 64 - 1) = c.saturating_add.ensures in
    learnt_stands c.args.self.now c.keeps.ensures.stands c.args.entry.who (call_of c.args.entry.call) c.args.key.now c.args.phrase.now c.args.freq c.min-time.result c.saturating_add.result c.requires.learn
    (time ∙ ap (λ (s : Layers). min s.life (2 ^ 64 - 2)) c.self.view_is) (life ∙ ap (λ (s : Layers). min (s.life + 1) (2 ^ 64 - 1)) c.self.view_is)

pub mark-requires-clause-count : goal.mark-requires-clause-count
mark-requires-clause-count c =
    let time : c.min-time.result ≡ min c.self.inside.life (2 ^ 64 - 2) = search rules in
    let life : c.saturating_add.result ≡ min (c.self.inside.life + 1) (2 ^ 64 - 1) = c.saturating_add.ensures in
    c.requires.count (time_of_learn (dictionary_in c.args.self.now))
    ∙ ap (λ (rows : List Row). length rows) (sym (learnt_map c.args.self.now c.keeps.ensures.stands c.args.entry.who (call_of c.args.entry.call) c.args.key.now c.args.phrase.now c.args.freq c.min-time.result
    c.saturating_add.result c.requires.learn (time ∙ ap (λ (s : Layers). min s.life (2 ^ 64 - 2)) c.self.view_is) (life ∙ ap (λ (s : Layers). min (s.life + 1) (2 ^ 64 - 1)) c.self.view_is)))

pub returns-clause-left : goal.returns-clause-left
returns-clause-left c =
    let time : c.min-time.result ≡ min c.self.inside.life (2 ^ 64 - 2) = search rules in
    let life : c.saturating_add.result ≡ min (c.self.inside.life + 1) (2 ^ 64 - 1) = c.saturating_add.ensures in
    learnt_more c.args.self.now c.keeps.ensures.stands c.args.entry.who (call_of c.args.entry.call) c.args.key.now c.args.phrase.now c.args.freq c.min-time.result c.saturating_add.result c.requires.learn
    (time ∙ ap (λ (s : Layers). min s.life (2 ^ 64 - 2)) c.self.view_is) (life ∙ ap (λ (s : Layers). min (s.life + 1) (2 ^ 64 - 1)) c.self.view_is)
    c.mark.new.self c.args.count c.requires.few (c.requires.count (time_of_learn (dictionary_in c.args.self.now))) c.in_ok-mark.ensures.ok
