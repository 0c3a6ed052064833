-- The pair is taken out, and whether it was held is told.
use Rattle.std.proofs.Common.{true, false, ap, sym, ◌∙◌, List}
use Rattle.chew_spec_syllable.specs.Row.{Row}
use Rattle.chew_spec_dictionary.specs.Dictionary.{Dictionary, forget}
use Rattle.chew_plain.proofs.Outcomes.{forget_left, forget_reply}
use Rattle.chew_plain.specs.Call.{reply_of}
use Rattle.chew_plain.proofs.dictionary.Dictionary.forget.Goals.{then-take_out, else-take_out}
use Rattle.chew_plain.proofs.dictionary.Dictionary.forget.Goals as goal

pub returns-clause-reply : goal.returns-clause-reply
returns-clause-reply c =
    let had : Dictionary = record { pairs = c.self.inside.pairs; life = c.self.inside.life; cap = c.self.inside.cap } in
    elim c.if-take_out.branch [
      | then-take_out w ↦ ap reply_of w.result-is ∙ sym (forget_reply had c.args.key.now c.args.phrase.now true (sym w.if-take_out.true ∙ c.take_out.ensures.held)) ∙ ap (λ (d : Dictionary). (forget d c.args.key.now c.args.phrase.now).reply) c.self.view_is
      | else-take_out w ↦ ap reply_of w.result-is ∙ sym (forget_reply had c.args.key.now c.args.phrase.now false (sym w.if-take_out.false ∙ c.take_out.ensures.held)) ∙ ap (λ (d : Dictionary). (forget d c.args.key.now c.args.phrase.now).reply) c.self.view_is
    ]

pub returns-clause-left : goal.returns-clause-left
returns-clause-left c =
    let had : Dictionary = record { pairs = c.self.inside.pairs; life = c.self.inside.life; cap = c.self.inside.cap } in
    ap (λ (l : List Row). record had { pairs = l }) c.take_out.ensures.left
    ∙ sym (forget_left had c.args.key.now c.args.phrase.now)
    ∙ ap (λ (d : Dictionary). (forget d c.args.key.now c.args.phrase.now).left) c.self.view_is
