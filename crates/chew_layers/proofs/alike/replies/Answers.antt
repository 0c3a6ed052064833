-- One entry more on either side.
use Rattle.std.proofs.Common.{List, ap, ap₂, sym, ◌∙◌}
use Rattle.chew_spec_dictionary.specs.Dictionary.{Dictionary}
use Rattle.chew_spec_dictionary.specs.History.{Entry, Point, after, answer, start_of}
use Rattle.chew_spec_layers.proofs.Standings.{entry_later}
use Rattle.chew_plain.specs.Call.{call_of}
use Rattle.chew_layers.proofs.alike.replies.Goals as goal

pub returns-clause-same : goal.returns-clause-same
returns-clause-same c =
    c.in_ok-plainly.ensures.moved
    ∙ ap (λ (p : Point). (answer p (call_of c.args.call.now)).point) c.requires.same
    ∙ sym (entry_later c.args.layers.now (record { who = c.args.who; call = call_of c.args.call.now }))
    ∙ sym (ap₂ (λ (d : Dictionary) (h : List Entry). after (start_of d) h) c.in_ok-layered.ensures.start c.in_ok-layered.ensures.journal)
