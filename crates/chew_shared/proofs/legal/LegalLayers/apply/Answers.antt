-- A user's call is legal anywhere.
use Rattle.chew_spec_dictionary.specs.History.{after, start_of}
use Rattle.chew_plain.specs.Call.{call_of}
use Rattle.chew_shared.proofs.Legality.{one-or-none, user-legal}
use Rattle.chew_shared.proofs.legal.LegalLayers.apply.Goals as goal

pub invariant_of-self : goal.invariant_of-self
invariant_of-self c =
    let old = c.self.inside.layers in
    one-or-none c.apply.result old c.apply.new.self (record { who = c.args.who; call = call_of c.args.call.now }) c.self.invariant
    (user-legal (after (start_of old.start) old.journal) c.args.who (call_of c.args.call.now) c.requires.other c.requires.call)
    c.apply.ensures.start c.apply.ensures.stands c.apply.ensures.journal c.apply.ensures.err
