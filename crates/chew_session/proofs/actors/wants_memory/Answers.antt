-- By the rounds from a place on.
use Rattle.std.specs.Prelude.{◌≡◌, ◌||◌, Bool, List, drop, map}
use Rattle.std.specs.List.{list_any}
use Rattle.std.proofs.Common.{sym, ap, ◌∙◌}
use Rattle.std.proofs.lemmas.List.{drop-map}
use Rattle.chew_spec_rounds.specs.Round as spec
use Rattle.chew_spec_session.specs.LastRounds.{is_no_memory}
use Rattle.chew_checkpoint.specs.Answers.{round_of}
use Rattle.chew_checkpoint.specs.declared.round.Round.{Round}
use Rattle.chew_session.proofs.actors.wants_memory.Goals as goal

pub returns : goal.returns
returns c =
    let last = ap (λ (rs : List Round). list_any is_no_memory (map round_of rs)) c.split_at.ensures.back
    ∙ ap (λ (rs : List spec.Round). list_any is_no_memory rs) (sym (drop-map round_of c.args.last_from c.args.rounds.now)) in
    c.is_refused.ensures ∙ last
    ∙ ap (λ (b : Bool). b || list_any is_no_memory (drop c.args.last_from (map round_of c.args.rounds.now))) (sym c.if-stopped_early.false ∙ c.stopped_early.ensures)
