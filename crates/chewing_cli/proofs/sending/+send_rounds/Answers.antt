-- A round's line, and those of the other rounds behind it.
use Rattle.std.proofs.Common.{ap, ◌-◌, arith, drop, length, refl, true}
use Rattle.std.proofs.lemmas.List.{length-drop, take_all}
use Rattle.chew_checkpoint.specs.Answers.{round_of}
use Rattle.std.specs.Result.{is_err}
use Rattle.std.proofs.lemmas.Result.{err_from_is_err_and}
use Rattle.chewing_cli.proofs.Sent.{ended_first, rounds_first, sent_both}
use Rattle.chewing_cli.proofs.sending.«+send_rounds».Goals as goal

pub returns-in_err-send_round-in-len1-up : goal.returns-in_err-send_round-in-len1-up
returns-in_err-send_round-in-len1-up g t c =
    let p = err_from_is_err_and c.from_residual.result c.from_residual.ensures.1 in
    ended_first _ _ _ _ _ true _ (rounds_first round_of c.args.number c.args.rounds.now _ _ (drop 1 c.args.rounds.now) (omega arith) refl refl)
    refl refl (ap is_err p.1) c.in_err-send_round-in-len1-up.ensures

pub returns-in_ok-send_round-in-len1-up : goal.returns-in_ok-send_round-in-len1-up
returns-in_ok-send_round-in-len1-up g t c =
    sent_both _ _ _ _ _ _ _ _ _ _ _
    (rounds_first round_of c.args.number c.args.rounds.now _ _ _ (omega arith) refl
    (take_all (length c.args.rounds.now - 1) (drop 1 c.args.rounds.now) (omega (arith, length-drop 1 c.args.rounds.now))))
    refl c.in_ok-send_round-in-len1-up.ensures c.send_rounds.ensures
