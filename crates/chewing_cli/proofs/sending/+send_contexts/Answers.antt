-- A context's header and lines, and the other contexts behind them.
use Rattle.std.proofs.Common.{ap, ◌-◌, arith, drop, length, refl, true}
use Rattle.std.proofs.lemmas.List.{length-drop, take_all}
use Rattle.std.specs.Result.{is_err}
use Rattle.std.proofs.lemmas.Result.{err_from_is_err_and}
use Rattle.chewing_cli.proofs.Sent.{contexts_first, ended_first, sent_both}
use Rattle.chewing_cli.proofs.sending.«+send_contexts».Goals as goal

pub returns-in_err-send_context-in-len1-up : goal.returns-in_err-send_context-in-len1-up
returns-in_err-send_context-in-len1-up g t c =
    let p = err_from_is_err_and c.from_residual.result c.from_residual.ensures.1 in
    ended_first _ _ _ _ _ true _ (contexts_first (λ end. end.bytes) c.args.number c.args.ends.now c.end-item.result _ (drop 1 c.args.ends.now) (omega arith) c.end-item.is refl)
    refl refl (ap is_err p.1) c.in_err-send_context-in-len1-up.ensures

pub returns-in_ok-send_context-in-len1-up : goal.returns-in_ok-send_context-in-len1-up
returns-in_ok-send_context-in-len1-up g t c =
    sent_both _ _ _ _ _ _ _ _ _ _ _
    (contexts_first (λ end. end.bytes) c.args.number c.args.ends.now c.end-item.result _ _ (omega arith) c.end-item.is
    (take_all (length c.args.ends.now - 1) (drop 1 c.args.ends.now) (omega (arith, length-drop 1 c.args.ends.now))))
    refl c.in_ok-send_context-in-len1-up.ensures c.send_contexts.ensures
