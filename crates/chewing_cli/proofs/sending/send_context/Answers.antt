-- The header, and the lines behind it.
use Rattle.std.proofs.Common.{ap, ◌∙◌, refl, true}
use Rattle.chew_spec_program.specs.Output.{header}
use Rattle.std.specs.Result.{is_err}
use Rattle.std.proofs.lemmas.Result.{err_from_is_err_and}
use Rattle.chewing_cli.proofs.Sent.{ended_first, sent_both}
use Rattle.chewing_cli.proofs.sending.send_context.Goals as goal

pub returns-in_err-send : goal.returns-in_err-send
returns-in_err-send g c =
    let p = err_from_is_err_and c.from_residual.result c.from_residual.ensures.1 in
    ended_first _ (header c.args.number) c.args.end.now.bytes _ c.as_bytes.result.now true _ refl (c.as_bytes.ensures.value ∙ c.deref.ensures.0 ∙ c.header.ensures) refl
    (ap is_err p.1) c.in_err-send.ensures

pub returns : goal.returns
returns g c =
    sent_both _ _ _ _ _ _ (header c.args.number) c.args.end.now.bytes _ c.as_bytes.result.now _ refl (c.as_bytes.ensures.value ∙ c.deref.ensures.0 ∙ c.header.ensures)
    c.in_ok-send.ensures c.send_lines.ensures
