-- A line for each entry, one behind another.
use Rattle.std.proofs.Common.{◌∙◌, ap, arith}
use Rattle.std.specs.Prelude.{◌++◌}
use Rattle.chew_spec_text.specs.Entry.{entry_text}
use Rattle.chew_plain.specs.Call.{entry_of}
use Rattle.chewing_cli.proofs.Printing.{all_sent, cut_at, failed_at, sent_more, sent_nothing}
use Rattle.chewing_cli.proofs.tracing.send_trace.Goals as goal

pub entries-init : goal.entries-init
entries-init g c = sent_nothing _ _

pub entries-preserved : goal.entries-preserved
entries-preserved g c =
    sent_more entry_of c.args.entries.now c.entries.entry-index c.entry-item.result _ _ _ _ _ _ c.as_slice.result.now (omega arith) c.entry-item.is
    (c.as_slice.ensures.value ∙ c.in-Ok.ensures.ok ∙ ap (λ had. had ++ entry_text (entry_of c.entry-item.result)) c.clear.ensures.items)
    c.entries.invariant c.in-Ok-send.ensures

pub returns-in-Err-send : goal.returns-in-Err-send
returns-in-Err-send g c =
    failed_at entry_of c.args.entries.now c.entries.entry-index c.entry-item.result _ _ _ _ _ _ c.as_slice.result.now (omega arith) c.entry-item.is
    (c.as_slice.ensures.value ∙ c.in-Ok.ensures.ok ∙ ap (λ had. had ++ entry_text (entry_of c.entry-item.result)) c.clear.ensures.items)
    c.entries.invariant c.in-Err-send.ensures

pub returns-in-Err : goal.returns-in-Err
returns-in-Err g c = cut_at entry_of c.args.entries.now c.entries.entry-index _ c.entries.invariant

pub returns : goal.returns
returns g c = all_sent entry_of c.args.entries.now c.entries.entry-index _ (omega arith) c.entries.invariant
