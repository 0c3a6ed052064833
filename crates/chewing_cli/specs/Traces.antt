-- How a trace ended.
use Rattle.std.specs.Prelude.{Bool, true, false, Result, Ok, Err}
use Rattle.chewing_cli.specs.declared.tracing.TraceFault.{TraceFault}
use Rattle.chewing_cli.specs.declared.tracing.TraceFault.TheVariants.{NoMemory, SinkFailed}

-- the sink failed
abbrev pub was_failed : {T : Type 0} → Result T TraceFault → Bool
was_failed (Ok done) = false
was_failed (Err SinkFailed) = true
was_failed (Err NoMemory) = false

-- memory was wanting for a line
abbrev pub was_cut : {T : Type 0} → Result T TraceFault → Bool
was_cut (Ok done) = false
was_cut (Err SinkFailed) = false
was_cut (Err NoMemory) = true
