-- A source and a sink in memory as they are seen: content, failing calls and counts.
use Rattle.std.specs.Prelude.{ℕ, Bool, List, [], if◌then◌else◌}
use Rattle.chew_spec_outside.specs.FailingCalls.{FailingCalls}
use Rattle.chew_spec_outside.specs.Faults.{risen}

-- a source: what is left to read, how many bytes a read gives at most, and the counts of calls and faults
pub record SourceState : Type 0 where
  pub left : List ℕ
  pub cut : ℕ
  pub fails : FailingCalls
  pub calls : ℕ
  pub faults : ℕ

-- a sink: what it took, and the counts of calls, of faults and of the writes whose growth was refused
pub record SinkState : Type 0 where
  pub taken : List ℕ
  pub fails : FailingCalls
  pub calls : ℕ
  pub faults : ℕ
  pub refused : ℕ

-- a source before its first call
abbrev pub new_source : List ℕ → ℕ → FailingCalls → SourceState
new_source bytes cut fails = record { left = bytes; cut = cut; fails = fails; calls = 0; faults = 0 }

-- a sink before its first call
abbrev pub new_sink : FailingCalls → SinkState
new_sink fails = record { taken = []; fails = fails; calls = 0; faults = 0; refused = 0 }

-- a count of failures after a call that may have failed
abbrev pub counted : Bool → ℕ → ℕ
counted failed count = if failed then risen count else count
