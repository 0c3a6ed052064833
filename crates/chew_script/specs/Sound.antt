-- What holds of each script while it is read.
use Rattle.std.specs.Prelude.{◌≡◌, ℕ, ◌≤◌, length}
use Rattle.chew_spec_text.specs.Script.{Script, keys_count}

-- this is the count of its keys, and it is within its limits
pub record IsSound (count : ℕ) (script : Script) : Type 0 where
  pub counted : count ≡ keys_count script.contexts
  pub few_keys : count ≤ 65_536
  pub few_contexts : length script.contexts ≤ 16
  pub few_rounds : script.rounds ≤ 64
