-- The code's table has the numbers in decimal.
use Rattle.std.proofs.Common.{ℕ, decimal, sym, ◌∙◌, Option, Some, None, ◌≡◌, refl}
use Rattle.std.specs.Fmt.{digits}
use Rattle.std.specs.List.{range_with_len}
use Rattle.std.specs.Option.{option_map}
use Rattle.chew_spec_text.specs.Script.{context_in}
use Rattle.chew_script.proofs.KeyLines.{within_contexts}
use Rattle.chew_script.proofs.Tables.{found-beside}
use Rattle.chew_script.proofs.names.context_number.Goals as goal

same : (o : Option ℕ) → option_map (λ number. number) o ≡ o
same None = refl
same (Some number) = refl

value : (c : goal.After-looked_up) → c.looked_up.result ≡ context_in c.args.digits.now
unfolding digits
value c = c.looked_up.ensures ∙ (sym (found-beside decimal (λ number. number) c.args.digits.now (range_with_len 1 16)) ∙ same _)

pub returns-clause-value : goal.returns-clause-value
returns-clause-value c = value c

pub returns-clause-range : goal.returns-clause-range
returns-clause-range c = within_contexts c.args.digits.now c.looked_up.result (value c)
