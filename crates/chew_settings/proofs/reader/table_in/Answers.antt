-- By what was read, and by why it was refused.
use Rattle.std.proofs.Common.{sym, ◌∙◌}
use Rattle.std.proofs.lemmas.Bool.{true≢false}
use Rattle.toml.specs.View.{table_view}
use Rattle.chew_settings.proofs.ReadTables.{read, refused}
use Rattle.chew_settings.proofs.reader.table_in.Goals as goal

pub returns-in-Ok : goal.returns-in-Ok
returns-in-Ok c = read c.args.text.now (table_view c.in-Ok.table) c.in-Ok.ensures.ok.0 c.in-Ok.ensures.ok.1

pub returns-else-is_memory : goal.returns-else-is_memory
returns-else-is_memory c = refused c.args.text.now (c.in-Err.ensures.refused (λ memory. true≢false (sym (c.is_memory.ensures.1 memory) ∙ c.if-is_memory.false)))
