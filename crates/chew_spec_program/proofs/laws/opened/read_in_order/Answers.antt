use Rattle.chew_spec_program.proofs.ReadOrder.{disk-uncalled, nothing-read, script-unread, system-unread}
use Rattle.chew_spec_program.proofs.laws.opened.read_in_order.Goals as goal

pub returns : goal.returns
returns c c' = record {
  words = λ words settings system script opened is e. nothing-read words settings system script _ opened is e;
  settings = λ words settings system script opened opens e. system-unread words settings system script _ opened opens e;
  system = λ words settings system script opened opens e. script-unread words settings system script _ opened opens e;
  script = λ words settings system script opened opens e. disk-uncalled words settings system script _ opened opens e;
  named = λ words settings system script opened opens e. opens.settings_read.read e;
  unnamed = λ words settings system script opened opens e. opens.settings_read.unread e;
}
