-- The code's table has the definition's names and keys.
use Rattle.std.proofs.Common.{ap, sym, ◌∙◌, map}
use Rattle.std.specs.Fmt.{digits}
use Rattle.std.specs.Option.{option_map}
use Rattle.chew_spec_text.specs.KeyStroke.{key_names}
use Rattle.chew_script.specs.Keys.{key_of}
use Rattle.chew_script.specs.Table.{Named}
use Rattle.chew_script.specs.declared.keystroke.KeyStroke.{KeyStroke}
use Rattle.chew_script.specs.declared.names.TheConstants.{KEY_NAMES}
use Rattle.chew_script.proofs.Tables.{beside-map, found-beside}
use Rattle.chew_script.proofs.names.key_named.Goals as goal

pub returns : goal.returns
unfolding digits
returns c =
    ap (option_map key_of) c.looked_up.ensures
    ∙ (beside-map key_of c.args.name.now (map {B = Named KeyStroke} (λ entry. (entry.0.now, entry.1)) KEY_NAMES)
    ∙ sym (found-beside (λ entry. entry.name) (λ entry. entry.key) c.args.name.now key_names))
