-- The first of the lists.
use Rattle.std.proofs.Common.{◌∙◌, List, [], ap, get_or}
use Rattle.chew_spec_text.specs.KeyStroke.{KeyStroke}
use Rattle.chew_spec_text.specs.Script.{Script}
use Rattle.chew_make.proofs.script.first_keys.Goals as goal

pub returns : goal.returns
returns c =
    c.first_context.ensures
    ∙ ap (λ (l : List (List KeyStroke)). get_or l 0 []) (c.lists.ensures ∙ ap (λ (s : Script). s.contexts) c.script.view_is)
