-- Words for laws: the key that makes a syllable whole.
use Rattle.std.specs.Prelude.{Bool, true, false}
use Rattle.chew_spec_layout.specs.Layout.{feed}
use Rattle.chew_spec_layout.specs.Step.{Step, Whole}
use Rattle.chew_spec_text.specs.KeyStroke.{KeyStroke, Char}
use Rattle.chew_spec_editor.specs.Editor.{Editor}

-- the step is a whole syllable
abbrev pub is_whole : Step → Bool
is_whole (Whole code) = true
is_whole _ = false

-- the key makes what the layout holds a whole syllable
abbrev pub completes : Editor → KeyStroke → Bool
completes editor (Char byte) = is_whole (feed editor.layout byte).step
completes editor _ = false
