-- Words for laws: what a key that rings leaves.
use Rattle.std.specs.Prelude.{if◌then◌else◌}
use Rattle.chew_spec_layout.specs.Layout.{Layout, cleared}
use Rattle.chew_spec_text.specs.KeyStroke.{KeyStroke}
use Rattle.chew_spec_editor.specs.Completion.{completes}
use Rattle.chew_spec_editor.specs.Editor.{Editor}

-- the layout that a key leaves where it rings and no window is open: a syllable that is whole is dropped
abbrev pub layout_rung : Editor → KeyStroke → Layout
layout_rung editor key = if completes editor key then cleared editor.layout else editor.layout
