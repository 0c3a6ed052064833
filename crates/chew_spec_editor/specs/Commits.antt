-- Words for laws: what a key commits, and the phrases that it learns.
use Rattle.std.specs.Prelude.{ℕ, List, []}
use Rattle.chew_spec_dictionary.specs.Call.{Call, Learn}
use Rattle.chew_spec_preedit.specs.Buffer.{Buffer}
use Rattle.chew_spec_editor.specs.Press.{Pressed, Done, Ask}

-- what a pressed key commits, at once or once it is answered
abbrev pub committed : Pressed → List ℕ
committed (Done editor line) = line.commit
committed (Ask pending) = pending.commit

-- the buffer that it leaves
abbrev pub buffer_left : Pressed → Buffer
buffer_left (Done editor line) = editor.buffer
buffer_left (Ask pending) = pending.editor.buffer

-- what it changes in the dictionary
abbrev pub changes_made : Pressed → List Call
changes_made (Done editor line) = []
changes_made (Ask pending) = pending.changes

-- the phrase that a call learns
abbrev pub phrase_learnt : Call → List ℕ
phrase_learnt (Learn key phrase orig peak) = phrase
phrase_learnt _ = []
