-- The definition's note that the code's Note stands for.
use Rattle.chew_spec_text.specs.Line as spec
use Rattle.chew_script.specs.declared.note.Note.{Note}
use Rattle.chew_script.specs.declared.note.Note.TheVariants.{Quiet, Bell, Full, Added, Forgot, Hidden, Missing}

-- the definition's note
abbrev pub note_of : Note → spec.Note
note_of Quiet = spec.Quiet
note_of Bell = spec.Bell
note_of Full = spec.Full
note_of Added = spec.Added
note_of Forgot = spec.Forgot
note_of Hidden = spec.Hidden
note_of Missing = spec.Missing
