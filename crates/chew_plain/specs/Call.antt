-- The definitions' calls, replies and entries that the code's stand for.
use Rattle.chew_spec_dictionary.specs.Call as spec
use Rattle.chew_spec_dictionary.specs.History as history
use Rattle.chew_plain.specs.declared.call.Call.{Call}
use Rattle.chew_plain.specs.declared.call.Call.TheVariants.{Look, Learn, Forget, Hide, Freeze, Install}
use Rattle.chew_plain.specs.declared.reply.Reply.{Reply}
use Rattle.chew_plain.specs.declared.reply.Reply.TheVariants.{Rows, Learned, Full, Forgot, NotThere, Hid, Frozen, Installed}
use Rattle.chew_plain.specs.declared.entry.Entry.{Entry}

abbrev pub call_of : Call → spec.Call
call_of (Look run) = spec.Look run
call_of (Learn key phrase orig peak) = spec.Learn key phrase orig peak
call_of (Forget key phrase) = spec.Forget key phrase
call_of (Hide key phrase) = spec.Hide key phrase
call_of Freeze = spec.Freeze
call_of (Install number) = spec.Install number

abbrev pub reply_of : Reply → spec.Reply
reply_of (Rows hits) = spec.Rows hits
reply_of (Learned freq time) = spec.Learned freq time
reply_of Full = spec.Full
reply_of Forgot = spec.Forgot
reply_of NotThere = spec.NotThere
reply_of Hid = spec.Hid
reply_of (Frozen number) = spec.Frozen number
reply_of Installed = spec.Installed

abbrev pub entry_of : Entry → history.Entry
entry_of entry = record { who = entry.who; call = call_of entry.call }
