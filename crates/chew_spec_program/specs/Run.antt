-- What a run of the program is, from the bytes that come in to the bytes that go out and those that are kept.
use Rattle.std.specs.Prelude.{◌≡◌, ℕ, Bool, true, false, ◌||◌, List, [], All, IsTrue, drop, flat_map, is_some, length, map, Result, MatchResult, if◌then◌else◌}
use Rattle.std.specs.List.{list_any}
use Rattle.chew_spec_dictionary.specs.History.{Entry}
use Rattle.chew_spec_dictionary.specs.Growth.{IsFront}
use Rattle.chew_spec_outside.specs.Sink.{appended}
use Rattle.chew_spec_text.specs.Line.{Line, line_text}
use Rattle.chew_spec_rounds.specs.Round.{Round, Saved, DiskFault, NoMemory, SeqSpent, saved_number}
use Rattle.chew_spec_session.specs.Context.{HandleAll}
use Rattle.chew_spec_session.specs.LastRounds.{is_disk_fault}
use Rattle.chew_spec_session.specs.Session as sessions
use Rattle.chew_spec_session.specs.Session.{IsSession}
use Rattle.chew_spec_program.specs.Command.{asks_trace}
use Rattle.chew_spec_program.specs.Crash.{BeginsWith, NeverShorter}
use Rattle.chew_spec_program.specs.Opening.{Inputs, IsOpening}
use Rattle.chew_spec_program.specs.Output.{output, traced}
use Rattle.chew_spec_program.specs.Reading.{Watched}
use Rattle.chew_spec_program.specs.Refusal.{Refusal, refusal_line, refusal_status}
use Rattle.chew_spec_program.specs.Slots.{CountsFaults, IsUnwritten, Kept, SparesDisk}
use Rattle.chew_spec_program.specs.Writing.{Sunk, Writes}

-- what was seen outside over a run: its three sources, its sink and its disk
pub record Outside : Type 1 where
  pub settings : Watched
  pub system : Watched
  pub script : Watched
  pub sink : Sunk
  pub disk : Kept

-- how a run ended: its status, the history of all calls, for each context the number of its handled keys, what each round
-- answered, and the place of the first of the last rounds
pub record Ended : Type 0 where
  pub status : ℕ
  pub journal : List Entry
  pub handled : List ℕ
  pub rounds : List Round
  pub last_from : ℕ

-- a run that is refused before its first key: it makes no call and no round and writes one line, and its status stays where
-- the sink fails
pub record IsRefused (refusal : Refusal) (sink : Sunk) (ended : Ended) : Type 0 where
  pub ends : ended ≡ record { status = refusal_status refusal; journal = []; handled = []; rounds = []; last_from = 0 }
  pub failed : Bool
  pub writes : Writes sink (refusal_line refusal) failed

-- a round that answered that the seq is spent
abbrev pub is_spent : Round → Bool
is_spent (SeqSpent seq) = true
is_spent (Saved number) = false
is_spent (DiskFault step) = false
is_spent NoMemory = false

-- the status of a run that is not refused: 8 where the sink failed; else 10 where memory was wanting; else 9 where the disk
-- failed in a last round; else 11 where a last round found the seq spent; else 0
abbrev pub done_status : (failed memory : Bool) → (last : List Round) → ℕ
done_status failed memory last =
    if failed then 8 else if memory then 10 else if list_any is_disk_fault last then 9 else if list_any is_spent last then 11 else 0

-- the output of a session was written, until the sink failed; where memory was wanting for the line of an entry, the trace
-- is cut before it
pub record Prints (trace : Bool) (session : sessions.Ended) (sink : Sunk) (failed cut : Bool) : Type 0 where
  pub entries : List Entry
  pub front : IsFront entries (traced trace session.journal)
  pub whole : cut ≡ false → entries ≡ traced trace session.journal
  pub writes : Writes sink (output (map (λ end. end.bytes) session.contexts) session.rounds entries) failed

-- how a run ends after a session
abbrev pub end_of : sessions.Ended → (failed cut : Bool) → Ended
end_of session failed cut = record {
  status = done_status failed (session.memory || cut) (drop session.last_from session.rounds);
  journal = session.journal;
  handled = map (λ end. end.handled) session.contexts;
  rounds = session.rounds;
  last_from = session.last_from;
}

-- a run over these inputs: a session of the script's contexts and rounds, whose output was written, and of whose history the
-- slots always keep a front; without a round the disk is not written
pub record IsDone (inputs : Inputs) (trace : Bool) (sink : Sunk) (disk : Kept) (ended : Ended) : Type 0 where
  pub session : sessions.Ended
  pub is_session : IsSession inputs.basis inputs.script.contexts inputs.script.rounds inputs.seq session
  pub failed : Bool
  pub cut : Bool
  pub prints : Prints trace session sink failed cut
  pub ends : ended ≡ end_of session failed cut
  pub faults : CountsFaults session.rounds disk
  pub quiet : session.rounds ≡ [] → disk.told ≡ true → IsUnwritten disk.before disk.now
  pub kept : BeginsWith inputs.basis.start.dictionary disk → NeverShorter inputs.basis.start.dictionary session.journal session.rounds disk

-- a run of the program with these words
pub record IsRun (words : List (List ℕ)) (outside : Outside) (ended : Ended) : Type 0 where
  pub opened : Result Inputs Refusal
  pub opening : IsOpening words outside.settings outside.system outside.script outside.disk opened
  pub ends : MatchResult opened (λ inputs. IsDone inputs (asks_trace words) outside.sink outside.disk ended)
      (λ refusal. IsRefused refusal outside.sink ended × SparesDisk refusal outside.disk)

-- a run over these inputs that did all: all keys were handled, every last round was saved, and the sink took the whole output
pub record IsWhole (inputs : Inputs) (trace : Bool) (sink : Sunk) (ended : Ended) : Type 0 where
  pub lines : List (List Line)
  pub handled : ended.handled ≡ map length inputs.script.contexts
  pub contexts : HandleAll inputs.basis ended.journal 1 inputs.script.contexts ended.handled lines
  pub saved : All (λ r. IsTrue (is_some (saved_number r))) (drop ended.last_from ended.rounds)
  pub taken : sink.now ≡ appended sink.before (output (map (flat_map line_text) lines) ended.rounds (traced trace ended.journal))
