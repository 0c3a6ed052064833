-- By computing the inputs and the output.
use Rattle.std.specs.Char.{encode_utf8}
use Rattle.std.specs.Str.{is_utf8}
use Rattle.chew_spec_syllable.specs.Phrase.{is_phrase}
use Rattle.chew_spec_syllable.specs.SyllableText.{syllable_reading}
use Rattle.chew_spec_text.specs.DictionaryText.{dictionary_rows}
use Rattle.chew_spec_text.specs.Entry.{entry_text}
use Rattle.chew_spec_text.specs.Script.{script_of}
use Rattle.chew_spec_editor.proofs.Computing.{typing}
use Rattle.chew_spec_slots.specs.Recovery.{recovered}
use Rattle.chew_spec_program.specs.Command.{command_of}
use Rattle.chew_spec_program.specs.Opening.{opening}
use Rattle.std.proofs.Common.{[], ◌++◌, None, Some, Ok, false, inl, length, lit≤, refl, sym, true≢false, arith}
use Rattle.chew_spec_program.specs.Sample.{empty_slots}
use Rattle.chew_spec_program.specs.SampleRun.{five_inputs, five_journal, five_output, five_text, five_trace, keys_text}
use Rattle.chew_spec_program.proofs.KnownRun.{five-kept, five-session, five_session}
use Rattle.chew_spec_program.proofs.laws.known_run.known_run.Goals as goal

pub returns-clause-plain : goal.returns-clause-plain
unfolding command_of opening dictionary_rows is_phrase is_utf8 syllable_reading script_of encode_utf8 typing recovered
returns-clause-plain c = record {
  opened = Ok five_inputs;
  opening = inl (record {
    settings_text = None;
    system_text = Some five_text;
    script_text = Some keys_text;
    slots = Some empty_slots;
    settings_read = record { read = λ e. absurd (true≢false (sym e)); unread = λ _. record { left = refl; faults = refl } };
    system_read = record {
      read = λ _. record { gave = record { fits = lit≤ tt; rest = refl; front = refl }; worked = refl; failed = λ none. absurd (cc none) };
      unread = λ e. absurd (true≢false e);
    };
    script_read = record {
      read = λ _. record { gave = record { fits = lit≤ tt; rest = refl; front = refl }; worked = refl; failed = λ none. absurd (cc none) };
      unread = λ e. absurd (true≢false e);
    };
    slots_read = record { read = λ _. record { told = λ _. refl; failed = λ none. absurd (cc none) }; unread = λ e. absurd (true≢false e) };
    gives = refl;
  });
  ends = record {
    session = five_session;
    is_session = five-session;
    failed = false;
    cut = false;
    prints = record {
      entries = [];
      front = record { rest = []; joined = refl };
      whole = λ _. refl;
      writes = record { count = length five_output; took = refl; whole = λ _. refl; worked = λ _. refl; cut = λ e. absurd (cc e); rose = λ e. absurd (cc e) };
    };
    ends = refl;
    faults = record { rose = omega arith; calm = λ _. refl };
    quiet = λ none. absurd (cc none);
    kept = λ begins. five-kept;
  };
}

pub returns-clause-traced : goal.returns-clause-traced
unfolding command_of opening dictionary_rows is_phrase is_utf8 syllable_reading script_of encode_utf8 typing recovered entry_text
returns-clause-traced c = record {
  opened = Ok five_inputs;
  opening = inl (record {
    settings_text = None;
    system_text = Some five_text;
    script_text = Some keys_text;
    slots = Some empty_slots;
    settings_read = record { read = λ e. absurd (true≢false (sym e)); unread = λ _. record { left = refl; faults = refl } };
    system_read = record {
      read = λ _. record { gave = record { fits = lit≤ tt; rest = refl; front = refl }; worked = refl; failed = λ none. absurd (cc none) };
      unread = λ e. absurd (true≢false e);
    };
    script_read = record {
      read = λ _. record { gave = record { fits = lit≤ tt; rest = refl; front = refl }; worked = refl; failed = λ none. absurd (cc none) };
      unread = λ e. absurd (true≢false e);
    };
    slots_read = record { read = λ _. record { told = λ _. refl; failed = λ none. absurd (cc none) }; unread = λ e. absurd (true≢false e) };
    gives = refl;
  });
  ends = record {
    session = five_session;
    is_session = five-session;
    failed = false;
    cut = false;
    prints = record {
      entries = five_journal;
      front = record { rest = []; joined = refl };
      whole = λ _. refl;
      writes = record { count = length (five_output ++ five_trace); took = refl; whole = λ _. refl; worked = λ _. refl; cut = λ e. absurd (cc e); rose = λ e. absurd (cc e) };
    };
    ends = refl;
    faults = record { rose = omega arith; calm = λ _. refl };
    quiet = λ none. absurd (cc none);
    kept = λ begins. five-kept;
  };
}
