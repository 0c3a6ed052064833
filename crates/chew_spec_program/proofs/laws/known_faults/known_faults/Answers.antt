-- By computing the inputs and the output.
use Rattle.std.specs.Char.{encode_utf8}
use Rattle.std.specs.Str.{chars, is_utf8}
use Rattle.chew_spec_syllable.specs.Phrase.{is_phrase}
use Rattle.chew_spec_syllable.specs.SyllableText.{syllable_reading}
use Rattle.chew_spec_image.specs.Fields.{node_at, row_at}
use Rattle.chew_spec_image.specs.Reading.{image_reading}
use Rattle.chew_spec_text.specs.DictionaryText.{dictionary_rows}
use Rattle.chew_spec_text.specs.Script.{script_of}
use Rattle.chew_spec_editor.proofs.Computing.{typing}
use Rattle.chew_spec_slots.specs.Reading.{saved_in}
use Rattle.chew_spec_slots.specs.Recovery.{recovered}
use Rattle.chew_spec_program.specs.Command.{command_of}
use Rattle.chew_spec_program.specs.Opening.{opening}
use Rattle.std.specs.Prelude.{◌≡◌, ◌⊎◌, ℕ, codes}
use Rattle.std.proofs.Common.{[], ◌∷◌, ◌++◌, None, Some, Ok, Err, false, inl, length, lit≤, refl, sym, true≢false, arith, ⊎_elim}
use Rattle.chew_spec_text.specs.Line.{with_line_feed}
use Rattle.chew_spec_rounds.specs.Known.{disk_with}
use Rattle.chew_spec_rounds.specs.Round.{DiskFault, SeqSpent}
use Rattle.chew_spec_rounds.specs.Seq.{last_seq}
use Rattle.chew_spec_program.specs.Refusal.{SlotDamaged, SourceFailed}
use Rattle.chew_spec_program.specs.Run.{Outside}
use Rattle.chew_spec_program.specs.Sample.{empty_slots, run_words}
use Rattle.chew_spec_program.specs.SampleFaults.{cut_disk, cut_slot, frozen_journal, last_slot, over_disk, refused_end}
use Rattle.chew_spec_program.specs.SampleRun.{five_calls, five_inputs, five_text, keys_text, without_round}
use Rattle.chew_spec_program.proofs.KnownFaults.{cut-idle, failed-kept, failed-session, session_with, spent-kept, spent-session, taught_inputs, untouched}
use Rattle.chew_spec_program.proofs.ToldRuns.{run-refused}
use Rattle.chew_spec_program.proofs.laws.known_faults.known_faults.Goals as goal

pub returns-clause-source : goal.returns-clause-source
unfolding command_of opening dictionary_rows is_phrase is_utf8 syllable_reading script_of encode_utf8 typing
returns-clause-source c = record {
  opened = Err SourceFailed;
  opening = inl (record {
    settings_text = None;
    system_text = None;
    script_text = None;
    slots = None;
    settings_read = record { read = λ e. absurd (true≢false (sym e)); unread = λ _. record { left = refl; faults = refl } };
    system_read = record { read = λ _. record { gave = tt; worked = tt; failed = λ _. lit≤ tt }; unread = λ e. absurd (true≢false e) };
    script_read = record { read = λ e. absurd (true≢false (sym e)); unread = λ _. record { left = refl; faults = refl } };
    slots_read = record { read = λ e. absurd (true≢false (sym e)); unread = λ _. record { moment = λ _. refl; unwritten = λ _. untouched (disk_with ([] ∷ []) 0); faults = refl } };
    gives = refl;
  });
  ends = (
    record {
      ends = refl;
      failed = false;
      writes = record { count = 7; took = refl; whole = λ _. refl; worked = λ _. refl; cut = λ e. absurd (cc e); rose = λ e. absurd (cc e) };
    },
    record { unwritten = λ _. untouched (disk_with ([] ∷ []) 0); calm = λ _. refl },
  );
}

pub returns-clause-slot : goal.returns-clause-slot
unfolding command_of opening dictionary_rows is_phrase is_utf8 chars syllable_reading script_of encode_utf8 typing recovered saved_in image_reading node_at row_at
returns-clause-slot c = record {
  opened = Err (SlotDamaged 0 60);
  opening = inl (record {
    settings_text = None;
    system_text = Some five_text;
    script_text = Some keys_text;
    slots = Some (record { zero = cut_slot; one = [] });
    settings_read = record { read = λ e. absurd (true≢false (sym e)); unread = λ _. record { left = refl; faults = refl } };
    system_read = record {
      read = λ _. record { gave = record { fits = lit≤ tt; rest = refl; front = refl }; worked = refl; failed = λ none. absurd (cc none) };
      unread = λ e. absurd (true≢false e);
    };
    script_read = record {
      read = λ _. record { gave = record { fits = lit≤ tt; rest = refl; front = refl }; worked = refl; failed = λ none. absurd (cc none) };
      unread = λ e. absurd (true≢false e);
    };
    slots_read = record { read = λ _. record { told = λ _. refl; failed = λ none. absurd (cc none) }; unread = λ e. absurd (true≢false e) };
    gives = refl;
  });
  ends = (
    record {
      ends = refl;
      failed = false;
      writes = record { count = 18; took = refl; whole = λ _. refl; worked = λ _. refl; cut = λ e. absurd (cc e); rose = λ e. absurd (cc e) };
    },
    record { unwritten = λ _. cut-idle; calm = λ _. refl },
  );
}

-- a status is one alone
other-status : (status : ℕ) → status ≡ 5 → (status ≡ 10) ⊎ (status ≡ 6) → ⊥
other-status status is either = ⊎_elim (λ (ten : status ≡ 10). omega arith) (λ (six : status ≡ 6). omega arith) either

-- where the sources and the disk are told, the status is 10 or that of the slot
pub returns-clause-wrong_status : goal.returns-clause-wrong_status
unfolding command_of opening dictionary_rows is_phrase is_utf8 chars syllable_reading script_of encode_utf8 typing recovered saved_in image_reading node_at row_at
returns-clause-wrong_status c = λ run.
    let outside : Outside = over_disk cut_disk (with_line_feed (codes "slot 0 damaged 60")) in
    other-status 5 refl
    (run-refused run_words outside (refused_end 5) [] five_text keys_text (SlotDamaged 0 60) run (record { told = refl; calm = λ rose. omega arith })
    (record { told = refl; calm = λ rose. omega arith }) (record { told = refl; calm = λ rose. omega arith })
    (record { told = refl; calm = λ rose. omega arith }) refl)

pub returns-clause-disk : goal.returns-clause-disk
unfolding command_of opening dictionary_rows is_phrase is_utf8 syllable_reading script_of encode_utf8 typing recovered
returns-clause-disk c = record {
  opened = Ok five_inputs;
  opening = inl (record {
    settings_text = None;
    system_text = Some five_text;
    script_text = Some keys_text;
    slots = Some empty_slots;
    settings_read = record { read = λ e. absurd (true≢false (sym e)); unread = λ _. record { left = refl; faults = refl } };
    system_read = record {
      read = λ _. record { gave = record { fits = lit≤ tt; rest = refl; front = refl }; worked = refl; failed = λ none. absurd (cc none) };
      unread = λ e. absurd (true≢false e);
    };
    script_read = record {
      read = λ _. record { gave = record { fits = lit≤ tt; rest = refl; front = refl }; worked = refl; failed = λ none. absurd (cc none) };
      unread = λ e. absurd (true≢false e);
    };
    slots_read = record { read = λ _. record { told = λ _. refl; failed = λ none. absurd (cc none) }; unread = λ e. absurd (true≢false e) };
    gives = refl;
  });
  ends = record {
    session = session_with frozen_journal (DiskFault 2 ∷ []);
    is_session = failed-session;
    failed = false;
    cut = false;
    prints = record {
      entries = [];
      front = record { rest = []; joined = refl };
      whole = λ _. refl;
      writes = record {
        count = length (without_round ++ with_line_feed (codes "round 1 disk fault 2"));
        took = refl;
        whole = λ _. refl;
        worked = λ _. refl;
        cut = λ e. absurd (cc e);
        rose = λ e. absurd (cc e);
      };
    };
    ends = refl;
    faults = record { rose = lit≤ tt; calm = λ none. absurd (cc none) };
    quiet = λ none. absurd (cc none);
    kept = λ begins. failed-kept;
  };
}

pub returns-clause-spent : goal.returns-clause-spent
unfolding command_of opening dictionary_rows is_phrase is_utf8 chars syllable_reading script_of encode_utf8 typing recovered saved_in image_reading node_at row_at
returns-clause-spent c = record {
  opened = Ok taught_inputs;
  opening = inl (record {
    settings_text = None;
    system_text = Some five_text;
    script_text = Some keys_text;
    slots = Some (record { zero = last_slot; one = [] });
    settings_read = record { read = λ e. absurd (true≢false (sym e)); unread = λ _. record { left = refl; faults = refl } };
    system_read = record {
      read = λ _. record { gave = record { fits = lit≤ tt; rest = refl; front = refl }; worked = refl; failed = λ none. absurd (cc none) };
      unread = λ e. absurd (true≢false e);
    };
    script_read = record {
      read = λ _. record { gave = record { fits = lit≤ tt; rest = refl; front = refl }; worked = refl; failed = λ none. absurd (cc none) };
      unread = λ e. absurd (true≢false e);
    };
    slots_read = record { read = λ _. record { told = λ _. refl; failed = λ none. absurd (cc none) }; unread = λ e. absurd (true≢false e) };
    gives = refl;
  });
  ends = record {
    session = session_with five_calls (SeqSpent last_seq ∷ []);
    is_session = spent-session;
    failed = false;
    cut = false;
    prints = record {
      entries = [];
      front = record { rest = []; joined = refl };
      whole = λ _. refl;
      writes = record {
        count = length (without_round ++ with_line_feed (codes "round 1 seq spent"));
        took = refl;
        whole = λ _. refl;
        worked = λ _. refl;
        cut = λ e. absurd (cc e);
        rose = λ e. absurd (cc e);
      };
    };
    ends = refl;
    faults = record { rose = lit≤ tt; calm = λ _. refl };
    quiet = λ none. absurd (cc none);
    kept = λ begins. spent-kept;
  };
}
