-- A known run over the five rows: its session, and what its slots keep.
use Rattle.std.specs.Char.{encode_utf8}
use Rattle.std.specs.Str.{chars, is_utf8}
use Rattle.std.specs.Prelude.{◌≡◌, ℕ, zero, suc, ◌≤◌, true, false, List, [], ◌∷◌, ◌++◌, All, drop, flat_map, get_or}
use Rattle.std.proofs.Common.{refl, ap, ap₂, sym, subst, inl, inr, ◌∙◌, ⊎_elim, arith, true≢false}
use Rattle.std.proofs.lemmas.List.Elements.{All-cons, All-nil}
use Rattle.chew_spec_syllable.specs.Phrase.{is_phrase}
use Rattle.chew_spec_dictionary.specs.Call.{Freeze, Install}
use Rattle.chew_spec_dictionary.specs.Dictionary.{learn}
use Rattle.chew_spec_dictionary.specs.FiveRows.{ce4, shi4}
use Rattle.chew_spec_dictionary.specs.History.{Entry, start_of}
use Rattle.chew_spec_image.specs.Fields.{header_bytes, node_at, node_bytes, row_at, row_bytes}
use Rattle.chew_spec_image.specs.Image.{image}
use Rattle.chew_spec_image.specs.Reading.{image_reading}
use Rattle.chew_spec_image.specs.Sample.{one_row}
use Rattle.chew_spec_text.specs.Line.{Line, Quiet, line_text}
use Rattle.chew_spec_text.specs.Sample.{bytes_of}
use Rattle.chew_spec_layers.specs.Need.{Fresh}
use Rattle.chew_spec_layers.specs.Touches.{touched}
use Rattle.chew_spec_slots.specs.Reading.{saved_in}
use Rattle.chew_spec_slots.specs.Recovery.{Recovered, recovered}
use Rattle.chew_spec_slots.specs.Sample.{one_row_plain_slot, one_row_saved}
use Rattle.chew_spec_slots.specs.Slot.{no_checkpoint}
use Rattle.unicode_width.proofs.Computing.{unicode_width}
use Rattle.chew_spec_editor.specs.Talk.{talk_from}
use Rattle.chew_spec_editor.proofs.Computing.{typing}
use Rattle.chew_spec_rounds.specs.Front.{IsNumber, RecoversToFront, front_checkpoint}
use Rattle.chew_spec_rounds.specs.Known.{by_keeper, nothing}
use Rattle.chew_spec_rounds.specs.Session as slots
use Rattle.chew_spec_rounds.specs.Session.{HasFloorUpTo, IsChosen}
use Rattle.chew_spec_rounds.proofs.Counts.{counts-saved}
use Rattle.chew_spec_session.specs.Context.{Handles}
use Rattle.chew_spec_session.specs.LastRounds.{AreRounds}
use Rattle.chew_spec_session.specs.Session.{Ended, IsOneHistory, IsSession}
use Rattle.chew_spec_session.proofs.Seqs.{count-from}
use Rattle.chew_spec_shared.specs.Needs.{IsNeed, NoneTouched}
use Rattle.chew_spec_program.specs.Sample.{first_lines, five_basis, learn_by, look_by}
use Rattle.chew_spec_program.specs.SampleRun.{five_calls, five_disk, five_journal, five_keys, five_rounds}

-- the lines of its context, and how the session ended
abbrev pub five_lines : List Line
five_lines = first_lines ++ record { preedit = []; column = 0; held = []; commit = bytes_of "測試"; window = []; note = Quiet } ∷ []

abbrev pub five_session : Ended
five_session = record {
  journal = five_journal;
  contexts = record { who = 1; handled = 6; bytes = flat_map line_text five_lines } ∷ [];
  rounds = five_rounds;
  last_from = 0;
  memory = false;
}

five-handles : Handles five_basis five_journal 1 five_keys 6 five_lines
unfolding talk_from typing unicode_width encode_utf8
five-handles = record { each = refl; talked = refl; made = record { rest = []; joined = refl }; next = record { rest = []; joined = refl } }

-- entries of context 1 and of the keeper
within-one : (entry : Entry) (rest : List Entry) → entry.who ≤ 1 → All (λ (e : Entry). e.who ≤ 1) rest → All (λ (e : Entry). e.who ≤ 1) (entry ∷ rest)
within-one entry rest within all = All-cons (λ (e : Entry). e.who ≤ 1) entry rest within all

five-within : All (λ (e : Entry). e.who ≤ 1) five_journal
five-within =
    within-one (look_by 1 (ce4 ∷ [])) (drop 1 five_journal) (omega arith)
    (within-one (look_by 1 (ce4 ∷ (shi4 ∷ []))) (drop 2 five_journal) (omega arith)
    (within-one (learn_by 1 (ce4 ∷ (shi4 ∷ [])) (bytes_of "測試") 9318 9318) (drop 3 five_journal) (omega arith)
    (within-one (by_keeper Freeze) (by_keeper (Install 3) ∷ []) (omega arith)
    (within-one (by_keeper (Install 3)) [] (omega arith) (All-nil (λ (e : Entry). e.who ≤ 1))))))

five-history : IsOneHistory five_basis (five_keys ∷ []) five_session
unfolding is_phrase is_utf8 chars encode_utf8 learn
five-history = record {
  legal = refl;
  of_them = five-within;
  numbers = refl;
  lines = five_lines ∷ [];
  handled = (five-handles, tt);
  printed = refl;
}

five-touches : touched (start_of nothing) five_calls 0 3 one_row.key one_row.phrase ≡ true
unfolding learn encode_utf8
five-touches = refl

pub five-needs : IsNeed nothing five_calls Fresh
five-needs = (refl, (one_row.key, one_row.phrase, five-touches))

by-keeper-alone : All (λ (e : Entry). e.who ≡ 0) (by_keeper Freeze ∷ (by_keeper (Install 3) ∷ []))
by-keeper-alone =
    All-cons (λ (e : Entry). e.who ≡ 0) (by_keeper Freeze) (by_keeper (Install 3) ∷ []) refl (All-cons (λ (e : Entry). e.who ≡ 0) (by_keeper (Install 3)) [] refl (All-nil (λ (e : Entry). e.who ≡ 0)))

five-are-rounds : AreRounds nothing 0 five_journal five_rounds
five-are-rounds = record {
  before = five_calls;
  made = refl;
  worker = refl;
  last = inr (five-needs, record { more = by_keeper Freeze ∷ (by_keeper (Install 3) ∷ []); joined = refl; alone = by-keeper-alone; calls = refl });
}

pub five-session : IsSession five_basis (five_keys ∷ []) 0 0 five_session
five-session = record {
  history = five-history;
  rounds = five-are-rounds;
  seqs = count-from (λ place. place) five_rounds (counts-saved 0 3 (λ e. absurd (omega arith)), tt);
  last_from = refl;
  memory = refl;
}

-- what its slots recover to
pub nothing-recovers : recovered [] [] ≡ Recovered no_checkpoint
unfolding recovered
nothing-recovers = refl

pub one-recovers : recovered one_row_plain_slot [] ≡ Recovered one_row_saved.checkpoint
unfolding saved_in recovered image image_reading header_bytes node_bytes row_bytes node_at row_at is_phrase is_utf8 chars encode_utf8
one-recovers = refl

five-start : front_checkpoint nothing five_journal 0 ≡ no_checkpoint
unfolding front_checkpoint
five-start = refl

five-front : front_checkpoint nothing five_journal 3 ≡ one_row_saved.checkpoint
unfolding front_checkpoint learn encode_utf8
five-front = refl

five-number : IsNumber nothing five_journal 3
five-number = inr (record { place = 3; freeze = refl; reply = refl })

at-first : (first second : List ℕ) → first ≡ [] → second ≡ [] → RecoversToFront nothing five_journal 0 first second
at-first first second p q = ap₂ recovered p q ∙ nothing-recovers ∙ ap Recovered (sym five-start)

at-last : (first second : List ℕ) → first ≡ one_row_plain_slot → second ≡ [] → RecoversToFront nothing five_journal 3 first second
at-last first second p q = ap₂ recovered p q ∙ one-recovers ∙ ap Recovered (sym five-front)

first-floor : (moment most : ℕ) → moment ≤ 0 → HasFloorUpTo nothing five_journal five_disk.now moment most
first-floor zero most low = (0, omega arith, record { numbered = inl refl; pair = ([], [], refl, refl, at-first [] [] refl refl) })
first-floor (suc moment) most low = absurd (omega arith)

five-chosen : (moment : ℕ) (zero one : List ℕ) → moment ≤ 1 → zero ≡ get_or ([] ∷ (one_row_plain_slot ∷ [])) moment [] → one ≡ []
    → (number : ℕ) × IsChosen nothing five_journal 0 five_disk.now moment zero one number
five-chosen zero first second low p q = (0, record { numbered = inl refl; recovers = at-first first second p q; no_shorter = λ earlier from less. absurd (omega arith) })
five-chosen (suc zero) first second low p q =
    (3, record { numbered = five-number; recovers = at-last first second p q; no_shorter = λ earlier from less. first-floor earlier 3 (omega arith) })
five-chosen (suc (suc moment)) first second low p q = absurd (omega arith)

five-floor : (moment : ℕ) → moment ≤ 1 → HasFloorUpTo nothing five_journal five_disk.now moment 3
five-floor zero low = first-floor 0 3 (omega arith)
five-floor (suc zero) low =
    (3, omega arith, record { numbered = five-number; pair = (one_row_plain_slot, [], refl, refl, at-last one_row_plain_slot [] refl refl) })
five-floor (suc (suc moment)) low = absurd (omega arith)

pub five-kept : slots.IsSession nothing five_journal 0 five_disk.now five_rounds
five-kept = record {
  begun = omega arith;
  acknowledged = refl;
  never_shortens = record { each = λ under moment first second low high left other. five-chosen moment first second high left other };
  floors = λ under moment low high. five-floor moment high;
  ends = λ first second left other. inl (at-last first second left other);
}

-- what was learnt is to be saved
pub unsaved : AreRounds nothing 0 five_calls [] → ⊥
unsaved are =
    ⊎_elim (λ waiting. waiting)
    (λ none. true≢false (sym five-touches ∙ subst (λ (h : List Entry). NoneTouched nothing h) (sym none.1) none.0.1 one_row.key one_row.phrase)) are.last
