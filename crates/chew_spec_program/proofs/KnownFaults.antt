-- Known runs that something outside disturbs: their sessions, and what their slots keep.
use Rattle.std.specs.Char.{encode_utf8}
use Rattle.std.specs.Str.{chars, is_utf8}
use Rattle.std.specs.Prelude.{◌≡◌, ℕ, zero, suc, ◌==◌, cond, ◌<◌, ◌≤◌, true, false, List, [], ◌∷◌, All, drop, flat_map, get_or, length}
use Rattle.std.proofs.Common.{refl, ap, ap₂, sym, subst, inl, inr, ◌∙◌, arith}
use Rattle.std.proofs.lemmas.List.Elements.{All-cons, All-nil}
use Rattle.chew_spec_syllable.specs.Phrase.{is_phrase}
use Rattle.chew_spec_disk.specs.Disk.{DiskState}
use Rattle.chew_spec_disk.proofs.Moments.{later-same}
use Rattle.chew_spec_dictionary.specs.Call.{Freeze}
use Rattle.chew_spec_dictionary.specs.Dictionary.{Dictionary, learn}
use Rattle.chew_spec_dictionary.specs.FiveRows.{ce4, shi4}
use Rattle.chew_spec_dictionary.specs.History.{Entry, after, start_of}
use Rattle.chew_spec_image.specs.Fields.{header_bytes, node_at, node_bytes, row_at, row_bytes}
use Rattle.chew_spec_image.specs.Image.{image}
use Rattle.chew_spec_image.specs.Reading.{image_reading}
use Rattle.chew_spec_image.specs.Sample.{one_row}
use Rattle.chew_spec_text.specs.Line.{line_text}
use Rattle.chew_spec_text.specs.Sample.{bytes_of}
use Rattle.chew_spec_layers.specs.Need.{Fresh}
use Rattle.chew_spec_layers.specs.Touches.{touched}
use Rattle.chew_spec_slots.specs.Reading.{saved_in}
use Rattle.chew_spec_slots.specs.Recovery.{Damaged, Recovered, Recovery, TooLarge, recovered}
use Rattle.chew_spec_slots.specs.Sample.{one_row_saved}
use Rattle.chew_spec_slots.specs.Slot.{Checkpoint, no_checkpoint}
use Rattle.unicode_width.proofs.Computing.{unicode_width}
use Rattle.chew_spec_editor.specs.Settings.{standard_settings}
use Rattle.chew_spec_editor.specs.Talk.{talk_from}
use Rattle.chew_spec_editor.proofs.Computing.{typing}
use Rattle.chew_spec_rounds.specs.Front.{RecoversToFront, checkpoint_at, front_checkpoint, shape_after}
use Rattle.chew_spec_rounds.specs.Known.{by_keeper, disk_with, nothing}
use Rattle.chew_spec_rounds.specs.Round.{DiskFault, Round, SeqSpent}
use Rattle.chew_spec_rounds.specs.Seq.{last_seq}
use Rattle.chew_spec_rounds.specs.Session as slots
use Rattle.chew_spec_rounds.specs.Session.{HasFloorUpTo, last_saved}
use Rattle.chew_spec_rounds.proofs.Counts.{counts-fault}
use Rattle.chew_spec_session.specs.Context.{Basis, Handles}
use Rattle.chew_spec_session.specs.LastRounds.{AreRounds}
use Rattle.chew_spec_session.specs.Session.{Ended, IsOneHistory, IsSession}
use Rattle.chew_spec_session.proofs.Seqs.{count-from, one-spent}
use Rattle.chew_spec_shared.specs.Needs.{IsNeed}
use Rattle.chew_spec_program.specs.Crash.{BeginsWith, IsWholeOnDisk}
use Rattle.chew_spec_program.specs.Opening.{Inputs, start_from}
use Rattle.chew_spec_program.specs.Sample.{five_basis, learn_by, look_by}
use Rattle.chew_spec_program.specs.SampleFaults.{cut_disk, cut_lists, cut_slot, frozen_journal, gate_disk, gate_lists, last_disk, last_lists, last_slot}
use Rattle.chew_spec_program.specs.SampleRun.{five_calls, five_disk, five_journal, five_keys}
use Rattle.chew_spec_program.specs.Slots.{IsUncalled, IsUnwritten}
use Rattle.chew_spec_program.proofs.KnownRun.{five-needs, five_lines, nothing-recovers, one-recovers}

-- a disk whose slot 0 had these lists one after the other, and whose slot 1 is empty: where all recover to the map at the start, and nothing
-- was saved, that is a session
pub steady : (start : Dictionary) (history : List Entry) (lists : List (List ℕ)) (now : ℕ) (rounds : List Round) → (shape_after start history).installed ≡ 0 → last_saved 0 rounds ≡ 0
    → ((moment : ℕ) → moment ≤ now → RecoversToFront start history 0 (get_or lists moment []) []) → slots.IsSession start history 0 (disk_with lists now) rounds
steady start history lists now rounds none unsaved each = record {
  begun = omega arith;
  acknowledged = none ∙ sym unsaved;
  never_shortens = record {
    each = λ under moment first second low high left other. (
      0,
      record {
        numbered = inl refl;
        recovers = at moment first second high left other;
        no_shorter = λ earlier from less. floor earlier 0 (omega arith);
      },
    );
  };
  floors = λ under moment low high. floor moment (last_saved 0 rounds) high;
  ends = λ first second left other. inl (subst (λ (n : ℕ). RecoversToFront start history n first second) (sym unsaved) (at now first second (omega arith) left other));
}
  where
    at : (moment : ℕ) (first second : List ℕ) → moment ≤ now → first ≡ get_or lists moment [] → second ≡ [] → RecoversToFront start history 0 first second
    at moment first second high p q = ap₂ recovered p q ∙ each moment high

    floor : (moment most : ℕ) → moment ≤ now → HasFloorUpTo start history (disk_with lists now) moment most
    floor moment most high = (0, omega arith, record { numbered = inl refl; pair = (get_or lists moment [], [], refl, refl, each moment high) })

-- entries of context 1 and of the keeper
calls-within : All (λ (e : Entry). e.who ≤ 1) five_calls
calls-within =
    All-cons (λ (e : Entry). e.who ≤ 1) (look_by 1 (ce4 ∷ [])) (drop 1 five_calls) (omega arith)
    (All-cons (λ (e : Entry). e.who ≤ 1) (look_by 1 (ce4 ∷ (shi4 ∷ []))) (drop 2 five_calls) (omega arith)
    (All-cons (λ (e : Entry). e.who ≤ 1) (learn_by 1 (ce4 ∷ (shi4 ∷ [])) (bytes_of "測試") 9318 9318) [] (omega arith) (All-nil (λ (e : Entry). e.who ≤ 1))))

frozen-within : All (λ (e : Entry). e.who ≤ 1) frozen_journal
frozen-within =
    All-cons (λ (e : Entry). e.who ≤ 1) (look_by 1 (ce4 ∷ [])) (drop 1 frozen_journal) (omega arith)
    (All-cons (λ (e : Entry). e.who ≤ 1) (look_by 1 (ce4 ∷ (shi4 ∷ []))) (drop 2 frozen_journal) (omega arith)
    (All-cons (λ (e : Entry). e.who ≤ 1) (learn_by 1 (ce4 ∷ (shi4 ∷ [])) (bytes_of "測試") 9318 9318) (by_keeper Freeze ∷ []) (omega arith)
    (All-cons (λ (e : Entry). e.who ≤ 1) (by_keeper Freeze) [] (omega arith) (All-nil (λ (e : Entry). e.who ≤ 1)))))

-- a session of the five rows' keys, with these calls and rounds
abbrev pub session_with : List Entry → List Round → Ended
session_with journal rounds = record {
  journal = journal;
  contexts = record { who = 1; handled = 6; bytes = flat_map line_text five_lines } ∷ [];
  rounds = rounds;
  last_from = 0;
  memory = false;
}

frozen-handles : Handles five_basis frozen_journal 1 five_keys 6 five_lines
unfolding talk_from typing unicode_width encode_utf8
frozen-handles = record { each = refl; talked = refl; made = record { rest = []; joined = refl }; next = record { rest = []; joined = refl } }

frozen-history : IsOneHistory five_basis (five_keys ∷ []) (session_with frozen_journal (DiskFault 2 ∷ []))
unfolding is_phrase is_utf8 chars encode_utf8 learn
frozen-history = record { legal = refl; of_them = frozen-within; numbers = refl; lines = five_lines ∷ []; handled = (frozen-handles, tt); printed = refl }

frozen-rounds : AreRounds nothing 0 frozen_journal (DiskFault 2 ∷ [])
frozen-rounds = record {
  before = five_calls;
  made = refl;
  worker = refl;
  last = inr (
    five-needs,
    record {
      more = by_keeper Freeze ∷ [];
      joined = refl;
      alone = All-cons (λ (e : Entry). e.who ≡ 0) (by_keeper Freeze) [] refl (All-nil (λ (e : Entry). e.who ≡ 0));
      calls = refl;
    },
  );
}

pub failed-session : IsSession five_basis (five_keys ∷ []) 0 0 (session_with frozen_journal (DiskFault 2 ∷ []))
failed-session = record {
  history = frozen-history;
  rounds = frozen-rounds;
  seqs = count-from (λ place. 0) (DiskFault 2 ∷ []) (counts-fault 0 2 (λ e. absurd (omega arith)), tt);
  last_from = refl;
  memory = refl;
}

-- a shut gate alone is no slot
gate-recovers : recovered (0 ∷ []) [] ≡ Recovered no_checkpoint
unfolding recovered
gate-recovers = refl

frozen-start : front_checkpoint nothing frozen_journal 0 ≡ no_checkpoint
unfolding front_checkpoint
frozen-start = refl

gate-moments : (moment : ℕ) → moment ≤ 4 → RecoversToFront nothing frozen_journal 0 (get_or gate_lists moment []) []
gate-moments zero low = nothing-recovers ∙ ap Recovered (sym frozen-start)
gate-moments (suc zero) low = nothing-recovers ∙ ap Recovered (sym frozen-start)
gate-moments (suc (suc zero)) low = nothing-recovers ∙ ap Recovered (sym frozen-start)
gate-moments (suc (suc (suc zero))) low = gate-recovers ∙ ap Recovered (sym frozen-start)
gate-moments (suc (suc (suc (suc zero)))) low = gate-recovers ∙ ap Recovered (sym frozen-start)
gate-moments (suc (suc (suc (suc (suc moment))))) low = absurd (omega arith)

pub failed-kept : slots.IsSession nothing frozen_journal 0 gate_disk.now (DiskFault 2 ∷ [])
failed-kept = steady nothing frozen_journal gate_lists 4 (DiskFault 2 ∷ []) refl refl gate-moments

-- a run that begins with 測試 and the last seq
abbrev pub taught_basis : Basis
taught_basis = record five_basis { start = start_from standard_settings one_row_saved.checkpoint }

abbrev pub taught_inputs : Inputs
taught_inputs = record { basis = taught_basis; script = record { contexts = five_keys ∷ []; rounds = 0 }; seq = last_seq }

abbrev pub taught : Dictionary
taught = taught_basis.start.dictionary

taught-handles : Handles taught_basis five_calls 1 five_keys 6 five_lines
unfolding talk_from typing unicode_width encode_utf8
taught-handles = record { each = refl; talked = refl; made = record { rest = []; joined = refl }; next = record { rest = []; joined = refl } }

taught-history : IsOneHistory taught_basis (five_keys ∷ []) (session_with five_calls (SeqSpent last_seq ∷ []))
unfolding is_phrase is_utf8 chars encode_utf8 learn
taught-history = record { legal = refl; of_them = calls-within; numbers = refl; lines = five_lines ∷ []; handled = (taught-handles, tt); printed = refl }

taught-touches : touched (start_of taught) five_calls 0 3 one_row.key one_row.phrase ≡ true
unfolding learn encode_utf8
taught-touches = refl

taught-needs : IsNeed taught five_calls Fresh
taught-needs = (refl, (one_row.key, one_row.phrase, taught-touches))

pub spent-session : IsSession taught_basis (five_keys ∷ []) 0 last_seq (session_with five_calls (SeqSpent last_seq ∷ []))
spent-session = record {
  history = taught-history;
  rounds = record {
    before = five_calls;
    made = refl;
    worker = refl;
    last = inr (taught-needs, record { more = []; joined = refl; alone = All-nil (λ (e : Entry). e.who ≡ 0); calls = refl });
  };
  seqs = one-spent;
  last_from = refl;
  memory = refl;
}

last-recovers : recovered last_slot [] ≡ Recovered one_row_saved.checkpoint
unfolding saved_in recovered image image_reading header_bytes node_bytes row_bytes node_at row_at is_phrase is_utf8 chars encode_utf8
last-recovers = refl

taught-start : front_checkpoint taught five_calls 0 ≡ one_row_saved.checkpoint
unfolding front_checkpoint
taught-start = refl

last-moments : (moment : ℕ) → moment ≤ 3 → RecoversToFront taught five_calls 0 (get_or last_lists moment []) []
last-moments zero low = last-recovers ∙ ap Recovered (sym taught-start)
last-moments (suc zero) low = last-recovers ∙ ap Recovered (sym taught-start)
last-moments (suc (suc zero)) low = last-recovers ∙ ap Recovered (sym taught-start)
last-moments (suc (suc (suc zero))) low = last-recovers ∙ ap Recovered (sym taught-start)
last-moments (suc (suc (suc (suc moment)))) low = absurd (omega arith)

pub spent-kept : slots.IsSession taught five_calls 0 last_disk.now (SeqSpent last_seq ∷ [])
spent-kept = steady taught five_calls last_lists 3 (SeqSpent last_seq ∷ []) refl refl last-moments

-- a disk that is as it was
pub untouched : (disk : DiskState) → IsUnwritten disk disk
untouched disk = record {
  later = later-same disk;
  reads = λ slot. refl;
  outcomes = λ slot list. (λ h. h, λ h. h);
  between = λ under moment slot list low high. absurd (omega arith);
}

-- a disk that only goes on in time
pub idle : (list : List ℕ) (lists : List (List ℕ)) (now : ℕ) → get_or lists 0 [] ≡ list → ((moment : ℕ) → moment ≤ now → get_or lists moment [] ≡ list) → IsUnwritten (disk_with lists 0) (disk_with lists now)
idle list lists now first same = record {
  later = record { not_before = omega arith; earlier = λ under moment slot l early. (λ h. h, λ h. h) };
  reads = λ slot. ap (λ (l : List ℕ). cond (slot == 0) l []) (same now (omega arith) ∙ sym first);
  outcomes = λ slot l.
      let e : cond (slot == 0) (get_or lists now []) [] ≡ cond (slot == 0) (get_or lists 0 []) [] = ap (λ (x : List ℕ). cond (slot == 0) x []) (same now (omega arith) ∙ sym first) in
      (λ h. h ∙ e, λ h. h ∙ sym e);
  between = λ under moment slot l low high.
      let e : cond (slot == 0) (get_or lists moment []) [] ≡ cond (slot == 0) (get_or lists 0 []) [] = ap (λ (x : List ℕ). cond (slot == 0) x []) (same moment high ∙ sym first) in
      (λ h. h ∙ e, λ h. h ∙ sym e);
}

cut-same : (moment : ℕ) → moment ≤ 2 → get_or cut_lists moment [] ≡ cut_slot
cut-same zero low = refl
cut-same (suc zero) low = refl
cut-same (suc (suc zero)) low = refl
cut-same (suc (suc (suc moment))) low = absurd (omega arith)

pub cut-idle : IsUnwritten cut_disk.before cut_disk.now
cut-idle = idle cut_slot cut_lists 2 refl cut-same

-- known disks
pub five-begins : BeginsWith nothing five_disk
five-begins = record {
  told = refl;
  is_disk = record { reads_may_be_left = λ slot. refl; this_moment = λ under slot list. (λ h. h, λ h. h) };
  zero = λ list. (λ h. h, λ h. h);
  one = λ list. (λ h. h, λ h. h);
  recovers = nothing-recovers;
}

five-all : checkpoint_at (after (start_of nothing) five_journal) ≡ one_row_saved.checkpoint
unfolding learn encode_utf8
five-all = refl

pub five-whole : IsWholeOnDisk nothing five_journal five_disk
five-whole first second p q = ap₂ recovered p q ∙ one-recovers ∙ ap Recovered (sym five-all)

-- the life that was recovered
life-of : Recovery → ℕ
life-of (Recovered checkpoint) = checkpoint.life
life-of (TooLarge slot len) = 0
life-of (Damaged slot place) = 0

same-life : (recovery : Recovery) (had is : Checkpoint) → recovery ≡ Recovered had → recovery ≡ Recovered is → had.life ≡ is.life
unfolding life-of
same-life recovery had is p q = ap life-of (sym p ∙ q)

no-life : (x y : ℕ) → x ≡ y → y < x → ⊥
no-life x y same less = omega arith

pub gate-not-whole : IsWholeOnDisk nothing five_journal gate_disk → ⊥
gate-not-whole whole =
    no-life 1 0 (same-life (recovered (0 ∷ []) []) one_row_saved.checkpoint no_checkpoint (whole (0 ∷ []) [] refl refl ∙ ap Recovered five-all) gate-recovers) (omega arith)

pub five-called : IsUncalled five_disk → ⊥
five-called un = no-life 1 0 (un.moment refl) (omega arith)

pub five-written : IsUnwritten five_disk.before five_disk.now → ⊥
five-written un = no-life 127 0 (ap length (un.reads 0)) (omega arith)

cut-recovers : recovered cut_slot [] ≡ Damaged 0 60
unfolding saved_in recovered image image_reading header_bytes node_bytes row_bytes node_at row_at is_phrase is_utf8 chars encode_utf8
cut-recovers = refl

recovers-apart : (recovery : Recovery) (checkpoint : Checkpoint) → recovery ≡ Recovered checkpoint → recovery ≡ Damaged 0 60 → ⊥
recovers-apart recovery checkpoint p q = let no : Recovered checkpoint ≡ Damaged 0 60 = sym p ∙ q in cc no

pub cut-refused : (start : Dictionary) → BeginsWith start cut_disk → ⊥
cut-refused start begins = recovers-apart (recovered cut_slot []) (record { life = start.life; rows = start.pairs }) begins.recovers cut-recovers
