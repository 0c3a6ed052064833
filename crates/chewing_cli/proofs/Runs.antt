-- A session over the disk that its slots were read of is a run from where the program was called.
use Rattle.std.specs.Prelude.{◌≡◌, ℕ, zero, suc, ◌≤◌, Bool, true, List, [], ◌∷◌, All, IsTrue, get_or, length, map, nat_le, ◌+◌, ◌++◌, ◌==◌, Ok, Err}
use Rattle.std.specs.List.{list_all, range_with_len}
use Rattle.std.proofs.Common.{refl, ap, sym, subst, inr, ◌∙◌, ⊎_elim, arith}
use Rattle.std.proofs.lemmas.Bool.{and_parts, leb-true}
use Rattle.std.proofs.lemmas.List.{append_assoc, length-append, length-map, length-take, map-append}
use Rattle.std.proofs.lemmas.List.Sums.{AllPass-from_list_all}
use Rattle.chew_spec_disk.specs.Disk.{DiskState}
use Rattle.chew_spec_syllable.specs.Row.{Row, is_row}
use Rattle.chew_spec_preedit.specs.Buffer.{cells_limit}
use Rattle.chew_spec_editor.specs.Invariant.{is_distinct, is_selection_key, is_settings}
use Rattle.chew_spec_editor.specs.Settings.{Settings}
use Rattle.chew_spec_slots.specs.Keep.{Keep}
use Rattle.chew_spec_cell.specs.Pass.{Cell}
use Rattle.chew_spec_text.specs.KeyStroke.{KeyStroke, is_key_stroke}
use Rattle.chew_spec_session.specs.Context.{Basis}
use Rattle.chew_spec_session.specs.LastRounds.{disk_faults}
use Rattle.chew_spec_session.specs.Session.{Ended, IsSession, RoseBy}
use Rattle.chew_spec_program.specs.Command.{asks_trace}
use Rattle.chew_spec_program.specs.Opening.{Inputs, IsOpening}
use Rattle.chew_spec_program.specs.Refusal.{NoMemory}
use Rattle.chew_spec_program.specs.Run as run
use Rattle.chew_spec_program.specs.Run.{IsDone, IsRun, Outside}
use Rattle.chew_spec_program.specs.Slots.{IsUnwritten, Kept, SparesDisk, kept}
use Rattle.chew_spec_program.specs.Writing.{Sunk}
use Rattle.chew_spec_program.proofs.Kept.{kept-from-reading}
use Rattle.chew_spec_program.proofs.Opened.{opened-command}
use Rattle.chew_spec_program.proofs.ReadOrder.{opening-stays}
use Rattle.chew_script.specs.Keys.{key_of, keys_of, lists_of}
use Rattle.chew_script.specs.declared.keystroke.KeyStroke as script
use Rattle.std.specs.Global.{Vec}
use Rattle.chew_session.specs.Crew.{MayType, keys_of_all}
use Rattle.chew_session.specs.declared.actor.Actor.{Actor}
use Rattle.chew_session.specs.Saving.{IsUntouched}
use Rattle.chew_slots.specs.declared.recovery.Found as slots
use Rattle.chewing_cli.specs.Opens.{IsReady}
use Rattle.chewing_cli.specs.Runs.{EndsOpened, Leaves, MayRun, Ran, WantedMemory}

-- a session's worker makes as many rounds as are asked for
pub last_fits : (basis : Basis) (contexts : List (List KeyStroke)) (asked seq : ℕ) (ended : Ended) → IsSession basis contexts asked seq ended → ended.last_from ≤ length ended.rounds
last_fits basis contexts asked seq ended is =
    let made = is.rounds.made in
    let taken = length-take asked ended.rounds in
    let from = is.last_from in omega arith

-- a disk that was not asked, behind one that was not written
unasked : (before middle now : DiskState) → IsUnwritten before middle → IsUntouched middle now → IsUnwritten before now
unasked before middle now read is = record {
  later = record {
    not_before = (let low = read.later.not_before in let same = is.moment in omega arith);
    earlier = λ under moment slot list low.
        let same = is.moment in
        let was = read.later.earlier (omega arith) moment slot list low in
        let here = is.earlier moment slot list in (λ h. here.1 (was.0 h), λ h. was.1 (here.0 h));
  };
  reads = λ slot. is.reads slot ∙ read.reads slot;
  outcomes = λ slot list. let first = read.outcomes slot list in let then = is.outcomes slot list in (λ h. first.0 (then.0 h), λ h. then.1 (first.1 h));
  between = λ under moment slot list low high.
      let same = is.moment in
      let was = read.between (omega arith) moment slot list low (omega arith) in
      let here = is.earlier moment slot list in (λ h. was.0 (here.0 h), λ h. here.1 (was.1 h));
}

-- a session over an opened disk is a run
done_over : (inputs : Inputs) (trace : Bool) (sink : Sunk) (told : Bool) (before middle now : DiskState) (first second third : ℕ) (found : slots.Found) (ended : run.Ended)
    → inputs.seq ≡ found.keep.seq → inputs.basis.start.dictionary.pairs ≡ found.map → inputs.basis.start.dictionary.life ≡ found.life
    → IsReady (kept told before middle first second) found → Ran inputs trace found.keep sink (kept told middle now second third) ended
    → IsDone inputs trace sink (kept told before now first third) ended
done_over inputs trace sink told before middle now first second third found ended seq pairs life ready ran =
    let is = ran.leaves in
    record {
      session = ran.session;
      is_session = subst (λ n. IsSession inputs.basis inputs.script.contexts inputs.script.rounds n ran.session) (sym seq) is.is_session;
      failed = ran.finishes.failed;
      cut = ran.finishes.cut;
      prints = ran.finishes.prints;
      ends = ran.finishes.ends;
      faults = record {
        rose = subst (λ (n : ℕ). RoseBy (disk_faults ran.session.rounds) n third) ready.calm is.faults.rose;
        calm = λ none. is.faults.calm none ∙ ready.calm;
      };
      quiet = λ none tells. unasked before middle now (ready.unwritten tells) (is.untouched none);
      kept = λ begins.
          kept-from-reading inputs.basis.start.dictionary (kept told before now first third) middle ran.session.journal ran.session.rounds begins (ready.unwritten begins.told)
          (is.later begins.told)
          (is.crash begins.told (ready.in_step inputs.basis.start.dictionary pairs life begins.told begins.zero begins.one));
    }

-- memory was wanting for it
refused_over : (sink : Sunk) (told : Bool) (before middle now : DiskState) (first second third : ℕ) (found : slots.Found) (ended : run.Ended) → IsReady (kept told before middle first second) found
    → WantedMemory sink (kept told middle now second third) ended → SparesDisk NoMemory (kept told before now first third)
refused_over sink told before middle now first second third found ended ready wanted = record {
  unwritten = λ tells. unasked before middle now (ready.unwritten tells) wanted.untouched;
  calm = λ _. wanted.calm ∙ ready.calm;
}

-- nothing was asked of a disk that is the same
pub untouched_same : (disk : DiskState) → IsUntouched disk disk
untouched_same disk = record { moment = refl; reads = λ slot. refl; outcomes = λ slot list. (λ h. h, λ h. h); earlier = λ moment slot list. (λ h. h, λ h. h) }

-- a run that was opened
pub run_opened : (words : List (List ℕ)) (outside : Outside) (middle : DiskState) (faults : ℕ) (found : slots.Found) (ended : run.Ended) (inputs : Inputs)
    → inputs.seq ≡ found.keep.seq → inputs.basis.start.dictionary.pairs ≡ found.map → inputs.basis.start.dictionary.life ≡ found.life
    → IsOpening words outside.settings outside.system outside.script (kept outside.disk.told outside.disk.before middle outside.disk.faults_before faults) (Ok inputs)
    → IsReady (kept outside.disk.told outside.disk.before middle outside.disk.faults_before faults) found
    → EndsOpened inputs (asks_trace words) found.keep outside.sink (kept outside.disk.told middle outside.disk.now faults outside.disk.faults_now) ended
    → IsRun words outside ended
run_opened words outside middle faults found ended inputs seq pairs life is ready ends =
    let disk = outside.disk in
    let read = kept disk.told disk.before middle disk.faults_before faults in
    ⊎_elim
    (λ (ran : Ran inputs (asks_trace words) found.keep outside.sink (kept disk.told middle disk.now faults disk.faults_now) ended). record {
      opened = Ok inputs;
      opening = opening-stays words outside.settings outside.system outside.script read disk inputs refl refl is;
      ends = done_over inputs (asks_trace words) outside.sink disk.told disk.before middle disk.now disk.faults_before faults disk.faults_now found ended seq pairs life ready ran;
    })
    (λ (wanted : WantedMemory outside.sink (kept disk.told middle disk.now faults disk.faults_now) ended). record {
      opened = Err NoMemory;
      opening = inr (record { command = opened-command words outside.settings outside.system outside.script read inputs is; refused = refl });
      ends = (wanted.refused, refused_over outside.sink disk.told disk.before middle disk.now disk.faults_before faults disk.faults_now found ended ready wanted);
    }) ends

-- a session over what was opened
pub leaves_inputs : (inputs : Inputs) (keep : Keep) (disk : Kept) (session : Ended) (held : Keep) (basis : Basis) (contexts : List (List KeyStroke)) (asked : ℕ)
    → held ≡ keep → basis ≡ inputs.basis → contexts ≡ inputs.script.contexts → asked ≡ inputs.script.rounds → Leaves basis contexts asked held disk session
    → Leaves inputs.basis inputs.script.contexts inputs.script.rounds keep disk session
leaves_inputs inputs keep disk session held basis contexts asked known begins same count leaves =
    subst (λ (n : ℕ). Leaves inputs.basis inputs.script.contexts n keep disk session) count
    (subst (λ (lists : List (List KeyStroke)). Leaves inputs.basis lists asked keep disk session) same
    (subst (λ (b : Basis). Leaves b contexts asked keep disk session) begins
    (subst (λ (k : Keep). Leaves basis contexts asked k disk session) known leaves)))

-- its contexts' keys are the script's
under-map : {X Y : Type 0} (view : X → Y) (P : Y → Type 0) (xs : List X) → All P (map view xs) → All (λ x. P (view x)) xs
under-map view P [] is k d less = absurd (omega arith)
under-map view P (x ∷ xs) is zero d less = is zero (view d) (omega arith)
under-map view P (x ∷ xs) is (suc k) d less = under-map view P xs (λ j e l. is (suc j) e (omega arith)) k d (omega arith)

few-under : (actors : List Actor) → All (λ keys. length keys ≤ 65_536) (keys_of_all actors) → All (λ actor. length actor.keys.items ≤ 65_536) actors
few-under actors is k d less =
    let few : length (keys_of (get_or actors k d).keys.items) ≤ 65_536 =
    under-map (λ (actor : Actor). keys_of actor.keys.items) (λ (keys : List KeyStroke). length keys ≤ 65_536) actors is k d less in
    omega (arith, length-map (get_or actors k d).keys.items key_of)

strokes-under : (actors : List Actor) → list_all (list_all is_key_stroke) (keys_of_all actors) ≡ true → All (λ actor. IsTrue (list_all is_key_stroke (keys_of actor.keys.items))) actors
strokes-under actors e =
    under-map (λ (actor : Actor). keys_of actor.keys.items) (λ (keys : List KeyStroke). list_all is_key_stroke keys ≡ true) actors
    (AllPass-from_list_all (list_all is_key_stroke) (keys_of_all actors) e)

pub may_type : (inputs : Inputs) (cell : Cell) (settings : Settings) (actors : List Actor) → MayRun inputs → settings ≡ inputs.basis.settings
    → cell.start.pairs ≡ inputs.basis.start.dictionary.pairs → keys_of_all actors ≡ inputs.script.contexts → map (λ actor. actor.who) actors ≡ range_with_len 1 (length actors)
    → MayType cell settings actors
may_type inputs cell settings actors may same pairs keys order = record {
  in_range = subst (λ (s : Settings). IsTrue (is_settings s)) (sym same) may.in_range;
  pairs = subst (λ (rows : List Row). IsTrue (list_all is_row rows)) (sym pairs) may.pairs;
  order = order;
  few = few-under actors (subst (λ (lists : List (List KeyStroke)). All (λ k. length k ≤ 65_536) lists) (sym keys) may.few_keys);
  keys = strokes-under actors (subst (λ (lists : List (List KeyStroke)). list_all (list_all is_key_stroke) lists ≡ true) (sym keys) may.keys);
}

-- the number of pairs from which on none is added is at most 200,000
pub cap_fits : (settings : Settings) → IsTrue (is_settings settings) → settings.cap ≤ 200_000
cap_fits settings is =
    let a_cell = and_parts (nat_le 1 settings.buffer) _ is in
    let few_cells = and_parts (nat_le settings.buffer cells_limit) _ a_cell.1 in
    let a_row = and_parts (nat_le 1 settings.page) _ few_cells.1 in
    let few_rows = and_parts (nat_le settings.page 10) _ a_row.1 in
    let ten_keys = and_parts (length settings.selection == 10) _ few_rows.1 in
    let keys = and_parts (list_all is_selection_key settings.selection) _ ten_keys.1 in
    let distinct = and_parts (is_distinct settings.selection) _ keys.1 in
    let a_pair = and_parts (nat_le 1 settings.cap) _ distinct.1 in
    leb-true settings.cap 200_000 a_pair.1

-- one context more, which is numbered next
counted-on : (first count next : ℕ) → next ≡ first + count → range_with_len first (suc count) ≡ range_with_len first count ++ next ∷ []
counted-on first zero next e = ap (λ (n : ℕ). n ∷ []) (let same : first ≡ next = omega arith in same)
counted-on first (suc count) next e = ap (λ (ns : List ℕ). first ∷ ns) (counted-on (first + 1) count next (omega arith))

pub numbered-on : (actors : List Actor) (next : Actor) → map (λ actor. actor.who) actors ≡ range_with_len 1 (length actors) → next.who ≡ length actors + 1
    → map (λ actor. actor.who) (actors ++ next ∷ []) ≡ range_with_len 1 (length (actors ++ next ∷ []))
numbered-on actors next order who =
    let long : length (actors ++ next ∷ []) ≡ suc (length actors) = omega (arith, length-append actors (next ∷ [])) in
    map-append (λ (actor : Actor). actor.who) actors (next ∷ []) ∙ ap (λ (ns : List ℕ). ns ++ next.who ∷ []) order
    ∙ sym (ap (range_with_len 1) long ∙ counted-on 1 (length actors) next.who (omega arith))

pub joined-on : (actors : List Actor) (next : Actor) (left : List (Vec script.KeyStroke)) (contexts : List (List KeyStroke))
    → keys_of_all actors ++ lists_of (next.keys ∷ left) ≡ contexts → keys_of_all (actors ++ next ∷ []) ++ lists_of left ≡ contexts
joined-on actors next left contexts joined =
    ap (λ (lists : List (List KeyStroke)). lists ++ lists_of left) (map-append (λ (actor : Actor). keys_of actor.keys.items) actors (next ∷ []))
    ∙ append_assoc (keys_of_all actors) (keys_of next.keys.items ∷ []) (lists_of left) ∙ joined
