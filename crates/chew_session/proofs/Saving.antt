-- Rounds one after the other, from one stage to another.
use Rattle.std.specs.Prelude.{◌≡◌, ◌↔◌, ℕ, suc, ◌+◌, ◌-◌, ◌^◌, ◌≤◌, Bool, true, List, [], ◌∷◌, ◌++◌, length, map, min, refl}
use Rattle.std.proofs.Common.{◌⊎◌, arith, inl, inr, sym, ap, ap₂, ◌∙◌, subst, ⊎_elim}
use Rattle.std.proofs.lemmas.List.{append-nil, append_assoc}
use Rattle.chew_spec_disk.specs.Disk.{DiskState, IsDisk, Later}
use Rattle.chew_spec_disk.proofs.Moments.{later-chain, later-same}
use Rattle.chew_spec_dictionary.specs.Call.{Call}
use Rattle.chew_spec_dictionary.specs.Dictionary.{Dictionary}
use Rattle.chew_spec_dictionary.specs.History.{Entry, calls_of, is_legal, own, start_of}
use Rattle.chew_spec_slots.specs.Keep.{Keep}
use Rattle.chew_spec_cell.specs.Sight.{HasSeen}
use Rattle.chew_spec_cell.proofs.Sights.{seen-all}
use Rattle.chew_spec_rounds.specs.InStep.{IsInStep}
use Rattle.chew_spec_rounds.specs.Round.{AreKeepersCalls, DiskFault, NoMemory, Round, Saved, SeqSpent}
use Rattle.chew_spec_rounds.specs.Seq.{CountsSeq, saved_count}
use Rattle.chew_spec_rounds.specs.Session.{GrowsByOthers, IsSession}
use Rattle.chew_spec_rounds.proofs.Floors.{round-more}
use Rattle.chew_spec_rounds.proofs.Fronts.{legal-front}
use Rattle.chew_spec_rounds.proofs.InStep.{others-in-step}
use Rattle.chew_spec_rounds.proofs.Reading.{in-step-begins}
use Rattle.chew_spec_rounds.proofs.Sessions.{others-more}
use Rattle.chew_spec_rounds.proofs.Writing.{calls-joined}
use Rattle.chew_spec_session.specs.LastRounds.{disk_faults}
use Rattle.chew_spec_session.specs.Session.{CountFrom, RoseBy}
use Rattle.chew_spec_session.proofs.LastRounds.{calls-both}
use Rattle.chew_session.specs.Saving.{Calls, CountUp, CountsAt, Goes, IsKept, IsReady, IsUntouched, MakeAll, Makes, Rises, Stage}

-- a disk of which nothing was asked
pub untouched-same : (disk : DiskState) → IsUntouched disk disk
untouched-same disk = record {
  moment = refl;
  reads = λ slot. refl;
  outcomes = λ slot list. (λ left. left, λ left. left);
  earlier = λ moment slot list. (λ left. left, λ left. left);
}

untouched-over : (first second third : DiskState) → IsUntouched first second → IsUntouched second third → IsUntouched first third
untouched-over first second third one other = record {
  moment = other.moment ∙ one.moment;
  reads = λ slot. other.reads slot ∙ one.reads slot;
  outcomes = λ slot list. (λ left. (one.outcomes slot list).0 ((other.outcomes slot list).0 left), λ left. (other.outcomes slot list).1 ((one.outcomes slot list).1 left));
  earlier = λ moment slot list.
      (λ left. (one.earlier moment slot list).0 ((other.earlier moment slot list).0 left), λ left. (other.earlier moment slot list).1 ((one.earlier moment slot list).1 left));
}

-- the calls of two stretches
none-called : (h : List Entry) → own h 0 ≡ [] → calls_of h 0 ≡ []
none-called h none = ap (map (λ (e : Entry). e.call)) none

pub goes-both : (rounds more : List Round) (first second third : List Entry) → Goes rounds first second → Goes more second third → Goes (rounds ++ more) first third
goes-both rounds more first second third one other = record {
  more = one.more ++ other.more;
  joined = other.joined ∙ ap (λ (h : List Entry). h ++ other.more) one.joined ∙ append_assoc first one.more other.more;
  calls = subst (λ (cs : List Call). AreKeepersCalls (rounds ++ more) cs) (sym (calls-joined one.more other.more))
      (calls-both rounds more (calls_of one.more 0) (calls_of other.more 0) one.calls other.calls);
}

pub goes-round : (round : Round) (before now : List Entry) → Calls round before now → Goes (round ∷ []) before now
goes-round round before now calls = record {
  more = calls.more;
  joined = calls.joined;
  calls = (calls_of calls.more 0, [], sym (append-nil (calls_of calls.more 0)), calls.calls, refl);
}

goes-wait : (before now : List Entry) → HasSeen 0 before now → Goes [] before now
goes-wait before now seen = record { more = seen.later; joined = seen.joined; calls = none-called seen.later seen.none }

-- how the seq counts up
saved-first : (round : Round) (rounds : List Round) → saved_count (round ∷ rounds) ≡ saved_count (round ∷ []) + saved_count rounds
saved-first (Saved number) rounds = omega arith
saved-first (DiskFault step) rounds = omega arith
saved-first NoMemory rounds = omega arith
saved-first (SeqSpent seq) rounds = omega arith

saved-both : (rounds more : List Round) → saved_count (rounds ++ more) ≡ saved_count rounds + saved_count more
saved-both [] more = omega arith
saved-both (round ∷ rounds) more =
    let first = saved-first round (rounds ++ more) in let alone = saved-first round rounds in let rest = saved-both rounds more in omega arith

no-list : (round : Round) (earlier later : List Round) → [] ≡ earlier ++ round ∷ later → ⊥
no-list round [] later same = let long = ap length same in omega arith
no-list round (other ∷ earlier) later same = let long = ap length same in omega arith

count-none : (seq : ℕ) → CountUp seq [] seq
count-none seq = record { each = λ earlier later round same. absurd (no-list round earlier later same); last = omega arith }

-- a round of two lists stands in the first or in the second
record InFirst (rounds earlier later : List Round) (round : Round) : Type 0 where
  pub rest : List Round
  pub same : rounds ≡ earlier ++ round ∷ rest

record InSecond (rounds more earlier later : List Round) (round : Round) : Type 0 where
  pub before : List Round
  pub joined : earlier ≡ rounds ++ before
  pub same : more ≡ before ++ round ∷ later

first-of : List Round → Round → Round
first-of [] other = other
first-of (round ∷ rounds) other = round

rest-of : List Round → List Round
rest-of [] = []
rest-of (round ∷ rounds) = rounds

parted : (rounds more earlier later : List Round) (round : Round) → rounds ++ more ≡ earlier ++ round ∷ later → InFirst rounds earlier later round ⊎ InSecond rounds more earlier later round
unfolding first-of rest-of
parted [] more earlier later round same = inr (record { before = earlier; joined = refl; same = same })
parted (first ∷ rounds) more [] later round same = inl (record { rest = rounds; same = ap (λ (r : Round). r ∷ rounds) (ap (λ (rs : List Round). first-of rs round) same) })
parted (first ∷ rounds) more (other ∷ earlier) later round same =
    let head : first ≡ other = ap (λ (rs : List Round). first-of rs round) same in
    ⊎_elim
    (λ (found : InFirst rounds earlier later round). inl (record { rest = found.rest; same = ap₂ (λ (r : Round) (rs : List Round). r ∷ rs) head found.same }))
    (λ (found : InSecond rounds more earlier later round). inr (record { before = found.before; joined = ap₂ (λ (r : Round) (rs : List Round). r ∷ rs) (sym head) found.joined; same = found.same }))
    (parted rounds more earlier later round (ap rest-of same))

count-both : (first second third : ℕ) (rounds more : List Round) → CountUp first rounds second → CountUp second more third → CountUp first (rounds ++ more) third
count-both first second third rounds more one other = record {
  each = λ earlier later round same.
      ⊎_elim
      (λ (found : InFirst rounds earlier later round). one.each earlier found.rest round found.same)
      (λ (found : InSecond rounds more earlier later round).
      let at = other.each found.before later round found.same in
      let both = saved-both rounds found.before in
      let whole : saved_count earlier ≡ saved_count (rounds ++ found.before) = ap saved_count found.joined in
      record { here = at.here; then = at.then; counts = at.counts; sum = let sum = at.sum in let last = one.last in omega arith })
      (parted rounds more earlier later round same);
  last = let both = saved-both rounds more in let one_last = one.last in let other_last = other.last in omega arith;
}

count-round : (seq seq_then : ℕ) (round : Round) → CountsSeq seq seq_then round → CountUp seq (round ∷ []) seq_then
unfolding first-of rest-of
count-round seq seq_then round counts = record {
  each = λ earlier later other same. at earlier later other same;
  last = counts.counted;
}
  where
    at : (earlier later : List Round) (other : Round) → round ∷ [] ≡ earlier ++ other ∷ later → CountsAt seq earlier other
    at [] later other same = record {
      here = seq;
      then = seq_then;
      counts = subst (λ (r : Round). CountsSeq seq seq_then r) (ap (λ (rs : List Round). first-of rs round) same) counts;
      sum = omega arith;
    }
    at (first ∷ earlier) later other same = absurd (no-list other earlier later (ap rest-of same))

pub count-from : (seq seq_then : ℕ) (rounds : List Round) → CountUp seq rounds seq_then → CountFrom seq rounds
count-from seq seq_then rounds counts = record {
  spent = λ earlier later round number same.
      let found = counts.each earlier later round same in (
        λ is. let both = (found.counts.spent number).0 is in (sym found.sum ∙ both.0, both.1),
        λ both. (found.counts.spent number).1 (found.sum ∙ both.0, both.1),
      );
}

-- how the faults rise
faults-both : (rounds more : List Round) → disk_faults (rounds ++ more) ≡ disk_faults rounds + disk_faults more
faults-both [] more = omega arith
faults-both (DiskFault step ∷ rounds) more = let rest = faults-both rounds more in omega arith
faults-both (Saved number ∷ rounds) more = let rest = faults-both rounds more in omega arith
faults-both (NoMemory ∷ rounds) more = let rest = faults-both rounds more in omega arith
faults-both (SeqSpent seq ∷ rounds) more = let rest = faults-both rounds more in omega arith

rises-none : (count : ℕ) → Rises [] count count
rises-none count = record { rose = omega arith; never_falls = omega arith; calm = λ none. refl }

rises-both : (first second third : ℕ) (rounds more : List Round) → Rises rounds first second → Rises more second third → Rises (rounds ++ more) first third
rises-both first second third rounds more one other =
    let sum = faults-both rounds more in
    let low = one.rose in
    let high = other.rose in
    let up = one.never_falls in
    let more_up = other.never_falls in
    record {
      rose = omega arith;
      never_falls = omega arith;
      calm = λ none.
          let first_none : disk_faults rounds ≡ 0 = omega arith in
          let more_none : disk_faults more ≡ 0 = omega arith in
          other.calm more_none ∙ one.calm first_none;
    }

rises-round : (start : Dictionary) (told : Bool) (before : Stage) (round : Round) (now : Stage) → Makes start told before round now → Rises (round ∷ []) before.faults now.faults
rises-round start told before (DiskFault step) now makes =
    let one = makes.cause.rose refl in
    record { rose = omega arith; never_falls = makes.cause.never_falls; calm = λ none. absurd (omega arith) }
rises-round start told before (Saved number) now makes = subst (λ (n : ℕ). Rises (Saved number ∷ []) before.faults n) (sym (makes.cause.same refl)) (rises-calm (Saved number) before.faults refl)
  where
    rises-calm : (round : Round) (count : ℕ) → disk_faults (round ∷ []) ≡ 0 → Rises (round ∷ []) count count
    rises-calm round count none = record { rose = omega arith; never_falls = omega arith; calm = λ same. refl }
rises-round start told before NoMemory now makes =
    let same = makes.cause.same refl in record { rose = omega arith; never_falls = omega arith; calm = λ none. same }
rises-round start told before (SeqSpent seq) now makes =
    let same = makes.cause.same refl in record { rose = omega arith; never_falls = omega arith; calm = λ none. same }

-- nothing happens, but the keeper may see more of what others did
pub make-wait : (start : Dictionary) (told : Bool) (keep : Keep) (disk : DiskState) (faults : ℕ) (before now : List Entry) → HasSeen 0 before now
    → MakeAll start told (record { keep = keep; disk = disk; faults = faults; seen = before }) [] (record { keep = keep; disk = disk; faults = faults; seen = now })
make-wait start told keep disk faults before now seen =
    let grows : GrowsByOthers before now = record { more = seen.later; joined = seen.joined; calls = none-called seen.later seen.none } in
    record {
      goes = goes-wait before now seen;
      counts = count-none keep.seq;
      rises = rises-none faults;
      later = λ is. later-same disk;
      is_disk = λ is good. good;
      untouched = λ none. untouched-same disk;
      kept = λ from earlier l kept. record {
        ready = record { tells = kept.ready.tells; in_step = others-in-step keep disk start before now l kept.ready.in_step grows; legal = l };
        session = subst (λ (rs : List Round). IsSession start now from disk rs) (sym (append-nil earlier)) (others-more start before now from disk earlier l kept.session grows);
      };
    }

pub make-round : (start : Dictionary) (told : Bool) (before : Stage) (round : Round) (now : Stage) → Makes start told before round now → MakeAll start told before (round ∷ []) now
make-round start told before round now makes = record {
  goes = goes-round round before.seen now.seen makes.calls;
  counts = count-round before.keep.seq now.keep.seq round makes.counts;
  rises = rises-round start told before round now makes;
  later = makes.later;
  is_disk = makes.is_disk;
  untouched = λ none. absurd (no-list round [] [] (sym none));
  kept = λ from earlier l kept. record {
    ready = record { tells = kept.ready.tells; in_step = makes.in_step kept.ready; legal = l };
    session = round-more start before.seen now.seen from before.disk now.disk earlier round l kept.session (makes.made kept.ready);
  };
}

none-both : (rounds more : List Round) → rounds ++ more ≡ [] → (rounds ≡ []) × (more ≡ [])
none-both [] more none = (refl, none)
none-both (round ∷ rounds) more none = absurd (no-list round [] (rounds ++ more) (sym none))

pub make-both : (start : Dictionary) (told : Bool) (first second third : Stage) (rounds more : List Round) → MakeAll start told first rounds second → MakeAll start told second more third
    → MakeAll start told first (rounds ++ more) third
make-both start told first second third rounds more one other = record {
  goes = goes-both rounds more first.seen second.seen third.seen one.goes other.goes;
  counts = count-both first.keep.seq second.keep.seq third.keep.seq rounds more one.counts other.counts;
  rises = rises-both first.faults second.faults third.faults rounds more one.rises other.rises;
  later = λ is. later-chain first.disk second.disk third.disk (one.later is) (other.later is);
  is_disk = λ is good. other.is_disk is (one.is_disk is good);
  untouched = λ none.
      let both = none-both rounds more none in untouched-over first.disk second.disk third.disk (one.untouched both.0) (other.untouched both.1);
  kept = λ from earlier l kept.
      let between = legal-front (start_of start) second.seen other.goes.more third.seen other.goes.joined l in
      subst (λ (rs : List Round). IsKept start told from rs third) (append_assoc earlier rounds more)
      (other.kept from (earlier ++ rounds) l (one.kept from earlier between kept));
}

-- nothing is made, with the stage as it was
pub make-none : (start : Dictionary) (told : Bool) (at : Stage) → MakeAll start told at [] at
make-none start told at = make-wait start told at.keep at.disk at.faults at.seen at.seen (seen-all 0 at.seen)

-- what a session leaves, from a stage that is in step with a history that begins
pub never-shortens : (start : Dictionary) (told : Bool) (before : Stage) (rounds : List Round) (now : Stage) → is_legal (start_of start) now.seen ≡ true → MakeAll start told before rounds now
    → before.seen ≡ [] → told ≡ true → IsInStep before.keep before.disk start [] → IsSession start now.seen before.disk.moment now.disk rounds
never-shortens start told before rounds now l all none is step =
    (all.kept before.disk.moment [] l (record {
      ready = record {
        tells = is;
        in_step = subst (λ (h : List Entry). IsInStep before.keep before.disk start h) (sym none) step;
        legal = ap (is_legal (start_of start)) none;
      };
      session = subst (λ (h : List Entry). IsSession start h before.disk.moment before.disk []) (sym none) (in-step-begins before.keep before.disk start step);
    })).session
