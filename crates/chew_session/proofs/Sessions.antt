-- A session by its course.
use Rattle.std.specs.Prelude.{◌≡◌, ◌≤◌, ◌+◌, ℕ, Bool, true, List, [], ◌∷◌, ◌++◌, ◌||◌, All, Contains, drop, length, map, not, take, refl}
use Rattle.std.specs.List.{list_any}
use Rattle.std.proofs.Common.{arith, sym, ap, ap₂, ◌∙◌, subst}
use Rattle.std.proofs.lemmas.List.{append-nil, append_cancel_left, length-append, take-append-drop, take-append-le, take_all}
use Rattle.std.proofs.lemmas.List.Elements.{All-cons, All-contains_itself, All-contains, All-head, All-tail, All-weaker}
use Rattle.chew_spec_disk.specs.Disk.{DiskState}
use Rattle.chew_spec_dictionary.specs.Call.{Call}
use Rattle.chew_spec_dictionary.specs.Dictionary.{Dictionary}
use Rattle.chew_spec_dictionary.specs.Growth.{IsFront}
use Rattle.chew_spec_dictionary.specs.History.{Entry, Point, calls_of, is_legal, start_of}
use Rattle.chew_spec_dictionary.proofs.Growing.{front-itself, front-over}
use Rattle.chew_spec_text.specs.KeyStroke.{KeyStroke}
use Rattle.chew_spec_cell.specs.Pass.{Pass}
use Rattle.chew_spec_cell.specs.Sight.{HasSeen}
use Rattle.chew_spec_cell.proofs.Sights.{seen-front}
use Rattle.chew_spec_rounds.specs.InStep.{IsInStep}
use Rattle.chew_spec_rounds.specs.Round.{AreKeepersCalls, Round}
use Rattle.chew_spec_rounds.specs.Session as crash
use Rattle.chew_spec_rounds.proofs.Writing.{calls-joined}
use Rattle.chew_spec_session.specs.Context.{Basis}
use Rattle.chew_spec_session.specs.LastRounds.{AreLastRounds, AreRounds, is_no_memory}
use Rattle.chew_spec_session.specs.Session.{ContextEnd, CountFrom, Ended, IsOneHistory, IsSession, are_handled}
use Rattle.chew_session.specs.Saving.{MakeAll, Stage}
use Rattle.chew_session.proofs.Alone.{EndsAlone, alone-still, ends-alone, pass-of}
use Rattle.chew_session.proofs.Course.{Course}
use Rattle.chew_session.proofs.Contexts.{all-handled, few-numbers}
use Rattle.chew_session.proofs.LastRounds.{are-last}
use Rattle.chew_session.proofs.Saving.{count-from, make-both, never-shortens}

drop-first : {X : Type 0} (xs ys : List X) → drop (length xs) (xs ++ ys) ≡ ys
drop-first [] ys = refl
drop-first (x ∷ xs) ys = drop-first xs ys

take-first : {X : Type 0} (xs ys : List X) → take (length xs) (xs ++ ys) ≡ xs
take-first [] ys = refl
take-first (x ∷ xs) ys = ap (λ (zs : List _). x ∷ zs) (take-first xs ys)

module _ (basis : Basis) (told : Bool) (contexts : List (List KeyStroke)) (worker last : List Round) (begins ends meets closes : Stage)
    (passes met : List Pass) (keeper : Pass) (contexts_then : List ContextEnd) (journal : List Entry)
    (course : Course basis told contexts worker last begins ends meets closes passes met keeper contexts_then journal) where
  -- all rounds one after the other
  pub course-all : MakeAll basis.start.dictionary told begins (worker ++ last) closes
  course-all =
      make-both basis.start.dictionary told begins ends closes worker last course.works
      (make-both basis.start.dictionary told ends meets closes [] last course.waits course.makes)

  keeper-seen : HasSeen 0 closes.seen journal
  keeper-seen =
      subst (λ (h : List Entry). HasSeen 0 h journal) course.knows
      (subst (λ (n : ℕ). HasSeen n keeper.seen journal) course.keeps (All-head (λ (p : Pass). HasSeen p.who p.seen journal) keeper met course.seen))

  met-then : IsFront meets.seen closes.seen
  met-then = record { rest = course.makes.goes.more; joined = course.makes.goes.joined }

  alone : EndsAlone meets.seen journal
  alone =
      ends-alone meets.seen journal keeper met course.keeps
      (front-over meets.seen closes.seen journal met-then (seen-front 0 closes.seen journal keeper-seen))
      course.most course.seen course.known

  -- the keeper has seen the whole history
  pub whole : journal ≡ closes.seen
  whole = alone-still meets.seen journal closes.seen journal alone met-then keeper-seen (front-itself journal)

  -- the calls of the worker's rounds
  worked : AreKeepersCalls worker (calls_of meets.seen 0)
  worked =
      let goes = course.works.goes in
      let here : ends.seen ≡ goes.more = goes.joined ∙ ap (λ (h : List Entry). h ++ goes.more) course.nothing in
      let same : calls_of meets.seen 0 ≡ calls_of goes.more 0 =
      ap (λ (h : List Entry). calls_of h 0) course.sees.joined ∙ calls-joined ends.seen course.sees.later
      ∙ ap₂ (λ (x y : List Call). x ++ y) (ap (λ (h : List Entry). calls_of h 0) here) (ap (map (λ (e : Entry). e.call)) course.sees.none)
      ∙ append-nil (calls_of goes.more 0) in
      subst (λ (cs : List Call). AreKeepersCalls worker cs) (sym same) goes.calls

  rounds-of : AreRounds basis.start.dictionary (length worker) journal (worker ++ last)
  rounds-of = record {
    before = meets.seen;
    made = ap length (take-first worker last);
    worker = subst (λ (rs : List Round). AreKeepersCalls rs (calls_of meets.seen 0)) (sym (take-first worker last)) worked;
    last = subst (λ (rs : List Round). AreLastRounds basis.start.dictionary meets.seen rs journal) (sym (drop-first worker last))
        (are-last basis.start.dictionary meets.seen journal last closes.seen alone keeper-seen course.legal course.saves);
  }

  -- the entries' numbers
  of-them : All (λ (e : Entry). e.who ≤ length contexts) journal
  of-them =
      let few : All (λ (p : Pass). p.who ≤ length contexts) (keeper ∷ met) =
      All-cons (λ (p : Pass). p.who ≤ length contexts) keeper met (let is = course.keeps in omega arith)
      (few-numbers basis 1 contexts passes met contexts_then course.ran course.more (length contexts) (omega arith)) in
      All-weaker (λ (e : Entry). Contains (map (λ (p : Pass). p.who) (keeper ∷ met)) e.who) (λ (e : Entry). e.who ≤ length contexts)
      (λ e has. let found = pass-of (λ (p : Pass). p.who ≤ length contexts) (keeper ∷ met) e.who has few in let same = found.1 in let most = found.2 in omega arith)
      journal course.known

  pub session-of : (start_is : basis.start ≡ start_of basis.start.dictionary) (asked : ℕ) (memory : Bool) → length worker ≡ asked
      → memory ≡ (not (are_handled contexts (map (λ (e : ContextEnd). e.handled) contexts_then)) || list_any is_no_memory (drop asked (worker ++ last)))
      → IsSession basis contexts asked begins.keep.seq (record { journal = journal; contexts = contexts_then; rounds = worker ++ last; last_from = asked; memory = memory })
  session-of start_is asked memory long wants =
      let handled = all-handled basis journal 1 contexts passes met contexts_then course.ran course.more (All-tail (λ (p : Pass). HasSeen p.who p.seen journal) keeper met course.seen) in
      record {
        history = record {
          legal = ap (λ (p : Point). is_legal p journal) start_is ∙ course.legal;
          of_them = of-them;
          numbers = handled.numbers;
          lines = handled.lines;
          handled = handled.handled;
          printed = handled.printed;
        };
        rounds = subst (λ (n : ℕ). AreRounds basis.start.dictionary n journal (worker ++ last)) long rounds-of;
        seqs = count-from begins.keep.seq closes.keep.seq (worker ++ last) course-all.counts;
        last_from = refl;
        memory = wants;
      }

  -- a crash leaves what a session leaves
  pub crash-of : told ≡ true → IsInStep begins.keep begins.disk basis.start.dictionary [] → crash.IsSession basis.start.dictionary journal begins.disk.moment closes.disk (worker ++ last)
  crash-of is step =
      subst (λ (h : List Entry). crash.IsSession basis.start.dictionary h begins.disk.moment closes.disk (worker ++ last)) (sym whole)
      (never-shortens basis.start.dictionary told begins (worker ++ last) closes (ap (is_legal (start_of basis.start.dictionary)) (sym whole) ∙ course.legal) course-all course.nothing is step)

  -- the same of all rounds under another name
  pub whole-all : (all : List Round) → all ≡ worker ++ last → MakeAll basis.start.dictionary told begins all closes
  whole-all all same = subst (λ (rs : List Round). MakeAll basis.start.dictionary told begins rs closes) (sym same) course-all

  pub session-ends : (all : List Round) → all ≡ worker ++ last → basis.start ≡ start_of basis.start.dictionary → (asked : ℕ) (memory : Bool) → length worker ≡ asked
      → memory ≡ (not (are_handled contexts (map (λ (e : ContextEnd). e.handled) contexts_then)) || list_any is_no_memory (drop asked all))
      → IsSession basis contexts asked begins.keep.seq (record { journal = journal; contexts = contexts_then; rounds = all; last_from = asked; memory = memory })
  session-ends all same start_is asked memory long wants =
      subst (λ (rs : List Round). IsSession basis contexts asked begins.keep.seq (record { journal = journal; contexts = contexts_then; rounds = rs; last_from = asked; memory = memory })) (sym same)
      (session-of start_is asked memory long
      (subst (λ (rs : List Round). memory ≡ (not (are_handled contexts (map (λ (e : ContextEnd). e.handled) contexts_then)) || list_any is_no_memory (drop asked rs))) same wants))

  pub crash-ends : (all : List Round) → all ≡ worker ++ last → told ≡ true → IsInStep begins.keep begins.disk basis.start.dictionary []
      → crash.IsSession basis.start.dictionary journal begins.disk.moment closes.disk all
  crash-ends all same is step = subst (λ (rs : List Round). crash.IsSession basis.start.dictionary journal begins.disk.moment closes.disk rs) (sym same) (crash-of is step)
