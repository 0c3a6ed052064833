-- The rounds of a session as one list, and what is saved where each of the last ones was.
use Rattle.std.specs.Prelude.{◌≡◌, ℕ, ◌+◌, ◌≤◌, true, List, [], ◌∷◌, ◌++◌, All, IsTrue, cond, drop, is_some, length, map, refl, take, None}
use Rattle.std.proofs.Common.{arith, sym, ap, ap₂, ◌∙◌, subst, ⊎_elim}
use Rattle.std.proofs.lemmas.Bool.{eq-eqb, true≢false}
use Rattle.std.proofs.lemmas.List.{append-nil, append_assoc, length-append, take-append-drop}
use Rattle.std.proofs.lemmas.List.Elements.{All-head, All-tail}
use Rattle.chew_spec_dictionary.specs.Call.{Call, Freeze, Install}
use Rattle.chew_spec_dictionary.specs.Dictionary.{Dictionary}
use Rattle.chew_spec_dictionary.specs.History.{Entry, calls_of, is_legal, own, start_of}
use Rattle.chew_spec_shared.specs.Snapshot.{waiting_after}
use Rattle.chew_spec_rounds.specs.LastRounds.{IsAllSaved}
use Rattle.chew_spec_rounds.specs.Round.{AreKeepersCalls, DiskFault, NoMemory, Round, Saved, SeqSpent, saved_number}
use Rattle.chew_spec_rounds.proofs.LastRounds.{last-round-saves}
use Rattle.chew_spec_rounds.proofs.Writing.{calls-joined}
use Rattle.chew_spec_session.specs.LastRounds.{AreRounds, GoesOnAfter, MakesRound, SavesFresh, SavesWaiting}

-- the calls of rounds, and of those that follow them
pub calls-both : (rounds more : List Round) (calls rest : List Call) → AreKeepersCalls rounds calls → AreKeepersCalls more rest → AreKeepersCalls (rounds ++ more) (calls ++ rest)
calls-both [] more calls rest are behind = subst (λ (cs : List Call). AreKeepersCalls more (cs ++ rest)) (sym are) behind
calls-both (round ∷ rounds) more calls rest are behind =
    (are.0, are.1 ++ rest, ap (λ (cs : List Call). cs ++ rest) are.2 ∙ append_assoc are.0 are.1 rest, are.3, calls-both rounds more are.1 rest are.4 behind)

-- from one history to another the keeper made the calls of these rounds
record Called (before : List Entry) (rounds : List Round) (journal : List Entry) : Type 0 where
  pub more : List Entry
  pub joined : journal ≡ before ++ more
  pub calls : AreKeepersCalls rounds (calls_of more 0)

called-none : (before journal : List Entry) → journal ≡ before → Called before [] journal
called-none before journal same = record { more = []; joined = same ∙ sym (append-nil before); calls = refl }

called-more : (before now journal : List Entry) (round : Round) (rounds : List Round) → MakesRound before round now → Called now rounds journal → Called before (round ∷ rounds) journal
called-more before now journal round rounds made rest = record {
  more = made.more ++ rest.more;
  joined = rest.joined ∙ ap (λ (h : List Entry). h ++ rest.more) made.joined ∙ append_assoc before made.more rest.more;
  calls = (calls_of made.more 0, calls_of rest.more 0, calls-joined made.more rest.more, made.calls, rest.calls);
}

called-fresh : (start : Dictionary) (before : List Entry) (rounds : List Round) (journal : List Entry) → SavesFresh start before rounds journal → Called before rounds journal
called-fresh start before [] journal saves = called-none before journal saves.1
called-fresh start before (round ∷ []) journal saves = called-more before journal journal round [] saves.1 (called-none journal journal refl)
called-fresh start before (round ∷ (next ∷ rounds)) journal saves = absurd saves

called-end : (now : List Entry) (rest : List Round) (journal : List Entry) → rest ≡ [] → journal ≡ now → Called now rest journal
called-end now rest journal none same = subst (λ (rs : List Round). Called now rs journal) (sym none) (called-none now journal same)

called-after : (start : Dictionary) (now : List Entry) (round : Round) (rest : List Round) (journal : List Entry) → GoesOnAfter start now round rest journal → Called now rest journal
called-after start now (Saved number) rest journal goes = called-fresh start now rest journal goes
called-after start now (DiskFault step) rest journal goes = called-end now rest journal goes.0 goes.1
called-after start now NoMemory rest journal goes = called-end now rest journal goes.0 goes.1
called-after start now (SeqSpent seq) rest journal goes = called-end now rest journal goes.0 goes.1

called-waiting : (start : Dictionary) (before : List Entry) (rounds : List Round) (journal : List Entry) → SavesWaiting start before rounds journal → Called before rounds journal
called-waiting start before [] journal saves = absurd saves
called-waiting start before (round ∷ rest) journal saves =
    called-more before saves.1.0 journal round rest saves.1.1 (called-after start saves.1.0 round rest journal saves.1.2)

-- the keeper's calls in the whole history
pub calls-of-rounds : (start : Dictionary) (asked : ℕ) (journal : List Entry) (rounds : List Round) → AreRounds start asked journal rounds → AreKeepersCalls rounds (calls_of journal 0)
calls-of-rounds start asked journal rounds are =
    let last : Called are.before (drop asked rounds) journal =
    ⊎_elim (called-waiting start are.before (drop asked rounds) journal) (called-fresh start are.before (drop asked rounds) journal) are.last in
    let calls : calls_of journal 0 ≡ calls_of are.before 0 ++ calls_of last.more 0 = ap (λ (h : List Entry). calls_of h 0) last.joined ∙ calls-joined are.before last.more in
    subst (λ (rs : List Round). AreKeepersCalls rs (calls_of journal 0)) (take-append-drop asked rounds)
    (subst (λ (cs : List Call). AreKeepersCalls (take asked rounds ++ drop asked rounds) cs) (sym calls)
    (calls-both (take asked rounds) (drop asked rounds) (calls_of are.before 0) (calls_of last.more 0) are.worker last.calls))

-- how many the last rounds are
few-fresh : (start : Dictionary) (before : List Entry) (rounds : List Round) (journal : List Entry) → SavesFresh start before rounds journal → length rounds ≤ 1
few-fresh start before [] journal saves = omega arith
few-fresh start before (round ∷ []) journal saves = omega arith
few-fresh start before (round ∷ (next ∷ rounds)) journal saves = absurd saves

few-end : (rest : List Round) → rest ≡ [] → length rest ≤ 1
few-end rest none = let long = ap length none in omega arith

few-after : (start : Dictionary) (now : List Entry) (round : Round) (rest : List Round) (journal : List Entry) → GoesOnAfter start now round rest journal → length rest ≤ 1
few-after start now (Saved number) rest journal goes = few-fresh start now rest journal goes
few-after start now (DiskFault step) rest journal goes = few-end rest goes.0
few-after start now NoMemory rest journal goes = few-end rest goes.0
few-after start now (SeqSpent seq) rest journal goes = few-end rest goes.0

few-waiting : (start : Dictionary) (before : List Entry) (rounds : List Round) (journal : List Entry) → SavesWaiting start before rounds journal → length rounds ≤ 2
few-waiting start before [] journal saves = absurd saves
few-waiting start before (round ∷ rest) journal saves = let few = few-after start saves.1.0 round rest journal saves.1.2 in omega arith

few-last : (start : Dictionary) (asked : ℕ) (journal : List Entry) (rounds : List Round) → AreRounds start asked journal rounds → length (drop asked rounds) ≤ 2
few-last start asked journal rounds are =
    ⊎_elim (few-waiting start are.before (drop asked rounds) journal)
    (λ saves. let few = few-fresh start are.before (drop asked rounds) journal saves in omega arith) are.last

both-long : (asked : ℕ) (rounds : List Round) → length (take asked rounds) + length (drop asked rounds) ≡ length rounds
both-long asked rounds = sym (length-append (take asked rounds) (drop asked rounds)) ∙ ap length (take-append-drop asked rounds)

pub at-least : (start : Dictionary) (asked : ℕ) (journal : List Entry) (rounds : List Round) → AreRounds start asked journal rounds → asked ≤ length rounds
at-least start asked journal rounds are = let both = both-long asked rounds in let made = are.made in omega arith

pub at-most : (start : Dictionary) (asked : ℕ) (journal : List Entry) (rounds : List Round) → AreRounds start asked journal rounds → length rounds ≤ asked + 2
at-most start asked journal rounds are =
    let both = both-long asked rounds in let made = are.made in let few = few-last start asked journal rounds are in omega arith

-- a stretch of the keeper's entries is made of its calls
keepers : Call → Entry
keepers call = record { who = 0; call = call }

own-first : (e : Entry) (h : List Entry) → e.who ≡ 0 → own (e ∷ h) 0 ≡ e ∷ own h 0
own-first e h is = ap (λ t. cond t (e ∷ own h 0) (own h 0)) (eq-eqb e.who 0 is)

alone-calls : (h : List Entry) → All (λ (e : Entry). e.who ≡ 0) h → h ≡ map keepers (calls_of h 0)
unfolding keepers
alone-calls [] all = refl
alone-calls (e ∷ h) all =
    let is = All-head (λ (d : Entry). d.who ≡ 0) e h all in
    ap₂ (λ (d : Entry) (ds : List Entry). d ∷ ds) (ap (λ who. record { who = who; call = e.call }) is) (alone-calls h (All-tail (λ (d : Entry). d.who ≡ 0) e h all))
    ∙ sym (ap (λ es. map keepers (map (λ (d : Entry). d.call) es)) (own-first e h is))

-- the entries of a saved round in which the keeper was alone
pub saved-entries : (before now : List Entry) (number : ℕ) → MakesRound before (Saved number) now
    → now ≡ before ++ (record { who = 0; call = Freeze } ∷ (record { who = 0; call = Install number } ∷ []))
unfolding keepers
saved-entries before now number made = made.joined ∙ ap (λ (h : List Entry). before ++ h) (alone-calls made.more made.alone ∙ ap (map keepers) made.calls)

-- such a round saves all where nothing waited
saved-round : (start : Dictionary) (before now : List Entry) (number : ℕ) → is_legal (start_of start) now ≡ true → waiting_after start before ≡ None
    → MakesRound before (Saved number) now → IsAllSaved start now
saved-round start before now number l none made =
    let same = saved-entries before now number made in
    subst (λ (h : List Entry). IsAllSaved start h) (sym same) (last-round-saves start before number none (ap (is_legal (start_of start)) (sym same) ∙ l))

-- a round that is saved by the test on it
one-saved : (start : Dictionary) (before now : List Entry) (round : Round) → is_legal (start_of start) now ≡ true → waiting_after start before ≡ None
    → MakesRound before round now → IsTrue (is_some (saved_number round)) → IsAllSaved start now
one-saved start before now (Saved number) l none made is = saved-round start before now number l none made
one-saved start before now (DiskFault step) l none made is = absurd (true≢false (sym is))
one-saved start before now NoMemory l none made is = absurd (true≢false (sym is))
one-saved start before now (SeqSpent seq) l none made is = absurd (true≢false (sym is))

AreSaved : List Round → Type 0
AreSaved rounds = All (λ (r : Round). IsTrue (is_some (saved_number r))) rounds

saved-fresh : (start : Dictionary) (before : List Entry) (rounds : List Round) (journal : List Entry) → is_legal (start_of start) journal ≡ true → AreSaved rounds
    → SavesFresh start before rounds journal → IsAllSaved start journal
unfolding AreSaved
saved-fresh start before [] journal l all saves =
    subst (λ (h : List Entry). IsAllSaved start h) (sym saves.1) (record { nothing_waits = saves.0.0; nothing_fresh = saves.0.1 })
saved-fresh start before (round ∷ []) journal l all saves =
    one-saved start before journal round l saves.0.0 saves.1 (All-head (λ (r : Round). IsTrue (is_some (saved_number r))) round [] all)
saved-fresh start before (round ∷ (next ∷ rounds)) journal l all saves = absurd saves

saved-after : (start : Dictionary) (now : List Entry) (round : Round) (rest : List Round) (journal : List Entry) → is_legal (start_of start) journal ≡ true
    → IsTrue (is_some (saved_number round)) → AreSaved rest → GoesOnAfter start now round rest journal → IsAllSaved start journal
saved-after start now (Saved number) rest journal l is all goes = saved-fresh start now rest journal l all goes
saved-after start now (DiskFault step) rest journal l is all goes = absurd (true≢false (sym is))
saved-after start now NoMemory rest journal l is all goes = absurd (true≢false (sym is))
saved-after start now (SeqSpent seq) rest journal l is all goes = absurd (true≢false (sym is))

saved-waiting : (start : Dictionary) (before : List Entry) (rounds : List Round) (journal : List Entry) → is_legal (start_of start) journal ≡ true → AreSaved rounds
    → SavesWaiting start before rounds journal → IsAllSaved start journal
unfolding AreSaved
saved-waiting start before [] journal l all saves = absurd saves
saved-waiting start before (round ∷ rest) journal l all saves =
    saved-after start saves.1.0 round rest journal l (All-head (λ (r : Round). IsTrue (is_some (saved_number r))) round rest all)
    (All-tail (λ (r : Round). IsTrue (is_some (saved_number r))) round rest all) saves.1.2

pub all-saved : (start : Dictionary) (asked : ℕ) (journal : List Entry) (rounds : List Round) → is_legal (start_of start) journal ≡ true → AreRounds start asked journal rounds
    → All (λ (r : Round). IsTrue (is_some (saved_number r))) (drop asked rounds) → IsAllSaved start journal
unfolding AreSaved
all-saved start asked journal rounds l are all =
    ⊎_elim (saved-waiting start are.before (drop asked rounds) journal l all) (saved-fresh start are.before (drop asked rounds) journal l all) are.last
