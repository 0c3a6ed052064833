-- The last rounds, in which nobody but the keeper makes an entry.
use Rattle.std.specs.Prelude.{◌≡◌, ℕ, true, List, [], ◌∷◌, ◌++◌, None, Some, refl}
use Rattle.std.proofs.Common.{inl, inr, sym, ap, ◌∙◌, subst}
use Rattle.chew_spec_dictionary.specs.Dictionary.{Dictionary}
use Rattle.chew_spec_dictionary.specs.Growth.{IsFront}
use Rattle.chew_spec_dictionary.specs.History.{Entry, Point, Shape, after, is_legal, start_of}
use Rattle.chew_spec_dictionary.proofs.Growing.{front-itself, front-over}
use Rattle.chew_spec_dictionary.proofs.Histories.{after_joined}
use Rattle.chew_spec_layers.specs.Need.{Need, Waiting, Fresh, Nothing}
use Rattle.chew_spec_cell.specs.Sight.{HasSeen}
use Rattle.chew_spec_cell.proofs.Sights.{seen-front}
use Rattle.chew_spec_shared.specs.Needs.{IsNeed}
use Rattle.chew_spec_shared.specs.Snapshot.{waiting_after}
use Rattle.chew_spec_rounds.specs.Round.{DiskFault, NoMemory, Round, Saved, SeqSpent}
use Rattle.chew_spec_rounds.proofs.Fronts.{legal-front, legal-rest, none-some}
use Rattle.chew_spec_rounds.proofs.Keepers.{saved-shape}
use Rattle.chew_spec_session.specs.LastRounds.{AreLastRounds, GoesOnAfter, MakesRound, SavesFresh, SavesWaiting}
use Rattle.chew_session.specs.Saving.{Asks, Calls, GoOn, SaveBy, SaveLast, SavesChanges}
use Rattle.chew_session.proofs.Alone.{EndsAlone, alone-between, alone-still}

-- a history whose entries after some are the keeper's alone, which has seen all
record Last (start : Dictionary) (met journal now : List Entry) : Type 0 where
  pub ends : EndsAlone met journal
  pub seen : HasSeen 0 now journal
  pub legal : is_legal (start_of start) journal ≡ true

grown-front : (before more now : List Entry) → now ≡ before ++ more → IsFront before now
grown-front before more now joined = record { rest = more; joined = joined }

calls-front : (round : Round) (before now : List Entry) → Calls round before now → IsFront before now
calls-front round before now calls = grown-front before calls.more now calls.joined

-- a round in which the keeper is alone
lonely-round : (met journal before : List Entry) (round : Round) (now : List Entry) → EndsAlone met journal → IsFront met before → Calls round before now → IsFront now journal → MakesRound before round now
lonely-round met journal before round now ends since calls front = record {
  more = calls.more;
  joined = calls.joined;
  alone = alone-between met journal before calls.more now ends since calls.joined front;
  calls = calls.calls;
}

now-front : (start : Dictionary) (met journal now : List Entry) → Last start met journal now → IsFront now journal
now-front start met journal now last = seen-front 0 now journal last.seen

all-seen : (start : Dictionary) (met journal now : List Entry) → Last start met journal now → IsFront met now → journal ≡ now
all-seen start met journal now last since = alone-still met journal now journal last.ends since last.seen (front-itself journal)

-- nobody made an entry while the keeper asked
asked-same : (start : Dictionary) (met journal before : List Entry) (need : Need) (asked : List Entry) → EndsAlone met journal → IsFront met before → Asks start before need asked → IsFront asked journal → asked ≡ before
asked-same start met journal before need asked ends since asks front = alone-still met journal before asked ends since asks.seen front

-- where nothing waits: one round more, or none
fresh-end : (start : Dictionary) (met journal asked : List Entry) (rounds : List Round) (now : List Entry) → Last start met journal now → IsFront met asked → IsNeed start asked Nothing → rounds ≡ [] → now ≡ asked
    → SavesFresh start asked rounds journal
fresh-end start met journal asked rounds now last since need none same =
    let all = all-seen start met journal now last (subst (λ (h : List Entry). IsFront met h) (sym same) since) in
    subst (λ (rs : List Round). SavesFresh start asked rs journal) (sym none) (need, all ∙ same)

fresh-one : (start : Dictionary) (met journal asked : List Entry) (rounds : List Round) (now : List Entry) → Last start met journal now → IsFront met asked → IsNeed start asked Fresh → SavesChanges Fresh asked rounds now
    → SavesFresh start asked rounds journal
fresh-one start met journal asked rounds now last since need saves =
    let all = all-seen start met journal now last (front-over met asked now since (calls-front saves.0 asked now saves.2)) in
    let made = lonely-round met journal asked saves.0 now last.ends since saves.2 (now-front start met journal now last) in
    subst (λ (rs : List Round). SavesFresh start asked rs journal) (sym saves.1) (need, subst (λ (h : List Entry). MakesRound asked saves.0 h) (sym all) made)

-- nothing waits after a round that was saved
nothing-waits : (start : Dictionary) (before : List Entry) (number : ℕ) (next : List Entry) → is_legal (start_of start) next ≡ true → Calls (Saved number) before next → waiting_after start next ≡ None
nothing-waits start before number next l calls =
    ap (λ (h : List Entry). waiting_after start h) calls.joined ∙ ap (λ (q : Point). q.shape.waiting) (after_joined (start_of start) before calls.more)
    ∙ ap (λ (s : Shape). s.waiting) (saved-shape (after (start_of start) before) calls.more number (legal-rest (start_of start) before calls.more next calls.joined l) calls.calls)

changes-front : (need : Need) (asked : List Entry) (rest : List Round) (now : List Entry) → SavesChanges need asked rest now → IsFront asked now
changes-front Fresh asked rest now saves = calls-front saves.0 asked now saves.2
changes-front Nothing asked rest now saves = subst (λ (h : List Entry). IsFront asked h) (sym saves.1) (front-itself asked)
changes-front Waiting asked rest now saves = subst (λ (h : List Entry). IsFront asked h) (sym saves.1) (front-itself asked)

then-fresh : (start : Dictionary) (met journal : List Entry) (need : Need) (asked : List Entry) (rest : List Round) (now : List Entry) → Last start met journal now → IsFront met asked → waiting_after start asked ≡ None
    → IsNeed start asked need → SavesChanges need asked rest now → SavesFresh start asked rest journal
then-fresh start met journal Fresh asked rest now last since none need saves = fresh-one start met journal asked rest now last since need saves
then-fresh start met journal Nothing asked rest now last since none need saves = fresh-end start met journal asked rest now last since need saves.0 saves.1
then-fresh start met journal Waiting asked rest now last since none need saves = absurd (none-some (sym none ∙ need.1))

-- what follows the round that saves what waited
then-on : (start : Dictionary) (met journal before : List Entry) (round : Round) (next : List Entry) (rest : List Round) (now : List Entry) → Last start met journal now → IsFront met next → IsFront next journal
    → Calls round before next → GoOn start round next rest now → GoesOnAfter start next round rest journal
then-on start met journal before (Saved number) next rest now last since whole calls goes =
    let legal = legal-front (start_of start) next whole.rest journal whole.joined last.legal in
    let none = nothing-waits start before number next legal calls in
    let front = front-over goes.1 now journal (changes-front goes.0 goes.1 rest now goes.3) (now-front start met journal now last) in
    let same = asked-same start met journal next goes.0 goes.1 last.ends since goes.2 front in
    subst (λ (h : List Entry). SavesFresh start h rest journal) same
    (then-fresh start met journal goes.0 goes.1 rest now last (subst (λ (h : List Entry). IsFront met h) (sym same) since)
    (ap (λ (h : List Entry). waiting_after start h) same ∙ none) goes.2.found goes.3)
then-on start met journal before (DiskFault step) next rest now last since whole calls goes =
    (goes.0, all-seen start met journal now last (subst (λ (h : List Entry). IsFront met h) (sym goes.1) since) ∙ goes.1)
then-on start met journal before NoMemory next rest now last since whole calls goes =
    (goes.0, all-seen start met journal now last (subst (λ (h : List Entry). IsFront met h) (sym goes.1) since) ∙ goes.1)
then-on start met journal before (SeqSpent seq) next rest now last since whole calls goes =
    (goes.0, all-seen start met journal now last (subst (λ (h : List Entry). IsFront met h) (sym goes.1) since) ∙ goes.1)

go-on-front : (start : Dictionary) (round : Round) (before : List Entry) (rest : List Round) (now : List Entry) → GoOn start round before rest now → IsFront before now
go-on-front start (Saved number) before rest now goes =
    front-over before goes.1 now (seen-front 0 before goes.1 goes.2.seen) (changes-front goes.0 goes.1 rest now goes.3)
go-on-front start (DiskFault step) before rest now goes = subst (λ (h : List Entry). IsFront before h) (sym goes.1) (front-itself before)
go-on-front start NoMemory before rest now goes = subst (λ (h : List Entry). IsFront before h) (sym goes.1) (front-itself before)
go-on-front start (SeqSpent seq) before rest now goes = subst (λ (h : List Entry). IsFront before h) (sym goes.1) (front-itself before)

save-by-front : (start : Dictionary) (need : Need) (asked : List Entry) (rounds : List Round) (now : List Entry) → SaveBy start need asked rounds now → IsFront asked now
save-by-front start Waiting asked rounds now saves =
    front-over asked saves.2 now (calls-front saves.0 asked saves.2 saves.4) (go-on-front start saves.0 saves.2 saves.1 now saves.5)
save-by-front start Fresh asked rounds now saves = changes-front Fresh asked rounds now saves
save-by-front start Nothing asked rounds now saves = changes-front Nothing asked rounds now saves

by-need : (start : Dictionary) (met journal : List Entry) (need : Need) (asked : List Entry) (rounds : List Round) (now : List Entry) → Last start met journal now → IsFront met asked → IsNeed start asked need
    → SaveBy start need asked rounds now → AreLastRounds start asked rounds journal
by-need start met journal Nothing asked rounds now last since need saves = inr (fresh-end start met journal asked rounds now last since need saves.0 saves.1)
by-need start met journal Fresh asked rounds now last since need saves = inr (fresh-one start met journal asked rounds now last since need saves)
by-need start met journal Waiting asked rounds now last since need saves =
    let next = saves.2 in
    let later = front-over met asked next since (calls-front saves.0 asked next saves.4) in
    let whole = front-over next now journal (go-on-front start saves.0 next saves.1 now saves.5) (now-front start met journal now last) in
    inl (subst (λ (rs : List Round). SavesWaiting start asked rs journal) (sym saves.3) (
      need,
      (
        next,
        lonely-round met journal asked saves.0 next last.ends since saves.4 whole,
        then-on start met journal asked saves.0 next saves.1 now last later whole saves.4 saves.5,
      ),
    ))

pub are-last : (start : Dictionary) (before journal : List Entry) (rounds : List Round) (now : List Entry) → EndsAlone before journal → HasSeen 0 now journal → is_legal (start_of start) journal ≡ true
    → SaveLast start before rounds now → AreLastRounds start before rounds journal
are-last start before journal rounds now ends seen l saves =
    let last : Last start before journal now = record { ends = ends; seen = seen; legal = l } in
    let front = front-over saves.asked now journal (save-by-front start saves.need saves.asked rounds now saves.saves) (seen-front 0 now journal seen) in
    let same = asked-same start before journal before saves.need saves.asked ends (front-itself before) saves.asks front in
    subst (λ (h : List Entry). AreLastRounds start h rounds journal) same
    (by-need start before journal saves.need saves.asked rounds now last (subst (λ (h : List Entry). IsFront before h) (sym same) (front-itself before)) saves.asks.found saves.saves)
