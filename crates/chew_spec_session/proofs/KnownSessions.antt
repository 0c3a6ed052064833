-- Known sessions, and what comes near one and is none.
use Rattle.std.specs.Prelude.{◌≡◌, ℕ, true, List, [], ◌∷◌, All, length, refl}
use Rattle.std.proofs.Common.{arith, inl, inr, sym, ap, ◌∙◌, subst, ⊎_elim}
use Rattle.std.proofs.lemmas.Bool.{true≢false}
use Rattle.std.proofs.lemmas.List.{append_cancel_right}
use Rattle.std.proofs.lemmas.List.Elements.{All-cons, All-nil}
use lib.Utf8.{encode}
use Rattle.chew_spec_dictionary.specs.Call.{Call, Freeze, Install}
use Rattle.chew_spec_dictionary.specs.Dictionary.{Dictionary, learn}
use Rattle.chew_spec_dictionary.specs.History.{Entry, start_of}
use Rattle.chew_spec_image.specs.Sample.{one_row}
use Rattle.chew_spec_layers.specs.Need.{Fresh, Waiting}
use Rattle.chew_spec_layers.specs.Touches.{touched}
use Rattle.chew_spec_shared.specs.Needs.{IsNeed, NoneTouched, SomeTouched}
use Rattle.chew_spec_shared.specs.Snapshot.{waiting_after}
use Rattle.chew_spec_rounds.specs.Known.{by_keeper, failed_once, learns, learnt_between, looks, nothing}
use Rattle.chew_spec_rounds.specs.Round.{DiskFault, NoMemory, Round, Saved, SeqSpent}
use Rattle.chew_spec_rounds.proofs.Fronts.{none-some}
use Rattle.chew_spec_rounds.proofs.KnownNumbers.{learn-touches}
use Rattle.chew_spec_session.specs.LastRounds.{AreRounds, MakesRound}
use Rattle.chew_spec_session.proofs.LastRounds.{saved-entries}

-- entries of the keeper alone
by-keeper-alone : (call : Call) (rest : List Entry) → All (λ (e : Entry). e.who ≡ 0) rest → All (λ (e : Entry). e.who ≡ 0) (by_keeper call ∷ rest)
by-keeper-alone call rest all = All-cons (λ (e : Entry). e.who ≡ 0) (by_keeper call) rest refl all

freeze-alone : All (λ (e : Entry). e.who ≡ 0) (by_keeper Freeze ∷ [])
freeze-alone = by-keeper-alone Freeze [] (All-nil (λ (e : Entry). e.who ≡ 0))

install-alone : (number : ℕ) → All (λ (e : Entry). e.who ≡ 0) (by_keeper Freeze ∷ (by_keeper (Install number) ∷ []))
install-alone number = by-keeper-alone Freeze (by_keeper (Install number) ∷ []) (by-keeper-alone (Install number) [] (All-nil (λ (e : Entry). e.who ≡ 0)))

-- a learn that was not saved
learn-needs : IsNeed nothing (learns ∷ []) Fresh
learn-needs = (refl, (one_row.key, one_row.phrase, learn-touches))

-- one that came after a freeze, and before the install
abbrev up_to_install : List Entry
up_to_install = looks ∷ (looks ∷ (by_keeper Freeze ∷ (learns ∷ (by_keeper (Install 2) ∷ []))))

between-touches : touched (start_of nothing) up_to_install 2 5 one_row.key one_row.phrase ≡ true
unfolding learn encode
between-touches = refl

pub one-round : AreRounds nothing 0 (learns ∷ (by_keeper Freeze ∷ (by_keeper (Install 1) ∷ []))) (Saved 1 ∷ [])
one-round = record {
  before = learns ∷ [];
  made = refl;
  worker = refl;
  last = inr (learn-needs, record { more = by_keeper Freeze ∷ (by_keeper (Install 1) ∷ []); joined = refl; alone = install-alone 1; calls = refl });
}

pub round-between : AreRounds nothing 1 learnt_between (Saved 2 ∷ (Saved 5 ∷ []))
round-between = record {
  before = up_to_install;
  made = refl;
  worker = (Freeze ∷ (Install 2 ∷ []), [], refl, refl, refl);
  last = inr (
    (refl, (one_row.key, one_row.phrase, between-touches)),
    record { more = by_keeper Freeze ∷ (by_keeper (Install 5) ∷ []); joined = refl; alone = install-alone 5; calls = refl },
  );
}

pub round-failed : AreRounds nothing 0 (learns ∷ (by_keeper Freeze ∷ [])) (DiskFault 1 ∷ [])
round-failed = record {
  before = learns ∷ [];
  made = refl;
  worker = refl;
  last = inr (learn-needs, record { more = by_keeper Freeze ∷ []; joined = refl; alone = freeze-alone; calls = refl });
}

pub round-waits : AreRounds nothing 1 failed_once (DiskFault 1 ∷ (DiskFault 6 ∷ []))
round-waits = record {
  before = learns ∷ (by_keeper Freeze ∷ (learns ∷ []));
  made = refl;
  worker = (Freeze ∷ [], [], refl, refl, refl);
  last = inl (
    (1, refl),
    (failed_once, record { more = by_keeper Freeze ∷ []; joined = refl; alone = freeze-alone; calls = refl }, (refl, refl)),
  );
}

-- a last round that is left out
pub left-out : AreRounds nothing 0 (learns ∷ []) [] → ⊥
left-out are =
    ⊎_elim (λ waiting. waiting)
    (λ none. true≢false (sym learn-touches ∙ subst (λ (h : List Entry). NoneTouched nothing h) (sym none.1) none.0.1 one_row.key one_row.phrase)) are.last

pub still-waits : AreRounds nothing 1 (learns ∷ (by_keeper Freeze ∷ [])) (DiskFault 1 ∷ []) → ⊥
still-waits are =
    ⊎_elim (λ waiting. waiting) (λ none. none-some (sym (ap (λ (h : List Entry). waiting_after nothing h) none.1 ∙ none.0.0))) are.last

-- one that is needless
abbrev needless-journal : List Entry
needless-journal = looks ∷ (by_keeper Freeze ∷ (by_keeper (Install 1) ∷ []))

before-it : (before now : List Entry) → MakesRound before (Saved 1) now → needless-journal ≡ now → before ≡ looks ∷ []
before-it before now made same =
    append_cancel_right before (looks ∷ []) (by_keeper Freeze ∷ (by_keeper (Install 1) ∷ [])) (sym (saved-entries before now 1 made) ∙ sym same)

nothing-waits : (before : List Entry) → before ≡ looks ∷ [] → IsNeed nothing before Waiting → ⊥
nothing-waits before is need = none-some (sym (ap (λ (h : List Entry). waiting_after nothing h) is) ∙ need.1)

nothing-touched : (before : List Entry) → before ≡ looks ∷ [] → SomeTouched nothing before → ⊥
nothing-touched before is some =
    let here : SomeTouched nothing (looks ∷ []) = subst (λ (h : List Entry). SomeTouched nothing h) is some in
    true≢false (sym here.2)

pub needless : AreRounds nothing 0 needless-journal (Saved 1 ∷ []) → ⊥
needless are =
    ⊎_elim
    (λ waiting. nothing-waits are.before (before-it are.before waiting.1.0 waiting.1.1 waiting.1.2.1) waiting.0)
    (λ fresh. nothing-touched are.before (before-it are.before needless-journal fresh.1 refl) fresh.0.1) are.last

-- one after another that was not saved
no-list : {X : Type 0} (x : X) (xs : List X) → x ∷ xs ≡ [] → ⊥
no-list x xs same = let long = ap length same in omega arith

pub after-fault : (start : Dictionary) (journal : List Entry) (round : Round) (step : ℕ) → AreRounds start 0 journal (DiskFault step ∷ (round ∷ [])) → ⊥
after-fault start journal round step are = ⊎_elim (λ waiting. no-list round [] waiting.1.2.0) (λ fresh. fresh) are.last

pub after-no-memory : (start : Dictionary) (journal : List Entry) (round : Round) → AreRounds start 0 journal (NoMemory ∷ (round ∷ [])) → ⊥
after-no-memory start journal round are = ⊎_elim (λ waiting. no-list round [] waiting.1.2.0) (λ fresh. fresh) are.last

pub after-spent : (start : Dictionary) (journal : List Entry) (round : Round) (seq : ℕ) → AreRounds start 0 journal (SeqSpent seq ∷ (round ∷ [])) → ⊥
after-spent start journal round seq are = ⊎_elim (λ waiting. no-list round [] waiting.1.2.0) (λ fresh. fresh) are.last
