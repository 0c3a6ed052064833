-- Fronts of a history that grows, and their numbers.
use Rattle.std.specs.Prelude.{◌≡◌, ℕ, zero, suc, ◌+◌, ◌<◌, ◌≤◌, Bool, true, false, List, [], ◌∷◌, ◌++◌, length, take, Option, Some, None, unwrap_or, refl}
use Rattle.std.specs.List.{slice_get}
use Rattle.std.specs.Option.{option_map}
use Rattle.std.proofs.Common.{arith, inl, inr, sym, ap, ◌∙◌, subst, ⊎_elim}
use Rattle.std.proofs.lemmas.Bool.{and_parts, true≢false}
use Rattle.std.proofs.lemmas.List.{take-append-le}
use native.Mathlib.Decide.{dec_le}
use Rattle.chew_spec_dictionary.specs.Call.{Call, Look, Learn, Forget, Hide, Freeze, Install, Reply, Frozen}
use Rattle.chew_spec_dictionary.specs.Dictionary.{Dictionary}
use Rattle.chew_spec_dictionary.specs.Growth.{reply_at}
use Rattle.chew_spec_dictionary.specs.History.{Entry, Point, after, answer, installs_waiting, is_legal, start_of}
use Rattle.chew_spec_dictionary.proofs.Growing.{reply-first, reply-none}
use Rattle.chew_spec_dictionary.proofs.Histories.{after_joined, legal_joined, place_after}
use Rattle.chew_spec_dictionary.proofs.Invariants.{legal_parts}
use Rattle.chew_spec_dictionary.proofs.Shapes.{installed_most, waiting_between}
use Rattle.chew_spec_rounds.specs.Front.{IsFrozen, IsNumber, checkpoint_at, front_checkpoint, shape_after}
use Rattle.chew_spec_rounds.proofs.Keepers.{named, some-same}

-- a front within a history is that of a longer one
pub front-same : (start : Dictionary) (seen more now : List Entry) (number : ℕ) → now ≡ seen ++ more → number ≤ length seen → front_checkpoint start seen number ≡ front_checkpoint start now number
unfolding front_checkpoint
front-same start seen more now number joined within =
    ap (λ (h : List Entry). checkpoint_at (after (start_of start) h)) (sym (take-append-le number seen more within))
    ∙ ap (λ (h : List Entry). checkpoint_at (after (start_of start) (take number h))) (sym joined)

-- the front of a legal history is legal, and what follows it
pub legal-front : (p : Point) (seen more now : List Entry) → now ≡ seen ++ more → is_legal p now ≡ true → is_legal p seen ≡ true
legal-front p seen more now joined l = (and_parts (is_legal p seen) (is_legal (after p seen) more) (sym (legal_joined p seen more) ∙ ap (is_legal p) (sym joined) ∙ l)).0

pub legal-rest : (p : Point) (seen more now : List Entry) → now ≡ seen ++ more → is_legal p now ≡ true → is_legal (after p seen) more ≡ true
legal-rest p seen more now joined l = (and_parts (is_legal p seen) (is_legal (after p seen) more) (sym (legal_joined p seen more) ∙ ap (is_legal p) (sym joined) ∙ l)).1

-- something is there
abbrev is_there : {A : Type 0} → Option A → Bool
is_there None = false
is_there (Some x) = true

pub none-some : {A : Type 0} {x : A} → None ≡ Some x → ⊥
none-some e = true≢false (sym (ap is_there e))

-- an entry of a front is that of the longer history
entry-first : (h more : List Entry) (place : ℕ) → place < length h → slice_get (h ++ more) place ≡ slice_get h place
entry-first [] more place low = absurd (omega arith)
entry-first (e ∷ h) more zero low = refl
entry-first (e ∷ h) more (suc place) low = entry-first h more place (omega arith)

-- a number of a front is one of the longer history
frozen-grows : (start : Dictionary) (seen more : List Entry) (number : ℕ) → IsFrozen start seen number → IsFrozen start (seen ++ more) number
frozen-grows start seen more number frozen = pick (dec_le (length seen) frozen.place)
  where
    pick : Dec (length seen ≤ frozen.place) → IsFrozen start (seen ++ more) number
    pick (yes behind) = absurd (none-some (sym (reply-none (start_of start) seen frozen.place behind) ∙ frozen.reply))
    pick (no within) = record {
      place = frozen.place;
      freeze = ap (option_map (λ (e : Entry). e.call)) (entry-first seen more frozen.place (omega arith)) ∙ frozen.freeze;
      reply = reply-first (start_of start) seen more frozen.place (omega arith) ∙ frozen.reply;
    }

pub number-grows : (start : Dictionary) (seen more now : List Entry) (number : ℕ) → now ≡ seen ++ more → IsNumber start seen number → IsNumber start now number
number-grows start seen more now number joined is =
    subst (λ h. IsNumber start h number) (sym joined) (⊎_elim (λ first. inl first) (λ frozen. inr (frozen-grows start seen more number frozen)) is)

-- what waits is not above a place
abbrev WaitsUpTo : Option ℕ → ℕ → Type 0
WaitsUpTo waiting place = (number : ℕ) → waiting ≡ Some number → number ≤ place

abbrev frozen-number : Reply → ℕ
frozen-number (Frozen number) = number
frozen-number _ = 0

waits-or : (waiting : Option ℕ) (place : ℕ) → WaitsUpTo waiting place → unwrap_or waiting place ≤ place
waits-or None place up = omega arith
waits-or (Some number) place up = up number refl

waits-on : (p : Point) (call : Call) → WaitsUpTo p.shape.waiting p.place → WaitsUpTo (answer p call).point.shape.waiting (answer p call).point.place
waits-on p (Look run) up number w = let low = up number w in omega arith
waits-on p (Learn key phrase orig peak) up number w = let low = up number w in omega arith
waits-on p (Forget key phrase) up number w = let low = up number w in omega arith
waits-on p (Hide key phrase) up number w = let low = up number w in omega arith
waits-on p Freeze up number w = let low = waits-or p.shape.waiting p.place up in let same = some-same w in omega arith
waits-on p (Install n) up number w = absurd (none-some w)

place-on : (p : Point) (call : Call) → (answer p call).point.place ≡ suc p.place
place-on p (Look run) = refl
place-on p (Learn key phrase orig peak) = refl
place-on p (Forget key phrase) = refl
place-on p (Hide key phrase) = refl
place-on p Freeze = refl
place-on p (Install n) = refl

-- the number of a freeze is not above its place
frozen-within : (p : Point) (h : List Entry) (place number : ℕ) → option_map (λ (e : Entry). e.call) (slice_get h place) ≡ Some Freeze → reply_at p h place ≡ Some (Frozen number)
    → WaitsUpTo p.shape.waiting p.place → number ≤ p.place + length h
frozen-within p [] place number freeze reply up = absurd (none-some freeze)
frozen-within p (e ∷ h) zero number freeze reply up =
    let call : e.call ≡ Freeze = ap (λ o. unwrap_or o e.call) freeze in
    let told : (answer p e.call).reply ≡ Frozen number = ap (λ o. unwrap_or o (answer p e.call).reply) reply in
    let is : unwrap_or p.shape.waiting p.place ≡ number = ap frozen-number (ap (λ c. (answer p c).reply) (sym call) ∙ told) in
    let low = waits-or p.shape.waiting p.place up in
    omega arith
frozen-within p (e ∷ h) (suc place) number freeze reply up =
    let low = frozen-within (answer p e.call).point h place number freeze reply (waits-on p e.call up) in
    let next = place-on p e.call in
    omega arith

-- a number is at most that of a history's entries
pub number-within : (start : Dictionary) (seen : List Entry) (number : ℕ) → IsNumber start seen number → number ≤ length seen
number-within start seen number is =
    ⊎_elim (λ first. omega arith)
    (λ frozen. let low = frozen-within (start_of start) seen frozen.place number frozen.freeze frozen.reply (λ n w. absurd (none-some w)) in omega arith)
    is

-- numbers with a property, of what is installed and of what waits
record Numbered (N : ℕ → Type 0) (p : Point) : Type 0 where
  pub installed : N p.shape.installed
  pub waiting : (number : ℕ) → p.shape.waiting ≡ Some number → N number

numbered-on : (N : ℕ → Type 0) (p : Point) (call : Call) → installs_waiting p call ≡ true → (call ≡ Freeze → N (unwrap_or p.shape.waiting p.place)) → Numbered N p → Numbered N (answer p call).point
numbered-on N p (Look run) w f had = record { installed = had.installed; waiting = had.waiting }
numbered-on N p (Learn key phrase orig peak) w f had = record { installed = had.installed; waiting = had.waiting }
numbered-on N p (Forget key phrase) w f had = record { installed = had.installed; waiting = had.waiting }
numbered-on N p (Hide key phrase) w f had = record { installed = had.installed; waiting = had.waiting }
numbered-on N p Freeze w f had = record { installed = had.installed; waiting = λ number same. subst N (some-same same) (f refl) }
numbered-on N p (Install n) w f had = record { installed = had.waiting n (named p.shape.waiting n w); waiting = λ number same. absurd (none-some same) }

-- what is installed and what waits are numbers of freezes
numbered : (N : ℕ → Type 0) (p : Point) (h : List Entry) → is_legal p h ≡ true → Numbered N p
    → ((place number : ℕ) → option_map (λ (e : Entry). e.call) (slice_get h place) ≡ Some Freeze → reply_at p h place ≡ Some (Frozen number) → N number)
    → Numbered N (after p h)
numbered N p [] l had each = had
numbered N p (e ∷ h) l had each =
    let parts = legal_parts p e h l in
    numbered N (answer p e.call).point h parts.2
    (numbered-on N p e.call parts.1 (λ call. each 0 (unwrap_or p.shape.waiting p.place) (ap Some call) (ap (λ c. Some (answer p c).reply) call)) had)
    (λ place number. each (suc place) number)

from-start : (start : Dictionary) (history : List Entry) → is_legal (start_of start) history ≡ true → Numbered (IsNumber start history) (after (start_of start) history)
from-start start history l = numbered (IsNumber start history) (start_of start) history l
    (record { installed = inl refl; waiting = λ number same. absurd (none-some same) })
    (λ place number freeze reply. inr (record { place = place; freeze = freeze; reply = reply }))

pub installed-number : (start : Dictionary) (history : List Entry) → is_legal (start_of start) history ≡ true → IsNumber start history (shape_after start history).installed
installed-number start history l = (from-start start history l).installed

pub waiting-number : (start : Dictionary) (history : List Entry) (number : ℕ) → is_legal (start_of start) history ≡ true → (shape_after start history).waiting ≡ Some number → IsNumber start history number
waiting-number start history number l w = (from-start start history l).waiting number w

-- numbers and the place are from one on
record IsAbove (low : ℕ) (p : Point) : Type 0 where
  pub place : low ≤ p.place
  pub numbers : Numbered (λ n. low ≤ n) p

above-or : (low : ℕ) (waiting : Option ℕ) (place : ℕ) → low ≤ place → ((number : ℕ) → waiting ≡ Some number → low ≤ number) → low ≤ unwrap_or waiting place
above-or low None place here waits = here
above-or low (Some number) place here waits = waits number refl

above : (low : ℕ) (p : Point) (h : List Entry) → is_legal p h ≡ true → IsAbove low p → IsAbove low (after p h)
above low p [] l had = had
above low p (e ∷ h) l had =
    let parts = legal_parts p e h l in
    above low (answer p e.call).point h parts.2 (record {
      place = let next = place-on p e.call in let here = had.place in omega arith;
      numbers = numbered-on (λ n. low ≤ n) p e.call parts.1 (λ call. above-or low p.shape.waiting p.place had.place had.numbers.waiting) had.numbers;
    })

above-grown : (start : Dictionary) (seen more now : List Entry) → now ≡ seen ++ more → is_legal (start_of start) now ≡ true → IsAbove (shape_after start seen).installed (after (start_of start) now)
above-grown start seen more now joined l =
    let front = legal-front (start_of start) seen more now joined l in
    subst (λ q. IsAbove (shape_after start seen).installed q) (sym (after_joined (start_of start) seen more) ∙ ap (after (start_of start)) (sym joined))
    (above (shape_after start seen).installed (after (start_of start) seen) more (legal-rest (start_of start) seen more now joined l) (record {
      place = let most = installed_most start seen front in let here = place_after (start_of start) seen in omega arith;
      numbers = record { installed = omega arith; waiting = λ number w. (waiting_between start seen number front w).0 };
    }))

-- what is installed never falls, and what waits is not below it
pub installed-rises : (start : Dictionary) (seen more now : List Entry) → now ≡ seen ++ more → is_legal (start_of start) now ≡ true → (shape_after start seen).installed ≤ (shape_after start now).installed
installed-rises start seen more now joined l = (above-grown start seen more now joined l).numbers.installed

pub waiting-rises : (start : Dictionary) (seen more now : List Entry) (number : ℕ) → now ≡ seen ++ more → is_legal (start_of start) now ≡ true → (shape_after start now).waiting ≡ Some number
    → (shape_after start seen).installed ≤ number
waiting-rises start seen more now number joined l w = (above-grown start seen more now joined l).numbers.waiting number w
