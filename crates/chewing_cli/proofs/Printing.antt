-- What a sink took of the lines of entries, behind a text or alone.
use Rattle.std.specs.Prelude.{◌≡◌, ℕ, zero, suc, ◌<◌, ◌≤◌, ◌+◌, ◌||◌, List, [], ◌∷◌, ◌++◌, drop, flat_map, length, map, take, Bool, true, false, Option, Some, None}
use Rattle.std.proofs.Common.{refl, ap, ap₂, sym, subst, ◌∙◌, arith, get_or}
use Rattle.std.proofs.lemmas.List.{append_assoc, append-nil, take_all}
use Rattle.chew_spec_dictionary.specs.Growth.{IsFront}
use Rattle.chew_spec_dictionary.specs.History.{Entry}
use Rattle.chew_spec_text.specs.Entry.{entry_text}
use Rattle.chew_spec_outside.specs.Sink.{appended}
use Rattle.chew_spec_session.specs.Session.{Ended}
use Rattle.chew_spec_program.specs.Output.{contexts_from, rounds_from, traced}
use Rattle.chew_spec_program.specs.Run.{Prints, done_status, end_of}
use Rattle.chew_spec_program.specs.Writing.{Sunk, Writes, sunk}
use Rattle.chew_spec_program.proofs.Writings.{writes-ended, writes-joined}
use Rattle.chewing_cli.specs.PrintedLines.{PrintsEntries}

front-itself : {X : Type 0} (xs : List X) → IsFront xs xs
front-itself xs = record { rest = []; joined = sym (append-nil xs) }

-- nothing was written yet
appended-nothing : (before : Option (List ℕ)) → before ≡ appended before []
appended-nothing None = refl
appended-nothing (Some bytes) = ap Some (sym (append-nil bytes))

pub sent_nothing : (taken : Option (List ℕ)) (faults : ℕ) → Writes (sunk taken taken faults faults) [] false
sent_nothing taken faults = record {
  count = 0;
  took = appended-nothing taken;
  whole = λ _. refl;
  worked = λ _. refl;
  cut = λ failed. absurd (cc failed);
  rose = λ failed. absurd (cc failed);
}

-- the sink failed in a text, or took it, and then the lines of entries
pub entries_ended : (sink : Sunk) (text bytes : List ℕ) (entries : List Entry) → bytes ≡ text → Writes sink bytes true → PrintsEntries text entries sink true false
entries_ended sink text bytes entries same writes = record {
  printed = entries;
  front = front-itself entries;
  whole = λ _. refl;
  writes = writes-ended sink text (flat_map entry_text entries) (subst (λ (t : List ℕ). Writes sink t true) same writes);
}

pub entries_behind : (before middle now : Option (List ℕ)) (first second third : ℕ) (text bytes : List ℕ) (entries others : List Entry) (failed cut : Bool)
    → bytes ≡ text → others ≡ entries → Writes (sunk before middle first second) bytes false → PrintsEntries [] others (sunk middle now second third) failed cut
    → PrintsEntries text entries (sunk before now first third) failed cut
entries_behind before middle now first second third text bytes entries others failed cut same also writes prints = record {
  printed = prints.printed;
  front = subst (λ (e : List Entry). IsFront prints.printed e) also prints.front;
  whole = λ uncut. prints.whole uncut ∙ also;
  writes = writes-joined before middle now first second third text (flat_map entry_text prints.printed) failed
      (subst (λ (t : List ℕ). Writes (sunk before middle first second) t false) same writes) prints.writes;
}

-- the same of a session's output
pub prints_ended : (trace : Bool) (session : Ended) (sink : Sunk) (bytes : List ℕ) → bytes ≡ contexts_from 1 (map (λ end. end.bytes) session.contexts) → Writes sink bytes true
    → Prints trace session sink true false
prints_ended trace session sink bytes same writes = record {
  entries = traced trace session.journal;
  front = front-itself (traced trace session.journal);
  whole = λ _. refl;
  writes = writes-ended sink (contexts_from 1 (map (λ end. end.bytes) session.contexts)) (rounds_from 1 session.rounds ++ flat_map entry_text (traced trace session.journal))
      (subst (λ (t : List ℕ). Writes sink t true) same writes);
}

pub prints_behind : (trace : Bool) (session : Ended) (before middle now : Option (List ℕ)) (first second third : ℕ) (bytes : List ℕ) (failed cut : Bool)
    → bytes ≡ contexts_from 1 (map (λ end. end.bytes) session.contexts) → Writes (sunk before middle first second) bytes false
    → PrintsEntries (rounds_from 1 session.rounds) (traced trace session.journal) (sunk middle now second third) failed cut
    → Prints trace session (sunk before now first third) failed cut
prints_behind trace session before middle now first second third bytes failed cut same writes prints = record {
  entries = prints.printed;
  front = prints.front;
  whole = prints.whole;
  writes = writes-joined before middle now first second third (contexts_from 1 (map (λ end. end.bytes) session.contexts))
      (rounds_from 1 session.rounds ++ flat_map entry_text prints.printed) failed (subst (λ (t : List ℕ). Writes (sunk before middle first second) t false) same writes) prints.writes;
}

-- the lines of the first entries, and of one more
lines-more : {X : Type 0} (view : X → Entry) (xs : List X) (place : ℕ) (x : X) → place < length xs → x ≡ get_or xs place x
    → flat_map entry_text (map view (take place xs)) ++ entry_text (view x) ≡ flat_map entry_text (map view (take (suc place) xs))
lines-more view [] place x less is = absurd (omega arith)
lines-more view (y ∷ ys) zero x less is = ap (λ z. entry_text (view z)) is ∙ sym (append-nil (entry_text (view y)))
lines-more view (y ∷ ys) (suc place) x less is =
    append_assoc (entry_text (view y)) (flat_map entry_text (map view (take place ys))) (entry_text (view x))
    ∙ ap (λ (z : List ℕ). entry_text (view y) ++ z) (lines-more view ys place x (omega arith) is)

-- and of the others
lines-split : {X : Type 0} (view : X → Entry) (xs : List X) (place : ℕ)
    → flat_map entry_text (map view (take place xs)) ++ flat_map entry_text (map view (drop place xs)) ≡ flat_map entry_text (map view xs)
lines-split view [] zero = refl
lines-split view [] (suc place) = refl
lines-split view (y ∷ ys) zero = refl
lines-split view (y ∷ ys) (suc place) =
    append_assoc (entry_text (view y)) (flat_map entry_text (map view (take place ys))) (flat_map entry_text (map view (drop place ys)))
    ∙ ap (λ (z : List ℕ). entry_text (view y) ++ z) (lines-split view ys place)

front-taken : {X : Type 0} (view : X → Entry) (xs : List X) (place : ℕ) → map view xs ≡ map view (take place xs) ++ map view (drop place xs)
front-taken view [] zero = refl
front-taken view [] (suc place) = refl
front-taken view (y ∷ ys) zero = refl
front-taken view (y ∷ ys) (suc place) = ap (λ (z : List Entry). view y ∷ z) (front-taken view ys place)

-- one line more was written
pub sent_more : {X : Type 0} (view : X → Entry) (xs : List X) (place : ℕ) (x : X) (before middle now : Option (List ℕ)) (first second third : ℕ) (bytes : List ℕ)
    → place < length xs → x ≡ get_or xs place x → bytes ≡ entry_text (view x)
    → Writes (sunk before middle first second) (flat_map entry_text (map view (take place xs))) false → Writes (sunk middle now second third) bytes false
    → Writes (sunk before now first third) (flat_map entry_text (map view (take (place + 1) xs))) false
sent_more view xs place x before middle now first second third bytes less is same had more =
    let next : suc place ≡ place + 1 = omega arith in
    subst (λ n. Writes (sunk before now first third) (flat_map entry_text (map view (take n xs))) false) next
    (subst (λ (t : List ℕ). Writes (sunk before now first third) t false) (lines-more view xs place x less is)
    (writes-joined before middle now first second third (flat_map entry_text (map view (take place xs))) (entry_text (view x)) false had
    (subst (λ (t : List ℕ). Writes (sunk middle now second third) t false) same more)))

-- all lines were written
pub all_sent : {X : Type 0} (view : X → Entry) (xs : List X) (place : ℕ) (sink : Sunk) → length xs ≤ place
    → Writes sink (flat_map entry_text (map view (take place xs))) false → PrintsEntries [] (map view xs) sink false false
all_sent {X = X} view xs place sink all writes = record {
  printed = map view xs;
  front = front-itself (map view xs);
  whole = λ _. refl;
  writes = subst (λ (z : List X). Writes sink (flat_map entry_text (map view z)) false) (take_all place xs all) writes;
}

-- the sink failed at a line
pub failed_at : {X : Type 0} (view : X → Entry) (xs : List X) (place : ℕ) (x : X) (before middle now : Option (List ℕ)) (first second third : ℕ) (bytes : List ℕ)
    → place < length xs → x ≡ get_or xs place x → bytes ≡ entry_text (view x)
    → Writes (sunk before middle first second) (flat_map entry_text (map view (take place xs))) false → Writes (sunk middle now second third) bytes true
    → PrintsEntries [] (map view xs) (sunk before now first third) true false
failed_at view xs place x before middle now first second third bytes less is same had ended = record {
  printed = map view xs;
  front = front-itself (map view xs);
  whole = λ _. refl;
  writes = subst (λ (t : List ℕ). Writes (sunk before now first third) t true) (lines-split view xs (suc place))
      (writes-ended (sunk before now first third) (flat_map entry_text (map view (take (suc place) xs))) (flat_map entry_text (map view (drop (suc place) xs)))
      (subst (λ (t : List ℕ). Writes (sunk before now first third) t true) (lines-more view xs place x less is)
      (writes-joined before middle now first second third (flat_map entry_text (map view (take place xs))) (entry_text (view x)) true had
      (subst (λ (t : List ℕ). Writes (sunk middle now second third) t true) same ended))));
}

-- memory was wanting for a line
pub cut_at : {X : Type 0} (view : X → Entry) (xs : List X) (place : ℕ) (sink : Sunk) → Writes sink (flat_map entry_text (map view (take place xs))) false
    → PrintsEntries [] (map view xs) sink false true
cut_at view xs place sink writes = record {
  printed = map view (take place xs);
  front = record { rest = map view (drop place xs); joined = front-taken view xs place };
  whole = λ uncut. absurd (cc uncut);
  writes = writes;
}

-- how the run ends
pub same_end : (session : Ended) (failed cut : Bool) (status : ℕ) (handled : List ℕ) → status ≡ done_status failed (session.memory || cut) (drop session.last_from session.rounds)
    → handled ≡ map (λ end. end.handled) session.contexts
    → record { status = status; journal = session.journal; handled = handled; rounds = session.rounds; last_from = session.last_from } ≡ end_of session failed cut
same_end session failed cut status handled e f =
    ap₂ (λ (s : ℕ) (h : List ℕ). record { status = s; journal = session.journal; handled = h; rounds = session.rounds; last_from = session.last_from }) e f
