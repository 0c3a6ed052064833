-- What status 0 says of a run.
use Rattle.std.specs.Prelude.{◌≡◌, ℕ, Bool, true, false, not, ◌||◌, List, All, IsTrue, drop, flat_map, is_some, length, map, Result, Ok, Err}
use Rattle.std.specs.List.{list_any}
use Rattle.std.proofs.Common.{refl, ap, sym, subst, ◌∙◌, true≢false}
use Rattle.std.proofs.lemmas.Slice.Eq.{bytes_eq-Decides}
use Rattle.chew_spec_outside.specs.Sink.{appended}
use Rattle.chew_spec_dictionary.specs.History.{Entry}
use Rattle.chew_spec_text.specs.Line.{line_text}
use Rattle.chew_spec_rounds.specs.Round.{Round, saved_number}
use Rattle.chew_spec_session.specs.Context.{HandleAll}
use Rattle.chew_spec_session.specs.LastRounds.{is_no_memory}
use Rattle.chew_spec_session.specs.Session.{are_handled}
use Rattle.chew_spec_program.specs.Command.{asks_trace}
use Rattle.chew_spec_program.specs.Opening.{Inputs}
use Rattle.chew_spec_program.specs.Output.{output, traced}
use Rattle.chew_spec_program.specs.Refusal.{Refusal}
use Rattle.chew_spec_program.specs.Run.{Ended, IsDone, IsRun, IsWhole, Outside}
use Rattle.chew_spec_program.specs.Slots.{Kept}
use Rattle.chew_spec_program.specs.Writing.{Sunk, Writes}
use Rattle.chew_spec_program.proofs.Runs.{Ends, refused-status}
use Rattle.chew_spec_program.proofs.Statuses.{calm-saved, done-flags, flags-tell, last_fault, last_spent, refusal-apart}
use Rattle.chew_spec_program.proofs.Writings.{writes-taken}

neither : (a b : Bool) → (a || b) ≡ false → (a ≡ false) × (b ≡ false)
neither true b e = absurd (true≢false e)
neither false b e = (refl, e)

not-not : (a : Bool) → not a ≡ false → a ≡ true
not-not true e = refl
not-not false e = absurd (true≢false e)

-- what a run with status 0 did, by its session
record DidAll (inputs : Inputs) (trace : Bool) (sink : Sunk) (disk : Kept) (ended : Ended) (done : IsDone inputs trace sink disk ended) : Type 0 where
  worked : done.failed ≡ false
  printed : done.cut ≡ false
  handled : map (λ end. end.handled) done.session.contexts ≡ map length inputs.script.contexts
  saved : All (λ (r : Round). IsTrue (is_some (saved_number r))) (drop done.session.last_from done.session.rounds)

did-all : (inputs : Inputs) (trace : Bool) (sink : Sunk) (disk : Kept) (ended : Ended) (done : IsDone inputs trace sink disk ended) → ended.status ≡ 0 → DidAll inputs trace sink disk ended done
did-all inputs trace sink disk ended done e =
    let flags = done-flags inputs trace sink disk ended done in
    let told = (flags-tell done.failed (done.session.memory || done.cut) (last_fault ended) (last_spent ended)).zero (sym flags ∙ e) in
    let memory = neither done.session.memory done.cut told.1 in
    let last : List Round = drop done.session.last_from done.session.rounds in
    let counts : List ℕ = map (λ end. end.handled) done.session.contexts in
    let wanted = neither (not (are_handled inputs.script.contexts counts)) (list_any is_no_memory last) (sym done.is_session.memory ∙ memory.0) in
    record {
      worked = told.0;
      printed = memory.1;
      handled = (bytes_eq-Decides counts (map length inputs.script.contexts)).0 (not-not (are_handled inputs.script.contexts counts) wanted.0);
      saved = calm-saved last wanted.1 (sym (ap (λ (d : Ended). last_fault d) done.ends) ∙ told.2) (sym (ap (λ (d : Ended). last_spent d) done.ends) ∙ told.3);
    }

-- its last rounds were saved, counted from the rounds that the script asks
pub last-saved : (inputs : Inputs) (trace : Bool) (sink : Sunk) (disk : Kept) (ended : Ended) (done : IsDone inputs trace sink disk ended) → ended.status ≡ 0
    → All (λ (r : Round). IsTrue (is_some (saved_number r))) (drop inputs.script.rounds done.session.rounds)
last-saved inputs trace sink disk ended done e =
    subst (λ (n : ℕ). All (λ (r : Round). IsTrue (is_some (saved_number r))) (drop n done.session.rounds)) done.is_session.last_from
    (did-all inputs trace sink disk ended done e).saved

taken-whole : (sink : Sunk) (text : List ℕ) (failed : Bool) → failed ≡ false → Writes sink text failed → sink.now ≡ appended sink.before text
taken-whole sink text failed e writes = writes-taken sink text (subst (Writes sink text) e writes)

pub done-whole : (inputs : Inputs) (trace : Bool) (sink : Sunk) (disk : Kept) (ended : Ended) → IsDone inputs trace sink disk ended → ended.status ≡ 0 → IsWhole inputs trace sink ended
done-whole inputs trace sink disk ended done e =
    let all = did-all inputs trace sink disk ended done e in
    let one = done.is_session.history in
    let text = taken-whole sink (output (map (λ end. end.bytes) done.session.contexts) done.session.rounds done.prints.entries) done.failed all.worked done.prints.writes in
    record {
      lines = one.lines;
      handled = ap (λ (d : Ended). d.handled) done.ends ∙ all.handled;
      contexts = subst (λ (d : Ended). HandleAll inputs.basis d.journal 1 inputs.script.contexts d.handled one.lines) (sym done.ends) one.handled;
      saved = subst (λ (d : Ended). All (λ (r : Round). IsTrue (is_some (saved_number r))) (drop d.last_from d.rounds)) (sym done.ends) all.saved;
      taken = subst (λ (d : Ended). sink.now ≡ appended sink.before (output (map (flat_map line_text) one.lines) d.rounds (traced trace d.journal))) (sym done.ends)
          (text ∙ ap (λ (c : List (List ℕ)). appended sink.before (output c done.session.rounds done.prints.entries)) one.printed
          ∙ ap (λ (es : List Entry). appended sink.before (output (map (flat_map line_text) one.lines) done.session.rounds es)) (done.prints.whole all.printed));
    }

whole-by : (words : List (List ℕ)) (outside : Outside) (ended : Ended) (opened : Result Inputs Refusal) → Ends words outside ended opened → ended.status ≡ 0
    → (inputs : Inputs) × (opened ≡ Ok inputs) × IsWhole inputs (asks_trace words) outside.sink ended
whole-by words outside ended (Ok inputs) done e = (inputs, refl, done-whole inputs (asks_trace words) outside.sink outside.disk ended done e)
whole-by words outside ended (Err refusal) refused e = absurd ((refusal-apart refusal).0 (sym (refused-status refusal outside.sink ended refused.0) ∙ e))

pub zero-whole : (words : List (List ℕ)) (outside : Outside) (ended : Ended) (run : IsRun words outside ended) → ended.status ≡ 0
    → (inputs : Inputs) × (run.opened ≡ Ok inputs) × IsWhole inputs (asks_trace words) outside.sink ended
zero-whole words outside ended run e = whole-by words outside ended run.opened run.ends e
