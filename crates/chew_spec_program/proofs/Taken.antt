-- What the sink took of a session's output.
use Rattle.std.specs.Prelude.{◌≡◌, ℕ, ◌≤◌, Bool, true, false, List, ◌++◌, flat_map, length, map, take}
use Rattle.std.proofs.Common.{refl, ap, sym, subst, ◌∙◌, arith}
use Rattle.std.proofs.lemmas.List.{append_assoc, take-append-le}
use Rattle.std.proofs.lemmas.List.Concat.{flat_map-append}
use Rattle.chew_spec_outside.specs.Faults.{Rose}
use Rattle.chew_spec_outside.specs.Sink.{appended}
use Rattle.chew_spec_dictionary.specs.Growth.{IsFront}
use Rattle.chew_spec_dictionary.specs.History.{Entry}
use Rattle.chew_spec_text.specs.Entry.{entry_text}
use Rattle.chew_spec_text.specs.Line.{Line, line_text}
use Rattle.chew_spec_rounds.specs.Round.{Round}
use Rattle.chew_spec_session.specs.Context.{HandleAll}
use Rattle.chew_spec_program.specs.Opening.{Inputs}
use Rattle.chew_spec_program.specs.Output.{contexts_from, output, rounds_from, traced}
use Rattle.chew_spec_program.specs.Run.{Ended, IsDone}
use Rattle.chew_spec_program.specs.Slots.{Kept}
use Rattle.chew_spec_program.specs.Writing.{Sunk, Writes}
use Rattle.chew_spec_program.proofs.Refused.{calm-taken}

-- the lines of further entries stand behind the output
output-more : (contexts : List (List ℕ)) (rounds : List Round) (entries more : List Entry) → output contexts rounds (entries ++ more) ≡ output contexts rounds entries ++ flat_map entry_text more
output-more contexts rounds entries more =
    let said = contexts_from 1 contexts in
    let told = rounds_from 1 rounds in
    ap (λ (t : List ℕ). said ++ (told ++ t)) (flat_map-append entry_text entries more)
    ∙ ap (λ (t : List ℕ). said ++ t) (sym (append_assoc told (flat_map entry_text entries) (flat_map entry_text more)))
    ∙ sym (append_assoc said (told ++ flat_map entry_text entries) (flat_map entry_text more))

within : (sink : Sunk) (text : List ℕ) (failed : Bool) (writes : Writes sink text failed) → writes.count ≤ length text
within sink text true writes = let cut = writes.cut refl in omega arith
within sink text false writes = let whole = writes.whole refl in omega arith

-- a front of a text is one of a longer one
took-front : (sink : Sunk) (text more whole : List ℕ) (failed : Bool) (writes : Writes sink text failed) → whole ≡ text ++ more → sink.now ≡ appended sink.before (take writes.count whole)
took-front sink text more whole failed writes e =
    writes.took ∙ ap (appended sink.before) (sym (take-append-le writes.count text more (within sink text failed writes)) ∙ ap (take writes.count) (sym e))

module _ (inputs : Inputs) (trace : Bool) (sink : Sunk) (disk : Kept) (ended : Ended) (done : IsDone inputs trace sink disk ended) where
  -- the lines that were handled, told by the end
  handled : HandleAll inputs.basis ended.journal 1 inputs.script.contexts ended.handled done.is_session.history.lines
  handled = subst (λ (e : Ended). HandleAll inputs.basis e.journal 1 inputs.script.contexts e.handled done.is_session.history.lines) (sym done.ends) done.is_session.history.handled

  printed : Writes sink (output (map (flat_map line_text) done.is_session.history.lines) done.session.rounds done.prints.entries) done.failed
  printed = subst (λ (c : List (List ℕ)). Writes sink (output c done.session.rounds done.prints.entries) done.failed) done.is_session.history.printed done.prints.writes

  pub took-some : (lines : List (List Line)) × (count : ℕ) × HandleAll inputs.basis ended.journal 1 inputs.script.contexts ended.handled lines
      × (sink.now ≡ appended sink.before (take count (output (map (flat_map line_text) lines) ended.rounds (traced trace ended.journal))))
  took-some =
      let lines = done.is_session.history.lines in
      let contexts : List (List ℕ) = map (flat_map line_text) lines in
      let whole : output contexts done.session.rounds (traced trace done.session.journal) ≡ output contexts done.session.rounds done.prints.entries ++ flat_map entry_text done.prints.front.rest
      = ap (output contexts done.session.rounds) done.prints.front.joined ∙ output-more contexts done.session.rounds done.prints.entries done.prints.front.rest in
      let front = took-front sink (output contexts done.session.rounds done.prints.entries) (flat_map entry_text done.prints.front.rest)
      (output contexts done.session.rounds (traced trace done.session.journal)) done.failed printed whole in (
        lines,
        printed.count,
        handled,
        subst (λ (e : Ended). sink.now ≡ appended sink.before (take printed.count (output contexts e.rounds (traced trace e.journal)))) (sym done.ends) front,
      )

  pub took-lines : (Rose sink.faults_before sink.faults_now → ⊥) → (lines : List (List Line)) × (entries : List Entry)
      × HandleAll inputs.basis ended.journal 1 inputs.script.contexts ended.handled lines × IsFront entries (traced trace ended.journal)
      × (sink.now ≡ appended sink.before (output (map (flat_map line_text) lines) ended.rounds entries))
  took-lines calm =
      let lines = done.is_session.history.lines in
      let contexts : List (List ℕ) = map (flat_map line_text) lines in (
        lines,
        done.prints.entries,
        handled,
        subst (λ (e : Ended). IsFront done.prints.entries (traced trace e.journal)) (sym done.ends) done.prints.front,
        subst (λ (e : Ended). sink.now ≡ appended sink.before (output contexts e.rounds done.prints.entries)) (sym done.ends)
            (calm-taken sink (output contexts done.session.rounds done.prints.entries) done.failed printed calm),
      )
