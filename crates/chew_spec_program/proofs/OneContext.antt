-- Runs of one context with status 0, over sources and a disk that tell their content and that don't fail.
use Rattle.std.specs.Prelude.{◌≡◌, ℕ, List, [], ◌∷◌, flat_map, length, map, Result, Ok, Err}
use Rattle.std.proofs.Common.{ap, sym, subst, ◌∙◌, ⊎_elim, arith}
use Rattle.std.proofs.lemmas.List.{take_all}
use Rattle.chew_spec_outside.specs.Sink.{appended}
use Rattle.chew_spec_dictionary.specs.History.{Entry, calls_of}
use Rattle.chew_spec_text.specs.KeyStroke.{KeyStroke}
use Rattle.chew_spec_text.specs.Line.{Line, line_text}
use Rattle.chew_spec_session.specs.Context.{Basis, HandleAll, talk_in}
use Rattle.chew_spec_program.specs.Command.{asks_trace}
use Rattle.chew_spec_program.specs.Opening.{Inputs}
use Rattle.chew_spec_program.specs.Output.{output, traced}
use Rattle.chew_spec_program.specs.Reading.{IsCalm}
use Rattle.chew_spec_program.specs.Refusal.{NoMemory, Refusal}
use Rattle.chew_spec_program.specs.Run.{Ended, IsDone, IsRun, IsWhole, Outside}
use Rattle.chew_spec_program.proofs.Handled.{handles-all}
use Rattle.chew_spec_program.proofs.Runs.{Ends}
use Rattle.chew_spec_program.proofs.ToldRuns.{IsQuiet, opened-told, told_opening}
use Rattle.chew_spec_program.proofs.Whole.{zero-whole}

-- what is seen outside of such a run
pub record IsToldRun (words : List (List ℕ)) (outside : Outside) (ended : Ended) (inputs : Inputs) : Type 0 where
  pub run : IsRun words outside ended
  pub zero : ended.status ≡ 0
  pub set : List ℕ
  pub left : List ℕ
  pub keys : List ℕ
  pub settings : IsCalm outside.settings set
  pub system : IsCalm outside.system left
  pub script : IsCalm outside.script keys
  pub disk : IsQuiet outside.disk
  pub gives : told_opening words set left keys outside.disk ≡ Ok inputs

-- it was opened with these inputs
opened-with : (words : List (List ℕ)) (outside : Outside) (ended : Ended) (inputs others : Inputs) (told : IsToldRun words outside ended inputs) → told.run.opened ≡ Ok others → others ≡ inputs
opened-with words outside ended inputs others told e =
    ⊎_elim (λ none. let no : Ok others ≡ (let wanting : Result Inputs Refusal = Err NoMemory in wanting) = sym e ∙ none in absurd (cc no))
    (λ same. let one : Ok others ≡ Ok inputs = sym e ∙ same ∙ told.gives in cc one)
    (opened-told words outside.settings outside.system outside.script outside.disk told.set told.left told.keys told.run.opened told.settings told.system told.script told.disk told.run.opening)

told-whole : (words : List (List ℕ)) (outside : Outside) (ended : Ended) (inputs : Inputs) → IsToldRun words outside ended inputs → IsWhole inputs (asks_trace words) outside.sink ended
told-whole words outside ended inputs told =
    let whole = zero-whole words outside ended told.run told.zero in
    subst (λ (i : Inputs). IsWhole i (asks_trace words) outside.sink ended) (opened-with words outside ended inputs whole.0 told whole.1) whole.2

-- and its session is one over them
pub told-done : (words : List (List ℕ)) (outside : Outside) (ended : Ended) (inputs : Inputs) → IsToldRun words outside ended inputs → IsDone inputs (asks_trace words) outside.sink outside.disk ended
told-done words outside ended inputs told =
    let whole = zero-whole words outside ended told.run told.zero in
    by told.run.opened told.run.ends (whole.1 ∙ ap Ok (opened-with words outside ended inputs whole.0 told whole.1))
  where
    by : (opened : Result Inputs Refusal) → Ends words outside ended opened → opened ≡ Ok inputs → IsDone inputs (asks_trace words) outside.sink outside.disk ended
    by (Ok others) done e = let same : others ≡ inputs = cc e in subst (λ (i : Inputs). IsDone i (asks_trace words) outside.sink outside.disk ended) same done
    by (Err refusal) refused e = absurd (cc e)

-- the lines of one context that handled all of its keys, and its calls
one-context : (basis : Basis) (journal : List Entry) (keys : List KeyStroke) (lines : List (List Line)) → HandleAll basis journal 1 (keys ∷ []) (length keys ∷ []) lines
    → (lines ≡ (talk_in basis journal 1 keys).lines ∷ []) × (calls_of journal 1 ≡ (talk_in basis journal 1 keys).calls)
one-context basis journal keys [] all = absurd all
one-context basis journal keys (text ∷ []) all = (
  ap (λ (l : List Line). l ∷ []) (all.0.talked ∙ ap (λ (k : List KeyStroke). (talk_in basis journal 1 k).lines) (take_all (length keys) keys (omega arith))),
  handles-all basis journal 1 keys text all.0,
)
one-context basis journal keys (text ∷ (other ∷ lines)) all = absurd all.1

-- what the sink took, and the calls
pub told-one : (words : List (List ℕ)) (outside : Outside) (ended : Ended) (basis : Basis) (typed : List KeyStroke) (rounds seq : ℕ)
    → IsToldRun words outside ended (record { basis = basis; script = record { contexts = typed ∷ []; rounds = rounds }; seq = seq })
    → (outside.sink.now ≡ appended outside.sink.before (output (flat_map line_text (talk_in basis ended.journal 1 typed).lines ∷ []) ended.rounds (traced (asks_trace words) ended.journal)))
    × (calls_of ended.journal 1 ≡ (talk_in basis ended.journal 1 typed).calls)
told-one words outside ended basis typed rounds seq told =
    let inputs : Inputs = record { basis = basis; script = record { contexts = typed ∷ []; rounds = rounds }; seq = seq } in
    let whole = told-whole words outside ended inputs told in
    let one = one-context basis ended.journal typed whole.lines
    (subst (λ (counts : List ℕ). HandleAll basis ended.journal 1 (typed ∷ []) counts whole.lines) whole.handled whole.contexts) in
    (whole.taken ∙ ap (λ (l : List (List Line)). appended outside.sink.before (output (map (flat_map line_text) l) ended.rounds (traced (asks_trace words) ended.journal))) one.0, one.1)
