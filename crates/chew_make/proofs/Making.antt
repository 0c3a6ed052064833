-- The keys of a generated script, and what is told of them.
use Rattle.std.specs.Prelude.{◌≡◌, ℕ, List, [], ◌∷◌, length, Result, Ok, Err, IfOk}
use Rattle.std.proofs.Common.{refl, ap, ap₂, sym, inl, inr, ◌∙◌}
use Rattle.std.specs.Global.{Vec}
use Rattle.chew_spec_syllable.specs.Row.{Row, image_cmp}
use Rattle.chew_spec_dictionary.specs.FiveRows.{five_rows}
use Rattle.chew_spec_dictionary.specs.Order.{in_order}
use Rattle.chew_spec_text.specs.KeyStroke.{KeyStroke}
use Rattle.chew_spec_text.specs.Lines.{Fault}
use Rattle.chew_spec_text.specs.Script.{Script, ScriptCause, script_of}
use Rattle.chew_spec_editor.specs.Settings.{Settings, standard_settings}
use Rattle.chew_spec_generator.specs.Generator.{generated, generated_keys}
use Rattle.chew_spec_generator.proofs.Reading.{generated_read}
use Rattle.chew_spec_program.specs.Answer.{Tells}
use Rattle.chew_spec_program.specs.Make.{IsMake, Summary, made_of, make_basis, summary_of, summary_text, typed_over}
use Rattle.chew_spec_program.specs.Refusal as spec
use Rattle.chew_spec_program.specs.Writing.{Sunk}
use Rattle.chew_syllable.specs.declared.memory.NoMemory.{NoMemory}
use Rattle.chew_make.specs.Answers.{answer_of}
use Rattle.chew_make.specs.Counts.{Counted, basis_in, counted}

-- the generated script is what was read
pub script_given : (number : ℕ) (text : List ℕ) (script : Script) → script_of text ≡ Ok script → text ≡ generated number
    → script ≡ record { contexts = generated_keys number ∷ []; rounds = 0 }
script_given number text script read is =
    let wanted : Script = record { contexts = generated_keys number ∷ []; rounds = 0 } in
    let both : Ok script ≡ (let value : Result Script (Fault ScriptCause) = Ok wanted in value) = sym read ∙ ap script_of is ∙ generated_read number in
    cc

-- it has no fault
pub script_sound : (number : ℕ) (text : List ℕ) (fault : Fault ScriptCause) → script_of text ≡ Err fault → text ≡ generated number → ⊥
script_sound number text fault read is =
    let both : Err fault ≡ (let value : Result Script (Fault ScriptCause) = Ok (record { contexts = generated_keys number ∷ []; rounds = 0 }) in value) =
    sym read ∙ ap script_of is ∙ generated_read number in
    absurd cc

-- what was counted is the summary of an editor alone, over the five rows and with the standard settings
pub summary_told : (settings : Settings) (system : List Row) (keys : List KeyStroke) (count told_of : ℕ) (typist : Counted) (summary : Summary)
    → settings ≡ standard_settings → system ≡ in_order image_cmp five_rows → typist ≡ counted (typed_over (basis_in settings system) keys)
    → summary ≡ record {
      steps = 4096;
      keys = told_of;
      commits = typist.commits;
      entries = typist.calls;
      life = typist.point.dictionary.life;
      pairs = length typist.point.dictionary.pairs;
    }
    → told_of ≡ count → summary ≡ summary_of 4096 count (typed_over make_basis keys)
summary_told settings system keys count told_of typist summary standard rows typed told same =
    told
    ∙ ap₂ (λ (n : ℕ) (t : Counted). record {
      steps = 4096;
      keys = n;
      commits = t.commits;
      entries = t.calls;
      life = t.point.dictionary.life;
      pairs = length t.point.dictionary.pairs;
    }) same typed
    ∙ ap₂ (λ (s : Settings) (r : List Row). summary_of 4096 count (typed_over (basis_in s r) keys)) standard rows

-- its lines are those of the number
pub lines_told : (number : ℕ) (text : List ℕ) (summary : Summary) (keys : List KeyStroke) (count : ℕ) → text ≡ summary_text summary
    → summary ≡ summary_of 4096 count (typed_over make_basis keys) → count ≡ length keys → keys ≡ generated_keys number → text ≡ made_of number
unfolding made_of
lines_told number text summary keys count told is counts same =
    told
    ∙ ap summary_text is
    ∙ ap (λ (n : ℕ). summary_text (summary_of 4096 n (typed_over make_basis keys))) counts
    ∙ ap (λ (l : List KeyStroke). summary_text (summary_of 4096 (length l) (typed_over make_basis l))) same

-- the lines were told, or that memory was wanting
pub make_told : (outcome : Result (Vec ℕ) NoMemory) (number : ℕ) (sink : Sunk) (status : ℕ) → IfOk outcome (λ text. text.items ≡ made_of number)
    → Tells (answer_of outcome) sink status → IsMake number sink status
make_told (Ok text) number sink status is tells = record { given = Ok text.items; made = inl (ap Ok is); tells = tells }
make_told (Err refused) number sink status is tells = record { given = Err spec.NoMemory; made = inr refl; tells = tells }
