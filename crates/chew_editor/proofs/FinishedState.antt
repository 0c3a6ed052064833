-- What the replies make of a pending editor, put together from what each step gives.
use Rattle.std.specs.Prelude.{◌≡◌, ℕ, ◌-◌, min, List, drop, take, length, map, option_and_then, Option}
use Rattle.std.specs.Ordering.{nat_cmp, ord_min}
use Rattle.std.proofs.Common.{refl, ap, ap₂, subst, sym, ◌∙◌, arith}
use Rattle.std.proofs.lemmas.Bool.Decides.{nat_tests}
use Rattle.std.proofs.lemmas.List.{drop-map, length-take, take-map, take_rest}
use Rattle.chew_spec_syllable.specs.Row.{Row}
use Rattle.chew_spec_dictionary.specs.Call.{Call, Reply}
use Rattle.chew_spec_phrasing.specs.Usable.{Piece}
use Rattle.chew_spec_preedit.specs.PlacedRun.{PlacedRun}
use Rattle.chew_spec_preedit.specs.Window.{Window}
use Rattle.chew_spec_text.specs.Line.{Line, Note}
use Rattle.chew_spec_editor.specs.Answers.{AreAnswers}
use Rattle.chew_spec_editor.specs.Editor.{Editor, line_of}
use Rattle.chew_spec_editor.specs.Finish.{finish, note_after, phrased, window_at}
use Rattle.chew_spec_editor.specs.Pending.{Pending, runs_asked}

-- the least of two, as the code has it
pub least : (a b : ℕ) → ord_min nat_cmp a b ≡ min a b
least a b = grind (arith, nat_tests)

-- how many replies there are to changes
pub changed-count : (most n count : ℕ) (changes calls : List Call) → changes ≡ take most calls → n ≡ length calls → count ≡ min most n → length changes ≡ count
changed-count most n count changes calls is same least = omega (arith, ap length is, length-take most calls)

-- the replies to the changes, and those to the look-ups
pub changed-are : {X : Type 0} (f : X → Reply) (replies : List X) (count len : ℕ) → len ≡ count → map f (take count replies) ≡ take len (map f replies)
changed-are f replies count len e = sym (take-map f count replies) ∙ ap (λ n. take n (map f replies)) (sym e)

pub looked-are : {X : Type 0} (f : X → Reply) (replies : List X) (count len : ℕ) → len ≡ count → map f (take (length replies - count) (drop count replies)) ≡ drop len (map f replies)
looked-are f replies count len e = ap (map f) (take_rest replies count) ∙ (sym (drop-map f count replies) ∙ ap (λ n. drop n (map f replies)) (sym e))

-- the editor then
pub finished-editor : (system : List Row) (editor : Editor) (changes : List Call) (commit : List ℕ) (note : Note) (opens : Option ℕ) (replies looked : List Reply)
    (runs : List PlacedRun) (pieces : List Piece) (window : Option Window)
    → runs ≡ runs_asked (record { editor = editor; changes = changes; commit = commit; note = note; opens = opens }) → looked ≡ drop (length changes) replies
    → pieces ≡ phrased system editor.buffer editor.pieces runs looked → window ≡ option_and_then (window_at system editor runs looked) opens
    → record editor { pieces = pieces; window = window } ≡ (finish system (record { editor = editor; changes = changes; commit = commit; note = note; opens = opens }) replies).editor
unfolding finish
finished-editor system editor changes commit note opens replies looked runs pieces window r l p w =
    ap₂ (λ ps o. let e : Editor = record editor { pieces = ps; window = o } in e)
    (p ∙ ap₂ (phrased system editor.buffer editor.pieces) r l)
    (w ∙ ap₂ (λ rs ls. option_and_then (window_at system editor rs ls) opens) r l)

-- and its line
pub finished-line : (system : List Row) (pending : Pending) (after : Editor) (own : Note) (replies : List Reply) (line : Line)
    → after ≡ (finish system pending replies).editor → own ≡ note_after pending.note (take (length pending.changes) replies) → line ≡ line_of after pending.commit own
    → line ≡ (finish system pending replies).line
unfolding finish
finished-line system pending after own replies line e n is = is ∙ ap₂ (λ a m. line_of a pending.commit m) e n

-- its cells stay
pub finished-cells : (system : List Row) (pending : Pending) (replies : List Reply) → (finish system pending replies).editor.buffer ≡ pending.editor.buffer
unfolding finish
finished-cells system pending replies = refl

-- the answers to the calls of a pending editor that is held in another form
pub same-answers : {X : Type 0} (f : X → Reply) (pending held : Pending) (replies own : List X) → held ≡ pending → own ≡ replies → AreAnswers pending (map f replies) → AreAnswers held (map f own)
same-answers f pending held replies own e same h = subst (λ p. AreAnswers p (map f own)) (sym e) (subst (λ rs. AreAnswers pending (map f rs)) (sym same) h)
