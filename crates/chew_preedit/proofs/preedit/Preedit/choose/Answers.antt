-- The choices are those of the definition.
use Rattle.std.proofs.Common.{◌≡◌, ◌++◌, ◌∷◌, List, ℕ, ap, subst, sym, true, ◌∙◌}
use Rattle.chew_spec_syllable.specs.Phrase.{is_phrase}
use Rattle.chew_spec_phrasing.specs.Usable.{Choice, choice_end}
use Rattle.chew_spec_preedit.specs.Buffer.{Buffer, is_buffer}
use Rattle.chew_spec_preedit.specs.Edit.{choices_before, choices_behind}
use Rattle.chew_spec_preedit.proofs.Marked.{is_buffer-chosen}
use Rattle.chew_preedit.proofs.Marks.{chosen_same, end-chosen, is_choice_of-chosen, room-chosen}
use Rattle.chew_preedit.proofs.Rooms.{is_buffer-same, starts-within_of}
use Rattle.chew_preedit.proofs.preedit.Preedit.choose.Goals as goal

pub with_choice-choices-requires-clause-room : goal.with_choice-choices-requires-clause-room
with_choice-choices-requires-clause-room c =
    room-chosen c.args.self.now c.args.choice _ (c.as_slice.ensures.value ∙ ap (λ (b : Buffer). b.choices) c.self.view_is)
    (is_buffer-same _ _ c.self.view_is c.self.invariant) (is_choice_of-chosen c.args.self.now c.args.choice (subst (λ (text : List ℕ). is_phrase text ≡ true) (c.text-text.ensures.value ∙ ap (λ (v : Choice). v.phrase) c.choice.view_is) c.text-text.ensures.valid) c.requires.freq c.requires.choosable)

pub with_choice-choices-requires-clause-within : goal.with_choice-choices-requires-clause-within
with_choice-choices-requires-clause-within c =
    starts-within_of c.as_slice.result.now c.args.self.now (c.as_slice.ensures.value ∙ ap (λ (b : Buffer). b.choices) c.self.view_is) (is_buffer-same _ _ c.self.view_is c.self.invariant)

pub with_choice-choices-requires-clause-end : goal.with_choice-choices-requires-clause-end
with_choice-choices-requires-clause-end c =
    end-chosen c.args.self.now c.args.choice (is_buffer-same _ _ c.self.view_is c.self.invariant) (is_choice_of-chosen c.args.self.now c.args.choice (subst (λ (text : List ℕ). is_phrase text ≡ true) (c.text-text.ensures.value ∙ ap (λ (v : Choice). v.phrase) c.choice.view_is) c.text-text.ensures.valid) c.requires.freq c.requires.choosable)

pub returns : goal.returns
returns c =
    chosen_same c.args.self.now c.args.choice _ _ _ _ c.self.inside.choices.items _ c.self.view_is
    (c.with_choice-choices.ensures ∙ ap (λ (cs : List Choice). choices_before c.args.choice.start cs ++ (c.args.choice ∷ choices_behind (choice_end c.args.choice) cs)) c.as_slice.ensures.value)

pub invariant_of-self : goal.invariant_of-self
invariant_of-self c =
    subst (λ (b : Buffer). is_buffer b ≡ true) (sym (returns c)) (is_buffer-chosen c.args.self.now c.args.choice (is_buffer-same _ _ c.self.view_is c.self.invariant) (is_choice_of-chosen c.args.self.now c.args.choice (subst (λ (text : List ℕ). is_phrase text ≡ true) (c.text-text.ensures.value ∙ ap (λ (v : Choice). v.phrase) c.choice.view_is) c.text-text.ensures.valid) c.requires.freq c.requires.choosable))
