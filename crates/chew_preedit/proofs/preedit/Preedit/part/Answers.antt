-- The breaks and choices are those of the definition.
use Rattle.std.proofs.Common.{◌≡◌, ◌++◌, ◌∷◌, List, ℕ, ap, rules, subst, sym, true, ◌∙◌}
use Rattle.arrayvec.proofs.ArrayVecLemmas.{filter-from_retain}
use Rattle.chew_spec_preedit.specs.Buffer.{Buffer, is_buffer}
use Rattle.chew_spec_preedit.specs.Edit.{breaks_before, breaks_behind}
use Rattle.chew_spec_preedit.proofs.Marked.{is_buffer-broken}
use Rattle.chew_preedit.proofs.Marks.{broken_same, cursor-broken, room-broken}
use Rattle.chew_preedit.proofs.Rooms.{is_buffer-same, places-within_of}
use Rattle.chew_preedit.proofs.preedit.Preedit.part.Goals as goal

pub with_break-breaks-requires-clause-room : goal.with_break-breaks-requires-clause-room
with_break-breaks-requires-clause-room c =
    room-broken c.args.self.now _ _ (c.as_slice.ensures.value ∙ ap (λ (b : Buffer). b.breaks) c.self.view_is) (ap (λ (b : Buffer). b.cursor) c.self.view_is)
    (is_buffer-same _ _ c.self.view_is c.self.invariant) c.requires

pub with_break-breaks-requires-clause-within : goal.with_break-breaks-requires-clause-within
with_break-breaks-requires-clause-within c =
    places-within_of c.as_slice.result.now c.args.self.now (c.as_slice.ensures.value ∙ ap (λ (b : Buffer). b.breaks) c.self.view_is) (is_buffer-same _ _ c.self.view_is c.self.invariant)

pub with_break-breaks-requires-clause-place : goal.with_break-breaks-requires-clause-place
with_break-breaks-requires-clause-place c =
    cursor-broken c.args.self.now _ (ap (λ (b : Buffer). b.cursor) c.self.view_is) (is_buffer-same _ _ c.self.view_is c.self.invariant) c.requires

pub returns : goal.returns
returns c =
    broken_same c.args.self.now _ c.self.inside.cursor _ c.self.inside.breaks.items _ c.self.inside.choices.items _ c.self.view_is
    (c.with_break-breaks.ensures ∙ ap (λ (bs : List ℕ). breaks_before c.self.inside.cursor bs ++ (c.self.inside.cursor ∷ breaks_behind c.self.inside.cursor bs)) c.as_slice.ensures.value)
    (filter-from_retain _ _ _ (λ x b f' y called. search rules) _ _ c.retain.ensures.filtered)

pub invariant_of-self : goal.invariant_of-self
invariant_of-self c =
    subst (λ (b : Buffer). is_buffer b ≡ true) (sym (returns c)) (is_buffer-broken c.args.self.now (is_buffer-same _ _ c.self.view_is c.self.invariant) c.requires)
