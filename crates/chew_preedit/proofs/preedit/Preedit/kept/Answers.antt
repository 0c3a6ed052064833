-- The buffer's breaks and choices fit.
use Rattle.std.proofs.Common.{◌≡◌, ◌≤◌, length, ap, true, ◌∙◌, arith}
use Rattle.chew_spec_preedit.specs.Buffer.{Buffer, is_buffer}
use Rattle.chew_preedit.proofs.Rooms.{few_cells, is_buffer-same, places-within_of, room-breaks_of, room-choices_of, starts-within_of}
use Rattle.chew_preedit.proofs.preedit.Preedit.kept.Goals as goal

pub breaks-requires-clause-room : goal.breaks-requires-clause-room
breaks-requires-clause-room c =
    room-breaks_of c.as_slice.result.now c.args.self.now c.args.splice.from _ (c.as_slice.ensures.value ∙ ap (λ (b : Buffer). b.breaks) c.self.view_is)
    (is_buffer-same _ _ c.self.view_is c.self.invariant) (omega arith)

pub breaks-requires-clause-within : goal.breaks-requires-clause-within
breaks-requires-clause-within c =
    places-within_of c.as_slice.result.now c.args.self.now (c.as_slice.ensures.value ∙ ap (λ (b : Buffer). b.breaks) c.self.view_is)
    (is_buffer-same _ _ c.self.view_is c.self.invariant)

pub breaks-requires-clause-removed : goal.breaks-requires-clause-removed
breaks-requires-clause-removed c =
    let few = few_cells c.args.self.now (is_buffer-same _ _ c.self.view_is c.self.invariant) in omega (arith, c.requires.removed)

pub choices-requires-clause-room : goal.choices-requires-clause-room
choices-requires-clause-room c =
    room-choices_of c.as_slice-2.result.now c.args.self.now c.args.splice.from _ (c.as_slice-2.ensures.value ∙ ap (λ (b : Buffer). b.choices) c.self.view_is)
    (is_buffer-same _ _ c.self.view_is c.self.invariant) (omega arith)

pub choices-requires-clause-within : goal.choices-requires-clause-within
choices-requires-clause-within c =
    starts-within_of c.as_slice-2.result.now c.args.self.now (c.as_slice-2.ensures.value ∙ ap (λ (b : Buffer). b.choices) c.self.view_is)
    (is_buffer-same _ _ c.self.view_is c.self.invariant)

pub choices-requires-clause-removed : goal.choices-requires-clause-removed
choices-requires-clause-removed c =
    let few = few_cells c.args.self.now (is_buffer-same _ _ c.self.view_is c.self.invariant) in omega (arith, c.requires.removed)
