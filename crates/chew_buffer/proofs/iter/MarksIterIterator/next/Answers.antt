-- The first of the marks that are left.
use Rattle.std.proofs.Common.{true, ◌∷◌, ap, sym, ◌∙◌}
use Rattle.std.specs.Option.{option_map_or}
use Rattle.std.specs.Str.{bytes_eq}
use Rattle.chew_buffer.specs.Order.{Pair}
use Rattle.chew_buffer.proofs.Ranges.{wanted_first}
use Rattle.chew_buffer.proofs.iter.MarksIterIterator.next.Goals as goal

pub returns-clause-steps : goal.returns-clause-steps
returns-clause-steps c =
    let pair : Pair = record { key = c.pair.inside.key; phrase = c.pair.inside.phrase } in
    sym c.self.view_is
    ∙ wanted_first c.self.inside.ended c.self.inside.only c.self.inside.rest c.next.new.self pair c.in_ok-pair.mark.now
    c.if-self.false
    (c.in_ok-pair.ensures.steps ∙ ap (λ (p : Pair). (p, c.in_ok-pair.mark.now) ∷ c.next.new.self) (sym c.pair.view_is))
    (ap (λ (p : Pair). option_map_or (bytes_eq p.key) c.self.inside.only true) c.pair.view_is ∙ sym c.if-not-is_wanted.ensures)
