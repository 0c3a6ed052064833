-- Each syllable has a row by itself, so the run has a segmentation.
use Rattle.std.proofs.Common.{◌≡◌, true, All, ◌∙◌, subst}
use Rattle.std.proofs.lemmas.List.{take_all}
use Rattle.chew_spec_dictionary.specs.System.{has_single}
use Rattle.phrasing_speed.proofs.Singles.{can_from_singles}
use Rattle.phrasing_speed.proofs.typing.can_phrase.Goals as goal

pub returns : goal.returns
returns g c = λ t.
    can_from_singles (g.L.Lexicon.rows c.args.system.now) c.args.run.now c.args.user.now c.places-places.ensures.each c.requires
    (subst (All (λ code. has_single (g.L.Lexicon.rows c.args.system.now) code ≡ true))
    (take_all c.loop-syllable.syllable-index c.list-syllable-items.result.now c.loop-syllable-test.false ∙ c.list-syllable-items.ensures.value) c.loop-syllable.invariant)
