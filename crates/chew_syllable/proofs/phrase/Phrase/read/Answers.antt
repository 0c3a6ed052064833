-- By the place where the allowed characters end.
use Rattle.std.proofs.Common.{ap, ◌∙◌, arith}
use Rattle.chew_spec_syllable.specs.Phrase.{is_phrase}
use Rattle.chew_syllable.proofs.PhraseFront.{place_is, refused, accepted, accepted_whole}
use Rattle.chew_syllable.proofs.phrase.Phrase.read.Goals as goal
use Rattle.chew_syllable.proofs.phrase.Phrase.read.Goals.{then-place-eq0-via-then-place-eq0, then-place-eq0-via-else-place-eq0+then-place-text}

pub returns-then-place-eq0-clause-err : goal.returns-then-place-eq0-clause-err
returns-then-place-eq0-clause-err c =
    refused c.args.text.now c.valid_front-front.result.now c.allowed_bytes-place.result c.valid_front-front.ensures c.valid_front-front.utf8 c.allowed_bytes-place.ensures.value
    (λ some whole. elim c.then-place-eq0.branch [
      | then-place-eq0-via-then-place-eq0 w ↦ omega arith
      | then-place-eq0-via-else-place-eq0+then-place-text w ↦ omega arith
    ])

pub returns-then-place-eq0-clause-place : goal.returns-then-place-eq0-clause-place
returns-then-place-eq0-clause-place c =
    place_is c.args.text.now c.valid_front-front.result.now c.allowed_bytes-place.result c.valid_front-front.ensures c.valid_front-front.utf8 c.allowed_bytes-place.ensures.value

pub of-requires : goal.of-requires
of-requires c =
    let yes = accepted c.args.text.now c.valid_front-front.result.now c.allowed_bytes-place.result c.valid_front-front.ensures c.valid_front-front.utf8 c.allowed_bytes-place.ensures.value c.if-place-eq0.false c.if-place-text.false in
    let same = accepted_whole c.args.text.now c.valid_front-front.result.now c.allowed_bytes-place.result c.valid_front-front.ensures c.allowed_bytes-place.ensures.within c.if-place-text.false in
    ap is_phrase same ∙ yes

pub returns-clause-ok : goal.returns-clause-ok
returns-clause-ok c =
    c.of.ensures ∙ accepted_whole c.args.text.now c.valid_front-front.result.now c.allowed_bytes-place.result c.valid_front-front.ensures c.allowed_bytes-place.ensures.within c.if-place-text.false

pub returns-clause-valid : goal.returns-clause-valid
returns-clause-valid c =
    accepted c.args.text.now c.valid_front-front.result.now c.allowed_bytes-place.result c.valid_front-front.ensures c.valid_front-front.utf8 c.allowed_bytes-place.ensures.value c.if-place-eq0.false c.if-place-text.false
