-- Texts that begin with what stood there before.
use Rattle.std.proofs.Common.{◌≡◌, ℕ, ◌≤◌, List, ◌++◌, length, take, ap, sym, ◌∙◌, arith}
use Rattle.std.proofs.Math.Seq.{take-append_seam}
use Rattle.std.proofs.lemmas.List.{length-append, take-take}
use Rattle.chew_text.specs.Fronts.{IsFront}

-- what was appended to
pub front_next : (front text more : List ℕ) → text ≡ front ++ more → IsFront front text
front_next front text more e = ap (take (length front)) e ∙ take-append_seam front more

-- what was appended to, before it was appended to again
pub front_more : (front text more whole : List ℕ) → text ≡ front ++ more → IsFront text whole → IsFront front whole
front_more front text more whole e h =
    let short : length front ≤ length text = omega (arith, ap length e, length-append front more) in
    sym (take-take (length front) (length text) whole short) ∙ (ap (take (length front)) h ∙ front_next front text more e)
