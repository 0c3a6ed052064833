-- What holds at every moment so far, after one more call.
use Rattle.std.specs.Prelude.{◌≡◌, ℕ, ◌<◌, ◌≤◌, List}
use Rattle.std.proofs.Common.{arith, subst}
use native.Mathlib.Decide.{dec_le}
use Rattle.chew_spec_disk.specs.Disk.{DiskState, IsDisk, Later, Passes, last_moment}
use Rattle.chew_spec_disk.specs.Moments.{AlwaysLeft, AlwaysMightLeave, NowLeaves, NowMayLeave}

-- a disk is later than itself
pub later-same : (disk : DiskState) → Later disk disk
later-same disk = record { not_before = omega arith; earlier = λ under moment slot list early. (λ h. h, λ h. h) }

-- a stretch after a stretch
pub later-chain : (first middle last : DiskState) → Later first middle → Later middle last → Later first last
later-chain first middle last p q = record {
  not_before = omega (arith, p.not_before, q.not_before);
  earlier = λ under moment slot list early.
      let here : middle.moment < last_moment = omega (arith, q.not_before) in
      let before = p.earlier here moment slot list early in
      let after = q.earlier under moment slot list (omega (arith, p.not_before)) in
      (λ h. after.0 (before.0 h), λ h. before.1 (after.1 h));
}

-- what holds of the moment now
pub always-here : (disk : DiskState) (P : List ℕ → List ℕ → Type 0) → IsDisk disk → NowLeaves disk P → AlwaysLeft disk.moment disk P
always-here disk P is now = record {
  each = λ under moment zero one from until left other.
      let here : moment ≡ disk.moment = omega arith in
      now zero one
      ((is.this_moment under 0 zero).0 (subst (λ m. disk.might_have_left m 0 zero) here left))
      ((is.this_moment under 1 one).0 (subst (λ m. disk.might_have_left m 1 one) here other));
}

-- what held so far, and holds of the moment now
pub always-more : (from : ℕ) (before after : DiskState) (P : List ℕ → List ℕ → Type 0) → AlwaysLeft from before P → Passes before after → IsDisk after → NowLeaves after P → AlwaysLeft from after P
always-more from before after P had passes is now = record { each = go }
  where
    go : after.moment < last_moment → (moment : ℕ) (zero one : List ℕ) → from ≤ moment → moment ≤ after.moment
        → after.might_have_left moment 0 zero → after.might_have_left moment 1 one → P zero one
    go under moment zero one low high left other = let rises = passes.rises in pick (dec_le moment before.moment)
      where
        pick : Dec (moment ≤ before.moment) → P zero one
        pick (yes early) =
            had.each (let rises = passes.rises in omega arith) moment zero one low early
            ((passes.later.earlier under moment 0 zero early).1 left)
            ((passes.later.earlier under moment 1 one early).1 other)
        pick (no late) =
            let rises = passes.rises in
            let here : moment ≡ after.moment = omega arith in
            now zero one
            ((is.this_moment under 0 zero).0 (subst (λ m. after.might_have_left m 0 zero) here left))
            ((is.this_moment under 1 one).0 (subst (λ m. after.might_have_left m 1 one) here other))

-- a weaker property
pub always-weaker : (from : ℕ) (disk : DiskState) (P Q : List ℕ → List ℕ → Type 0) → AlwaysLeft from disk P → ((zero one : List ℕ) → P zero one → Q zero one) → AlwaysLeft from disk Q
always-weaker from disk P Q had weaker = record {
  each = λ under moment zero one low high left other. weaker zero one (had.each under moment zero one low high left other);
}

-- what a crash might have left at the moment now
pub might-here : (disk : DiskState) (P : List ℕ → List ℕ → Type 0) → IsDisk disk → NowMayLeave disk P → AlwaysMightLeave disk.moment disk.moment disk P
might-here disk P is now = record {
  each = λ under moment from until.
      let here : disk.moment ≡ moment = omega arith in (
        now.0,
        now.1,
        subst (λ (m : ℕ). disk.might_have_left m 0 now.0) here ((is.this_moment under 0 now.0).1 now.2),
        subst (λ (m : ℕ). disk.might_have_left m 1 now.1) here ((is.this_moment under 1 now.1).1 now.3),
        now.4,
      );
}

-- what it might have left so far, after a further call
pub might-later : (from until : ℕ) (before after : DiskState) (P : List ℕ → List ℕ → Type 0) → AlwaysMightLeave from until before P → until ≤ before.moment → Passes before after → AlwaysMightLeave from until after P
might-later from until before after P had within passes = record {
  each = λ under moment low high.
      let rises = passes.rises in
      let pair = had.each (omega arith) moment low high in (
        pair.0,
        pair.1,
        (passes.later.earlier under moment 0 pair.0 (omega arith)).0 pair.2,
        (passes.later.earlier under moment 1 pair.1 (omega arith)).0 pair.3,
        pair.4,
      );
}

-- what it might have left so far, and at the moment now
pub might-more : (from : ℕ) (before after : DiskState) (P : List ℕ → List ℕ → Type 0) → AlwaysMightLeave from before.moment before P → Passes before after → IsDisk after → NowMayLeave after P → AlwaysMightLeave from after.moment after P
might-more from before after P had passes is now = record { each = go }
  where
    go : after.moment < last_moment → (moment : ℕ) → from ≤ moment → moment ≤ after.moment
        → (zero one : List ℕ) × after.might_have_left moment 0 zero × after.might_have_left moment 1 one × P zero one
    go under moment low high = pick (dec_le moment before.moment)
      where
        pick : Dec (moment ≤ before.moment) → (zero one : List ℕ) × after.might_have_left moment 0 zero × after.might_have_left moment 1 one × P zero one
        pick (yes early) = (might-later from before.moment before after P had (omega arith) passes).each under moment low early
        pick (no late) = let rises = passes.rises in (might-here after P is now).each under moment (omega arith) high
