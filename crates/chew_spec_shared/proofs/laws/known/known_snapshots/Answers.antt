-- Each value computes, but whether a pair is that of the mark.
use Rattle.std.proofs.Common.{◌≡◌, ℕ, Bool, true, false, ◌&&◌, ◌||◌, List, length, cond, bytes_eq, refl, ap, sym, Option, Some, None, is_some, option_map, arith}
use Rattle.std.proofs.lemmas.Bool.{true≢false}
use Rattle.chew_spec_syllable.specs.Row.{Row}
use Rattle.chew_spec_dictionary.specs.Dictionary.{learn, forget}
use Rattle.chew_spec_dictionary.specs.Known.{ce_shi_key, test}
use Rattle.chew_spec_layers.specs.Mark.{Live, Mark, Marked}
use Rattle.chew_spec_layers.specs.Overlay.{overlay}
use Rattle.chew_spec_shared.proofs.laws.known.known_snapshots.Goals as goal

marked_or_not : (b : Bool) (m : Marked) → is_some (option_map (λ (x : Marked). x.mark) (cond b (Some m) None)) ≡ (b && true) || (false || false)
marked_or_not true m = refl
marked_or_not false m = refl

pub returns-clause-freeze : goal.returns-clause-freeze
unfolding learn overlay
returns-clause-freeze c = record {
  waits = refl;
  base = refl;
  pairs = λ key phrase. marked_or_not (bytes_eq ce_shi_key key && bytes_eq test phrase) (record { key = ce_shi_key; phrase = test; mark = Live 9318 0 });
  map = refl;
  life = refl;
}

pub returns-clause-forget : goal.returns-clause-forget
unfolding learn forget overlay
returns-clause-forget c = record {
  waits = refl;
  base = refl;
  pairs = λ key phrase. marked_or_not (bytes_eq ce_shi_key key && bytes_eq test phrase) (record { key = ce_shi_key; phrase = test; mark = Live 9318 0 });
  map = refl;
  life = refl;
}

pub returns-clause-unmarked : goal.returns-clause-unmarked
unfolding learn
returns-clause-unmarked c = λ s. true≢false (sym (s.pairs ce_shi_key test))

pub returns-clause-merge : goal.returns-clause-merge
unfolding learn forget
returns-clause-merge c = record { waits = refl; map = refl }

pub returns-clause-empty : goal.returns-clause-empty
unfolding learn forget
returns-clause-empty c = λ m. let none : 0 ≡ 1 = ap (λ (l : List Row). length l) m.map in omega (arith, none)

pub returns-clause-installed : goal.returns-clause-installed
returns-clause-installed c = λ number m. true≢false (ap (λ (o : Option ℕ). is_some o) (sym m.waits))
