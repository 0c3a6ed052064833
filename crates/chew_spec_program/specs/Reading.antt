-- What a run reads of a source.
use Rattle.std.specs.Prelude.{◌≡◌, ℕ, ◌+◌, Bool, true, false, List, Option, Some, IfSome, IsNone}
use Rattle.chew_spec_outside.specs.Faults.{Rose}
use Rattle.chew_spec_outside.specs.Source.{ReadsUpTo}

-- a source over a call: what it had left and has left now, where it tells it, and its count of faults before and now
pub record Watched : Type 0 where
  pub left : Option (List ℕ)
  pub left_now : Option (List ℕ)
  pub faults_before : ℕ
  pub faults_now : ℕ

abbrev pub watched : (left left_now : Option (List ℕ)) (faults_before faults_now : ℕ) → Watched
watched left left_now faults_before faults_now =
    record { left = left; left_now = left_now; faults_before = faults_before; faults_now = faults_now }

-- the source gave this text, up to its end or to one byte past the limit; or none, where its count rose
pub record IsRead (source : Watched) (limit : ℕ) (text : Option (List ℕ)) : Type 0 where
  pub gave : IfSome text (λ bytes. ReadsUpTo source.left source.left_now bytes (limit + 1))
  pub worked : IfSome text (λ _. source.faults_now ≡ source.faults_before)
  pub failed : IsNone text → Rose source.faults_before source.faults_now

-- the source is as it was
pub record IsUnread (source : Watched) : Type 0 where
  pub left : source.left_now ≡ source.left
  pub faults : source.faults_now ≡ source.faults_before

-- the source was read where this holds, and else is as it was
pub record IsReadWhere (reads : Bool) (source : Watched) (limit : ℕ) (text : Option (List ℕ)) : Type 0 where
  pub read : reads ≡ true → IsRead source limit text
  pub unread : reads ≡ false → IsUnread source

-- the source tells that this is left, and its count of faults did not rise
pub record IsCalm (source : Watched) (left : List ℕ) : Type 0 where
  pub told : source.left ≡ Some left
  pub calm : Rose source.faults_before source.faults_now → ⊥
