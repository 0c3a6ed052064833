-- The keeper's calls over rounds.
use Rattle.std.specs.Prelude.{◌≡◌, ℕ, suc, ◌+◌, List, [], ◌∷◌, ◌++◌, length, refl}
use Rattle.std.proofs.Common.{arith, sym, ap, ap₂, ◌∙◌, subst}
use Rattle.std.proofs.lemmas.List.{append-nil, append_assoc}
use Rattle.chew_spec_disk.specs.Disk.{DiskState}
use Rattle.chew_spec_dictionary.specs.Call.{Call}
use Rattle.chew_spec_dictionary.specs.Dictionary.{Dictionary}
use Rattle.chew_spec_dictionary.specs.History.{Entry, calls_of}
use Rattle.chew_spec_rounds.specs.Round.{AreKeepersCalls, Round}
use Rattle.chew_spec_rounds.specs.Session.{AreRounds, GrowsByOthers}
use Rattle.chew_spec_rounds.proofs.Writing.{calls-joined}

-- what the keeper has called after rounds from a place on
record CallsOn (before after : List Entry) (rounds : List Round) : Type 0 where
  pub calls : List Call
  pub joined : calls_of after 0 ≡ calls_of before 0 ++ calls
  pub are : AreKeepersCalls rounds calls

calls-on : (start : Dictionary) (seen : ℕ → List Entry) (disks : ℕ → DiskState) (place last : ℕ) (rounds : List Round) → AreRounds start seen disks place rounds → last ≡ place + length rounds
    → CallsOn (seen place) (seen last) rounds
calls-on start seen disks place last [] are end =
    let here : place ≡ last = omega arith in
    subst (λ n. CallsOn (seen place) (seen n) []) here (record { calls = []; joined = sym (append-nil (calls_of (seen place) 0)); are = refl })
calls-on start seen disks place last (round ∷ rounds) are end =
    let rest = calls-on start seen disks (suc place) last rounds are.1 (omega arith) in
    let first = calls_of are.0.more 0 in
    record {
      calls = first ++ rest.calls;
      joined = rest.joined ∙ ap (λ h. calls_of h 0 ++ rest.calls) are.0.joined ∙ ap (λ cs. cs ++ rest.calls) (calls-joined (seen place) are.0.more)
          ∙ append_assoc (calls_of (seen place) 0) first rest.calls;
      are = (first, rest.calls, refl, are.0.calls, rest.are);
    }

pub own-calls : (start : Dictionary) (history : List Entry) (seen : ℕ → List Entry) (disks : ℕ → DiskState) (rounds : List Round) → seen 0 ≡ [] → AreRounds start seen disks 0 rounds
    → GrowsByOthers (seen (length rounds)) history → AreKeepersCalls rounds (calls_of history 0)
own-calls start history seen disks rounds none are grows =
    let all = calls-on start seen disks 0 (length rounds) rounds are (omega arith) in
    let same : calls_of history 0 ≡ all.calls =
    ap (λ h. calls_of h 0) grows.joined ∙ calls-joined (seen (length rounds)) grows.more
    ∙ ap₂ (λ (x y : List Call). x ++ y) (all.joined ∙ ap (λ h. calls_of h 0 ++ all.calls) none) grows.calls ∙ append-nil all.calls in
    subst (λ calls. AreKeepersCalls rounds calls) (sym same) all.are

-- a call is not nothing twice
pub no-calls : (call : Call) (calls first rest : List Call) → call ∷ calls ≡ first ++ rest → first ≡ [] → rest ≡ [] → ⊥
no-calls call calls first rest same none nothing =
    let long = ap length (same ∙ ap₂ (λ (x y : List Call). x ++ y) none nothing) in omega arith
