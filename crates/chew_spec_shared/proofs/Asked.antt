-- What a call of a pass makes of what it has seen.
use Rattle.std.proofs.Common.{◌≡◌, ℕ, ◌+◌, ◌-◌, ◌≤◌, List, [], ◌∷◌, ◌++◌, length, map, refl, ap, ap₂, sym, ◌∙◌, subst, Some, Option, length-append, arith}
use Rattle.chew_spec_dictionary.specs.Call.{Call, Reply}
use Rattle.chew_spec_dictionary.specs.Growth.{IsFront, Made, reply_at}
use Rattle.chew_spec_dictionary.specs.History.{Entry, Point, after, answer, own, replies, start_of}
use Rattle.chew_spec_dictionary.proofs.Growing.{front-over, made-over, made-own, reply-here}
use Rattle.chew_spec_dictionary.proofs.Histories.{own_joined}
use Rattle.chew_spec_dictionary.proofs.Invariants.{replies_counted}
use Rattle.chew_spec_cell.specs.Pass.{Pass}
use Rattle.chew_spec_cell.specs.Sight.{HasSeen}
use Rattle.chew_spec_cell.proofs.Fronts.{nothing_long}
use Rattle.chew_spec_cell.proofs.Sights.{one-own, seen-front, seen-own}
use Rattle.chew_spec_shared.specs.SharedCalls.{Asked}

-- where only others made entries, this number made no call and got no reply
pub others-made : (start : Point) (who : ℕ) (seen between : List Entry) → HasSeen who seen between → Made start seen between who [] []
others-made start who seen between h = record {
  more = h.later;
  joined = h.joined;
  calls = ap (λ (l : List Entry). map (λ (e : Entry). e.call) l) h.none;
  replies = nothing_long (replies (after start seen) h.later who) (
      let c = replies_counted (after start seen) h.later who in
      let n = ap (λ (l : List Entry). length (map (λ (e : Entry). e.call) l)) h.none in
      omega arith);
}

module _ (pass : Pass) (call : Call) (reply : Reply) (seen : List Entry) (asked : Asked pass call reply seen) where
  pub asked-made : Made (start_of pass.cell.start) pass.seen seen pass.who (call ∷ []) (reply ∷ [])
  asked-made =
      let both = made-over (start_of pass.cell.start) pass.seen asked.before (asked.before ++ record { who = pass.who; call = call } ∷ []) pass.who [] (call ∷ []) [] ((answer (after (start_of pass.cell.start) asked.before) call).reply ∷ [])
      (others-made (start_of pass.cell.start) pass.who pass.seen asked.before asked.others)
      (made-own (start_of pass.cell.start) asked.before (record { who = pass.who; call = call })) in
      subst (λ (l : List Entry). Made (start_of pass.cell.start) pass.seen l pass.who (call ∷ []) (reply ∷ [])) (sym asked.made)
      (subst (λ (r : Reply). Made (start_of pass.cell.start) pass.seen (asked.before ++ record { who = pass.who; call = call } ∷ []) pass.who (call ∷ []) (r ∷ [])) (sym asked.answered) both)

  pub asked-own : own seen pass.who ≡ own pass.seen pass.who ++ record { who = pass.who; call = call } ∷ []
  asked-own =
      ap (λ (l : List Entry). own l pass.who) asked.made
      ∙ own_joined asked.before (record { who = pass.who; call = call } ∷ []) pass.who
      ∙ ap₂ (λ (a b : List Entry). a ++ b) (seen-own pass.who pass.seen asked.before asked.others) (one-own (record { who = pass.who; call = call }) pass.who refl)

  pub asked-front : IsFront pass.seen seen
  asked-front = front-over pass.seen asked.before seen (seen-front pass.who pass.seen asked.before asked.others) (record { rest = record { who = pass.who; call = call } ∷ []; joined = asked.made })

  asked-length : length seen ≡ length asked.before + 1
  asked-length = ap (λ (l : List Entry). length l) asked.made ∙ length-append asked.before (record { who = pass.who; call = call } ∷ [])

  pub asked-longer : length pass.seen + 1 ≤ length seen
  asked-longer =
      let l = ap (λ (l : List Entry). length l) asked.others.joined in
      let a = length-append pass.seen asked.others.later in
      let n = asked-length in
      omega arith

  pub asked-last : reply_at (start_of pass.cell.start) seen (length seen - 1) ≡ Some reply
  asked-last =
      let place : length seen - 1 ≡ length asked.before = let n = asked-length in omega arith in
      ap₂ (λ (l : List Entry) (n : ℕ). reply_at (start_of pass.cell.start) l n) asked.made place
      ∙ reply-here (start_of pass.cell.start) asked.before (record { who = pass.who; call = call }) []
      ∙ ap (λ (r : Reply). Some r) (sym asked.answered)
