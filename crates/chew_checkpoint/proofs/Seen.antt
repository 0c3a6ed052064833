-- What a keeper has seen after its calls.
use Rattle.std.specs.Prelude.{◌≡◌, ℕ, List, [], ◌∷◌, ◌++◌, map, refl}
use Rattle.std.proofs.Common.{append_assoc, ap, ap₂, sym, ◌∙◌, subst}
use Rattle.chew_spec_dictionary.specs.Call.{Call, Reply}
use Rattle.chew_spec_dictionary.specs.History.{Entry, calls_of, own}
use Rattle.chew_spec_cell.specs.Pass.{Pass}
use Rattle.chew_spec_cell.specs.Sight.{HasSeen}
use Rattle.chew_spec_shared.specs.SharedCalls.{Asked}
use Rattle.chew_spec_rounds.proofs.Writing.{calls-joined}

-- a history that grew, and the keeper's calls in what was added
pub record Grew (seen now : List Entry) (calls : List Call) : Type 0 where
  pub more : List Entry
  pub joined : now ≡ seen ++ more
  pub made : calls_of more 0 ≡ calls

pub grew-by-others : (who : ℕ) (seen now : List Entry) → who ≡ 0 → HasSeen who seen now → Grew seen now []
grew-by-others who seen now keeper has = record {
  more = has.later;
  joined = has.joined;
  made = ap (map (λ (e : Entry). e.call)) (subst (λ (w : ℕ). own has.later w ≡ []) keeper has.none);
}

-- by a call of its own
pub grew-by-call : (pass : Pass) (call : Call) (reply : Reply) (now : List Entry) → pass.who ≡ 0 → Asked pass call reply now → Grew pass.seen now (call ∷ [])
grew-by-call pass call reply now keeper asked =
    let e : Entry = record { who = pass.who; call = call } in
    let others = grew-by-others pass.who pass.seen asked.before keeper asked.others in
    record {
      more = others.more ++ e ∷ [];
      joined = asked.made ∙ ap (λ (l : List Entry). l ++ e ∷ []) others.joined ∙ append_assoc pass.seen others.more (e ∷ []);
      made = calls-joined others.more (e ∷ []) ∙ ap₂ (λ (x y : List Call). x ++ y) others.made
          (subst (λ (w : ℕ). calls_of (record { who = w; call = call } ∷ []) 0 ≡ call ∷ []) (sym keeper) refl);
    }

-- and by another one after it
pub grew-twice : (seen frozen now : List Entry) (first second : List Call) → Grew seen frozen first → Grew frozen now second → Grew seen now (first ++ second)
grew-twice seen frozen now first second one two = record {
  more = one.more ++ two.more;
  joined = two.joined ∙ ap (λ (l : List Entry). l ++ two.more) one.joined ∙ append_assoc seen one.more two.more;
  made = calls-joined one.more two.more ∙ ap₂ (λ (x y : List Call). x ++ y) one.made two.made;
}
