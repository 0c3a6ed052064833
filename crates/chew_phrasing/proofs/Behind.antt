-- The entries of a level behind a piece, an entry at a time.
use Rattle.std.proofs.Common.{◌≡◌, ℕ, zero, suc, ◌+◌, ◌<◌, ◌≤◌, List, [], ◌∷◌, ◌++◌, length, get_or, drop, append_assoc, sym, ap, ◌∙◌, arith}
use Rattle.std.proofs.lemmas.List.{append-nil, drop_all}
use Rattle.chew_phrasing.specs.Table.{Entry, all_behind, behind}

drop_first : (entries : List Entry) (i : ℕ) (entry : Entry) → i < length entries → entry ≡ get_or entries i entry → drop i entries ≡ entry ∷ drop (suc i) entries
drop_first [] i entry h e = absurd (omega arith)
drop_first (x ∷ entries) zero entry h e = ap (λ y. y ∷ entries) (sym e)
drop_first (x ∷ entries) (suc i) entry h e = drop_first entries i entry (omega arith) e

-- one entry more
pub behind_more : (len weight i : ℕ) (entries all pushed whole : List Entry) (entry : Entry) → i < length entries → entry ≡ get_or entries i entry → pushed ≡ all ++ (behind len weight i entry ∷ [])
    → all ++ all_behind len weight i (drop i entries) ≡ whole → pushed ++ all_behind len weight (i + 1) (drop (i + 1) entries) ≡ whole
behind_more len weight i entries all pushed whole entry h e push is =
    let next : i + 1 ≡ suc i = omega arith in
    ap (λ k. pushed ++ all_behind len weight k (drop k entries)) next
    ∙ ap (λ xs. xs ++ all_behind len weight (suc i) (drop (suc i) entries)) push
    ∙ append_assoc all (behind len weight i entry ∷ []) (all_behind len weight (suc i) (drop (suc i) entries))
    ∙ sym (ap (λ xs. all ++ all_behind len weight i xs) (drop_first entries i entry h e))
    ∙ is

-- all entries
pub behind_all : (len weight i : ℕ) (entries all whole : List Entry) → length entries ≤ i → all ++ all_behind len weight i (drop i entries) ≡ whole → all ≡ whole
behind_all len weight i entries all whole h is =
    sym (append-nil all) ∙ sym (ap (λ xs. all ++ all_behind len weight i xs) (drop_all i entries h)) ∙ is
