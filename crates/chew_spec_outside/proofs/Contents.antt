-- What is left of a source and what a sink took, over several calls.
use Rattle.std.specs.Prelude.{◌≡◌, ℕ, ◌+◌, ◌<◌, ◌≤◌, List, [], ◌++◌, length, take, drop, Option, Some, None, IfSome, refl}
use Rattle.std.specs.Option.{option_map}
use Rattle.std.proofs.Common.{arith, sym, ◌∙◌, ap, subst, append_assoc, length-append}
use Rattle.std.proofs.lemmas.List.{drop-drop, length-take-le, length-drop, take_at, take_all, drop_all}
use Rattle.std.proofs.Math.Seq.{take-add}
use Rattle.chew_spec_outside.specs.Source.{Loses, Reads, MovesFront, ReadsText, ReadsUpTo}
use Rattle.chew_spec_outside.specs.Sink.{Takes, appended}

-- what is taken after two texts is what is taken after the texts joined
pub appended-twice : (before : Option (List ℕ)) (one other : List ℕ) → appended (appended before one) other ≡ appended before (one ++ other)
appended-twice None one other = refl
appended-twice (Some had) one other = ap Some (append_assoc had one other)

-- a text that was taken up to a place, and then some bytes from there on
pub takes-chain : (before middle after : Option (List ℕ)) (text : List ℕ) (done n : ℕ) → middle ≡ appended before (take done text) → Takes middle after (drop done text) n → after ≡ appended before (take (done + n) text)
takes-chain before middle after text done n had takes =
    takes.taken
    ∙ ap (λ m. appended m (take n (drop done text))) had
    ∙ appended-twice before (take done text) (take n (drop done text))
    ∙ ap (λ t. appended before t) (sym (take-add done n text))

-- the bytes that a read moved are those that stand at the buffer's front
moved-front : (left buffer filled : List ℕ) (n : ℕ) → MovesFront left buffer filled n → take n filled ≡ take n left
moved-front left buffer filled n m =
    ap (λ bytes. take n bytes) m.moved ∙ take_at (take n left) (drop n buffer) n (length-take-le n left m.there)

-- a text that was read from a source that tells what it has left, and then some bytes more
read-more : (left buffer filled text : List ℕ) (n : ℕ) → text ≡ take (length text) left → MovesFront (drop (length text) left) buffer filled n → (length (text ++ take n filled) ≡ length text + n) × (text ++ take n filled ≡ take (length text + n) left)
read-more left buffer filled text n front m =
    let same : take n filled ≡ take n (drop (length text) left) = moved-front _ buffer filled n m in (
      length-append text (take n filled) ∙ ap (λ k. length text + k) (ap length same ∙ length-take-le n _ m.there),
      ap (λ bytes. text ++ bytes) same
          ∙ ap (λ bytes. bytes ++ take n (drop (length text) left)) front
          ∙ sym (take-add (length text) n left),
    )

-- a text that was read, and then some bytes more
pub reads-chain : (before middle after : Option (List ℕ)) (text buffer filled : List ℕ) (n : ℕ) → ReadsText before middle text → Reads middle after buffer filled n → ReadsText before after (text ++ take n filled)
reads-chain None middle after text buffer filled n had reads = record {
  rest = reads.rest ∙ ap (λ o. option_map (drop n) o) had.rest;
  front = tt;
}
reads-chain (Some left) middle after text buffer filled n had reads =
    let moved : MovesFront (drop (length text) left) buffer filled n = subst (λ o. IfSome o (λ l. MovesFront l buffer filled n)) had.rest reads.front in
    let more = read-more left buffer filled text n had.front moved in
    record {
      rest = reads.rest
          ∙ ap (λ o. option_map (drop n) o) had.rest
          ∙ ap Some (drop-drop n (length text) left)
          ∙ ap (λ k. Some (drop k left)) (sym more.0);
      front = more.1 ∙ ap (λ k. take k left) (sym more.0);
    }

-- a text after which a read found the end
pub reads-ended : (before middle after : Option (List ℕ)) (text buffer filled : List ℕ) (most : ℕ) → ReadsText before middle text → Reads middle after buffer filled 0 → 0 < length buffer → length text ≤ most → ReadsUpTo before after text most
reads-ended None middle after text buffer filled most had reads room fits = record {
  fits = fits;
  rest = reads.rest ∙ ap (λ o. option_map (drop 0) o) had.rest;
  front = tt;
}
reads-ended (Some left) middle after text buffer filled most had reads room fits =
    let moved : MovesFront (drop (length text) left) buffer filled 0 = subst (λ o. IfSome o (λ l. MovesFront l buffer filled 0)) had.rest reads.front in
    let end : drop (length text) left ≡ [] = moved.ends refl room in
    let short : length left ≤ length text = omega (arith, length-drop (length text) left, ap length end) in
    let within : length left ≤ most = omega arith in
    record {
      fits = fits;
      rest = reads.rest
          ∙ ap (λ o. option_map (drop 0) o) had.rest
          ∙ ap Some end
          ∙ ap Some (sym (drop_all most left within));
      front = had.front ∙ take_all (length text) left short ∙ sym (take_all most left within);
    }

-- a text that was read, and then some bytes lost
pub reads-lost : (before middle after : Option (List ℕ)) (text : List ℕ) (most limit : ℕ) → ReadsText before middle text → Loses middle after most → length text + most ≤ limit → Loses before after limit
reads-lost None middle after text most limit had lost fits = record {
  count = length text + lost.count;
  within = omega (arith, lost.within);
  rest = lost.rest ∙ ap (λ o. option_map (drop lost.count) o) had.rest;
}
reads-lost (Some left) middle after text most limit had lost fits = record {
  count = length text + lost.count;
  within = omega (arith, lost.within);
  rest = lost.rest
      ∙ ap (λ o. option_map (drop lost.count) o) had.rest
      ∙ ap Some (drop-drop lost.count (length text) left);
}

-- a text that was read is lost
pub reads-gone : (before after : Option (List ℕ)) (text : List ℕ) (limit : ℕ) → ReadsText before after text → length text ≤ limit → Loses before after limit
reads-gone before after text limit had fits = record { count = length text; within = fits; rest = had.rest }
