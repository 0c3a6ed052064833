-- The orders of a level that begin with a piece of one length more.
use Rattle.std.proofs.Common.{◌≡◌, ℕ, ◌-◌, ◌^◌, ◌<◌, ◌≤◌, List, length, get_or, All, Contains, slice_get, Option, Some, None, sym, ap, ◌∙◌, subst, arith}
use Rattle.std.proofs.lemmas.Option.{slice_get_read}
use Rattle.chew_spec_dictionary.specs.Look.{Interval}
use Rattle.chew_spec_phrasing.specs.Score.{weight}
use Rattle.chew_spec_phrasing.specs.Usable.{Piece}
use Rattle.chew_spec_phrasing.proofs.Membership.{All-from_Contains}
use Rattle.chew_phrasing.specs.Merge.{IsMerged}
use Rattle.chew_phrasing.specs.Table.{Entry, GivesPieces, IsPart, IsSmall, IsTable, all_behind}
use Rattle.chew_phrasing.proofs.Filling.{IsPiecePart, IsSmall-more, part_merged, part_of_level, part_skipped}

module _ (usable : Interval → Option Piece) (fit : GivesPieces usable) (levels : List (List Entry)) (n left len : ℕ) (some : 1 ≤ len) (within : len ≤ left) (inside : left ≤ n) (few : n ≤ 39)
    (whole : length levels ≡ left) (table : IsTable usable n levels) where
  level_at : (level : List Entry) → level ≡ get_or levels (left - len) level → slice_get levels (left - len) ≡ Some level
  level_at level is = slice_get_read levels (length levels) (left - len) level (λ i. length levels) (omega arith) is

  -- the numbers of the shorter orders are small
  pub small_level : (level entries : List Entry) → level ≡ get_or levels (left - len) level → entries ≡ level → All (IsSmall 38) entries
  small_level level entries is same =
      subst (All (IsSmall 38)) (sym same)
      (All-from_Contains (IsSmall 38) level (λ entry i. IsSmall-more (left - len) 38 entry (omega arith) ((table.each (left - len) level (level_at level is)).small entry i)))

  -- behind a piece they are orders that begin with it
  pub part_made : (cells worth freq : ℕ) (piece : Piece) (level entries part : List Entry) → cells ≡ n → Some piece ≡ usable (record { start = cells - left; len = len }) → freq ≡ piece.freq → worth ≡ weight (len, freq)
      → worth < 2 ^ 32 → level ≡ get_or levels (left - len) level → entries ≡ level → part ≡ all_behind len worth 0 entries → IsPiecePart usable levels n left len part
  part_made cells worth freq piece level entries part same is freq_is count low at entries_are made =
      subst (IsPiecePart usable levels n left len) (sym (made ∙ ap (all_behind len worth 0) entries_are))
      (part_of_level usable fit levels n left len worth piece level some within inside few low
      (sym (is ∙ ap (λ k. usable (record { start = k - left; len = len })) same))
      (count ∙ ap (λ f. weight (len, f)) freq_is) (level_at level at) (table.each (left - len) level (level_at level at)))

  -- the longer orders are longer than these
  pub longer_than : (own part : List Entry) (mine yours : Entry) → IsPart usable levels n left len own → IsPiecePart usable levels n left len part → Contains own mine → Contains part yours → yours.len < mine.len
  longer_than own part mine yours h p i k = let l = h.longer mine i in let m = p.as_long yours k in omega arith

  -- where no piece has the length
  pub none_made : (cells : ℕ) (own : List Entry) → cells ≡ n → None ≡ usable (record { start = cells - left; len = len }) → IsPart usable levels n left len own → IsPart usable levels n left (len - 1) own
  none_made cells own same none h =
      part_skipped usable fit levels n left len own some (sym (none ∙ ap (λ k. usable (record { start = k - left; len = len })) same)) h

  -- both made one
  pub both_made : (own part all : List Entry) → IsPart usable levels n left len own → IsPiecePart usable levels n left len part → IsMerged own part all → IsPart usable levels n left (len - 1) all
  both_made own part all h p m = part_merged usable fit levels n left len own part all (omega arith) some h p m
