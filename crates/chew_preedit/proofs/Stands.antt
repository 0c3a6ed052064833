-- The numbers of a value that is seen as a buffer.
use Rattle.std.proofs.Common.{◌≡◌, ℕ, ◌<◌, ◌≤◌, true, false, List, length, map, ap, subst, sym, ◌∙◌, arith}
use Rattle.std.specs.Prelude.{nat_le}
use Rattle.std.proofs.lemmas.Bool.{leb-false}
use Rattle.std.proofs.lemmas.List.{length-map}
use Rattle.chew_spec_phrasing.specs.Usable.{Choice}
use Rattle.chew_spec_preedit.specs.Buffer.{Buffer, is_buffer}
use Rattle.chew_spec_preedit.specs.Cell.{Cell}
use Rattle.chew_spec_preedit.specs.Edit.{is_full}
use Rattle.chew_spec_preedit.proofs.IsBuffer.{IsBuffer-from}

pub record Stands (had : Buffer) (limit cursor count : ℕ) : Type 0 where
  pub some : 1 ≤ limit
  pub most : limit ≤ 39
  pub few : count ≤ limit
  pub within : cursor ≤ count
  pub limit_is : limit ≡ had.limit
  pub cursor_is : cursor ≡ had.cursor
  pub count_is : count ≡ length had.cells

pub stands-seen : {I : Type 0} (cell_of : I → Cell) (had : Buffer) (limit cursor : ℕ) (items : List I) (breaks : List ℕ) (choices : List Choice)
    → (let seen : Buffer = record { limit = limit; cells = map cell_of items; cursor = cursor; breaks = breaks; choices = choices } in seen ≡ had)
    → (let seen : Buffer = record { limit = limit; cells = map cell_of items; cursor = cursor; breaks = breaks; choices = choices } in is_buffer seen ≡ true)
    → Stands had limit cursor (length items)
stands-seen cell_of had limit cursor items breaks choices same e =
    let h = IsBuffer-from (record { limit = limit; cells = map cell_of items; cursor = cursor; breaks = breaks; choices = choices }) e in
    let count = length-map items cell_of in
    let few = h.few in
    let within = h.stands in
    record {
      some = h.some;
      most = h.most;
      few = omega arith;
      within = omega arith;
      limit_is = ap (λ (b : Buffer). b.limit) same;
      cursor_is = ap (λ (b : Buffer). b.cursor) same;
      count_is = sym count ∙ ap (λ (b : Buffer). length b.cells) same;
    }

pub room-stands : (had : Buffer) (limit cursor count : ℕ) → Stands had limit cursor count → is_full had ≡ false → count < limit
room-stands had limit cursor count s e =
    let l = leb-false had.limit (length had.cells) e in
    let a = s.limit_is in
    let b = s.count_is in
    omega arith
