-- The lengths of a hit.
use Rattle.std.proofs.Common.{◌≡◌, ◌+◌, ◌≤◌, true, ◌&&◌, length, chars, eqb-true}
use Rattle.std.specs.Prelude.{◌==◌, nat_le}
use Rattle.std.proofs.lemmas.Bool.{and_parts, leb-true}
use Rattle.chew_spec_dictionary.specs.Call.{Hit, is_hit}
use Rattle.chew_spec_syllable.specs.Phrase.{is_phrase}
use Rattle.chew_spec_syllable.specs.Row.{greatest_freq}

-- a hit has 1 to 11 syllables, and as many characters
pub record HasLengths (hit : Hit) : Type 0 where
  pub some : 1 ≤ hit.len
  pub few : hit.len ≤ 11
  pub within : hit.start + hit.len ≤ 39
  pub own : length (chars hit.phrase) ≡ hit.len

pub HasLengths-from_is_hit : (hit : Hit) → is_hit hit ≡ true → HasLengths hit
HasLengths-from_is_hit hit e =
    let all = and_parts (is_phrase hit.phrase) ((length (chars hit.phrase) == hit.len) && (nat_le (hit.start + hit.len) 39 && (nat_le 1 hit.len && (nat_le hit.len 11 && nat_le hit.freq greatest_freq)))) e in
    let own = and_parts (length (chars hit.phrase) == hit.len) (nat_le (hit.start + hit.len) 39 && (nat_le 1 hit.len && (nat_le hit.len 11 && nat_le hit.freq greatest_freq))) all.1 in
    let within = and_parts (nat_le (hit.start + hit.len) 39) (nat_le 1 hit.len && (nat_le hit.len 11 && nat_le hit.freq greatest_freq)) own.1 in
    let some = and_parts (nat_le 1 hit.len) (nat_le hit.len 11 && nat_le hit.freq greatest_freq) within.1 in
    let few = and_parts (nat_le hit.len 11) (nat_le hit.freq greatest_freq) some.1 in
    record {
      some = leb-true 1 hit.len some.0;
      few = leb-true hit.len 11 few.0;
      within = leb-true (hit.start + hit.len) 39 within.0;
      own = eqb-true (length (chars hit.phrase)) hit.len own.0;
    }
