-- Steps and lines of a generated script, one more in front.
use Rattle.std.specs.Prelude.{◌≡◌, ℕ, zero, suc, ◌+◌, ◌-◌, ◌*◌, ◌^◌, ◌%◌, ◌<◌, List, [], ◌∷◌, ◌++◌, codes, flat_map, Result, Ok, Err, OnOk}
use Rattle.std.proofs.Common.{refl, ap, sym, ◌∙◌, arith}
use Rattle.std.proofs.lemmas.Grind.{flat_map-append}
use Rattle.std.proofs.lemmas.List.{append-nil, append_assoc}
use Rattle.std.proofs.Math.Nat.{mod-add-mod}
use Rattle.chew_spec_text.specs.Line.{with_line_feed}
use Rattle.chew_spec_generator.specs.Generator.{draw_of, draws_from, generated, line_of_draws, line_steps, lines_from, next_number, number_after, step_text}

-- the number behind a number, with the product cut to 64 bits before the sum
pub number_cut : (number : ℕ) → (number * 6_364_136_223_846_793_005 % 2 ^ 64 + 1_442_695_040_888_963_407) % 2 ^ 64 ≡ next_number number
number_cut number = mod-add-mod (number * 6_364_136_223_846_793_005) (2 ^ 64) 1_442_695_040_888_963_407

-- none
pub lines_done : (text : List ℕ) (count number : ℕ) → count ≡ 0 → text ≡ text ++ flat_map with_line_feed (lines_from count number)
unfolding lines_from
lines_done text count number none = sym (ap (λ n. text ++ flat_map with_line_feed (lines_from n number)) none ∙ append-nil text)

pub steps_done : (text : List ℕ) (count number : ℕ) → count ≡ 0 → text ≡ text ++ flat_map step_text (draws_from count number)
unfolding draws_from
steps_done text count number none = sym (ap (λ n. text ++ flat_map step_text (draws_from n number)) none ∙ append-nil text)

pub no_number : (number : ℕ) → number_after 0 number ≡ number
unfolding number_after
no_number number = refl

-- a first part was appended, and then the rest
pub both_appended : {T E : Type 0} (outcome : Result T E) (new middle text first rest all : List ℕ) → OnOk outcome (new ≡ middle ++ rest) → middle ≡ text ++ first
    → first ++ rest ≡ all → OnOk outcome (new ≡ text ++ all)
both_appended (Ok value) new middle text first rest all behind before is =
    behind ∙ ap (λ l. l ++ rest) before ∙ append_assoc text first rest ∙ ap (λ l. text ++ l) is
both_appended (Err fault) new middle text first rest all behind before is = tt

-- the line of Enter ends the script
pub script_ended : (number : ℕ) → flat_map with_line_feed (lines_from 256 number) ++ codes "1:<E>\n" ≡ generated number
unfolding generated
script_ended number = sym (flat_map-append with_line_feed (lines_from 256 number) (codes "1:<E>" ∷ []))

-- one more
pub lines_more : (count number : ℕ) → 0 < count
    → with_line_feed (line_of_draws (draws_from line_steps number)) ++ flat_map with_line_feed (lines_from (count - 1) (number_after line_steps number))
    ≡ flat_map with_line_feed (lines_from count number)
unfolding lines_from
lines_more zero number some = absurd (omega arith)
lines_more (suc n) number some =
    let e : suc n - 1 ≡ n = omega arith in
    ap (λ m. with_line_feed (line_of_draws (draws_from line_steps number)) ++ flat_map with_line_feed (lines_from m (number_after line_steps number))) e

pub steps_more : (count number : ℕ) → 0 < count
    → step_text (draw_of (next_number number)) ++ flat_map step_text (draws_from (count - 1) (next_number number)) ≡ flat_map step_text (draws_from count number)
unfolding draws_from
steps_more zero number some = absurd (omega arith)
steps_more (suc n) number some =
    let e : suc n - 1 ≡ n = omega arith in
    ap (λ m. step_text (draw_of (next_number number)) ++ flat_map step_text (draws_from m (next_number number))) e

pub number_more : (count number : ℕ) → 0 < count → number_after (count - 1) (next_number number) ≡ number_after count number
unfolding number_after
number_more zero number some = absurd (omega arith)
number_more (suc n) number some = let e : suc n - 1 ≡ n = omega arith in ap (λ m. number_after m (next_number number)) e
