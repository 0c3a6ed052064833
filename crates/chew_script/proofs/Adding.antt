-- Keys that are added to a context, and what that makes of a script.
use Rattle.std.proofs.Common.{◌≡◌, ℕ, zero, suc, ◌+◌, ◌-◌, ◌<◌, ◌≤◌, List, [], ◌∷◌, ◌++◌, length, get_or, set, Option, Some, None, Result, Ok, refl, ap, sym, ◌∙◌, arith, length-append}
use Rattle.std.specs.Option.{option_map, ok_or}
use Rattle.std.proofs.lemmas.List.Sums.{sum_by-cons}
use Rattle.chew_spec_text.specs.KeyStroke.{KeyStroke}
use Rattle.chew_spec_text.specs.Script as spec
use Rattle.chew_spec_text.specs.Script.{Script, add_keys, keys_count}
use Rattle.chew_script.specs.Lines.{added}
use Rattle.chew_script.specs.Sound.{IsSound}

-- a context without keys, that comes up to this place, makes no difference
pub empty_more : (n : ℕ) (keys : List KeyStroke) (contexts : List (List KeyStroke)) → length contexts ≤ n → add_keys n keys (contexts ++ [] ∷ []) ≡ add_keys n keys contexts
empty_more zero keys [] h = refl
empty_more zero keys (had ∷ contexts) h = absurd (omega arith)
empty_more (suc n) keys [] h = refl
empty_more (suc n) keys (had ∷ contexts) h = ap (λ (l : List (List KeyStroke)). had ∷ l) (empty_more n keys contexts (omega arith))

-- where the context is there
add_at : (n : ℕ) (keys : List KeyStroke) (contexts : List (List KeyStroke)) → n < length contexts → add_keys n keys contexts ≡ set contexts n (get_or contexts n [] ++ keys)
add_at n keys [] h = absurd (omega arith)
add_at zero keys (had ∷ contexts) h = refl
add_at (suc n) keys (had ∷ contexts) h = ap (λ (l : List (List KeyStroke)). had ∷ l) (add_at n keys contexts (omega arith))

count_added : (n : ℕ) (keys : List KeyStroke) (contexts : List (List KeyStroke)) → keys_count (add_keys n keys contexts) ≡ keys_count contexts + length keys
count_added zero keys [] = sum_by-cons length keys [] ∙ omega arith
count_added zero keys (had ∷ contexts) = omega (arith, length-append had keys, sum_by-cons length (had ++ keys) contexts, sum_by-cons length had contexts)
count_added (suc n) keys [] = omega (arith, count_added n keys [], sum_by-cons {X = List KeyStroke} length [] (add_keys n keys []))
count_added (suc n) keys (had ∷ contexts) = omega (arith, count_added n keys contexts, sum_by-cons length had (add_keys n keys contexts), sum_by-cons length had contexts)

few_added : (n limit : ℕ) (keys : List KeyStroke) (contexts : List (List KeyStroke)) → n < limit → length contexts ≤ limit → length (add_keys n keys contexts) ≤ limit
few_added zero limit keys [] h few = omega arith
few_added zero limit keys (had ∷ contexts) h few = omega arith
few_added (suc n) zero keys contexts h few = absurd (omega arith)
few_added (suc n) (suc limit) keys [] h few = let rest = few_added n limit keys [] (omega arith) (omega arith) in omega arith
few_added (suc n) (suc limit) keys (had ∷ contexts) h few = let rest = few_added n limit keys contexts (omega arith) (omega arith) in omega arith

-- the keys that were appended to the context at a place are added there
pub added_there : (number : ℕ) (o : Option (List KeyStroke)) (before opened now : List (List KeyStroke)) (had new : List KeyStroke) (count : ℕ)
    → 1 ≤ number → ((keys : List KeyStroke) → add_keys (number - 1) keys opened ≡ add_keys (number - 1) keys before) → number ≤ length opened → get_or opened (number - 1) [] ≡ had → now ≡ set opened (number - 1) new
    → ok_or (option_map (λ more. had ++ more) o) spec.Key ≡ Ok new → count + length had ≡ length new
    → added number o before ≡ Ok (now, count)
added_there number None before opened now had new count first same there was now_is e counted = absurd cc
added_there number (Some more) before opened now had new count first same there was now_is e counted =
    let joined : had ++ more ≡ new = cc in
    let long : length more ≡ count = omega (arith, length-append had more, ap length joined) in
    let lists : add_keys (number - 1) more before ≡ now =
    sym (same more) ∙ (add_at (number - 1) more opened (omega arith) ∙ (ap (λ (l : List KeyStroke). set opened (number - 1) (l ++ more)) was ∙ (ap (set opened (number - 1)) joined ∙ sym now_is))) in
    cc

both : {X Y E : Type 0} (a c : X) (b d : Y) → ◌≡◌ {A = Result (X × Y) E} (Ok (a, b)) (Ok (c, d)) → (a ≡ c) × (b ≡ d)
both {X} {Y} a c b d e = let pair : (a, b) ≡ (c, d) = cc in (ap (λ (p : X × Y). p.0) pair, ap (λ (p : X × Y). p.1) pair)

pub sound_added : (number count more : ℕ) (o : Option (List KeyStroke)) (script : Script) (lists : List (List KeyStroke))
    → added number o script.contexts ≡ Ok (lists, more) → 1 ≤ number → number ≤ 16 → count + more ≤ 65_536 → IsSound count script
    → IsSound (count + more) (record script { contexts = lists })
sound_added number count more None script lists e first last few sound = absurd cc
sound_added number count more (Some keys) script lists e first last few sound =
    let parts = both (add_keys (number - 1) keys script.contexts) lists (length keys) more e in
    let is = parts.0 in
    let long = parts.1 in
    record {
      counted = omega (arith, sound.counted, count_added (number - 1) keys script.contexts, ap keys_count is);
      few_keys = few;
      few_contexts = let short = few_added (number - 1) 16 keys script.contexts (omega arith) sound.few_contexts in omega (arith, ap length is);
      few_rounds = sound.few_rounds;
    }

-- the keys of a context never become fewer
pub grown : (had new : List KeyStroke) (o : Option (List KeyStroke)) → ok_or (option_map (λ more. had ++ more) o) spec.Key ≡ Ok new → length had ≤ length new
grown had new None e = absurd cc
grown had new (Some more) e = let joined : had ++ more ≡ new = cc in omega (arith, length-append had more, ap length joined)
