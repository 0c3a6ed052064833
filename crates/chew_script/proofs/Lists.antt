-- The code's vectors of keys as the definition's lists.
use Rattle.std.proofs.Common.{◌≡◌, ℕ, ◌<◌, List, [], ◌∷◌, ◌++◌, length, get_or, set, Option, Some, None, ap, sym, refl, ◌∙◌, append_assoc}
use Rattle.std.specs.Global.{Vec}
use Rattle.std.specs.Option.{option_map}
use Rattle.std.proofs.lemmas.List.{get_or-map, map-append, map-set}
use Rattle.chew_spec_text.specs.KeyStroke as spec
use Rattle.chew_script.specs.Keys.{key_of, keys_of, lists_of}
use Rattle.chew_script.specs.declared.keystroke.KeyStroke.{KeyStroke}

-- a vector without keys at the end
pub empty_pushed : (contexts new : List (Vec KeyStroke)) (keys : Vec KeyStroke) → new ≡ contexts ++ keys ∷ [] → keys.items ≡ [] → lists_of new ≡ lists_of contexts ++ [] ∷ []
empty_pushed contexts new keys e none =
    ap lists_of e ∙ (map-append (λ (v : Vec KeyStroke). keys_of v.items) contexts (keys ∷ []) ∙ ap (λ (l : List KeyStroke). lists_of contexts ++ keys_of l ∷ []) none)

-- one of them
pub list_at : (contexts : List (Vec KeyStroke)) (i : ℕ) (keys : Vec KeyStroke) → i < length contexts → keys ≡ get_or contexts i keys → get_or (lists_of contexts) i [] ≡ keys_of keys.items
list_at contexts i keys h is =
    get_or-map (λ (v : Vec KeyStroke). keys_of v.items) contexts i keys [] h ∙ ap (λ (v : Vec KeyStroke). keys_of v.items) (sym is)

pub list_set : (contexts : List (Vec KeyStroke)) (i : ℕ) (keys : Vec KeyStroke) → lists_of (set contexts i keys) ≡ set (lists_of contexts) i (keys_of keys.items)
list_set contexts i keys = map-set (λ (v : Vec KeyStroke). keys_of v.items) contexts i keys

-- one key more, and the keys behind it
moved : (keys : List spec.KeyStroke) (key : spec.KeyStroke) (o : Option (List spec.KeyStroke))
    → option_map (λ more. keys ++ more) (option_map (λ more. key ∷ more) o) ≡ option_map (λ more. (keys ++ key ∷ []) ++ more) o
moved keys key None = refl
moved keys key (Some more) = ap Some (sym (append_assoc keys (key ∷ []) more))

pub one_more : (keys new : List KeyStroke) (key : KeyStroke) (all o p : Option (List spec.KeyStroke)) → new ≡ keys ++ key ∷ []
    → all ≡ option_map (λ more. keys_of keys ++ more) o → o ≡ option_map (λ more. key_of key ∷ more) p → all ≡ option_map (λ more. keys_of new ++ more) p
one_more keys new key all o p e had first =
    had ∙ (ap (option_map (λ more. keys_of keys ++ more)) first ∙ (moved (keys_of keys) (key_of key) p
    ∙ ap (λ (l : List spec.KeyStroke). option_map (λ more. l ++ more) p) (sym (ap keys_of e ∙ map-append key_of keys (key ∷ [])))))
