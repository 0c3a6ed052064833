-- The keys that bytes name, from the front.
use Rattle.std.proofs.Common.{◌≡◌, ℕ, Bool, true, false, not, cond, List, [], ◌∷◌, ◌++◌, map, find, bytes_eq, ◌==◌, length, get_or, drop, ◌≤◌, if◌then◌else◌, Option, Some, None, refl, ap, sym, subst, ◌∙◌, inl, inr, ◌⊎◌, ⊎_elim, arith}
use Rattle.std.specs.Fmt.{digits}
use Rattle.std.specs.List.{list_all, onto_first, slice_split, before_first}
use Rattle.std.specs.Option.{option_and_then, option_map}
use Rattle.std.proofs.lemmas.Bool.{and_parts, not-true, cond-true, cond-false, ne_eqb}
use Rattle.std.proofs.lemmas.List.Elements.{All-cons, All-nil}
use Rattle.std.proofs.lemmas.List.Splits.{slice_split-cons_no}
use Rattle.std.proofs.lemmas.Slice.Eq.{bytes_eq-Decides}
use Rattle.chew_spec_text.specs.KeyStroke.{KeyStroke, Char, NamedKey, key_names, key_named, keys_behind, keys_in, keys_in_parts, keys_of_parts}
use Rattle.chew_script.proofs.Tables.{kept}
use Rattle.chew_text.proofs.Cuts.{Lacks, lacks_head, lacks_tail, before_it, behind_it, stands, stands_not}

-- '<' and '>'
abbrev pub opens : ℕ → Bool
opens byte = byte == 60

-- the first part of a text that is cut, and the others
record Parts (parts : List (List ℕ)) : Type 0 where
  first : List ℕ
  others : List (List ℕ)
  is : parts ≡ first ∷ others

parts_onto : (b : Bool) (x : ℕ) (parts : List (List ℕ)) → Parts parts → Parts (cond b ([] ∷ parts) (onto_first x parts))
parts_onto true x parts h = record { first = []; others = parts; is = refl }
parts_onto false x parts h = record { first = x ∷ h.first; others = h.others; is = ap (onto_first x) h.is }

parts_of : (text : List ℕ) → Parts (slice_split opens text)
parts_of [] = record { first = []; others = []; is = refl }
parts_of (x ∷ text) = parts_onto (opens x) x (slice_split opens text) (parts_of text)

-- a front without '<' stands before the first part
fronted : (front text first : List ℕ) (others : List (List ℕ)) → Lacks 60 front → slice_split opens text ≡ first ∷ others → slice_split opens (front ++ text) ≡ (front ++ first) ∷ others
fronted [] text first others h e = e
fronted (x ∷ front) text first others h e =
    slice_split-cons_no opens x (front ++ text) (lacks_head 60 x front h) ∙ ap (onto_first x) (fronted front text first others (lacks_tail 60 x front h) e)

-- a character in front
char_onto : (x : ℕ) (parts : List (List ℕ)) → keys_in_parts (onto_first x parts) ≡ option_map (λ keys. Char x ∷ keys) (keys_in_parts parts)
char_onto x [] = refl
char_onto x (part ∷ parts) = moved (keys_of_parts parts)
  where
    moved : (o : Option (List KeyStroke)) → option_map (λ keys. map Char (x ∷ part) ++ keys) o ≡ option_map (λ keys. Char x ∷ keys) (option_map (λ keys. map Char part ++ keys) o)
    moved None = refl
    moved (Some keys) = refl

pub char_front : (byte : ℕ) (rest : List ℕ) → (byte ≡ 60 → ⊥) → keys_in (byte ∷ rest) ≡ option_map (λ keys. Char byte ∷ keys) (keys_in rest)
unfolding keys_in
char_front byte rest h = ap keys_in_parts (slice_split-cons_no opens byte rest (ne_eqb byte 60 h)) ∙ char_onto byte (slice_split opens rest)

-- what a '<' in front makes of parts
opened : (o : Option (List KeyStroke)) → option_map (λ keys. [] ++ keys) o ≡ o
opened None = refl
opened (Some keys) = refl

-- what a part behind a '<' names
behind_name : (name rest : List ℕ) → Lacks 62 name → keys_behind (name ++ 62 ∷ rest) ≡ option_map (λ key. key ∷ map Char rest) (key_named name)
behind_name name rest h =
    cond-true _ _ _ (stands 62 name rest h)
    ∙ (ap (λ (l : List ℕ). option_map (λ key. key ∷ map Char l) (key_named (before_first (λ byte. byte == 62) (name ++ 62 ∷ rest)))) (behind_it 62 name rest h)
    ∙ ap (λ (l : List ℕ). option_map (λ key. key ∷ map Char rest) (key_named l)) (before_it 62 name rest h))

behind_none : (part : List ℕ) → Lacks 62 part → keys_behind part ≡ None
behind_none part h = cond-false _ _ _ (stands_not 62 part h)

-- a name in front
named_onto : (key : KeyStroke) (first : List ℕ) (o : Option (List KeyStroke))
    → option_map (λ more. (key ∷ map Char first) ++ more) o ≡ option_map (λ keys. key ∷ keys) (option_map (λ keys. map Char first ++ keys) o)
named_onto key first None = refl
named_onto key first (Some more) = refl

pub name_front : (name rest : List ℕ) (key : KeyStroke) → Lacks 62 name → Lacks 60 name → key_named name ≡ Some key
    → keys_in (60 ∷ (name ++ 62 ∷ rest)) ≡ option_map (λ keys. key ∷ keys) (keys_in rest)
unfolding keys_in
name_front name rest key ends clean e =
    let parts = parts_of rest in
    let cut : slice_split opens (name ++ 62 ∷ rest) ≡ (name ++ 62 ∷ parts.first) ∷ parts.others = fronted name (62 ∷ rest) (62 ∷ parts.first) parts.others clean (ap (onto_first 62) parts.is) in
    let named = behind_name name parts.first ends ∙ ap (option_map (λ key. key ∷ map Char parts.first)) e in
    opened (keys_of_parts (slice_split opens (name ++ 62 ∷ rest)))
    ∙ (ap keys_of_parts cut
    ∙ (ap (option_and_then (λ keys. option_map (λ more. keys ++ more) (keys_of_parts parts.others))) named
    ∙ (named_onto key parts.first (keys_of_parts parts.others)
    ∙ ap (λ (l : List (List ℕ)). option_map (λ keys. key ∷ keys) (keys_in_parts l)) (sym parts.is))))

-- the first part of what follows a '<' names no key
record NoName (parts : List (List ℕ)) : Type 0 where
  first : List ℕ
  others : List (List ℕ)
  is : parts ≡ first ∷ others
  none : keys_behind first ≡ None

refused : (text : List ℕ) → NoName (slice_split opens text) → keys_in (60 ∷ text) ≡ None
unfolding keys_in
refused text h =
    opened (keys_of_parts (slice_split opens text))
    ∙ (ap keys_of_parts h.is ∙ ap (option_and_then (λ keys. option_map (λ more. keys ++ more) (keys_of_parts h.others))) h.none)

-- the first part has no '>', or it begins with the name
record Begun (name : List ℕ) (parts : List (List ℕ)) : Type 0 where
  first : List ℕ
  others : List (List ℕ)
  is : parts ≡ first ∷ others
  either : Lacks 62 first ⊎ ((rest : List ℕ) × (first ≡ name ++ 62 ∷ rest))

begun_onto : (b : Bool) (x : ℕ) (name : List ℕ) (parts : List (List ℕ)) → (x == 62) ≡ false → Begun name parts → Begun (x ∷ name) (cond b ([] ∷ parts) (onto_first x parts))
begun_onto true x name parts h begun = record { first = []; others = parts; is = refl; either = inl (All-nil (λ other. (other == 62) ≡ false)) }
begun_onto false x name parts h begun = record {
  first = x ∷ begun.first;
  others = begun.others;
  is = ap (onto_first x) begun.is;
  either = ⊎_elim (λ lacks. inl (All-cons (λ other. (other == 62) ≡ false) x begun.first h lacks)) (λ more. inr (more.0, ap (λ (l : List ℕ). x ∷ l) more.1)) begun.either;
}

begun_of : (name rest : List ℕ) → Lacks 62 name → Begun name (slice_split opens (name ++ 62 ∷ rest))
begun_of [] rest h =
    let parts = parts_of rest in
    record { first = 62 ∷ parts.first; others = parts.others; is = ap (onto_first 62) parts.is; either = inr (parts.first, refl) }
begun_of (x ∷ name) rest h = begun_onto (opens x) x name (slice_split opens (name ++ 62 ∷ rest)) (lacks_head 62 x name h) (begun_of name rest (lacks_tail 62 x name h))

pub no_name : (name rest : List ℕ) → Lacks 62 name → key_named name ≡ None → keys_in (60 ∷ (name ++ 62 ∷ rest)) ≡ None
no_name name rest h e =
    let begun = begun_of name rest h in
    refused (name ++ 62 ∷ rest) (record {
      first = begun.first;
      others = begun.others;
      is = begun.is;
      none = ⊎_elim (behind_none begun.first)
          (λ more. ap keys_behind more.1 ∙ (behind_name name more.0 h ∙ ap (option_map (λ key. key ∷ map Char more.0)) e)) begun.either;
    })

-- no name ends
record Endless (parts : List (List ℕ)) : Type 0 where
  first : List ℕ
  others : List (List ℕ)
  is : parts ≡ first ∷ others
  lacks : Lacks 62 first

endless_onto : (b : Bool) (x : ℕ) (parts : List (List ℕ)) → (x == 62) ≡ false → Endless parts → Endless (cond b ([] ∷ parts) (onto_first x parts))
endless_onto true x parts h e = record { first = []; others = parts; is = refl; lacks = All-nil (λ other. (other == 62) ≡ false) }
endless_onto false x parts h e = record {
  first = x ∷ e.first;
  others = e.others;
  is = ap (onto_first x) e.is;
  lacks = All-cons (λ other. (other == 62) ≡ false) x e.first h e.lacks;
}

endless_of : (text : List ℕ) → Lacks 62 text → Endless (slice_split opens text)
endless_of [] h = record { first = []; others = []; is = refl; lacks = All-nil (λ other. (other == 62) ≡ false) }
endless_of (x ∷ text) h = endless_onto (opens x) x (slice_split opens text) (lacks_head 62 x text h) (endless_of text (lacks_tail 62 x text h))

pub no_end : (text : List ℕ) → Lacks 62 text → keys_in (60 ∷ text) ≡ None
no_end text h =
    let endless = endless_of text h in
    refused text (record { first = endless.first; others = endless.others; is = endless.is; none = behind_none endless.first endless.lacks })

-- a name has no '<'
abbrev is_clean : NamedKey → Bool
is_clean entry = list_all (λ byte. not (opens byte)) entry.name

all_clean : list_all is_clean key_names ≡ true
unfolding digits
all_clean = refl

lacks_from : (text : List ℕ) → list_all (λ byte. not (opens byte)) text ≡ true → Lacks 60 text
lacks_from [] h = All-nil (λ other. (other == 60) ≡ false)
lacks_from (x ∷ text) h = All-cons (λ other. (other == 60) ≡ false) x text (not-true _ (and_parts _ _ h).0) (lacks_from text (and_parts _ _ h).1)

clean_entry : (name : List ℕ) (key : KeyStroke) (o : Option NamedKey) → find (λ entry. bytes_eq entry.name name) key_names ≡ o → option_map (λ entry. entry.key) o ≡ Some key → Lacks 60 name
clean_entry name key None found e = absurd cc
clean_entry name key (Some entry) found e =
    let has = kept (λ entry. bytes_eq entry.name name) is_clean key_names entry all_clean found in
    subst (Lacks 60) ((bytes_eq-Decides entry.name name).0 has.0) (lacks_from entry.name has.1)

pub name_clean : (name : List ℕ) (key : KeyStroke) → key_named name ≡ Some key → Lacks 60 name
name_clean name key e = clean_entry name key (find (λ entry. bytes_eq entry.name name) key_names) refl e

-- the keys of the empty text
pub no_keys : (text : List ℕ) → length text ≡ 0 → keys_in text ≡ (if length text == 0 then Some [] else None)
unfolding keys_in
no_keys [] h = refl
no_keys (x ∷ text) h = absurd (omega arith)

pub char_first : (text : List ℕ) → 1 ≤ length text → (get_or text 0 0 ≡ 60 → ⊥) → keys_in text ≡ option_map (λ keys. Char (get_or text 0 0) ∷ keys) (keys_in (drop 1 text))
char_first [] h e = absurd (omega arith)
char_first (x ∷ text) h e = char_front x text e
