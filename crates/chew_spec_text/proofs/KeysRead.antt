-- Keys of a script, printed, are read as themselves.
use Rattle.std.proofs.Common.{◌≡◌, ℕ, suc, ◌+◌, ◌-◌, ◌≤◌, true, List, [], ◌∷◌, ◌++◌, Some, refl, sym, ap, ◌∙◌, subst, arith}
use Rattle.std.specs.Prelude.{codes}
use Rattle.std.specs.Fmt.{digits}
use Rattle.std.specs.List.{flat_map, list_all}
use Rattle.std.proofs.lemmas.Bool.{and_parts, leb-true, eqb-true, cond_both}
use Rattle.chew_spec_syllable.proofs.Marks.{Each, at}
use Rattle.chew_spec_text.specs.KeyStroke.{KeyStroke, Char, Enter, Backspace, Delete, Left, Right, Home, End, Up, Down, PageUp, PageDown, Tab, Esc, Add, Forget, Hide, is_key_stroke, key_text, keys_in}
use Rattle.chew_spec_text.proofs.KeyText.{IsRead, before, begins, read_char, read_name}

-- each key that adds a phrase
adds_read : Each (λ n. IsRead (Add (2 + n))) 0 8
unfolding digits
adds_read = (
  λ rest. read_name (codes "C2>") (Add 2) rest refl (λ _. refl),
  (
    λ rest. read_name (codes "C3>") (Add 3) rest refl (λ _. refl),
    (
      λ rest. read_name (codes "C4>") (Add 4) rest refl (λ _. refl),
      (
        λ rest. read_name (codes "C5>") (Add 5) rest refl (λ _. refl),
        (
          λ rest. read_name (codes "C6>") (Add 6) rest refl (λ _. refl),
          (
            λ rest. read_name (codes "C7>") (Add 7) rest refl (λ _. refl),
            (λ rest. read_name (codes "C8>") (Add 8) rest refl (λ _. refl), (λ rest. read_name (codes "C9>") (Add 9) rest refl (λ _. refl), tt)),
          ),
        ),
      ),
    ),
  ),
)

-- each key that takes one away
forgets_read : Each (λ n. IsRead (Forget (1 + n))) 0 9
unfolding digits
forgets_read = (
  λ rest. read_name (codes "F1>") (Forget 1) rest refl (λ _. refl),
  (
    λ rest. read_name (codes "F2>") (Forget 2) rest refl (λ _. refl),
    (
      λ rest. read_name (codes "F3>") (Forget 3) rest refl (λ _. refl),
      (
        λ rest. read_name (codes "F4>") (Forget 4) rest refl (λ _. refl),
        (
          λ rest. read_name (codes "F5>") (Forget 5) rest refl (λ _. refl),
          (
            λ rest. read_name (codes "F6>") (Forget 6) rest refl (λ _. refl),
            (
              λ rest. read_name (codes "F7>") (Forget 7) rest refl (λ _. refl),
              (
                λ rest. read_name (codes "F8>") (Forget 8) rest refl (λ _. refl),
                (λ rest. read_name (codes "F9>") (Forget 9) rest refl (λ _. refl), tt),
              ),
            ),
          ),
        ),
      ),
    ),
  ),
)

-- each key that hides a phrase
hides_read : Each (λ n. IsRead (Hide (2 + n))) 0 8
unfolding digits
hides_read = (
  λ rest. read_name (codes "K2>") (Hide 2) rest refl (λ _. refl),
  (
    λ rest. read_name (codes "K3>") (Hide 3) rest refl (λ _. refl),
    (
      λ rest. read_name (codes "K4>") (Hide 4) rest refl (λ _. refl),
      (
        λ rest. read_name (codes "K5>") (Hide 5) rest refl (λ _. refl),
        (
          λ rest. read_name (codes "K6>") (Hide 6) rest refl (λ _. refl),
          (
            λ rest. read_name (codes "K7>") (Hide 7) rest refl (λ _. refl),
            (λ rest. read_name (codes "K8>") (Hide 8) rest refl (λ _. refl), (λ rest. read_name (codes "K9>") (Hide 9) rest refl (λ _. refl), tt)),
          ),
        ),
      ),
    ),
  ),
)

-- a number from a least one on
pub counted : (P : ℕ → Type 0) (least count n : ℕ) → Each (λ k. P (least + k)) 0 count → least ≤ n → suc n ≤ least + count → P n
counted P least count n all low high =
    let place : least + (n - least) ≡ n = omega arith in subst P place (at (λ k. P (least + k)) count (n - least) all (omega arith))

-- each key of a script
pub read_key : (key : KeyStroke) → is_key_stroke key ≡ true → IsRead key
unfolding digits
read_key (Char byte) h = λ rest.
    cond_both (begins byte) (codes "<lt>") (byte ∷ []) (λ text. keys_in (text ++ rest) ≡ before (Char byte) (keys_in rest))
    (λ e. subst (λ b. keys_in (codes "<lt>" ++ rest) ≡ before (Char b) (keys_in rest)) (sym (eqb-true _ _ e)) (read_name (codes "lt>") (Char 60) rest refl (λ _. refl)))
    (λ e. read_char byte rest e)
read_key Enter h = λ rest. read_name (codes "E>") Enter rest refl (λ _. refl)
read_key Backspace h = λ rest. read_name (codes "B>") Backspace rest refl (λ _. refl)
read_key Delete h = λ rest. read_name (codes "D>") Delete rest refl (λ _. refl)
read_key Left h = λ rest. read_name (codes "L>") Left rest refl (λ _. refl)
read_key Right h = λ rest. read_name (codes "R>") Right rest refl (λ _. refl)
read_key Home h = λ rest. read_name (codes "H>") Home rest refl (λ _. refl)
read_key End h = λ rest. read_name (codes "Z>") End rest refl (λ _. refl)
read_key Up h = λ rest. read_name (codes "U>") Up rest refl (λ _. refl)
read_key Down h = λ rest. read_name (codes "V>") Down rest refl (λ _. refl)
read_key PageUp h = λ rest. read_name (codes "P>") PageUp rest refl (λ _. refl)
read_key PageDown h = λ rest. read_name (codes "N>") PageDown rest refl (λ _. refl)
read_key Tab h = λ rest. read_name (codes "T>") Tab rest refl (λ _. refl)
read_key Esc h = λ rest. read_name (codes "X>") Esc rest refl (λ _. refl)
read_key (Add cells) h =
    let both = and_parts _ _ h in
    let low : 2 ≤ cells = leb-true _ _ both.0 in let high : cells ≤ 9 = leb-true _ _ both.1 in
    counted (λ n. IsRead (Add n)) 2 8 cells adds_read low (omega arith)
read_key (Forget cells) h =
    let both = and_parts _ _ h in
    let low : 1 ≤ cells = leb-true _ _ both.0 in let high : cells ≤ 9 = leb-true _ _ both.1 in
    counted (λ n. IsRead (Forget n)) 1 9 cells forgets_read low (omega arith)
read_key (Hide cells) h =
    let both = and_parts _ _ h in
    let low : 2 ≤ cells = leb-true _ _ both.0 in let high : cells ≤ 9 = leb-true _ _ both.1 in
    counted (λ n. IsRead (Hide n)) 2 8 cells hides_read low (omega arith)

-- keys of a script, printed, are read as themselves
pub keys_read : (keys : List KeyStroke) → list_all is_key_stroke keys ≡ true → keys_in (flat_map key_text keys) ≡ Some keys
unfolding keys_in
keys_read [] h = refl
keys_read (key ∷ keys) h =
    let both = and_parts _ _ h in read_key key both.0 (flat_map key_text keys) ∙ ap (before key) (keys_read keys both.1)
