-- What holds of each outcome of a key holds of what the key does.
use Rattle.std.proofs.Common.{◌≡◌, ℕ, Bool, true, false, cond, refl}
use Rattle.std.specs.Prelude.{◌==◌}
use Rattle.chew_spec_syllable.specs.Syllable.{Parts}
use Rattle.chew_spec_layout.specs.Step.{Kept, Whole, Refused, Erased, NotMine}
use Rattle.chew_spec_layout.specs.Table.{Columns, Fed, has_key, fed, holds_something, nothing_held, space, backspace}

-- what holds of both branches holds of the choice
pub choice : {A : Type 0} (P : A → Type 0) (b : Bool) (x y : A) → P x → P y → P (cond b x y)
choice P true x y p q = p
choice P false x y p q = q

-- what holds of each outcome holds of what the key does
pub outcomes : (P : Fed → Type 0) (columns : Columns) (held : Parts) (key : ℕ)
    → ((next : Parts) → P (record { step = Kept; held = next }))
    → ((code : ℕ) → P (record { step = Whole code; held = nothing_held }))
    → P (record { step = Refused; held = held })
    → P (record { step = NotMine; held = held })
    → ((next : Parts) → P (record { step = Erased; held = next }))
    → P (fed columns held key)
unfolding fed
outcomes P columns held key kept whole refused not_mine gone =
    choice P (has_key columns.initials key) _ _ (kept _)
    (choice P (has_key columns.medials key) _ _ (kept _)
    (choice P (has_key columns.finals key) _ _ (kept _)
    (choice P (has_key columns.tones key) _ _ (choice P (holds_something held) _ _ (whole _) refused)
    (choice P (key == space) _ _ (choice P (holds_something held) _ _ (whole _) not_mine)
    (choice P (key == backspace) _ _ (choice P (holds_something held) _ _ (gone _) not_mine) not_mine)))))

-- after a whole syllable nothing is held
pub empties : (columns : Columns) (held : Parts) (key code : ℕ) → (fed columns held key).step ≡ Whole code → (fed columns held key).held ≡ nothing_held
empties columns held key code =
    outcomes (λ f. f.step ≡ Whole code → f.held ≡ nothing_held) columns held key
    (λ next h. absurd cc) (λ code h. refl) (λ h. absurd cc) (λ h. absurd cc) (λ next h. absurd cc)

-- a refused key changes nothing
pub kept_at_refused : (columns : Columns) (held : Parts) (key : ℕ) → (fed columns held key).step ≡ Refused → (fed columns held key).held ≡ held
kept_at_refused columns held key =
    outcomes (λ f. f.step ≡ Refused → f.held ≡ held) columns held key
    (λ next h. absurd cc) (λ code h. absurd cc) (λ h. refl) (λ h. absurd cc) (λ next h. absurd cc)

-- a key that isn't the layout's changes nothing
pub kept_at_not_mine : (columns : Columns) (held : Parts) (key : ℕ) → (fed columns held key).step ≡ NotMine → (fed columns held key).held ≡ held
kept_at_not_mine columns held key =
    outcomes (λ f. f.step ≡ NotMine → f.held ≡ held) columns held key
    (λ next h. absurd cc) (λ code h. absurd cc) (λ h. absurd cc) (λ h. refl) (λ next h. absurd cc)
