-- What an edit leaves is what its definition says.
use Rattle.std.proofs.Common.{◌≡◌, ℕ, suc, ◌+◌, ◌-◌, ◌<◌, ◌≤◌, Bool, true, List, [], ◌∷◌, ◌++◌, length, take, drop, map, refl, ap, subst, sym, ◌∙◌, arith}
use Rattle.std.specs.List.{insert, remove}
use Rattle.std.proofs.lemmas.List.{drop-map, map-append, take-map}
use Rattle.chew_spec_phrasing.specs.Usable.{Choice}
use Rattle.chew_spec_preedit.specs.Buffer.{Buffer, choice_back, choice_on, is_buffer}
use Rattle.chew_spec_preedit.specs.Cell.{Cell}
use Rattle.chew_spec_preedit.specs.Edit.{backspaced, breaks_before, breaks_behind, choices_before, choices_behind, deleted, inserted, released, without_cell}
use Rattle.chew_spec_preedit.proofs.Cut.{breaks-before_none, choices-before_none}
use Rattle.chew_spec_preedit.proofs.IsBuffer.{IsBuffer-from}
use Rattle.chew_spec_preedit.proofs.Spliced.{moved}
use Rattle.chew_preedit.specs.Splice.{moved_choice, moved_place}

-- the breaks and choices that are kept of a buffer
pub record IsKept (had : Buffer) (from removed added : ℕ) (breaks : List ℕ) (choices : List Choice) : Type 0 where
  pub breaks_are : breaks ≡ breaks_before from had.breaks ++ map (moved_place removed added) (breaks_behind (from + removed) had.breaks)
  pub choices_are : choices ≡ choices_before from had.choices ++ map (moved_choice removed added) (choices_behind (from + removed) had.choices)

pub map_agree : {X Y : Type 0} (f g : X → Y) → ((x : X) → f x ≡ g x) → (xs : List X) → map f xs ≡ map g xs
map_agree f g h [] = refl
map_agree f g h (x ∷ xs) = ap (λ y. y ∷ map f xs) (h x) ∙ ap (λ ys. g x ∷ ys) (map_agree f g h xs)

pub moved-by : (move : ℕ → ℕ) (removed added : ℕ) → ((k : ℕ) → moved_place removed added k ≡ move k)
    → (front : List Choice) (choices : List Choice) → front ++ map (moved_choice removed added) choices ≡ front ++ map (moved move) choices
moved-by move removed added h front choices =
    ap (λ cs. front ++ cs) (map_agree (moved_choice removed added) (moved move) (λ choice. ap (λ k. moved (λ _. k) choice) (h choice.start)) choices)

buffer_same : (limit : ℕ) (cells cells' : List Cell) (cursor cursor' : ℕ) (breaks breaks' : List ℕ) (choices choices' : List Choice) → cells ≡ cells' → cursor ≡ cursor' → breaks ≡ breaks' → choices ≡ choices'
    → (let x : Buffer = record { limit = limit; cells = cells; cursor = cursor; breaks = breaks; choices = choices } in let y : Buffer = record { limit = limit; cells = cells'; cursor = cursor'; breaks = breaks'; choices = choices' } in x ≡ y)
buffer_same limit cells cells' cursor cursor' breaks breaks' choices choices' e f g h = cc

map-insert : {I : Type 0} (cell_of : I → Cell) (items : List I) (at : ℕ) (item : I) → map cell_of (insert items at item) ≡ take at (map cell_of items) ++ (cell_of item ∷ drop at (map cell_of items))
map-insert cell_of items at item =
    map-append cell_of (take at items) (item ∷ drop at items)
    ∙ (ap (λ xs. xs ++ map cell_of (item ∷ drop at items)) (sym (take-map cell_of at items)) ∙ ap (λ xs. take at (map cell_of items) ++ (cell_of item ∷ xs)) (sym (drop-map cell_of at items)))

map-remove : {I : Type 0} (cell_of : I → Cell) (items : List I) (at : ℕ) → map cell_of (remove items at) ≡ take at (map cell_of items) ++ drop (suc at) (map cell_of items)
map-remove cell_of items at =
    map-append cell_of (take at items) (drop (suc at) items)
    ∙ (ap (λ xs. xs ++ map cell_of (drop (suc at) items)) (sym (take-map cell_of at items)) ∙ ap (λ xs. take at (map cell_of items) ++ xs) (sym (drop-map cell_of (suc at) items)))

inserted_is : {I : Type 0} (cell_of : I → Cell) (limit cursor : ℕ) (items after : List I) (item : I) (breaks left : List ℕ) (choices stay : List Choice)
    → (let had : Buffer = record { limit = limit; cells = map cell_of items; cursor = cursor; breaks = breaks; choices = choices } in
    after ≡ insert items cursor item → IsKept had cursor 0 1 left stay
    → (let now : Buffer = record { limit = limit; cells = map cell_of after; cursor = cursor + 1; breaks = left; choices = stay } in now ≡ inserted had (cell_of item)))
unfolding inserted
inserted_is cell_of limit cursor items after item breaks left choices stay e k =
    let to : cursor + 0 ≡ cursor = omega arith in
    buffer_same limit (map cell_of after) _ (cursor + 1) _ left _ stay _
    (ap (map cell_of) e ∙ map-insert cell_of items cursor item)
    (omega arith)
    (k.breaks_are ∙ (ap (λ n. breaks_before cursor breaks ++ map (moved_place 0 1) (breaks_behind n breaks)) to
    ∙ ap (λ ps. breaks_before cursor breaks ++ ps) (map_agree (moved_place 0 1) (λ at. at + 1) (λ at. omega arith) (breaks_behind cursor breaks))))
    (k.choices_are ∙ (ap (λ n. choices_before cursor choices ++ map (moved_choice 0 1) (choices_behind n choices)) to
    ∙ moved-by (λ at. at + 1) 0 1 (λ at. omega arith) (choices_before cursor choices) (choices_behind cursor choices)))

-- the same of a value that is seen as a buffer
pub inserted_same : {I : Type 0} (cell_of : I → Cell) (had : Buffer) (limit cursor : ℕ) (items after : List I) (item : I) (breaks left : List ℕ) (choices stay : List Choice)
    → (let seen : Buffer = record { limit = limit; cells = map cell_of items; cursor = cursor; breaks = breaks; choices = choices } in seen ≡ had)
    → after ≡ insert items cursor item → IsKept had cursor 0 1 left stay
    → (let now : Buffer = record { limit = limit; cells = map cell_of after; cursor = cursor + 1; breaks = left; choices = stay } in now ≡ inserted had (cell_of item))
inserted_same cell_of had limit cursor items after item breaks left choices stay same e k =
    subst (λ (b : Buffer). IsKept b cursor 0 1 left stay → (let now : Buffer = record { limit = limit; cells = map cell_of after; cursor = cursor + 1; breaks = left; choices = stay } in now ≡ inserted b (cell_of item))) same
    (inserted_is cell_of limit cursor items after item breaks left choices stay e) k

cut_is : {I : Type 0} (cell_of : I → Cell) (limit place cursor : ℕ) (items after : List I) (breaks left : List ℕ) (choices stay : List Choice)
    → (let had : Buffer = record { limit = limit; cells = map cell_of items; cursor = cursor; breaks = breaks; choices = choices } in
    (cursor' : ℕ) → after ≡ remove items place → IsKept had place 1 0 left stay
    → (let now : Buffer = record { limit = limit; cells = map cell_of after; cursor = cursor'; breaks = left; choices = stay } in now ≡ record (without_cell place had) { cursor = cursor' }))
cut_is cell_of limit place cursor items after breaks left choices stay cursor' e k =
    let to : place + 1 ≡ suc place = omega arith in
    buffer_same limit (map cell_of after) _ cursor' cursor' left _ stay _
    (ap (map cell_of) e ∙ map-remove cell_of items place)
    refl
    (k.breaks_are ∙ (ap (λ n. breaks_before place breaks ++ map (moved_place 1 0) (breaks_behind n breaks)) to
    ∙ ap (λ ps. breaks_before place breaks ++ ps) (map_agree (moved_place 1 0) (λ at. at - 1) (λ at. omega arith) (breaks_behind (suc place) breaks))))
    (k.choices_are ∙ (ap (λ n. choices_before place choices ++ map (moved_choice 1 0) (choices_behind n choices)) to
    ∙ moved-by (λ at. at - 1) 1 0 (λ at. omega arith) (choices_before place choices) (choices_behind (suc place) choices)))

pub cut_same : {I : Type 0} (cell_of : I → Cell) (had : Buffer) (limit place cursor : ℕ) (items after : List I) (breaks left : List ℕ) (choices stay : List Choice)
    → (let seen : Buffer = record { limit = limit; cells = map cell_of items; cursor = cursor; breaks = breaks; choices = choices } in seen ≡ had)
    → (cursor' : ℕ) → after ≡ remove items place → IsKept had place 1 0 left stay
    → (let now : Buffer = record { limit = limit; cells = map cell_of after; cursor = cursor'; breaks = left; choices = stay } in now ≡ record (without_cell place had) { cursor = cursor' })
cut_same cell_of had limit place cursor items after breaks left choices stay same cursor' e k =
    subst (λ (b : Buffer). IsKept b place 1 0 left stay → (let now : Buffer = record { limit = limit; cells = map cell_of after; cursor = cursor'; breaks = left; choices = stay } in now ≡ record (without_cell place b) { cursor = cursor' })) same
    (cut_is cell_of limit place cursor items after breaks left choices stay cursor' e) k

pub deleted_is : (had : Buffer) (cursor : ℕ) → cursor ≡ had.cursor → record (without_cell cursor had) { cursor = cursor } ≡ deleted had
unfolding deleted
deleted_is had cursor e = ap (λ (at : ℕ). record (without_cell at had) { cursor = at }) e

pub backspaced_is : (had : Buffer) (place : ℕ) → place ≡ had.cursor - 1 → record (without_cell place had) { cursor = place } ≡ backspaced had
unfolding backspaced
backspaced_is had place e = ap (λ (at : ℕ). record (without_cell at had) { cursor = at }) e

released_is : (cells : List Cell) (limit count cursor : ℕ) (breaks left : List ℕ) (choices stay : List Choice)
    → (let had : Buffer = record { limit = limit; cells = cells; cursor = cursor; breaks = breaks; choices = choices } in
    (cells' : List Cell) (cursor' : ℕ) → is_buffer had ≡ true → cells' ≡ drop count cells → cursor' ≡ cursor - count → IsKept had 0 count 0 left stay
    → (let now : Buffer = record { limit = limit; cells = cells'; cursor = cursor'; breaks = left; choices = stay } in now ≡ released count had))
unfolding released
released_is cells limit count cursor breaks left choices stay cells' cursor' valid e f k =
    let to : 0 + count ≡ count = omega arith in
    let had : Buffer = record { limit = limit; cells = cells; cursor = cursor; breaks = breaks; choices = choices } in
    let no_choices = choices-before_none cells breaks choices (IsBuffer-from had valid).chosen in
    buffer_same limit cells' _ cursor' _ left _ stay _ e f
    (k.breaks_are ∙ (ap (λ n. breaks_before 0 breaks ++ map (moved_place count 0) (breaks_behind n breaks)) to
    ∙ (ap (λ ps. breaks_before 0 breaks ++ ps) (map_agree (moved_place count 0) (λ at. at - count) (λ at. omega arith) (breaks_behind count breaks))
    ∙ ap (λ ps. ps ++ map (λ at. at - count) (breaks_behind count breaks)) (breaks-before_none breaks))))
    (k.choices_are ∙ (ap (λ n. choices_before 0 choices ++ map (moved_choice count 0) (choices_behind n choices)) to
    ∙ (moved-by (λ at. at - count) count 0 (λ at. omega arith) (choices_before 0 choices) (choices_behind count choices)
    ∙ ap (λ cs. cs ++ map (choice_back count) (choices_behind count choices)) no_choices)))

pub released_same : (had : Buffer) (cells : List Cell) (limit count cursor : ℕ) (breaks left : List ℕ) (choices stay : List Choice) (cells' : List Cell) (cursor' : ℕ)
    → (let seen : Buffer = record { limit = limit; cells = cells; cursor = cursor; breaks = breaks; choices = choices } in seen ≡ had)
    → is_buffer had ≡ true → cells' ≡ drop count cells → cursor' ≡ cursor - count → IsKept had 0 count 0 left stay
    → (let now : Buffer = record { limit = limit; cells = cells'; cursor = cursor'; breaks = left; choices = stay } in now ≡ released count had)
released_same had cells limit count cursor breaks left choices stay cells' cursor' same valid e f k =
    subst (λ (b : Buffer). is_buffer b ≡ true → IsKept b 0 count 0 left stay → (let now : Buffer = record { limit = limit; cells = cells'; cursor = cursor'; breaks = left; choices = stay } in now ≡ released count b)) same
    (λ v. released_is cells limit count cursor breaks left choices stay cells' cursor' v e f) valid k
