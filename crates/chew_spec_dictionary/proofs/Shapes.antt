-- The numbers of a shape in a legal history: the installed one, the waiting one and the place rise in this order.
use Rattle.std.proofs.Common.{◌≡◌, ℕ, suc, ◌≤◌, ◌<◌, true, false, List, [], ◌∷◌, length, sym, ◌==◌, subst, Option, Some, None, true≢false, unwrap_or, arith}
use Rattle.std.specs.Option.{option_map_or}
use Rattle.std.proofs.lemmas.Bool.{eqb-true}
use Rattle.chew_spec_dictionary.specs.Call.{Call, Look, Learn, Forget, Hide, Freeze, Install}
use Rattle.chew_spec_dictionary.specs.Dictionary.{Dictionary}
use Rattle.chew_spec_dictionary.specs.History.{Point, Entry, answer, after, is_legal, installs_waiting, start_of}
use Rattle.chew_spec_dictionary.proofs.Histories.{place_after}
use Rattle.chew_spec_dictionary.proofs.Invariants.{legal_parts}

-- the installed number is not above the waiting one, which is below the place
abbrev InOrder : (installed place : ℕ) → Option ℕ → Type 0
InOrder installed place None = installed ≤ place
InOrder installed place (Some number) = (installed ≤ number) × (number < place)

-- the numbers of a shape are in order one place later
order_later : (installed place : ℕ) (waiting : Option ℕ) → InOrder installed place waiting → InOrder installed (suc place) waiting
order_later installed place None o = omega arith
order_later installed place (Some number) o = (o.0, omega (arith, o.1))

-- they are in order after a freeze
order_frozen : (installed place : ℕ) (waiting : Option ℕ) → InOrder installed place waiting → InOrder installed (suc place) (Some (unwrap_or waiting place))
order_frozen installed place None o = (o, omega arith)
order_frozen installed place (Some number) o = (o.0, omega (arith, o.1))

-- they are in order after an install of what waits
order_installed : (installed place number : ℕ) (waiting : Option ℕ) → InOrder installed place waiting → option_map_or (λ waits. waits == number) waiting false ≡ true → InOrder number (suc place) None
order_installed installed place number None o w = absurd (true≢false (sym w))
order_installed installed place number (Some waits) o w = let e = eqb-true waits number w in omega (arith, o.1, e)

-- the numbers of a point are in order
abbrev Ordered : Point → Type 0
Ordered p = InOrder p.shape.installed p.place p.shape.waiting

-- a call that installs what waits keeps them in order
answer_ordered : (p : Point) (call : Call) → installs_waiting p call ≡ true → Ordered p → Ordered (answer p call).point
answer_ordered p (Look run) w o = order_later p.shape.installed p.place p.shape.waiting o
answer_ordered p (Learn key phrase orig peak) w o = order_later p.shape.installed p.place p.shape.waiting o
answer_ordered p (Forget key phrase) w o = order_later p.shape.installed p.place p.shape.waiting o
answer_ordered p (Hide key phrase) w o = order_later p.shape.installed p.place p.shape.waiting o
answer_ordered p Freeze w o = order_frozen p.shape.installed p.place p.shape.waiting o
answer_ordered p (Install number) w o = order_installed p.shape.installed p.place number p.shape.waiting o w

-- a legal history keeps them in order
after_ordered : (p : Point) (h : List Entry) → is_legal p h ≡ true → Ordered p → Ordered (after p h)
after_ordered p [] l o = o
after_ordered p (e ∷ h) l o = let parts = legal_parts p e h l in after_ordered (answer p e.call).point h parts.2 (answer_ordered p e.call parts.1 o)

-- after a legal history from the start the numbers are in order
from_start : (d : Dictionary) (h : List Entry) → is_legal (start_of d) h ≡ true → Ordered (after (start_of d) h)
from_start d h l = after_ordered (start_of d) h l (omega arith)

-- the installed number, with anything waiting or not
installed_within : (installed place : ℕ) (waiting : Option ℕ) → InOrder installed place waiting → installed ≤ place
installed_within installed place None o = o
installed_within installed place (Some number) o = omega (arith, o.0, o.1)

-- the installed number is at most the number of entries
pub installed_most : (d : Dictionary) (h : List Entry) → is_legal (start_of d) h ≡ true → (after (start_of d) h).shape.installed ≤ length h
installed_most d h l = omega (arith, installed_within _ _ _ (from_start d h l), place_after (start_of d) h)

-- the waiting number is not below the installed one and below the number of entries
pub waiting_between : (d : Dictionary) (h : List Entry) (number : ℕ) → is_legal (start_of d) h ≡ true → (after (start_of d) h).shape.waiting ≡ Some number → ((after (start_of d) h).shape.installed ≤ number) × (number < length h)
waiting_between d h number l w =
    let o = subst (InOrder (after (start_of d) h).shape.installed (after (start_of d) h).place) w (from_start d h l) in
    (o.0, omega (arith, o.1, place_after (start_of d) h))
