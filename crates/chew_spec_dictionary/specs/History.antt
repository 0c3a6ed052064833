-- The history of the user's dictionary: the calls that were made, and what a plain map answers to them.
use Rattle.std.specs.Prelude.{ℕ, suc, Bool, true, false, not, ◌&&◌, List, [], ◌∷◌, map, filter, ◌==◌, Option, Some, None, unwrap_or, if◌then◌else◌}
use Rattle.std.specs.Option.{option_map_or}
use Rattle.chew_spec_dictionary.specs.Call.{Call, Look, Learn, Forget, Hide, Freeze, Install, Reply, Rows, Frozen, Installed, is_proper}
use Rattle.chew_spec_dictionary.specs.Dictionary.{Dictionary, Outcome, learn, forget, hide}
use Rattle.chew_spec_dictionary.specs.Look.{hits_of}

-- a call, and the number of who made it
pub record Entry : Type 0 where
  pub who : ℕ
  pub call : Call

-- the number of entries up to the last snapshot that was installed, and up to the one that waits
pub record Shape : Type 0 where
  pub installed : ℕ
  pub waiting : Option ℕ

-- a point of a history: how many entries came before it, its shape, and the dictionary then
pub record Point : Type 0 where
  pub place : ℕ
  pub shape : Shape
  pub dictionary : Dictionary

-- the next point, and the reply
pub record Answered : Type 0 where
  pub point : Point
  pub reply : Reply

-- where a history begins
abbrev pub start_of : Dictionary → Point
start_of dictionary = record { place = 0; shape = record { installed = 0; waiting = None }; dictionary = dictionary }

-- the number that waits once a snapshot is frozen here: the one that waits already, or this place
abbrev pub waiting_after_freeze : Point → ℕ
waiting_after_freeze p = unwrap_or p.shape.waiting p.place

-- one entry more, with this shape
abbrev pub reshaped : Point → Shape → Reply → Answered
reshaped p shape reply = record { point = record p { place = suc p.place; shape = shape }; reply = reply }

-- one entry more, with this dictionary
abbrev pub changed : Point → Outcome → Answered
changed p outcome = record { point = record p { place = suc p.place; dictionary = outcome.left }; reply = outcome.reply }

-- what a call changes, and its reply; a look-up, a freeze and an install change no pair
abbrev pub answer : Point → Call → Answered
answer p (Look run) = changed p (record { left = p.dictionary; reply = Rows (hits_of p.dictionary.pairs run) })
answer p (Learn key phrase orig peak) = changed p (learn p.dictionary key phrase orig peak)
answer p (Forget key phrase) = changed p (forget p.dictionary key phrase)
answer p (Hide key phrase) = changed p (hide p.dictionary key phrase)
answer p Freeze = reshaped p (record p.shape { waiting = Some (waiting_after_freeze p) }) (Frozen (waiting_after_freeze p))
answer p (Install number) = reshaped p (record { installed = number; waiting = None }) Installed

-- the point after a history
abbrev pub after : Point → List Entry → Point
after p [] = p
after p (e ∷ es) = after (answer p e.call).point es

-- the entries of a number, and the calls that they made
abbrev pub own : List Entry → ℕ → List Entry
own entries who = filter (λ e. e.who == who) entries

abbrev pub calls_of : List Entry → ℕ → List Call
calls_of entries who = map (λ e. e.call) (own entries who)

-- the replies to the entries of a number, each at its place
abbrev pub replies : Point → List Entry → ℕ → List Reply
replies p [] who = []
replies p (e ∷ es) who =
    if e.who == who
    then (answer p e.call).reply ∷ replies (answer p e.call).point es who
    else replies (answer p e.call).point es who

-- the call is one of those that the keeper makes, whose number is 0, and nobody else: it freezes or installs
abbrev pub is_keepers : Call → Bool
is_keepers Freeze = true
is_keepers (Install number) = true
is_keepers _ = false

-- the call is one that anyone but the keeper may make, and at any point
abbrev pub is_user_call : Call → Bool
is_user_call call = not (is_keepers call) && is_proper call

-- an install names the number that waits
abbrev pub installs_waiting : Point → Call → Bool
installs_waiting p (Install number) = option_map_or (λ waits. waits == number) p.shape.waiting false
installs_waiting p _ = true

-- the keeper's calls are made by the keeper alone, and each call meets its condition at its place
abbrev pub is_legal_entry : Point → Entry → Bool
is_legal_entry p e = (if e.who == 0 then is_keepers e.call else not (is_keepers e.call)) && (is_proper e.call && installs_waiting p e.call)

-- every entry is legal at its place
abbrev pub is_legal : Point → List Entry → Bool
is_legal p [] = true
is_legal p (e ∷ es) = is_legal_entry p e && is_legal (answer p e.call).point es
