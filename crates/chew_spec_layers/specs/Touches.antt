-- Which pairs a stretch of a history changed. This project's own.
use Rattle.std.specs.Prelude.{ℕ, Bool, true, false, ◌&&◌, ◌||◌, List, [], ◌∷◌, take, drop, bytes_eq}
use Rattle.chew_spec_dictionary.specs.Call.{Call, Learn, Forget, Hide, Reply, Learned, Forgot, Hid}
use Rattle.chew_spec_dictionary.specs.History.{Entry, Point, after, answer}

-- the reply tells that a pair was changed
abbrev pub tells_change : Reply → Bool
tells_change (Learned freq time) = true
tells_change Forgot = true
tells_change Hid = true
tells_change _ = false

-- the call learns, forgets or hides the pair
abbrev pub is_about : List ℕ → List ℕ → Call → Bool
is_about key phrase (Learn k p orig peak) = bytes_eq k key && bytes_eq p phrase
is_about key phrase (Forget k p) = bytes_eq k key && bytes_eq p phrase
is_about key phrase (Hide k p) = bytes_eq k key && bytes_eq p phrase
is_about key phrase _ = false

-- the call changes the pair
abbrev pub changes : Point → Call → List ℕ → List ℕ → Bool
changes p call key phrase = is_about key phrase call && tells_change (answer p call).reply

-- some entry of a history changes the pair
abbrev pub touches : Point → List Entry → List ℕ → List ℕ → Bool
touches p [] key phrase = false
touches p (e ∷ es) key phrase = changes p e.call key phrase || touches (answer p e.call).point es key phrase

-- some entry from one place of a history to before another does
abbrev pub touched : Point → List Entry → (from to : ℕ) → List ℕ → List ℕ → Bool
touched p h from to key phrase = touches (after p (take from h)) (drop from (take to h)) key phrase
