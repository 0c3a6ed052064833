-- When the whole history is saved.
use Rattle.std.specs.Prelude.{◌≡◌, ℕ, Bool, true, false, ◌&&◌, List, [], ◌∷◌, ◌++◌, length, take, drop, Option, Some, None, unwrap_or, refl, ◌≢◌, ◌==◌, cond, map}
use Rattle.std.proofs.Common.{arith, sym, ap, ◌∙◌, ⊎_elim, true≢false, ap₂, subst}
use Rattle.std.proofs.lemmas.Bool.{cases_eq, eq-eqb, ne_eqb, or_parts}
use Rattle.std.proofs.lemmas.List.{append_assoc, length-append, take-append-drop, take_all}
use Rattle.chew_spec_disk.specs.Disk.{DiskState}
use Rattle.chew_spec_disk.specs.Moments.{NowLeaves}
use Rattle.chew_spec_dictionary.specs.Call.{Call, Look, Learn, Forget, Hide, Freeze, Install}
use Rattle.chew_spec_dictionary.specs.Dictionary.{Dictionary}
use Rattle.chew_spec_dictionary.specs.History.{Entry, Point, Shape, after, answer, calls_of, is_legal, own, start_of}
use Rattle.chew_spec_dictionary.proofs.Histories.{after_joined, place_after}
use Rattle.chew_spec_dictionary.proofs.Legal.{waits-then}
use Rattle.chew_spec_layers.specs.Touches.{changes, is_about, tells_change, touched, touches}
use Rattle.chew_spec_layers.proofs.Touches.{about_itself, touched_second, unchanged}
use Rattle.chew_spec_slots.specs.Fits.{RecoversTo}
use Rattle.chew_spec_slots.specs.Recovery.{Recovered}
use Rattle.chew_spec_rounds.specs.Front.{RecoversToEither, RecoversToFront, checkpoint_at, front_checkpoint, shape_after}
use Rattle.chew_spec_rounds.specs.LastRounds.{IsAllSaved}
use Rattle.chew_spec_rounds.specs.Round.{IsRound, Round, Saved}
use Rattle.chew_spec_rounds.specs.Session.{IsSession, last_saved}
use Rattle.chew_spec_rounds.proofs.Fronts.{none-some}
use Rattle.chew_spec_rounds.proofs.Keepers.{some-same}

-- a call about a pair that changes it not
about-told : (b t : Bool) → b ≡ true → (b && t) ≡ false → t ≡ false
about-told true t is not = not
about-told false t is not = absurd (true≢false (sym is))

-- a call that changes no pair leaves the dictionary
call-same : (p : Point) (call : Call) → ((key phrase : List ℕ) → changes p call key phrase ≡ false) → (answer p call).point.dictionary ≡ p.dictionary
call-same p (Look run) none = refl
call-same p (Learn key phrase orig peak) none =
    unchanged p (Learn key phrase orig peak) (about-told (is_about key phrase (Learn key phrase orig peak)) (tells_change (answer p (Learn key phrase orig peak)).reply) (about_itself key phrase) (none key phrase))
call-same p (Forget key phrase) none =
    unchanged p (Forget key phrase) (about-told (is_about key phrase (Forget key phrase)) (tells_change (answer p (Forget key phrase)).reply) (about_itself key phrase) (none key phrase))
call-same p (Hide key phrase) none =
    unchanged p (Hide key phrase) (about-told (is_about key phrase (Hide key phrase)) (tells_change (answer p (Hide key phrase)).reply) (about_itself key phrase) (none key phrase))
call-same p Freeze none = refl
call-same p (Install number) none = refl

-- a stretch that changes no pair leaves the dictionary
stretch-same : (p : Point) (h : List Entry) → ((key phrase : List ℕ) → touches p h key phrase ≡ false) → (after p h).dictionary ≡ p.dictionary
stretch-same p [] none = refl
stretch-same p (e ∷ h) none =
    stretch-same (answer p e.call).point h (λ key phrase. (or_parts (changes p e.call key phrase) (touches (answer p e.call).point h key phrase) (none key phrase)).1)
    ∙ call-same p e.call (λ key phrase. (or_parts (changes p e.call key phrase) (touches (answer p e.call).point h key phrase) (none key phrase)).0)

-- a history that changed no pair since a front of it is that front's
front-whole : (start : Dictionary) (history : List Entry) (number : ℕ) → ((key phrase : List ℕ) → touched (start_of start) history number (length history) key phrase ≡ false)
    → front_checkpoint start history number ≡ checkpoint_at (after (start_of start) history)
unfolding front_checkpoint
front-whole start history number none =
    let p = start_of start in
    let all : take (length history) history ≡ history = take_all (length history) history (omega arith) in
    let same : (after (after p (take number history)) (drop number history)).dictionary ≡ (after p (take number history)).dictionary =
    stretch-same (after p (take number history)) (drop number history)
    (λ key phrase. ap (λ h. touches (after p (take number history)) (drop number h) key phrase) (sym all) ∙ none key phrase) in
    let whole : after p history ≡ after (after p (take number history)) (drop number history) =
    ap (after p) (sym (take-append-drop number history)) ∙ after_joined p (take number history) (drop number history) in
    ap (λ (d : Dictionary). record { life = d.life; rows = d.pairs }) (sym same) ∙ ap checkpoint_at (sym whole)

-- of two numbers, where there is no other
pub only-one : (start : Dictionary) (history : List Entry) (number : ℕ) (another : Option ℕ) (zero one : List ℕ) → another ≡ None → RecoversToEither start history number another zero one → RecoversToFront start history number zero one
only-one start history number None zero one none either = ⊎_elim (λ old. old) (λ other. absurd other) either
only-one start history number (Some n) zero one none either = absurd (none-some (sym none))

pub all-saved : (start : Dictionary) (history : List Entry) (from : ℕ) (disk : DiskState) (rounds : List Round) → is_legal (start_of start) history ≡ true → IsSession start history from disk rounds
    → IsAllSaved start history → NowLeaves disk (RecoversTo (checkpoint_at (after (start_of start) history)))
all-saved start history from disk rounds l session saved zero one left other =
    only-one start history (last_saved 0 rounds) (shape_after start history).waiting zero one saved.nothing_waits (session.ends zero one left other)
    ∙ ap (λ number. Recovered (front_checkpoint start history number)) (sym session.acknowledged)
    ∙ ap Recovered (front-whole start history (shape_after start history).installed saved.nothing_fresh)

-- a last round freezes at the history's end, and installs
abbrev frozen : Entry
frozen = record { who = 0; call = Freeze }

abbrev installs : ℕ → Entry
installs number = record { who = 0; call = Install number }

last-number : (start : Dictionary) (history : List Entry) (number : ℕ) → (shape_after start history).waiting ≡ None → is_legal (start_of start) (history ++ (frozen ∷ (installs number ∷ []))) ≡ true → number ≡ length history
last-number start history number none l =
    let p = start_of start in
    let waits : (after p (history ++ frozen ∷ [])).shape.waiting ≡ Some number =
    waits-then p (history ++ frozen ∷ []) (installs number) [] number (ap (is_legal p) (append_assoc history (frozen ∷ []) (installs number ∷ [])) ∙ l) refl in
    let freezes : (after p (history ++ frozen ∷ [])).shape.waiting ≡ Some (after p history).place =
    ap (λ (q : Point). q.shape.waiting) (after_joined p history (frozen ∷ [])) ∙ ap (λ o. Some (unwrap_or o (after p history).place)) none in
    let same = some-same (sym waits ∙ freezes) in
    let place = place_after p history in
    omega arith

pub last-round-saves : (start : Dictionary) (history : List Entry) (number : ℕ) → (shape_after start history).waiting ≡ None → is_legal (start_of start) (history ++ (frozen ∷ (installs number ∷ []))) ≡ true
    → IsAllSaved start (history ++ (frozen ∷ (installs number ∷ [])))
last-round-saves start history number none l =
    let p = start_of start in
    let last = history ++ (frozen ∷ (installs number ∷ [])) in
    let shape : shape_after start last ≡ record { installed = number; waiting = None } = ap (λ (q : Point). q.shape) (after_joined p history (frozen ∷ (installs number ∷ []))) in
    let is : length history ≡ number = sym (last-number start history number none l) in
    record {
      nothing_waits = ap (λ (s : Shape). s.waiting) shape;
      nothing_fresh = λ key phrase.
          ap (λ n. touched p last n (length last) key phrase) (ap (λ (s : Shape). s.installed) shape ∙ sym is)
          ∙ last-untouched p history number key phrase;
    }
  where
    last-untouched : (p : Point) (h : List Entry) (n : ℕ) (key phrase : List ℕ) → touched p (h ++ (frozen ∷ (installs n ∷ []))) (length h) (length (h ++ (frozen ∷ (installs n ∷ [])))) key phrase ≡ false
    last-untouched p h n key phrase =
        ap (λ (k : ℕ). touched p (h ++ (frozen ∷ (installs n ∷ []))) (length h) k key phrase) (length-append h (frozen ∷ (installs n ∷ [])))
        ∙ touched_second p h (frozen ∷ (installs n ∷ [])) [] key phrase

-- a stretch in which nobody but the keeper made an entry is made of the keeper's calls
own-first : (b : Bool) (e : Entry) (h : List Entry) (who : ℕ) → (e.who == who) ≡ b → own (e ∷ h) who ≡ cond b (e ∷ own h who) (own h who)
own-first b e h who is = ap (λ t. cond t (e ∷ own h who) (own h who)) is

no-entry : (e : Entry) (h : List Entry) → e ∷ h ≡ [] → ⊥
no-entry e h same = let long = ap length same in omega arith

own-one : (e : Entry) (h : List Entry) → own (e ∷ h) e.who ≡ [] → ⊥
own-one e h none = no-entry e (own h e.who) (sym (own-first true e h e.who (eq-eqb e.who e.who refl)) ∙ none)

by-keeper : Call → Entry
by-keeper call = record { who = 0; call = call }

keepers-first : (e : Entry) (h : List Entry) → ((who : ℕ) → who ≢ 0 → own (e ∷ h) who ≡ []) → e.who ≡ 0
keepers-first e h none = ⊎_elim (λ same. same) (λ apart. absurd (own-one e h (none e.who apart))) (cases_eq e.who 0)

keepers-rest : (e : Entry) (h : List Entry) → ((who : ℕ) → who ≢ 0 → own (e ∷ h) who ≡ []) → (who : ℕ) → who ≢ 0 → own h who ≡ []
keepers-rest e h none who apart =
    sym (own-first false e h who (ne_eqb e.who who (λ same. apart (sym same ∙ keepers-first e h none)))) ∙ none who apart

keepers-alone : (h : List Entry) → ((who : ℕ) → who ≢ 0 → own h who ≡ []) → h ≡ map by-keeper (calls_of h 0)
unfolding by-keeper
keepers-alone [] none = refl
keepers-alone (e ∷ h) none =
    let keeper = keepers-first e h none in
    ap₂ (λ (d : Entry) (ds : List Entry). d ∷ ds) (ap (λ who. record { who = who; call = e.call }) keeper) (keepers-alone h (keepers-rest e h none))
    ∙ sym (ap (λ es. map by-keeper (map (λ (d : Entry). d.call) es)) (own-first true e h 0 (eq-eqb e.who 0 keeper)))

pub last-round : (start : Dictionary) (seen seen_then : List Entry) (disk disk_then : DiskState) (number : ℕ) → is_legal (start_of start) seen_then ≡ true → (shape_after start seen).waiting ≡ None
    → (round : IsRound start seen seen_then disk disk_then (Saved number)) → ((who : ℕ) → who ≢ 0 → own round.more who ≡ []) → IsAllSaved start seen_then
unfolding by-keeper
last-round start seen seen_then disk disk_then number l none round alone =
    let more : round.more ≡ frozen ∷ (installs number ∷ []) = keepers-alone round.more alone ∙ ap (map by-keeper) round.calls in
    let same : seen_then ≡ seen ++ (frozen ∷ (installs number ∷ [])) = round.joined ∙ ap (λ h. seen ++ h) more in
    subst (λ h. IsAllSaved start h) (sym same) (last-round-saves start seen number none (ap (is_legal (start_of start)) (sym same) ∙ l))
