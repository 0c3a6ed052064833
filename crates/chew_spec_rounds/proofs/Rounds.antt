-- What a round leaves of the history's shape.
use Rattle.std.specs.Prelude.{◌≡◌, ℕ, true, List, [], ◌∷◌, ◌++◌, Some, None, unwrap_or, refl}
use Rattle.std.proofs.Common.{sym, ap, ◌∙◌, subst}
use Rattle.chew_spec_disk.specs.Disk.{DiskState}
use Rattle.chew_spec_disk.specs.Moments.{AlwaysLeft}
use Rattle.chew_spec_disk.proofs.Moments.{always-weaker}
use Rattle.chew_spec_dictionary.specs.Call.{Install}
use Rattle.chew_spec_dictionary.specs.Dictionary.{Dictionary}
use Rattle.chew_spec_dictionary.specs.History.{Entry, Point, Shape, after, calls_of, is_legal, start_of}
use Rattle.chew_spec_dictionary.proofs.Histories.{after_joined}
use Rattle.chew_spec_rounds.specs.Front.{RecoversToEither, RecoversToFront, shape_after}
use Rattle.chew_spec_rounds.specs.Round.{DiskFault, IsRound, Round, Saved, saved_number, snapshot_number}
use Rattle.chew_spec_rounds.proofs.Fronts.{legal-rest}
use Rattle.chew_spec_rounds.proofs.InStep.{Holds, round-holds, unsaved-snapshot}
use Rattle.chew_spec_rounds.proofs.Keepers.{frozen-shape, install-names, saved-shape}
use Rattle.chew_spec_rounds.proofs.LastRounds.{only-one}

pub saved-installs : (start : Dictionary) (seen seen_then : List Entry) (disk disk_then : DiskState) (number : ℕ) → is_legal (start_of start) seen_then ≡ true
    → IsRound start seen seen_then disk disk_then (Saved number) → shape_after start seen_then ≡ record { installed = number; waiting = None }
saved-installs start seen seen_then disk disk_then number l r =
    ap (shape_after start) r.joined ∙ ap (λ (q : Point). q.shape) (after_joined (start_of start) seen r.more)
    ∙ saved-shape (after (start_of start) seen) r.more number (legal-rest (start_of start) seen r.more seen_then r.joined l) r.calls

pub unsaved-holds : (start : Dictionary) (seen seen_then : List Entry) (disk disk_then : DiskState) (round : Round) → is_legal (start_of start) seen_then ≡ true → saved_number round ≡ None
    → (r : IsRound start seen seen_then disk disk_then round) → Holds start seen r.more seen_then
unsaved-holds start seen seen_then disk disk_then round l none r =
    subst (λ h. Holds start seen r.more h) (sym r.joined) (round-holds start seen r.more round (ap (is_legal (start_of start)) (sym r.joined) ∙ l) none r.calls)

pub only-old : (start : Dictionary) (seen seen_then : List Entry) (disk disk_then : DiskState) (round : Round) → saved_number round ≡ None → IsRound start seen seen_then disk disk_then round
    → (shape_after start seen_then).waiting ≡ None → AlwaysLeft disk.moment disk_then (RecoversToFront start seen_then (shape_after start seen).installed)
only-old start seen seen_then disk disk_then round none r waits =
    always-weaker disk.moment disk_then (RecoversToEither start seen_then (shape_after start seen).installed (snapshot_number round (shape_after start seen_then)))
    (RecoversToFront start seen_then (shape_after start seen).installed) r.moments
    (λ zero one. only-one start seen_then (shape_after start seen).installed (snapshot_number round (shape_after start seen_then)) zero one
    (sym (unsaved-snapshot round (shape_after start seen_then) none) ∙ waits))

pub number-waits : (start : Dictionary) (frozen installs : List Entry) (number : ℕ) → is_legal (start_of start) (frozen ++ installs) ≡ true → calls_of installs 0 ≡ Install number ∷ []
    → (shape_after start frozen).waiting ≡ Some number
number-waits start frozen installs number l calls = install-names (after (start_of start) frozen) installs number (legal-rest (start_of start) frozen installs (frozen ++ installs) refl l) calls

pub fault-waits : (start : Dictionary) (seen seen_then : List Entry) (disk disk_then : DiskState) (step : ℕ) → is_legal (start_of start) seen_then ≡ true
    → IsRound start seen seen_then disk disk_then (DiskFault step) → (number : ℕ) × ((shape_after start seen_then).waiting ≡ Some number)
fault-waits start seen seen_then disk disk_then step l r =
    let frozen = frozen-shape (after (start_of start) seen) r.more (legal-rest (start_of start) seen r.more seen_then r.joined l) r.calls in (
      unwrap_or (shape_after start seen).waiting frozen.0,
      ap (λ h. (shape_after start h).waiting) r.joined ∙ ap (λ (q : Point). q.shape.waiting) (after_joined (start_of start) seen r.more) ∙ ap (λ (s : Shape). s.waiting) frozen.1,
    )
