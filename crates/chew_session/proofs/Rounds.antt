-- What a round of the checkpointer makes of a stage.
use Rattle.std.specs.Prelude.{◌≡◌, ◌++◌, ℕ, Bool, List, [], ◌∷◌, map}
use Rattle.std.proofs.Common.{sym, ap, ◌∙◌, subst}
use Rattle.std.proofs.lemmas.List.{append-nil, append_assoc, map-append}
use Rattle.chew_spec_disk.specs.Disk.{DiskState}
use Rattle.chew_spec_dictionary.specs.Dictionary.{Dictionary}
use Rattle.chew_spec_dictionary.specs.History.{Entry}
use Rattle.chew_spec_slots.specs.Keep.{Keep}
use Rattle.chew_spec_cell.specs.Sight.{HasSeen}
use Rattle.chew_spec_rounds.specs.Round as spec
use Rattle.chew_checkpoint.specs.Answers.{round_of}
use Rattle.chew_checkpoint.specs.declared.round.Round.{Round}
use Rattle.chew_session.specs.Saving.{MakeAll, Makes, Stage}
use Rattle.chew_session.proofs.Saving.{make-both, make-round, make-wait}

-- the rounds so far, and one more
pub one-more : (start : Dictionary) (told : Bool) (first before now : Stage) (rounds : List Round) (round : Round) (longer : List Round) → longer ≡ rounds ++ round ∷ []
    → MakeAll start told first (map round_of rounds) before → Makes start told before (round_of round) now → MakeAll start told first (map round_of longer) now
one-more start told first before now rounds round longer same all makes =
    subst (λ (rs : List spec.Round). MakeAll start told first rs now) (sym (ap (map round_of) same ∙ map-append round_of rounds (round ∷ [])))
    (make-both start told first before now (map round_of rounds) (round_of round ∷ []) all (make-round start told before (round_of round) now makes))

-- the answers so far, and one more, and others behind it
pub joined-one : (rounds longer : List Round) (round : Round) → longer ≡ rounds ++ round ∷ [] → map round_of longer ≡ map round_of rounds ++ round_of round ∷ []
joined-one rounds longer round same = ap (map round_of) same ∙ map-append round_of rounds (round ∷ [])

pub joined-none : (rounds longer : List Round) → longer ≡ rounds → map round_of longer ≡ map round_of rounds ++ []
joined-none rounds longer same = ap (map round_of) same ∙ sym (append-nil (map round_of rounds))

pub joined-over : (rounds between : List Round) (last : List spec.Round) (round : Round) (rest : List spec.Round) → between ≡ rounds ++ round ∷ [] → last ≡ map round_of between ++ rest
    → last ≡ map round_of rounds ++ round_of round ∷ rest
joined-over rounds between last round rest one more =
    more ∙ ap (λ (rs : List spec.Round). rs ++ rest) (joined-one rounds between round one) ∙ append_assoc (map round_of rounds) (round_of round ∷ []) rest

-- rounds behind a wait, behind a round, and a round behind rounds, over a disk that tells as before
pub wait-on : (start : Dictionary) (told : Bool) (keep keep_then : Keep) (disk : DiskState) (faults : ℕ) (before asked : List Entry) (rounds : List spec.Round) (now : Stage) → keep_then ≡ keep → HasSeen 0 before asked
    → MakeAll start told (record { keep = keep_then; disk = disk; faults = faults; seen = asked }) rounds now
    → MakeAll start told (record { keep = keep; disk = disk; faults = faults; seen = before }) rounds now
wait-on start told keep keep_then disk faults before asked rounds now same seen all =
    make-both start told (record { keep = keep; disk = disk; faults = faults; seen = before }) (record { keep = keep; disk = disk; faults = faults; seen = asked }) now [] rounds
    (make-wait start told keep disk faults before asked seen)
    (subst (λ (k : Keep). MakeAll start told (record { keep = k; disk = disk; faults = faults; seen = asked }) rounds now) same all)

pub round-on : (start : Dictionary) (told told_then : Bool) (before between now : Stage) (round : spec.Round) (rounds : List spec.Round) → told_then ≡ told → Makes start told before round between
    → MakeAll start told_then between rounds now → MakeAll start told before (round ∷ rounds) now
round-on start told told_then before between now round rounds same makes all =
    make-both start told before between now (round ∷ []) rounds (make-round start told before round between makes)
    (subst (λ (b : Bool). MakeAll start b between rounds now) same all)

pub one-on : (start : Dictionary) (told told_then : Bool) (first before now : Stage) (rounds : List Round) (round : Round) (longer : List Round) → told_then ≡ told → longer ≡ rounds ++ round ∷ []
    → MakeAll start told first (map round_of rounds) before → Makes start told_then before (round_of round) now → MakeAll start told first (map round_of longer) now
one-on start told told_then first before now rounds round longer same joined all makes =
    one-more start told first before now rounds round longer joined all (subst (λ (b : Bool). Makes start b before (round_of round) now) same makes)

-- rounds from a session's beginning
pub begins-at : (start : Dictionary) (told : Bool) (keep keep_then : Keep) (disk : DiskState) (faults : ℕ) (seen : List Entry) (rounds : List spec.Round) (now : Stage) → keep_then ≡ keep → seen ≡ []
    → MakeAll start told (record { keep = keep_then; disk = disk; faults = faults; seen = seen }) rounds now
    → MakeAll start told (record { keep = keep; disk = disk; faults = faults; seen = [] }) rounds now
begins-at start told keep keep_then disk faults seen rounds now same none all =
    subst (λ (k : Keep). MakeAll start told (record { keep = k; disk = disk; faults = faults; seen = [] }) rounds now) same
    (subst (λ (h : List Entry). MakeAll start told (record { keep = keep_then; disk = disk; faults = faults; seen = h }) rounds now) none all)
