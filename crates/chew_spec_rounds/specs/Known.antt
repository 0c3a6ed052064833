-- Known histories and disks, for the known values.
use Rattle.std.specs.Prelude.{◌≡◌, ◌⊎◌, ℕ, ◌==◌, List, [], ◌∷◌, get_or, if◌then◌else◌}
use Rattle.chew_spec_disk.specs.Disk.{DiskState}
use Rattle.chew_spec_dictionary.specs.Call.{Call, Learn, Look, Freeze, Install}
use Rattle.chew_spec_dictionary.specs.Dictionary.{Dictionary}
use Rattle.chew_spec_dictionary.specs.FiveRows.{ce4, shi4}
use Rattle.chew_spec_dictionary.specs.History.{Entry}
use Rattle.chew_spec_image.specs.Sample.{one_row}

-- nothing was ever learnt
abbrev pub nothing : Dictionary
nothing = record { pairs = []; life = 0; cap = 65_536 }

-- an entry of context 1, and one of the keeper
abbrev pub by_user : Call → Entry
by_user call = record { who = 1; call = call }

abbrev pub by_keeper : Call → Entry
by_keeper call = record { who = 0; call = call }

-- 測試 is learnt, and looked up
abbrev pub learns : Entry
learns = by_user (Learn one_row.key one_row.phrase 9318 9318)

abbrev pub looks : Entry
looks = by_user (Look (ce4 ∷ (shi4 ∷ [])))

-- a freeze in the middle of a context's talk, a learn before the install, and a last round
abbrev pub learnt_between : List Entry
learnt_between =
    looks ∷ (looks ∷ (by_keeper Freeze ∷ (learns ∷ (by_keeper (Install 2)
    ∷ (by_keeper Freeze ∷ (by_keeper (Install 5) ∷ []))))))

-- a learn is frozen, the writing fails, there is a learn more, and the next round freezes again
abbrev pub failed_once : List Entry
failed_once = learns ∷ (by_keeper Freeze ∷ (learns ∷ (by_keeper Freeze ∷ [])))

-- a disk whose slot 1 is empty, and whose slot 0 had this list at each moment, up to the last
abbrev pub disk_with : (lists : List (List ℕ)) → (moment : ℕ) → DiskState
disk_with lists moment = record {
  moment = moment;
  reads = λ slot. if slot == 0 then get_or lists moment [] else [];
  may_leave = λ slot list. list ≡ (if slot == 0 then get_or lists moment [] else []);
  might_have_left = λ at slot list. list ≡ (if slot == 0 then get_or lists at [] else []);
}

-- a disk whose slots are empty, before its first call
abbrev pub empty_disk : DiskState
empty_disk = record { moment = 0; reads = λ slot. []; may_leave = λ slot list. list ≡ []; might_have_left = λ at slot list. list ≡ [] }

-- the same disk one call later, where a crash may leave slot 0 empty as before, or this list
abbrev pub torn_disk : (new : List ℕ) → DiskState
torn_disk new = record {
  moment = 1;
  reads = λ slot. [];
  may_leave = λ slot list. (list ≡ []) ⊎ ((slot ≡ 0) × (list ≡ new));
  might_have_left = λ at slot list. (list ≡ []) ⊎ ((at ≡ 1) × (slot ≡ 0) × (list ≡ new));
}
