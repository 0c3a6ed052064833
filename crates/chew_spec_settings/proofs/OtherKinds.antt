-- When a value is of another kind.
use Rattle.std.proofs.Common.{◌≡◌, ◌↔◌, ℕ, pos, negsuc, Bool, true, false, cond, Option, Some, None, Ok, Err, refl}
use Rattle.std.specs.Option.{option_map_or}
use Rattle.toml.specs.Data.{Data, string, integer, float, boolean, datetime, array, table, as_bool, as_integer, as_str}
use Rattle.chew_spec_settings.specs.Fault.{Kind, Range}
use Rattle.chew_spec_settings.specs.Values.{layout_named, layout_value, integer_up_to, selection_value, truth}

no_kind : {V : Type 0} (test : Bool) (value : V) → cond test (Ok value) (Err Range) ≡ Err Kind → ⊥
no_kind true value e = absurd cc
no_kind false value e = absurd cc

no_kind_found : {V : Type 0} (found : Option V) → option_map_or Ok found (Err Range) ≡ Err Kind → ⊥
no_kind_found None e = absurd cc
no_kind_found (Some value) e = absurd cc

pub number_kind : (greatest : ℕ) (value : Data) → (integer_up_to greatest value ≡ Err Kind) ↔ (as_integer value ≡ None)
number_kind greatest (string s) = (λ e. refl, λ e. refl)
number_kind greatest (integer (pos n)) = (λ e. absurd (no_kind _ n e), λ e. absurd cc)
number_kind greatest (integer (negsuc n)) = (λ e. absurd cc, λ e. absurd cc)
number_kind greatest (float x) = (λ e. refl, λ e. refl)
number_kind greatest (boolean b) = (λ e. refl, λ e. refl)
number_kind greatest (datetime d) = (λ e. refl, λ e. refl)
number_kind greatest (array ds) = (λ e. refl, λ e. refl)
number_kind greatest (table ms) = (λ e. refl, λ e. refl)

pub layout_kind : (value : Data) → (layout_value value ≡ Err Kind) ↔ (as_str value ≡ None)
layout_kind (string s) = (λ e. absurd (no_kind_found (layout_named s) e), λ e. absurd cc)
layout_kind (integer z) = (λ e. refl, λ e. refl)
layout_kind (float x) = (λ e. refl, λ e. refl)
layout_kind (boolean b) = (λ e. refl, λ e. refl)
layout_kind (datetime d) = (λ e. refl, λ e. refl)
layout_kind (array ds) = (λ e. refl, λ e. refl)
layout_kind (table ms) = (λ e. refl, λ e. refl)

pub selection_kind : (value : Data) → (selection_value value ≡ Err Kind) ↔ (as_str value ≡ None)
selection_kind (string s) = (λ e. absurd (no_kind _ s e), λ e. absurd cc)
selection_kind (integer z) = (λ e. refl, λ e. refl)
selection_kind (float x) = (λ e. refl, λ e. refl)
selection_kind (boolean b) = (λ e. refl, λ e. refl)
selection_kind (datetime d) = (λ e. refl, λ e. refl)
selection_kind (array ds) = (λ e. refl, λ e. refl)
selection_kind (table ms) = (λ e. refl, λ e. refl)

pub truth_kind : (value : Data) → (truth value ≡ Err Kind) ↔ (as_bool value ≡ None)
truth_kind (string s) = (λ e. refl, λ e. refl)
truth_kind (integer z) = (λ e. refl, λ e. refl)
truth_kind (float x) = (λ e. refl, λ e. refl)
truth_kind (boolean b) = (λ e. absurd cc, λ e. absurd cc)
truth_kind (datetime d) = (λ e. refl, λ e. refl)
truth_kind (array ds) = (λ e. refl, λ e. refl)
truth_kind (table ms) = (λ e. refl, λ e. refl)
