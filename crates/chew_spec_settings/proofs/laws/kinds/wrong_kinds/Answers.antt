-- Each value computes.
use Rattle.std.proofs.Common.{refl}
use Rattle.chew_spec_settings.proofs.Computing.{settings_on_literals}
use Rattle.chew_spec_settings.proofs.laws.kinds.wrong_kinds.Goals as goal

pub returns-clause-layout : goal.returns-clause-layout
unfolding settings_on_literals
returns-clause-layout c = refl

pub returns-clause-layout_in_an_array : goal.returns-clause-layout_in_an_array
unfolding settings_on_literals
returns-clause-layout_in_an_array c = refl

pub returns-clause-layout_bare : goal.returns-clause-layout_bare
unfolding settings_on_literals
returns-clause-layout_bare c = refl

pub returns-clause-buffer_as_text : goal.returns-clause-buffer_as_text
unfolding settings_on_literals
returns-clause-buffer_as_text c = refl

pub returns-clause-buffer_as_float : goal.returns-clause-buffer_as_float
unfolding settings_on_literals
returns-clause-buffer_as_float c = refl

pub returns-clause-buffer_as_date : goal.returns-clause-buffer_as_date
unfolding settings_on_literals
returns-clause-buffer_as_date c = refl

pub returns-clause-buffer_as_time : goal.returns-clause-buffer_as_time
unfolding settings_on_literals
returns-clause-buffer_as_time c = refl

pub returns-clause-buffer_as_array : goal.returns-clause-buffer_as_array
unfolding settings_on_literals
returns-clause-buffer_as_array c = refl

pub returns-clause-buffer_as_table : goal.returns-clause-buffer_as_table
unfolding settings_on_literals
returns-clause-buffer_as_table c = refl

pub returns-clause-dotted : goal.returns-clause-dotted
unfolding settings_on_literals
returns-clause-dotted c = refl

pub returns-clause-header : goal.returns-clause-header
unfolding settings_on_literals
returns-clause-header c = refl

pub returns-clause-headers : goal.returns-clause-headers
unfolding settings_on_literals
returns-clause-headers c = refl

pub returns-clause-page : goal.returns-clause-page
unfolding settings_on_literals
returns-clause-page c = refl

pub returns-clause-selection : goal.returns-clause-selection
unfolding settings_on_literals
returns-clause-selection c = refl

pub returns-clause-selection_in_an_array : goal.returns-clause-selection_in_an_array
unfolding settings_on_literals
returns-clause-selection_in_an_array c = refl

pub returns-clause-escape_clears_as_number : goal.returns-clause-escape_clears_as_number
unfolding settings_on_literals
returns-clause-escape_clears_as_number c = refl

pub returns-clause-escape_clears_as_text : goal.returns-clause-escape_clears_as_text
unfolding settings_on_literals
returns-clause-escape_clears_as_text c = refl

pub returns-clause-learn_as_number : goal.returns-clause-learn_as_number
unfolding settings_on_literals
returns-clause-learn_as_number c = refl

pub returns-clause-learn_as_text : goal.returns-clause-learn_as_text
unfolding settings_on_literals
returns-clause-learn_as_text c = refl

pub returns-clause-cap_as_float : goal.returns-clause-cap_as_float
unfolding settings_on_literals
returns-clause-cap_as_float c = refl

pub returns-clause-cap_as_text : goal.returns-clause-cap_as_text
unfolding settings_on_literals
returns-clause-cap_as_text c = refl
