-- The layout that the code's Table stands for.
use Rattle.chew_spec_layout.specs.Table as spec
use Rattle.chew_layout_table.specs.declared.columns.Table.{Table}
use Rattle.chew_layout_table.specs.declared.columns.Table.TheVariants.{Standard, Eten}

abbrev pub table_of : Table → spec.Table
table_of Standard = spec.Standard
table_of Eten = spec.Eten
