-- The layout that the code's Letters stands for.
use Rattle.chew_spec_layout.specs.Letters as spec
use Rattle.chew_layout_26.specs.declared.columns.Letters.{Letters}
use Rattle.chew_layout_26.specs.declared.columns.Letters.TheVariants.{Hsu, Et26}

abbrev pub kind_of : Letters → spec.Letters
kind_of Hsu = spec.Hsu
kind_of Et26 = spec.Et26
