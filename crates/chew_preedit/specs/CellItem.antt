-- The cell that the code's item stands for.
use Rattle.std.specs.Prelude.{Bool, true}
use Rattle.chew_spec_text.specs.KeyStroke.{is_printable}
use Rattle.chew_spec_preedit.specs.Cell as spec
use Rattle.chew_preedit.specs.declared.cell_item.CellItem.{CellItem}
use Rattle.chew_preedit.specs.declared.cell_item.CellItem.TheVariants.{Sound, Symbol}

abbrev pub cell_of : CellItem → spec.Cell
cell_of (Sound syllable) = spec.Sound syllable
cell_of (Symbol byte) = spec.Symbol byte

-- an item that is a symbol is a printable byte
abbrev pub is_printable_item : CellItem → Bool
is_printable_item (Sound syllable) = true
is_printable_item (Symbol byte) = is_printable byte
