-- The definitions' mark that a lent one stands for.
use Rattle.chew_spec_layers.specs.Mark.{Marked}
use Rattle.chew_buffer.specs.Marks.{marked_of}
use Rattle.chew_buffer.specs.declared.iter.MarkRef.{MarkRef}

-- the pair and its mark
abbrev pub marked : MarkRef → Marked
marked mark = marked_of mark.key.now mark.phrase.now mark.mark
