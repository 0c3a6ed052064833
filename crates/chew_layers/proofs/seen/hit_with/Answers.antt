-- The hit is that of the row.
use Rattle.std.proofs.Common.{ℕ, Bool, ap₂}
use Rattle.chew_spec_dictionary.specs.Call.{Hit}
use Rattle.chew_layers.proofs.seen.hit_with.Goals as goal

pub returns : goal.returns
returns c =
    ap₂ (λ (n : ℕ) (b : Bool). let h : Hit = record { start = c.args.start; len = n; phrase = c.args.phrase; freq = c.args.freq; hidden = b } in h)
    c.len.ensures (c.is_hidden.ensures c.args.phrase c.args.freq)
