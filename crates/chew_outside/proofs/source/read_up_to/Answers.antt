-- A read more, and the ends.
use Rattle.std.proofs.Common.{◌+◌, ◌≡◌, ◌++◌, true, not, arith, length, take, refl, ◌∙◌, ap, sym, subst, length-append, length-take, vec_len}
use Rattle.std.specs.Result.{is_ok}
use Rattle.chew_spec_outside.specs.Source.{Reads, ReadsText}
use Rattle.chew_spec_outside.proofs.Contents.{reads-chain, reads-ended, reads-gone, reads-lost}
use Rattle.chew_outside.proofs.source.read_up_to.Goals as goal

pub reading-preserved : goal.reading-preserved
reading-preserved g c =
    let okay : is_ok c.extend_from_slice.result ≡ true = c.is_err.ensures.negation ∙ ap not c.if-is_err.false in
    let longer : vec_len c.extend_from_slice.new.self ≡ vec_len c.reading.text + length (take c.in-Ok.count c.read.new.into) = rw okay at c.extend_from_slice.ensures.len in
    let taken = length-take c.in-Ok.count c.read.new.into in
    let items : c.extend_from_slice.new.self.items ≡ c.reading.text.items ++ take c.in-Ok.count c.read.new.into = rw okay at c.extend_from_slice.ensures.items in
    let text : ReadsText (g.S.Source.left c.args.source.now) (g.S.Source.left c.read.new.self) (c.reading.text.items ++ take c.in-Ok.count c.read.new.into) = reads-chain _ _ _ _ _ _ _ c.reading.invariant.text c.in-Ok.ensures.ok in
    record {
      within = omega (arith, longer, taken, c.in-Ok.ensures.ok.fits, length-take c.min-room.result c.reading.buffer, c.min-room.ensures, c.len-in-reading.ensures);
      text = subst (λ t. ReadsText (g.S.Source.left c.args.source.now) (g.S.Source.left c.read.new.self) t) (sym items) text;
      faults = c.in-Ok.ensures.cause.same refl ∙ c.reading.invariant.faults;
    }

pub returns-in-Ok-eq0-clause-ok : goal.returns-in-Ok-eq0-clause-ok
returns-in-Ok-eq0-clause-ok g c =
    let reads : Reads (g.S.Source.left c.reading.source) (g.S.Source.left c.read.new.self) (take c.min-room.result c.reading.buffer) c.read.new.into 0 = subst (λ n. Reads (g.S.Source.left c.reading.source) (g.S.Source.left c.read.new.self) (take c.min-room.result c.reading.buffer) c.read.new.into n) c.in-Ok-eq0.field-0-test c.in-Ok-eq0.ensures.ok in
    reads-ended _ _ _ _ _ _ _ c.reading.invariant.text reads
    (omega (arith, length-take c.min-room.result c.reading.buffer, c.min-room.ensures, c.min-room.array_long, c.len-in-reading.ensures, c.len.ensures, c.reading-test.true))
    (omega (arith, c.reading.text.ok, c.reading.invariant.within))

pub returns-then-is_err-clause-err : goal.returns-then-is_err-clause-err
returns-then-is_err-clause-err g c =
    let text : ReadsText (g.S.Source.left c.args.source.now) (g.S.Source.left c.read.new.self) (c.reading.text.items ++ take c.in-Ok.count c.read.new.into) = reads-chain _ _ _ _ _ _ _ c.reading.invariant.text c.in-Ok.ensures.ok in
    reads-gone _ _ _ _ text
    (omega (arith, length-append c.reading.text.items (take c.in-Ok.count c.read.new.into), length-take c.in-Ok.count c.read.new.into, c.in-Ok.ensures.ok.fits, length-take c.min-room.result c.reading.buffer, c.min-room.ensures, c.len-in-reading.ensures, c.reading.text.ok, c.reading.invariant.within))

pub returns-in-Err-clause-err : goal.returns-in-Err-clause-err
returns-in-Err-clause-err g c =
    reads-lost _ _ _ _ _ _ c.reading.invariant.text c.in-Err.ensures.err
    (omega (arith, length-take c.min-room.result c.reading.buffer, c.min-room.ensures, c.len-in-reading.ensures, c.reading.text.ok, c.reading.invariant.within))
