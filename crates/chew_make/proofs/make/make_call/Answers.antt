-- The six lines were told, or that memory was wanting.
use Rattle.chew_spec_program.specs.Make.{IsMake}
use Rattle.chew_spec_program.specs.Writing.{Sunk, sunk}
use Rattle.chew_spec_program.proofs.Make.{make-listed, make-sink}
use Rattle.chew_make.proofs.Making.{make_told}
use Rattle.chew_make.proofs.make.make_call.Goals as goal

pub returns : goal.returns
returns g c =
    let sink : Sunk = sunk (g.O.Sink.taken c.args.sink.now) (g.O.Sink.taken c.tell.new.sink) (g.O.Sink.faults c.args.sink.now) (g.O.Sink.faults c.tell.new.sink) in
    let is : IsMake c.args.number sink c.tell.result = make_told c.made-answer.result c.args.number sink c.tell.result c.made-answer.ensures c.tell.ensures in
    record {
      make = is;
      sink = make-sink c.args.number sink c.tell.result is;
      statuses = make-listed c.args.number sink c.tell.result is;
    }
