-- By what was written.
use Rattle.chew_make.proofs.Sent.{sends}
use Rattle.chew_make.proofs.telling.send.Goals as goal

pub returns : goal.returns
returns g c =
    sends (g.O.Sink.taken c.args.sink.now) (g.O.Sink.taken c.write_all.new.sink) (g.O.Sink.faults c.args.sink.now) (g.O.Sink.faults c.write_all.new.sink)
    c.args.bytes.now c.write_all.result c.write_all.ensures.cause c.write_all.ensures.ok c.write_all.ensures.err
