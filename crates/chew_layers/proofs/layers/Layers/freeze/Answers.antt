-- A freeze while a layer waits is noted.
use Rattle.std.proofs.Common.{sym, subst}
use Rattle.chew_spec_dictionary.specs.Call.{Freeze as FreezeCall}
use Rattle.chew_spec_layers.specs.Layers.{Layers, frozen_marks, noted}
use Rattle.chew_spec_layers.specs.Standing.{StandForMap}
use Rattle.chew_layers.proofs.Calls.{noted_freeze}
use Rattle.chew_layers.proofs.layers.Layers.freeze.Goals as goal

pub note-requires : goal.note-requires
note-requires c = record {
  stands = subst (λ (s : Layers). StandForMap (noted s (record { who = c.args.who; call = FreezeCall }))) (sym c.in_ok-frozen-in-Some.ensures.same)
      (noted_freeze c.args.self.now c.keeps.ensures.stands c.args.who
      (record { marks = frozen_marks c.args.self.now.frozen; number = c.in-Some.at.number; life = c.in-Some.at.life }) (sym c.in-Some.ensures));
}
