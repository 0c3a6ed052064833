-- A part of the range is torn no more than the whole.
use Rattle.std.proofs.Common.{◌≤◌, length, arith, subst, sym}
use Rattle.chew_spec_disk.specs.Write.{Torn}
use Rattle.chew_spec_disk.proofs.Crashes.{torn-less}
use Rattle.chew_spec_disk.proofs.Written.{torn-written}
use Rattle.chew_outside.proofs.mem_crash.tear.Goals as goal

pub returns-in_ok-paste-in_default : goal.returns-in_ok-paste-in_default
returns-in_ok-paste-in_default c =
    let part = c.as_slice.result.now in
    let old = c.args.left.now.items in
    let fits : length part ≤ length c.args.bytes.now = omega (arith, c.as_slice.ensures.len, c.in_ok-mixed-in_default.ensures) in
    record {
      torn = torn-less c.args.at (length part) (length c.args.bytes.now) old c.paste-in_default.new.list.items fits
          (subst (λ list. Torn c.args.at (length part) old list) (sym c.in_ok-paste-in_default.ensures.ok) (torn-written c.args.at part old));
      kept = λ e. absurd (omega arith);
      lost = λ e. absurd (omega arith);
      marked = λ e. absurd (omega arith);
    }
