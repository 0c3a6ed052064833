-- What stood there stays in front of the first code, and of the others.
use Rattle.std.proofs.lemmas.Result.{on_err_weaker}
use Rattle.chew_text.proofs.Fronts.{front_more}
use Rattle.chew_script.proofs.entry.+push_codes.Goals as goal

pub returns-in_ok-append_number-in-len1-up-clause-err : goal.returns-in_ok-append_number-in-len1-up-clause-err
returns-in_ok-append_number-in-len1-up-clause-err t c =
    on_err_weaker c.push_codes.result
    (front_more c.args.text.now.items c.append_number-in-len1-up.new.text.items _ c.push_codes.new.text.items c.in_ok-append_number-in-len1-up.ensures.ok)
    c.push_codes.ensures.err
