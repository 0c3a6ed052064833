-- The words, the settings, the system, the script and the slots, in this order.
use Rattle.std.proofs.Common.{◌≡◌, ◌∙◌, Ok, Err, map, sym, true}
use Rattle.std.proofs.lemmas.Result.{err_from_is_err_and}
use Rattle.chew_spec_program.specs.Command.{is_run_command}
use Rattle.chewing_cli.specs.Opens.{found_of, rows_of}
use Rattle.chewing_cli.specs.Refusals.{kind_of}
use Rattle.chewing_cli.proofs.Openings.{opens_script, opens_settings, opens_slots, opens_system, opens_words, uncalled_same, unread_same}
use Rattle.chewing_cli.proofs.opening.open.Goals as goal

pub returns-then-not-is_run-clause-opens : goal.returns-then-not-is_run-clause-opens
returns-then-not-is_run-clause-opens g c =
    opens_words (map (λ word. word.now) c.args.words.now) _ _ _ _ (sym c.is_run.ensures ∙ c.if-not-is_run.true)
    (unread_same _ _) (unread_same _ _) (unread_same _ _) (uncalled_same _ _ _)

pub returns-in_err-settings-clause-opens : goal.returns-in_err-settings-clause-opens
returns-in_err-settings-clause-opens g c =
    let p = err_from_is_err_and c.from_residual.result c.from_residual.ensures.1 in
    let formed : is_run_command (map (λ word. word.now) c.args.words.now) ≡ true = sym c.is_run.ensures ∙ c.if-not-is_run.false in
    rw (p.1, p.2) (opens_settings (map (λ word. word.now) c.args.words.now) _ _ _ _ (kind_of c.in_err-settings.field-0.0) formed
    (unread_same _ _) (unread_same _ _) (uncalled_same _ _ _) c.in_err-settings.ensures)

pub returns-in_err-system-clause-opens : goal.returns-in_err-system-clause-opens
returns-in_err-system-clause-opens g c =
    let p = err_from_is_err_and c.from_residual-in_err-system.result c.from_residual-in_err-system.ensures.1 in
    let formed : is_run_command (map (λ word. word.now) c.args.words.now) ≡ true = sym c.is_run.ensures ∙ c.if-not-is_run.false in
    rw (p.1, p.2) (opens_system (map (λ word. word.now) c.args.words.now) _ _ _ _ c.in_ok-settings.settings (kind_of c.in_err-system.field-0.0) formed
    (unread_same _ _) (uncalled_same _ _ _) c.in_ok-settings.ensures c.in_err-system.ensures)

pub returns-in_err-script-clause-opens : goal.returns-in_err-script-clause-opens
returns-in_err-script-clause-opens g c =
    let p = err_from_is_err_and c.from_residual-in_err-script.result c.from_residual-in_err-script.ensures.1 in
    let formed : is_run_command (map (λ word. word.now) c.args.words.now) ≡ true = sym c.is_run.ensures ∙ c.if-not-is_run.false in
    rw (p.1, p.2) (opens_script (map (λ word. word.now) c.args.words.now) _ _ _ _ c.in_ok-settings.settings (rows_of c.in_ok-system.system)
    (kind_of c.in_err-script.field-0.0) formed (uncalled_same _ _ _) c.in_ok-settings.ensures c.in_ok-system.ensures c.in_err-script.ensures.reads)

pub returns-clause-opens : goal.returns-clause-opens
returns-clause-opens g c =
    let formed : is_run_command (map (λ word. word.now) c.args.words.now) ≡ true = sym c.is_run.ensures ∙ c.if-not-is_run.false in
    opens_slots (map (λ word. word.now) c.args.words.now) _ _ _ _ c.in_ok-settings.settings (rows_of c.in_ok-system.system)
    c.in_ok-script.script (Ok (found_of c.in_ok-found.found)) formed c.in_ok-settings.ensures c.in_ok-system.ensures c.in_ok-script.ensures.reads
    c.in_ok-found.ensures.finds

pub returns-in_err-found-clause-opens : goal.returns-in_err-found-clause-opens
returns-in_err-found-clause-opens g c =
    let p = err_from_is_err_and c.from_residual-in_err-found.result c.from_residual-in_err-found.ensures.1 in
    let formed : is_run_command (map (λ word. word.now) c.args.words.now) ≡ true = sym c.is_run.ensures ∙ c.if-not-is_run.false in
    rw (p.1, p.2) (opens_slots (map (λ word. word.now) c.args.words.now) _ _ _ _ c.in_ok-settings.settings (rows_of c.in_ok-system.system)
    c.in_ok-script.script (Err (kind_of c.in_err-found.field-0.0)) formed c.in_ok-settings.ensures c.in_ok-system.ensures c.in_ok-script.ensures.reads
    c.in_err-found.ensures.finds)
