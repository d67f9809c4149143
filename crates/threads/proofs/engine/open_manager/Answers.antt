use Rattle.threads.proofs.Reporting.{scripts_refused}
use Rattle.threads.proofs.engine.open_manager.Goals as goal

pub returns-in-Err-require_few_scripts-clause-refused : goal.returns-in-Err-require_few_scripts-clause-refused
returns-in-Err-require_few_scripts-clause-refused g c =
    scripts_refused c.args.defs.now c.args.script.now _ _ c.in_ok-taken.ensures.read c.in-Ok.ensures.admitted c.in-Err-require_few_scripts.refusal
    c.in-Err-require_few_scripts.ensures.refused
