use Rattle.std.proofs.Common.{◌≡◌, ◌++◌, drop, map}
use Rattle.threads.specs.Scripts.{answers_without_thread}
use Rattle.threads.proofs.runs.answer_all_unrun.Given as goal

-- the answers so far, and those of the scripts that are left
abbrev pub invariant-loop-script : goal.invariant-loop-script
invariant-loop-script l = l.answered.items ++ map answers_without_thread (drop l.script-index l.scripts) ≡ map answers_without_thread l.scripts
