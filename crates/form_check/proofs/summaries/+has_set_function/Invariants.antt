use Rattle.std.proofs.Common.{◌≡◌, drop, map}
use Rattle.table.specs.Slotless.{some_true}
use Rattle.form_check.specs.Summaries.{has_set_function}
use Rattle.form_check.proofs.summaries.+has_set_function.Given as goal

-- what is left decides
abbrev pub invariant-loop-part : goal.invariant-loop-part
invariant-loop-part l =
    some_true (map has_set_function (drop l.part-index l.part-items)) ≡ some_true (map has_set_function l.part-items)
