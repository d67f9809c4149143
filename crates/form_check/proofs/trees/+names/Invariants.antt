use Rattle.std.proofs.Common.{◌≡◌, drop, map}
use Rattle.form_check.specs.Names.{condition_fault, expression_fault, parts_fault}
use Rattle.form_check.specs.ShownScopes.{lent_scopes}
use Rattle.form_check.proofs.trees.+names.Given as goal

-- what is wrong with the rest is what is wrong with all
abbrev pub invariant-look_up_condition-loop-part : goal.invariant-look_up_condition-loop-part
invariant-look_up_condition-loop-part l = parts_fault (map (condition_fault l.catalog) (drop l.part-index l.part-items)) (lent_scopes l.scopes) ≡ parts_fault (map (condition_fault l.catalog) l.part-items) (lent_scopes l.scopes)

abbrev pub invariant-look_up_condition-loop-value : goal.invariant-look_up_condition-loop-value
invariant-look_up_condition-loop-value l = parts_fault (map (expression_fault l.catalog) (drop l.value-index l.value-items)) (lent_scopes l.scopes) ≡ parts_fault (map (expression_fault l.catalog) l.value-items) (lent_scopes l.scopes)

abbrev pub invariant-look_up_expression-loop-part : goal.invariant-look_up_expression-loop-part
invariant-look_up_expression-loop-part l = parts_fault (map (expression_fault l.catalog) (drop l.part-index l.part-items)) (lent_scopes l.scopes) ≡ parts_fault (map (expression_fault l.catalog) l.part-items) (lent_scopes l.scopes)
