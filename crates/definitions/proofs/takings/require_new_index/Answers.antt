use Rattle.std.proofs.Common.{◌∙◌, ap, sym, Bool, Some, None, if◌then◌else◌}
use Rattle.value.specs.declared.refusals.Refusal.TheVariants.{NameTaken}
use Rattle.definitions.specs.Taken.{index_fault}
use Rattle.definitions.proofs.takings.require_new_index.Goals as goal

pub returns-then-is_index_name-clause-refused : goal.returns-then-is_index_name-clause-refused
returns-then-is_index_name-clause-refused c = λ memory.
    ap (index_fault c.args.names.now) c.in-Index.is
    ∙ ap (λ (b : Bool). if b then Some (NameTaken c.in-Index.name) else None) (sym c.is_index_name.ensures ∙ c.if-is_index_name.true)
    ∙ ap (λ name. Some (NameTaken name)) (sym c.in_ok-copy-in-Index.ensures)

pub returns-else-is_index_name-clause-new : goal.returns-else-is_index_name-clause-new
returns-else-is_index_name-clause-new c =
    ap (index_fault c.args.names.now) c.in-Index.is
    ∙ ap (λ (b : Bool). if b then Some (NameTaken c.in-Index.name) else None) (sym c.is_index_name.ensures ∙ c.if-is_index_name.false)
