use Rattle.std.proofs.Common.{◌≡◌, Bool, true, false, refl}
use Rattle.table.specs.Faults.{are_typed}
use Rattle.table.proofs.RowLemmas.{are_typed-length}
use Rattle.table.proofs.schemas.are_typed.Goals as goal

pub returns-then-values-columns-clause-value : goal.returns-then-values-columns-clause-value
returns-then-values-columns-clause-value c =
    let case : (b : Bool) → are_typed c.args.columns.now c.args.values.now ≡ b → false ≡ b = λ b. elim b as (λ b. are_typed c.args.columns.now c.args.values.now ≡ b → false ≡ b) [
      | true ↦ λ t. absurd (c.if-values-columns.true (are_typed-length c.args.columns.now c.args.values.now t))
      | false ↦ λ t. refl
    ]
    in case (are_typed c.args.columns.now c.args.values.now) refl
