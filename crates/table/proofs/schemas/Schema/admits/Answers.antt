use Rattle.std.proofs.Common.{refl, sym, ◌∙◌}
use Rattle.table.proofs.RowLemmas.{FitsColumns-of}
use Rattle.table.proofs.schemas.Schema.admits.Goals as goal

pub returns-in-None-clause-fits : goal.returns-in-None-clause-fits
returns-in-None-clause-fits c =
    rw (← c.columns-columns.ensures.value, ← c.values-values.ensures)
    (FitsColumns-of c.columns-columns.result.now c.values-values.result.now (sym c.are_typed.ensures.value ∙ c.if-not-are_typed.false)
    (sym c.in_ok-fault.ensures.fault ∙ c.in-None.is))

pub returns-in-None-clause-wide : goal.returns-in-None-clause-wide
returns-in-None-clause-wide c = rw (← c.columns-columns.ensures.value, ← c.values-values.ensures) (c.if-not-are_typed.ensures.wide refl)
