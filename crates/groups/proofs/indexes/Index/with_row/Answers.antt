use Rattle.std.proofs.Common.{refl, sym, ◌∙◌, ap, Some, None}
use Rattle.std.proofs.lemmas.Result.{IfOk-weaker}
use Rattle.std.specs.Option.{option_copied}
use Rattle.groups.specs.Indexes.{ValueKeys}
use Rattle.groups.proofs.IndexLemmas.{index-last}
use Rattle.groups.proofs.indexes.Index.with_row.Goals as goal

pub returns-in-Some : goal.returns-in-Some
returns-in-Some c =
    IfOk-weaker c.more.result _ _
    (λ (made : ValueKeys) is. λ key. index-last key c.args.column c.args.key.now c.args.row.now (Some c.in-Some.value.now) c.args.self made (sym c.row_value.ensures ∙ ap option_copied c.in-Some.is) is)
    c.more.ensures

pub returns-in-None : goal.returns-in-None
returns-in-None c = λ key.
    index-last key c.args.column c.args.key.now c.args.row.now None c.args.self c.args.self (sym c.row_value.ensures ∙ ap option_copied c.in-None.is) refl
