use Rattle.std.proofs.Common.{refl, sym, ◌∙◌, ap, Some, None}
use Rattle.std.proofs.lemmas.Result.{IfOk-weaker}
use Rattle.std.specs.Option.{option_copied}
use Rattle.groups.specs.Indexes.{ValueKeys}
use Rattle.groups.proofs.IndexLemmas.{index-with}
use Rattle.groups.proofs.indexes.Index.with.Goals as goal

pub returns-in-None-None : goal.returns-in-None-None
returns-in-None-None c =
    let old = option_copied c.args.old in
    let new = option_copied c.args.new in
    λ key. index-with key c.args.column c.args.key.now old new None None c.args.self c.args.self
    (sym c.optional_value-gone.ensures ∙ ap option_copied c.in-None-None.is-0) (sym c.optional_value-come.ensures ∙ ap option_copied c.in-None-None.is-1) refl

pub returns-in-None-Some : goal.returns-in-None-Some
returns-in-None-Some c =
    let old = option_copied c.args.old in
    let new = option_copied c.args.new in
    IfOk-weaker c.more.result _ _
    (λ (made : ValueKeys) is. λ key. index-with key c.args.column c.args.key.now old new None (Some c.in-None-Some.come.now) c.args.self made
    (sym c.optional_value-gone.ensures ∙ ap option_copied c.in-None-Some.is-0) (sym c.optional_value-come.ensures ∙ ap option_copied c.in-None-Some.is-1) is)
    c.more.ensures

pub returns-in-Some-None : goal.returns-in-Some-None
returns-in-Some-None c =
    let old = option_copied c.args.old in
    let new = option_copied c.args.new in
    IfOk-weaker c.less.result _ _
    (λ (made : ValueKeys) is. λ key. index-with key c.args.column c.args.key.now old new (Some c.in-Some-None.gone.now) None c.args.self made
    (sym c.optional_value-gone.ensures ∙ ap option_copied c.in-Some-None.is-0) (sym c.optional_value-come.ensures ∙ ap option_copied c.in-Some-None.is-1) is)
    c.less.ensures

pub returns-in-Some-Some : goal.returns-in-Some-Some
returns-in-Some-Some c =
    let old = option_copied c.args.old in
    let new = option_copied c.args.new in
    IfOk-weaker c.after_replacement.result _ _
    (λ (made : ValueKeys) is. λ key. index-with key c.args.column c.args.key.now old new (Some c.in-Some-Some.gone.now) (Some c.in-Some-Some.come.now) c.args.self made
    (sym c.optional_value-gone.ensures ∙ ap option_copied c.in-Some-Some.is-0) (sym c.optional_value-come.ensures ∙ ap option_copied c.in-Some-Some.is-1) is)
    c.after_replacement.ensures
