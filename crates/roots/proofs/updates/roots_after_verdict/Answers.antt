use Rattle.std.proofs.Common.{◌∙◌, ap, List}
use Rattle.std.proofs.lemmas.Result.{IfOk-weaker}
use Rattle.value.specs.declared.values.Root.{Root}
use Rattle.roots.specs.Bad.{put_root}
use Rattle.roots.proofs.updates.roots_after_verdict.Goals as goal

pub returns : goal.returns
returns c =
    IfOk-weaker c.with.result _ _
    (λ (next : List Root) h. h ∙ ap (λ b. put_root c.args.root.now b c.args.made) (c.in_ok-is_in.ensures c.row_of-row.ensures.row))
    c.with.ensures
