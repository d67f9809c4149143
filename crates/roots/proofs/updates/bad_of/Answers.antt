use Rattle.std.proofs.Common.{List, sym, ◌∙◌, subst}
use Rattle.std.specs.Prelude.{All}
use Rattle.std.proofs.lemmas.Result.{IfOk-weaker}
use Rattle.value.specs.declared.values.Root.{Root}
use Rattle.roots.specs.Bad.{AreUpdated}
use Rattle.roots.specs.Maintained.{IsSmallRoot}
use Rattle.roots.proofs.LoadedLemmas.{AreBad-named, named-small}
use Rattle.roots.proofs.updates.bad_of.Goals as goal

pub roots_after_update-requires-clause-roots_small : goal.roots_after_update-requires-clause-roots_small
roots_after_update-requires-clause-roots_small c =
    subst (λ (rs : List Root). All (IsSmallRoot c.args.form.now) rs) (sym (c.deref.ensures.value ∙ c.in_ok-named.ensures)) (named-small c.args.schemas.now c.args.form.now c.args.tables.now c.requires.small)

pub returns : goal.returns
returns c =
    IfOk-weaker c.roots_after_update.result _ _
    (λ (made : List Root) h.
    AreBad-named c.args.schemas.now c.args.form.now c.args.tables.now c.new-none.result made c.new-none.ensures
    (subst (λ (rs : List Root). AreUpdated c.args.schemas.now c.args.form.now c.args.tables.now rs c.new-none.result made) (c.deref.ensures.value ∙ c.in_ok-named.ensures)
    (h (rw c.new-none.ensures tt))))
    c.roots_after_update.ensures
