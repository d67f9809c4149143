use Rattle.std.proofs.Common.{◌≡◌, ◌++◌, List, sym, ap, ◌∙◌, get_or}
use Rattle.std.specs.Prelude.{flat_map}
use Rattle.std.proofs.lemmas.List.{get_or_default}
use Rattle.std.proofs.lemmas.Result.{on_ok_weaker}
use Rattle.value.specs.declared.values.Root.{Root}
use Rattle.assertion.specs.declared.assertions.Assertion.{Assertion}
use Rattle.assertion.specs.declared.forms.Form.{Form}
use Rattle.assertion.specs.Candidates.{candidates_of}
use Rattle.assertion.specs.Declarations.{layouts_in}
use Rattle.siread.specs.declared.keys.LockKey.{LockKey}
use Rattle.alone.specs.Checks.{keys_for}
use Rattle.changes.proofs.KeyLists.{groups_read}
use Rattle.changes.proofs.checks.push_looks.Goals as goal

pub returns-in-ByGroup : goal.returns-in-ByGroup
returns-in-ByGroup c =
    on_ok_weaker c.push_groups.result
    (λ p. λ a.
    let layouts = layouts_in c.args.view.now.declared in
    let state = c.args.view.now.state in
    let changes = c.args.changes.now in
    let result = c.index-assertions-assertion.result in
    let found = get_or c.assertions.result.now c.args.assertion result in
    let asked = get_or c.args.view.now.declared.assertions c.args.assertion a in
    let is : found ≡ asked =
    ap (λ xs. get_or xs c.args.assertion result) c.assertions.ensures.value ∙ get_or_default c.args.view.now.declared.assertions c.args.assertion result a c.requires in
    p
    ∙ ap (λ (more : List LockKey). c.args.keys.now.items ++ more)
    (groups_read layouts state c.in-ByGroup.table c.in-ByGroup.group c.in-ByGroup.filter c.in-ByGroup.having c.in-ByGroup.aggregates changes
    ∙ ap (λ (form : Form). flat_map (keys_for layouts state form) (candidates_of layouts state changes form)) (sym c.in-ByGroup.is ∙ ap (λ (x : Assertion). x.form) is)))
    c.push_groups.ensures

pub returns-in_ok-roots-in-ByRow : goal.returns-in_ok-roots-in-ByRow
returns-in_ok-roots-in-ByRow c =
    on_ok_weaker c.push_roots.result
    (λ p. λ a.
    let layouts = layouts_in c.args.view.now.declared in
    let state = c.args.view.now.state in
    let changes = c.args.changes.now in
    let old = c.args.keys.now.items in
    let result = c.index-assertions-assertion.result in
    let found = get_or c.assertions.result.now c.args.assertion result in
    let asked = get_or c.args.view.now.declared.assertions c.args.assertion a in
    let is : found ≡ asked =
    ap (λ xs. get_or xs c.args.assertion result) c.assertions.ensures.value ∙ get_or_default c.args.view.now.declared.assertions c.args.assertion result a c.requires in
    let roots : c.deref.result.now ≡ candidates_of layouts state changes asked.form = c.deref.ensures.value ∙ c.in_ok-roots-in-ByRow.ensures a in
    p
    ∙ ap (λ (rs : List Root). old ++ flat_map (keys_for layouts state found.form) rs) roots
    ∙ ap (λ (x : Assertion). old ++ flat_map (keys_for layouts state x.form) (candidates_of layouts state changes asked.form)) is)
    c.push_roots.ensures
