use Rattle.std.proofs.Common.{◌≡◌, ◌++◌, List, ap, ◌∙◌, get_or, append_assoc}
use Rattle.std.specs.Prelude.{flat_map}
use Rattle.std.proofs.lemmas.List.{get_or_default}
use Rattle.std.proofs.lemmas.Result.{on_ok_weaker}
use Rattle.assertion.specs.declared.assertions.Assertion.{Assertion}
use Rattle.assertion.specs.Candidates.{candidates_of}
use Rattle.assertion.specs.Declarations.{layouts_in}
use Rattle.siread.specs.declared.keys.LockKey.{LockKey}
use Rattle.alone.specs.Checks.{finding_keys, keys_for}
use Rattle.changes.proofs.checks.push_check.Goals as goal

pub returns : goal.returns
returns c =
    on_ok_weaker c.push_looks.result
    (λ p. λ a.
    let layouts = layouts_in c.args.view.now.declared in
    let state = c.args.view.now.state in
    let changes = c.args.changes.now in
    let old = c.args.keys.now.items in
    let result = c.index-assertions-assertion.result in
    let found = get_or c.assertions.result.now c.args.assertion result in
    let asked = get_or c.args.view.now.declared.assertions c.args.assertion a in
    let looks : List LockKey = flat_map (keys_for layouts state asked.form) (candidates_of layouts state changes asked.form) in
    let is : found ≡ asked =
    ap (λ xs. get_or xs c.args.assertion result) c.assertions.ensures.value ∙ get_or_default c.args.view.now.declared.assertions c.args.assertion result a c.requires in
    p a
    ∙ ap (λ keys. keys ++ looks) c.in_ok-push_finding.ensures
    ∙ append_assoc old (flat_map (finding_keys layouts found.form) changes) looks
    ∙ ap (λ (x : Assertion). old ++ (flat_map (finding_keys layouts x.form) changes ++ looks)) is)
    c.push_looks.ensures
