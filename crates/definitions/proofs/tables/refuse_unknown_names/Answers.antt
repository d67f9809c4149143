use Rattle.std.proofs.Common.{◌≡◌, ◌≢◌, ◌+◌, ℕ, List, Some, drop, sym, ◌∙◌, ap, rules}
use Rattle.std.specs.List.{flat_map}
use Rattle.value.proofs.Lists.{drop_item}
use Rattle.value.specs.declared.refusals.Refusal.TheVariants.{NoMemory}
use Rattle.definitions.specs.Tables.{unknown_name}
use Rattle.definitions.proofs.Unknown.{known_first, unknown_first}
use Rattle.definitions.proofs.tables.refuse_unknown_names.Goals as goal

pub returns-in_err-refuse_unknown_name-clause-refused : goal.returns-in_err-refuse_unknown_name-clause-refused
returns-in_err-refuse_unknown_name-clause-refused c =
    let columns = c.args.columns.now in
    let keys = c.args.keys.now in
    let i = c.loop-names.names-index in
    let all : List (List (List ℕ)) → List (List ℕ) = λ ks. flat_map (λ names. names) ks in
    let here = drop_item keys i c.names-item.result c.loop-names-test.true c.names-item.is in
    let refusal = c.in_err-refuse_unknown_name.field-0.0 in
    let other : refusal ≢ NoMemory → unknown_name columns (all keys) ≡ Some refusal = λ memory.
    sym c.loop-names.invariant ∙ ap (λ ks. unknown_name columns (all ks)) here
    ∙ unknown_first columns c.names-item.result (all (drop (i + 1) keys)) refusal (ap (unknown_name columns) (sym c.as_slice.ensures) ∙ c.in_err-refuse_unknown_name.ensures.refused memory) in
    search rules

pub loop-names-preserved : goal.loop-names-preserved
loop-names-preserved c =
    let columns = c.args.columns.now in
    let keys = c.args.keys.now in
    let i = c.loop-names.names-index in
    let all : List (List (List ℕ)) → List (List ℕ) = λ ks. flat_map (λ names. names) ks in
    let here = drop_item keys i c.names-item.result c.loop-names-test.true c.names-item.is in
    sym (ap (λ ks. unknown_name columns (all ks)) here ∙ known_first columns c.names-item.result (all (drop (i + 1) keys)) (ap (unknown_name columns) (sym c.as_slice.ensures) ∙ c.in_ok-refuse_unknown_name.ensures.none))
    ∙ c.loop-names.invariant
