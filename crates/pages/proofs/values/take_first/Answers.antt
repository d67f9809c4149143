use Rattle.std.proofs.Common.{◌≡◌, ◌∙◌, ◌-◌, ◌++◌, ap, sym, take, drop, length, map, List, Option}
use Rattle.std.specs.Prelude.{option_to_list}
use Rattle.std.specs.Option.{option_copied}
use Rattle.value.specs.declared.values.Value.{Value}
use Rattle.pages.specs.Differences.{with_differences}
use Rattle.pages.specs.Reach.{value_of}
use Rattle.pages.proofs.Merging.{main_first, both_first, difference_first}
use Rattle.pages.proofs.values.take_first.Goals as goal
use Rattle.pages.proofs.values.take_first.Goals.{in-Equal, in-Less}

pub returns-in-Greater-clause-first : goal.returns-in-Greater-clause-first
returns-in-Greater-clause-first g c =
    let ds = c.args.differences.now.now in
    main_first c.index-differences-0.result ds c.args.main.now c.requires.some c.requires.differences (sym c.side.ensures ∙ c.in-Greater.is)
    ∙ ap (λ (o : Option g.row.V.Denot). option_to_list o ++ map value_of (with_differences ds (drop 1 c.args.main.now))) (sym c.next_value.ensures.value)
    ∙ ap (λ (es : List (Value × g.row.V.Denot)). option_to_list (option_copied c.next_value.result) ++ map value_of (with_differences ds es)) (sym c.next_value.ensures.rest)

pub returns-clause-first : goal.returns-clause-first
returns-clause-first g c =
    let ds = c.args.differences.now.now in
    let rest : List (Value × Option g.row.V.Denot) = take (length ds - 1) (drop 1 ds) in
    let value : (m : List (Value × g.row.V.Denot)) → option_to_list _ ++ map value_of (with_differences rest m) ≡ option_to_list (option_copied c.as_ref.result) ++ map value_of (with_differences rest m) =
    λ m. ap (λ (o : Option g.row.V.Denot). option_to_list o ++ map value_of (with_differences rest m)) (sym c.as_ref.ensures.value) in
    let new : (m : List (Value × g.row.V.Denot)) → m ≡ c.match-side.main
    → option_to_list (option_copied c.as_ref.result) ++ map value_of (with_differences rest m) ≡ option_to_list (option_copied c.as_ref.result) ++ map value_of (with_differences rest c.match-side.main) =
    λ m. ap (λ (es : List (Value × g.row.V.Denot)). option_to_list (option_copied c.as_ref.result) ++ map value_of (with_differences rest es)) in
    elim c.match-side.branch [
      | in-Equal w ↦
          both_first c.index-differences-0.result ds c.args.main.now c.requires.some c.requires.differences (sym c.side.ensures ∙ w.in-Equal.is) ∙ value (drop 1 c.args.main.now)
          ∙ new (drop 1 c.args.main.now) (sym (w.main-is ∙ w.next_value-in-Equal.ensures.rest))
      | in-Less w ↦
          difference_first c.index-differences-0.result ds c.args.main.now c.requires.some c.requires.differences c.requires.main (sym c.side.ensures ∙ w.in-Less.is) ∙ value c.args.main.now
          ∙ new c.args.main.now (sym w.main-is)
    ]
