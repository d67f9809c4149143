-- Worked rows: names, the written bad roots and truth of an assertion of each form, what a SELECT gives, and the key of
-- a WHERE, computed.
use Rattle.std.proofs.Common.{◌≡◌, ℕ, pos, true, List, [], ◌∷◌, Option, Some, None, refl, ap, ◌∙◌, sym, inl, inr}
use Rattle.std.proofs.lemmas.Option.{same_Some}
use Rattle.std.specs.Prelude.{◌==◌, ◌||◌, false, filter, filter_map, find, map}
use Rattle.std.specs.Option.{option_or}
use Rattle.value.specs.declared.values.Value.{Value}
use Rattle.value.specs.declared.values.Value.TheVariants.{Null, Int}
use Rattle.value.specs.declared.values.Root.TheVariants as root
use Rattle.value.specs.declared.values.ColType.TheVariants.{Integer}
use Rattle.value.specs.declared.comparisons.Comparison.{Comparison}
use Rattle.value.specs.declared.comparisons.Comparison.TheVariants.{Equal, AtMost, Greater}
use Rattle.value.specs.declared.truths.Truth.{Truth}
use Rattle.value.specs.declared.truths.Truth.TheVariants.{True, False, Unknown}
use Rattle.value.specs.Truths.{and_of, not_of, truth_of_bool}
use Rattle.table.specs.declared.schemas.Column.{Column}
use Rattle.table.specs.Rows.{RowValues, Layout, Tables}
use Rattle.table.specs.declared.exprs.Expr.TheOpen.{Expr-F}
use Rattle.table.specs.declared.exprs.Expr.TheVariants as expr
use Rattle.table.specs.declared.exprs.Expr.TheViews.{out-Expr}
use Rattle.table.specs.declared.conds.Cond.{Cond}
use Rattle.table.specs.declared.conds.Cond.TheOpen.{Cond-F}
use Rattle.table.specs.declared.conds.Cond.TheVariants as cond
use Rattle.table.specs.declared.conds.Cond.TheViews as cond_of
use Rattle.table.specs.declared.conds.Cond.TheViews.{out-Cond}
use Rattle.table.specs.Eval as resolved
use Rattle.table.specs.Values.{comparison_truth}
use Rattle.table.proofs.EvalLemmas.{truth-And}
use Rattle.assertion.specs.Meaning.{State}
use Rattle.assertion.specs.declared.queries.Link.{Link}
use Rattle.syntax.specs.declared.trees.Aggregate.TheVariants as function
use Rattle.syntax.specs.declared.trees.SetQuantifier.TheVariants as quantifier
use Rattle.syntax.specs.declared.trees.Argument.{Argument}
use Rattle.syntax.specs.declared.trees.ColumnName.{ColumnName}
use Rattle.syntax.specs.declared.trees.Condition.{Condition, roll-Condition, out-Condition, out-roll-Condition}
use Rattle.syntax.specs.declared.trees.Condition.TheOpen.{Condition-F, Expression-F, SelectList-F, Query-F}
use Rattle.syntax.specs.declared.trees.Expression.{Expression, roll-Expression, out-Expression, out-roll-Expression}
use Rattle.syntax.specs.declared.trees.SelectList.{SelectList, roll-SelectList}
use Rattle.syntax.specs.declared.trees.Query.{Query, roll-Query, out-roll-Query}
use Rattle.syntax.specs.declared.statements.DerivedColumn.{DerivedColumn}
use Rattle.syntax.specs.declared.statements.Select.{Select}
use Rattle.syntax.specs.Grammar.{and_layer}
use Rattle.form_check.specs.Scopes.{Scope}
use Rattle.siread.specs.declared.keys.LockKey.{LockKey}
use Rattle.siread.specs.declared.keys.LockKey.TheVariants as key
use Rattle.alone.specs.Reads as reads
use Rattle.alone.specs.Reads.{Equality}
use Rattle.meaning.specs.Class.{IsColumnAt, IsOuterColumn, IsLink, IsLinkedWhere}
use Rattle.meaning.specs.Keys as keys
use Rattle.meaning.specs.Meaning as written
use Rattle.meaning.specs.Meaning.{References, Evaluation, Answer, answers, simple, first_value, column_values, rows_counted, set_of_column, only_value, is_any, written_bad_roots, written_truth}
use Rattle.meaning.specs.Laws.{reference_to, rows_by_filter, written_groups, written_select}
use Rattle.meaning.proofs.Classes.{of_link, link_over}
use Rattle.meaning.proofs.Keys.{in_parts, where_key_is, shown_expr, shown_cond}
use Rattle.meaning.proofs.Nodes.{clauses, clauses_as, number_is, column_is, count_is, set_is, value_is, compare_is, both_is, exists_is, denies_is, star_is, one_is, filtered_is, grouped_is}

abbrev column_at : ℕ → Column
column_at name = record { name = name ∷ []; kind = Integer; nullable = true }

-- names of one letter
abbrev S : ℕ
S = 83

abbrev D : ℕ
D = 68

abbrev I : ℕ
I = 73

abbrev O : ℕ
O = 79

abbrev X : ℕ
X = 88

-- the tables S (I) and D (I, S, O): shifts, and who is on duty in which shift, on call or not
abbrev of_s : Layout
of_s = record { columns = column_at I ∷ []; key = 0 }

abbrev of_d : Layout
of_d = record { columns = column_at I ∷ column_at S ∷ column_at O ∷ []; key = 0 }

abbrev both : Tables
both = (S ∷ [], of_s) ∷ (D ∷ [], of_d) ∷ []

abbrev number : ℕ → Value
number n = Int (pos n)

abbrev bare : ℕ → ColumnName
bare name = record { qualifier = None; name = name ∷ [] }

abbrev every : ℕ → Argument
every name = record { quantifier = quantifier.All; column = bare name }

abbrev of : ℕ → ℕ → ColumnName
of qualifier name = record { qualifier = Some (qualifier ∷ []); name = name ∷ [] }

-- ---- names

-- a row of D inside a row of S, each under its name
abbrev inside : ℕ → ℕ → References
inside child outer =
    reference_to (record { exposed_name = child ∷ []; layout = of_d }) ((number 1 ∷ number 7 ∷ number 0 ∷ []) ∷ [])
    ∷ reference_to (record { exposed_name = outer ∷ []; layout = of_s }) ((number 5 ∷ []) ∷ []) ∷ []

-- both have I: without a qualifier it is the inner table's
inner_name : column_values (bare I) (inside D S) ≡ number 1 ∷ []
inner_name = refl

-- a qualifier reaches the outer table
qualified_name : column_values (of S I) (inside D S) ≡ number 5 ∷ []
qualified_name = refl

-- and without one, a name that only the outer table has
outer_name : column_values (bare O) (reference_to (record { exposed_name = S ∷ []; layout = of_s }) ((number 5 ∷ []) ∷ []) ∷ reference_to (record { exposed_name = D ∷ []; layout = of_d }) ((number 1 ∷ number 7 ∷ number 0 ∷ []) ∷ []) ∷ []) ≡ number 0 ∷ []
outer_name = refl

-- a column is not a table: S without a qualifier is D's column
column_name : column_values (bare S) (inside D S) ≡ number 7 ∷ []
column_name = refl

-- a qualifier that both go by means the inner table, also where only the outer one has the column
same_exposed_name : column_values (of X I) (inside X X) ≡ number 1 ∷ []
same_exposed_name = refl

hidden_column : column_values (of X O) (reference_to (record { exposed_name = X ∷ []; layout = of_s }) ((number 5 ∷ []) ∷ []) ∷ reference_to (record { exposed_name = X ∷ []; layout = of_d }) ((number 1 ∷ number 7 ∷ number 0 ∷ []) ∷ []) ∷ []) ≡ []
hidden_column = refl

-- ---- trees

abbrev column : ColumnName → Expression
column c = roll-Expression (Expression-F.Column c)

abbrev literal : ℕ → Expression
literal n = roll-Expression (Expression-F.Number (pos n))

abbrev compare : Expression → Comparison → Expression → Condition
compare l c r = roll-Condition (Condition-F.Compare l c r)

abbrev not_exists : Query → Condition
not_exists q = roll-Condition (Condition-F.Not (roll-Condition (Condition-F.Exists q)))

abbrev star : SelectList
star = roll-SelectList SelectList-F.Star

abbrev star_value : Evaluation
star_value = written.select_list_step SelectList-F.Star

abbrev value_named : ColumnName → Evaluation
value_named c = simple (λ around. first_value (column_values c around))

abbrev value_number : ℕ → Evaluation
value_number n = simple (λ around. number n)

-- the bad roots of NOT EXISTS of a query are what the query gives
denied : (state : State) (q : Query-F Condition Expression SelectList Query) (a : References → List Answer) → answers both state (roll-Query q) ≡ a
    → written_bad_roots both state (not_exists (roll-Query q)) ≡ written.roots_of_answers q.group (written.table_of both state q.table q.correlation_name) (a [])
denied state q a e =
    let whole = written_truth both state (not_exists (roll-Query q)) in
    ap (written.roots_in both state whole) (out-roll-Condition (Condition-F.Not (roll-Condition (Condition-F.Exists (roll-Query q)))))
    ∙ ap (written.denied_roots both state whole) (out-roll-Condition (Condition-F.Exists (roll-Query q)))
    ∙ ap (written.query_roots both state (roll-Query q)) (out-roll-Query q)
    ∙ ap (λ (a : References → List Answer). written.roots_of_answers q.group (written.table_of both state q.table q.correlation_name) (a [])) e

-- ---- by rows

-- NOT EXISTS (SELECT * FROM S WHERE NOT EXISTS (SELECT * FROM D WHERE D.S = S.I AND D.O = 1))
abbrev duty : Query-F Condition Expression SelectList Query
duty = clauses star (D ∷ []) (Some (roll-Condition (Condition-F.And (compare (column (of D S)) Equal (column (of S I)) ∷ compare (column (of D O)) Equal (literal 1) ∷ [])))) None None

abbrev uncovered : Query-F Condition Expression SelectList Query
uncovered = clauses star (S ∷ []) (Some (not_exists (roll-Query duty))) None None

abbrev duty_where : References → Truth
duty_where around = and_of (comparison_truth Equal ((value_named (of D S)).value around) ((value_named (of S I)).value around)) (and_of (comparison_truth Equal ((value_named (of D O)).value around) (number 1)) True)

abbrev duty_given : State → References → List Answer
duty_given state = written.query_step both state (clauses star_value (D ∷ []) (Some duty_where) None None)

duty_is : (state : State) → answers both state (roll-Query duty) ≡ duty_given state
duty_is state =
    filtered_is both state star (D ∷ []) None (roll-Condition (Condition-F.And (compare (column (of D S)) Equal (column (of S I)) ∷ compare (column (of D O)) Equal (literal 1) ∷ []))) star_value duty_where (star_is both state)
    (both_is both state (compare (column (of D S)) Equal (column (of S I))) (compare (column (of D O)) Equal (literal 1)) (λ around. comparison_truth Equal ((value_named (of D S)).value around) ((value_named (of S I)).value around)) (λ around. comparison_truth Equal ((value_named (of D O)).value around) (number 1))
    (compare_is both state (column (of D S)) Equal (column (of S I)) (value_named (of D S)) (value_named (of S I)) (column_is both state (of D S)) (column_is both state (of S I)))
    (compare_is both state (column (of D O)) Equal (literal 1) (value_named (of D O)) (value_number 1) (column_is both state (of D O)) (number_is both state (pos 1))))

abbrev uncovered_where : State → References → Truth
uncovered_where state around = not_of (truth_of_bool (is_any (duty_given state around)))

uncovered_is : (state : State) → answers both state (roll-Query uncovered) ≡ written.query_step both state (clauses star_value (S ∷ []) (Some (uncovered_where state)) None None)
uncovered_is state = filtered_is both state star (S ∷ []) None (not_exists (roll-Query duty)) star_value (uncovered_where state) (star_is both state) (denies_is both state (roll-Query duty) (duty_given state) (duty_is state))

-- shifts 7 and 8; on duty 1 in 7, on call, and 2 in 8, not on call
abbrev week : State
week = ((number 7 ∷ []) ∷ (number 8 ∷ []) ∷ []) ∷ ((number 1 ∷ number 7 ∷ number 1 ∷ []) ∷ (number 2 ∷ number 8 ∷ number 0 ∷ []) ∷ []) ∷ []

-- the shift without anybody on call is the bad root
by_rows : written_bad_roots both week (not_exists (roll-Query uncovered)) ≡ root.Of (number 8) ∷ []
by_rows = denied week uncovered (written.query_step both week (clauses star_value (S ∷ []) (Some (uncovered_where week)) None None)) (uncovered_is week)

-- ---- by groups

-- NOT EXISTS (SELECT * FROM D WHERE O = 1 GROUP BY S HAVING COUNT(*) > 1)
abbrev on_call : Condition
on_call = compare (column (bare O)) Equal (literal 1)

abbrev crowded : Condition
crowded = compare (roll-Expression Expression-F.CountRows) Greater (literal 1)

abbrev groups : Query-F Condition Expression SelectList Query
groups = clauses star (D ∷ []) (Some on_call) (Some (bare S)) (Some crowded)

abbrev on_call_truth : References → Truth
on_call_truth around = comparison_truth Equal ((value_named (bare O)).value around) (number 1)

abbrev crowded_truth : References → Truth
crowded_truth around = comparison_truth Greater (rows_counted around) (number 1)

abbrev groups_given : State → References → List Answer
groups_given state = written.query_step both state (clauses star_value (D ∷ []) (Some on_call_truth) (Some (bare S)) (Some crowded_truth))

on_call_is : (state : State) → written.truth both state on_call ≡ on_call_truth
on_call_is state = compare_is both state (column (bare O)) Equal (literal 1) (value_named (bare O)) (value_number 1) (column_is both state (bare O)) (number_is both state (pos 1))

groups_are : (state : State) → answers both state (roll-Query groups) ≡ groups_given state
groups_are state =
    grouped_is both state star (D ∷ []) on_call (bare S) crowded star_value on_call_truth crowded_truth (star_is both state) (on_call_is state)
    (compare_is both state (roll-Expression Expression-F.CountRows) Greater (literal 1) (record { sets = true; value = rows_counted }) (value_number 1) (count_is both state) (number_is both state (pos 1)))

-- on call: 1 and 2 in 7, 3 in 8, and 5 and 6 in no shift; 4 is in 8 too, but not on call
abbrev crowd : State
crowd = [] ∷ (
    (number 1 ∷ number 7 ∷ number 1 ∷ []) ∷ (number 2 ∷ number 7 ∷ number 1 ∷ []) ∷ (number 3 ∷ number 8 ∷ number 1 ∷ [])
    ∷ (number 4 ∷ number 8 ∷ number 0 ∷ []) ∷ (number 5 ∷ Null ∷ number 1 ∷ []) ∷ (number 6 ∷ Null ∷ number 1 ∷ []) ∷ []
    ) ∷ []

-- NULL is a group as well, and WHERE goes before the count
by_groups : written_bad_roots both crowd (not_exists (roll-Query groups)) ≡ root.Of (number 7) ∷ root.Of Null ∷ []
by_groups = denied crowd groups (groups_given crowd) (groups_are crowd)

-- ---- a condition over both rows

-- NOT EXISTS (SELECT * FROM D X WHERE EXISTS (SELECT * FROM D WHERE D.S = X.S AND D.I > X.I))
abbrev later : Query-F Condition Expression SelectList Query
later = clauses star (D ∷ []) (Some (roll-Condition (Condition-F.And (compare (column (of D S)) Equal (column (of X S)) ∷ compare (column (of D I)) Greater (column (of X I)) ∷ [])))) None None

abbrev followed : Query-F Condition Expression SelectList Query
followed = clauses_as star (D ∷ []) (Some (X ∷ [])) (Some (roll-Condition (Condition-F.Exists (roll-Query later)))) None None

abbrev later_where : References → Truth
later_where around = and_of (comparison_truth Equal ((value_named (of D S)).value around) ((value_named (of X S)).value around)) (and_of (comparison_truth Greater ((value_named (of D I)).value around) ((value_named (of X I)).value around)) True)

abbrev later_given : State → References → List Answer
later_given state = written.query_step both state (clauses star_value (D ∷ []) (Some later_where) None None)

later_is : (state : State) → answers both state (roll-Query later) ≡ later_given state
later_is state =
    let sides : (l r : ColumnName) (c : Comparison) → written.truth both state (compare (column l) c (column r)) ≡ (λ around. comparison_truth c ((value_named l).value around) ((value_named r).value around))
    = λ l r c. compare_is both state (column l) c (column r) (value_named l) (value_named r) (column_is both state l) (column_is both state r) in
    filtered_is both state star (D ∷ []) None (roll-Condition (Condition-F.And (compare (column (of D S)) Equal (column (of X S)) ∷ compare (column (of D I)) Greater (column (of X I)) ∷ []))) star_value later_where (star_is both state)
    (both_is both state (compare (column (of D S)) Equal (column (of X S))) (compare (column (of D I)) Greater (column (of X I))) (λ around. comparison_truth Equal ((value_named (of D S)).value around) ((value_named (of X S)).value around))
    (λ around. comparison_truth Greater ((value_named (of D I)).value around) ((value_named (of X I)).value around)) (sides (of D S) (of X S) Equal) (sides (of D I) (of X I) Greater))

abbrev followed_where : State → References → Truth
followed_where state around = truth_of_bool (is_any (later_given state around))

followed_is : (state : State) → answers both state (roll-Query followed) ≡ written.query_step both state (clauses_as star_value (D ∷ []) (Some (X ∷ [])) (Some (followed_where state)) None None)
followed_is state = filtered_is both state star (D ∷ []) (Some (X ∷ [])) (roll-Condition (Condition-F.Exists (roll-Query later))) star_value (followed_where state) (star_is both state) (exists_is both state (roll-Query later) (later_given state) (later_is state))

-- 2 is in the shift of 1, and 4 in that of 3; that 5 and 6 are in the same one is unknown
by_both : written_bad_roots both crowd (not_exists (roll-Query followed)) ≡ root.Of (number 1) ∷ root.Of (number 3) ∷ []
by_both = denied crowd followed (written.query_step both crowd (clauses_as star_value (D ∷ []) (Some (X ∷ [])) (Some (followed_where crowd)) None None)) (followed_is crowd)

-- ---- single

-- (SELECT f FROM D WHERE O = 1) <= n
abbrev taken : Expression → Query
taken f = roll-Query (clauses (roll-SelectList (SelectList-F.One f)) (D ∷ []) (Some on_call) None None)

abbrev at_most : Expression → ℕ → Condition
at_most f n = compare (roll-Expression (Expression-F.Subquery (taken f))) AtMost (literal n)

abbrev taken_given : State → Evaluation → References → List Answer
taken_given state v = written.query_step both state (clauses v (D ∷ []) (Some on_call_truth) None None)

single_truth : (state : State) (f : Expression) (v : Evaluation) (n : ℕ) → written.evaluation_of both state f ≡ v → written_truth both state (at_most f n) ≡ comparison_truth AtMost (only_value (taken_given state v [])) (number n)
single_truth state f v n is =
    ap (λ (t : References → Truth). t [])
    (compare_is both state (roll-Expression (Expression-F.Subquery (taken f))) AtMost (literal n) (simple (λ around. only_value (taken_given state v around))) (value_number n)
    (value_is both state (taken f) (taken_given state v) (filtered_is both state (roll-SelectList (SelectList-F.One f)) (D ∷ []) None on_call v on_call_truth (one_is both state f v is) (on_call_is state))) (number_is both state (pos n)))

single_roots : (state : State) (f : Expression) (n : ℕ) (t : Truth) → written_truth both state (at_most f n) ≡ t → written_bad_roots both state (at_most f n) ≡ written.roots_of_whole t
single_roots state f n t e =
    ap (written.roots_in both state (written_truth both state (at_most f n))) (out-roll-Condition (Condition-F.Compare (roll-Expression (Expression-F.Subquery (taken f))) AtMost (literal n))) ∙ ap written.roots_of_whole e

-- five are on call, which is more than four
single_false : written_truth both crowd (at_most (roll-Expression Expression-F.CountRows) 4) ≡ False
single_false = single_truth crowd (roll-Expression Expression-F.CountRows) (record { sets = true; value = rows_counted }) 4 (count_is both crowd)

single_bad : written_bad_roots both crowd (at_most (roll-Expression Expression-F.CountRows) 4) ≡ root.All ∷ []
single_bad = single_roots crowd (roll-Expression Expression-F.CountRows) 4 False single_false

-- nobody is on call: the sum over no row is NULL, so the condition is unknown, and the assertion satisfied
abbrev nobody : State
nobody = [] ∷ [] ∷ []

single_unknown : written_truth both nobody (at_most (roll-Expression (Expression-F.Aggregate function.Sum (every I))) 4) ≡ Unknown
single_unknown = single_truth nobody (roll-Expression (Expression-F.Aggregate function.Sum (every I))) (record { sets = true; value = set_of_column function.Sum (every I) }) 4 (set_is both nobody function.Sum (every I))

single_satisfied : written_bad_roots both nobody (at_most (roll-Expression (Expression-F.Aggregate function.Sum (every I))) 4) ≡ []
single_satisfied = single_roots nobody (roll-Expression (Expression-F.Aggregate function.Sum (every I))) 4 Unknown single_unknown

-- ---- SELECT

abbrev from_d : Option (List DerivedColumn) → Select
from_d columns =
    record { columns = columns; table = D ∷ []; correlation_name = None; keeps = None; group_by = None; having = None }

abbrev one_from_d : Expression → Select
one_from_d e = from_d (Some (record { value = e; name = None } ∷ []))

-- SELECT * FROM D
every_column : written_select both week (from_d None) ≡ (number 1 ∷ number 7 ∷ number 1 ∷ []) ∷ (number 2 ∷ number 8 ∷ number 0 ∷ []) ∷ []
every_column = refl

-- SELECT e FROM D, by what e means
one_given : (state : State) (e : Expression) (v : Evaluation) → written.evaluation_of both state e ≡ v
    → written_select both state (one_from_d e) ≡ map (λ rows. v.value (written.with_rows (written.table_of both state (D ∷ []) None) rows []) ∷ []) (filter (λ rows. true) (written_groups (written.table_of both state (D ∷ []) None) None (v.sets || false) (rows_by_filter both state (D ∷ []) None None)))
one_given state e v is = ap (λ (v : Evaluation). map (λ rows. v.value (written.with_rows (written.table_of both state (D ∷ []) None) rows []) ∷ []) (filter (λ rows. true) (written_groups (written.table_of both state (D ∷ []) None) None (v.sets || false) (rows_by_filter both state (D ∷ []) None None)))) is

-- a column gives a row for each row, and so none where there is none
one_column : written_select both week (one_from_d (column (bare S))) ≡ (number 7 ∷ []) ∷ (number 8 ∷ []) ∷ []
one_column = one_given week (column (bare S)) (value_named (bare S)) (column_is both week (bare S))

no_row : written_select both nobody (one_from_d (column (bare S))) ≡ []
no_row = one_given nobody (column (bare S)) (value_named (bare S)) (column_is both nobody (bare S))

-- a set function gives one row for all of them, also where there is none
one_sum : written_select both week (one_from_d (roll-Expression (Expression-F.Aggregate function.Sum (every I)))) ≡ (number 3 ∷ []) ∷ []
one_sum = one_given week (roll-Expression (Expression-F.Aggregate function.Sum (every I))) (record { sets = true; value = set_of_column function.Sum (every I) }) (set_is both week function.Sum (every I))

count_of_none : written_select both nobody (one_from_d (roll-Expression Expression-F.CountRows)) ≡ (number 0 ∷ []) ∷ []
count_of_none = one_given nobody (roll-Expression Expression-F.CountRows) (record { sets = true; value = rows_counted }) (count_is both nobody)

-- ---- the link of two

-- a row of D inside one of D X
abbrev d_scope : Scope
d_scope = record { exposed_name = D ∷ []; layout = of_d }

abbrev x_scope : Scope
x_scope = record { exposed_name = X ∷ []; layout = of_d }

-- D.inner = X.outer
abbrev equal_columns : ℕ → ℕ → Condition
equal_columns inner outer = compare (column (of D inner)) Equal (column (of X outer))

abbrev both_equal : Condition → Condition → Condition
both_equal a b = roll-Condition (Condition-F.And (a ∷ b ∷ []))

abbrev by : ℕ → ℕ → Link
by inner outer = record { inner = inner; outer = outer }

equality_joins : (inner outer i o : ℕ) → IsColumnAt d_scope i (of D inner) → IsOuterColumn d_scope x_scope o (of X outer) → IsLink d_scope x_scope (by i o) (equal_columns inner outer)
equality_joins inner outer i o own around = record {
  left = column (of D inner);
  right = column (of X outer);
  equality = out-roll-Condition (Condition-F.Compare (column (of D inner)) Equal (column (of X outer)));
  sides = inl ((of D inner, out-roll-Expression (Expression-F.Column (of D inner)), own), (of X outer, out-roll-Expression (Expression-F.Column (of X outer)), around));
}

-- which is by that column of D alone
only_by : (inner outer i o : ℕ) → IsLink d_scope x_scope (by i o) (equal_columns inner outer) → (link : Link) → IsLink d_scope x_scope link (equal_columns inner outer) → link ≡ by i o
only_by inner outer i o is link h = same_Some link (by i o) (sym (of_link d_scope x_scope (equal_columns inner outer) link h) ∙ of_link d_scope x_scope (equal_columns inner outer) (by i o) is)

-- D.S = X.S AND D.I = X.O: the link is the second, by D's key
link_by_key : IsLinkedWhere d_scope x_scope (by 0 2) (both_equal (equal_columns S S) (equal_columns I O))
link_by_key =
    let first = equality_joins S S 1 1 refl (refl, refl) in record {
      before = equal_columns S S ∷ [];
      link = equal_columns I O;
      behind = [];
      parts = ap (and_layer (both_equal (equal_columns S S) (equal_columns I O))) (out-roll-Condition (Condition-F.And (equal_columns S S ∷ equal_columns I O ∷ [])));
      links = equality_joins I O 0 2 refl (refl, refl);
      others = (link_over d_scope x_scope (equal_columns S S) (by 1 1, first), tt);
      first = inl (refl, (λ h. let e : 0 ≡ 1 = sym h.2 ∙ ap (λ (l : Link). l.inner) (only_by S S 1 1 first h.0 h.1) in cc, tt));
    }

-- D.S = X.S AND D.O = X.I: neither is by the key, and the link is the first
link_first : IsLinkedWhere d_scope x_scope (by 1 1) (both_equal (equal_columns S S) (equal_columns O I))
link_first =
    let first = equality_joins S S 1 1 refl (refl, refl) in
    let second = equality_joins O I 2 0 refl (refl, refl) in record {
      before = [];
      link = equal_columns S S;
      behind = equal_columns O I ∷ [];
      parts = ap (and_layer (both_equal (equal_columns S S) (equal_columns O I))) (out-roll-Condition (Condition-F.And (equal_columns S S ∷ equal_columns O I ∷ [])));
      links = first;
      others = (link_over d_scope x_scope (equal_columns O I) (by 2 0, second), tt);
      first = inr (
        (
          λ h. let e : 0 ≡ 1 = sym h.2 ∙ ap (λ (l : Link). l.inner) (only_by S S 1 1 first h.0 h.1) in cc,
          (λ h. let e : 0 ≡ 2 = sym h.2 ∙ ap (λ (l : Link). l.inner) (only_by O I 2 0 second h.0 h.1) in cc, tt),
        ),
        tt,
      );
    }

-- ---- keys

-- WHERE over D, the second table, whose key is I
abbrev name_layer : ℕ → Expression-F Condition Expression SelectList Query
name_layer name = Expression-F.Column (bare name)

abbrev number_layer : ℕ → Expression-F Condition Expression SelectList Query
number_layer n = Expression-F.Number (pos n)

abbrev by_sides : Comparison → Expression-F Condition Expression SelectList Query → Expression-F Condition Expression SelectList Query → Option Equality
by_sides Equal left right = option_or (keys.equality (keys.column d_scope left) (keys.literal right)) (keys.equality (keys.column d_scope right) (keys.literal left))
by_sides other left right = None

abbrev comparison : Expression-F Condition Expression SelectList Query → Comparison → Expression-F Condition Expression SelectList Query → Condition
comparison left sign right = compare (roll-Expression left) sign (roll-Expression right)

-- the equality of a comparison
equality_is : (left : Expression-F Condition Expression SelectList Query) (right : Expression-F Condition Expression SelectList Query) → keys.equality_of d_scope (out-Condition (comparison left Equal right)) ≡ by_sides Equal left right
equality_is left right =
    ap (keys.equality_of d_scope) (out-roll-Condition (Condition-F.Compare (roll-Expression left) Equal (roll-Expression right)))
    ∙ ap (λ l. by_sides Equal l (out-Expression (roll-Expression right))) (out-roll-Expression left) ∙ ap (by_sides Equal left) (out-roll-Expression right)

none_greater : (left : Expression-F Condition Expression SelectList Query) (right : Expression-F Condition Expression SelectList Query) → keys.equality_of d_scope (out-Condition (comparison left Greater right)) ≡ None
none_greater left right = ap (keys.equality_of d_scope) (out-roll-Condition (Condition-F.Compare (roll-Expression left) Greater (roll-Expression right)))

abbrev key_by : List Equality → LockKey
key_by es = keys.first_key 1 (find (λ e. e.column == 0) es) es

-- two parts that AND joins
both_keys : (a b : Condition) (d e : Option Equality) → keys.equality_of d_scope (out-Condition a) ≡ d → keys.equality_of d_scope (out-Condition b) ≡ e
    → keys.written_key 1 d_scope (Some (roll-Condition (Condition-F.And (a ∷ b ∷ [])))) ≡ key_by (filter_map (λ o. o) (d ∷ e ∷ []))
both_keys a b d e first second =
    let whole = roll-Condition (Condition-F.And (a ∷ b ∷ [])) in
    ap (λ layer. key_by (filter_map (λ part. keys.equality_of d_scope (out-Condition part)) (and_layer whole layer))) (out-roll-Condition (Condition-F.And (a ∷ b ∷ [])))
    ∙ ap (λ d. key_by (filter_map (λ o. o) (d ∷ keys.equality_of d_scope (out-Condition b) ∷ []))) first
    ∙ ap (λ e. key_by (filter_map (λ o. o) (d ∷ e ∷ []))) second

-- S = 7 AND 3 = I: the key is found behind another column, and either way round
key_first : keys.written_key 1 d_scope (Some (roll-Condition (Condition-F.And (comparison (name_layer S) Equal (number_layer 7) ∷ comparison (number_layer 3) Equal (name_layer I) ∷ [])))) ≡ key.Row (record { table = 1; key = number 3 })
key_first = both_keys (comparison (name_layer S) Equal (number_layer 7)) (comparison (number_layer 3) Equal (name_layer I)) (Some (record { column = 1; value = number 7 })) (Some (record { column = 0; value = number 3 })) (equality_is (name_layer S) (number_layer 7)) (equality_is (number_layer 3) (name_layer I))

-- S = 7 AND O = 1: the first column of the two, so the text with its parts exchanged reads under another key
column_first : keys.written_key 1 d_scope (Some (roll-Condition (Condition-F.And (comparison (name_layer S) Equal (number_layer 7) ∷ comparison (name_layer O) Equal (number_layer 1) ∷ [])))) ≡ key.Column 1 1 (number 7)
column_first = both_keys (comparison (name_layer S) Equal (number_layer 7)) (comparison (name_layer O) Equal (number_layer 1)) (Some (record { column = 1; value = number 7 })) (Some (record { column = 2; value = number 1 })) (equality_is (name_layer S) (number_layer 7)) (equality_is (name_layer O) (number_layer 1))

column_exchanged : keys.written_key 1 d_scope (Some (roll-Condition (Condition-F.And (comparison (name_layer O) Equal (number_layer 1) ∷ comparison (name_layer S) Equal (number_layer 7) ∷ [])))) ≡ key.Column 1 2 (number 1)
column_exchanged = both_keys (comparison (name_layer O) Equal (number_layer 1)) (comparison (name_layer S) Equal (number_layer 7)) (Some (record { column = 2; value = number 1 })) (Some (record { column = 1; value = number 7 })) (equality_is (name_layer O) (number_layer 1)) (equality_is (name_layer S) (number_layer 7))

-- I > 3 AND S = O: neither is column = literal
no_equality : keys.written_key 1 d_scope (Some (roll-Condition (Condition-F.And (comparison (name_layer I) Greater (number_layer 3) ∷ comparison (name_layer S) Equal (name_layer O) ∷ [])))) ≡ key.Table 1
no_equality = both_keys (comparison (name_layer I) Greater (number_layer 3)) (comparison (name_layer S) Equal (name_layer O)) None None (none_greater (name_layer I) (number_layer 3)) (equality_is (name_layer S) (name_layer O))

-- no WHERE
no_where : keys.written_key 1 d_scope None ≡ key.Table 1
no_where = refl

-- truth does not tell the key: S = 7 AND O = 1 and O = 1 AND S = 7 are alike on every row, and read under two keys
two_alike : (s t : Truth) → and_of s (and_of t True) ≡ and_of t (and_of s True)
two_alike True True = refl
two_alike True False = refl
two_alike True Unknown = refl
two_alike False True = refl
two_alike False False = refl
two_alike False Unknown = refl
two_alike Unknown True = refl
two_alike Unknown False = refl
two_alike Unknown Unknown = refl

exchanged_alike : (row : RowValues) (a b : Cond) → resolved.truth row [] (cond_of.And (a ∷ b ∷ [])) ≡ resolved.truth row [] (cond_of.And (b ∷ a ∷ []))
exchanged_alike row a b = truth-And row [] (a ∷ b ∷ []) ∙ two_alike (resolved.truth row [] a) (resolved.truth row [] b) ∙ sym (truth-And row [] (b ∷ a ∷ []))

abbrev set_to : ℕ → ℕ → Cond
set_to column n = cond.Compare Equal (expr.Column column) (expr.Literal (number n))

set_is_equality : (column n : ℕ) → reads.equality_in (out-Cond (set_to column n)) ≡ Some (record { column = column; value = number n })
set_is_equality column n =
    ap reads.equality_in (shown_cond (Cond-F.Compare Equal (expr.Column column) (expr.Literal (number n))) (set_to column n) (cond.rolls-Compare Equal (expr.Column column) (expr.Literal (number n))))
    ∙ ap (λ x. reads.sides x (out-Expr (expr.Literal (number n)))) (shown_expr (Expr-F.Column column) (expr.Column column) (expr.rolls-Column column))
    ∙ ap (reads.sides (Expr-F.Column column)) (shown_expr (Expr-F.Literal (number n)) (expr.Literal (number n)) (expr.rolls-Literal (number n)))

-- two parts of a resolved AND
key_of_two : (a b : Cond) (d e : Option Equality) → reads.equality_in (out-Cond a) ≡ d → reads.equality_in (out-Cond b) ≡ e → reads.filter_key 1 0 (cond_of.And (a ∷ b ∷ [])) ≡ key_by (filter_map (λ o. o) (d ∷ e ∷ []))
key_of_two a b d e first second =
    let whole = cond_of.And (a ∷ b ∷ []) in
    where_key_is 1 0 whole
    ∙ ap (λ y. key_by (in_parts (reads.parts_in whole y))) (shown_cond (Cond-F.And (a ∷ b ∷ [])) whole (cond.rolls-And (a ∷ b ∷ [])))
    ∙ (λ i. key_by (filter_map (λ o. o) (first i ∷ second i ∷ [])))

resolved_key : reads.filter_key 1 0 (cond_of.And (set_to 1 7 ∷ set_to 2 1 ∷ [])) ≡ key.Column 1 1 (number 7)
resolved_key = key_of_two (set_to 1 7) (set_to 2 1) (Some (record { column = 1; value = number 7 })) (Some (record { column = 2; value = number 1 })) (set_is_equality 1 7) (set_is_equality 2 1)

exchanged_key : reads.filter_key 1 0 (cond_of.And (set_to 2 1 ∷ set_to 1 7 ∷ [])) ≡ key.Column 1 2 (number 1)
exchanged_key = key_of_two (set_to 2 1) (set_to 1 7) (Some (record { column = 2; value = number 1 })) (Some (record { column = 1; value = number 7 })) (set_is_equality 2 1) (set_is_equality 1 7)
