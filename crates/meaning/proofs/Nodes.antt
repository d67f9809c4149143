-- What each node of a tree means, by what its parts mean.
use Rattle.std.proofs.Common.{◌≡◌, ℕ, ℤ, true, Option, Some, None, List, [], ◌∷◌, ap, ◌∙◌}
use Rattle.value.specs.declared.values.Value.TheVariants.{Int}
use Rattle.value.specs.declared.comparisons.Comparison.{Comparison}
use Rattle.value.specs.declared.truths.Truth.{Truth}
use Rattle.value.specs.declared.truths.Truth.TheVariants.{True}
use Rattle.value.specs.Truths.{and_of, not_of, truth_of_bool}
use Rattle.table.specs.Rows.{Tables}
use Rattle.table.specs.Values.{comparison_truth}
use Rattle.assertion.specs.Meaning.{State}
use Rattle.syntax.specs.declared.trees.Aggregate.{Aggregate}
use Rattle.syntax.specs.declared.trees.Argument.{Argument}
use Rattle.syntax.specs.declared.trees.ColumnName.{ColumnName}
use Rattle.syntax.specs.declared.trees.Condition.{Condition, roll-Condition}
use Rattle.syntax.specs.declared.trees.Condition.TheFolds.{map-Condition, map-Expression, map-SelectList, map-Query, fold-roll-Condition, fold-roll-Expression, fold-roll-SelectList, fold-roll-Query}
use Rattle.syntax.specs.declared.trees.Condition.TheOpen.{Condition-F, Expression-F, SelectList-F, Query-F}
use Rattle.syntax.specs.declared.trees.Expression.{Expression, roll-Expression}
use Rattle.syntax.specs.declared.trees.SelectList.{SelectList, roll-SelectList}
use Rattle.syntax.specs.declared.trees.Query.{Query, roll-Query}
use Rattle.meaning.specs.Meaning as written
use Rattle.meaning.specs.Meaning.{References, Evaluation, Answer, truth, evaluation_of, select_list, answers, simple, first_value, column_values, rows_counted, set_of_column, only_value, is_any}

-- a query of these clauses; and one without a correlation name
abbrev pub clauses_as : {C E L Q : Type 0} → L → List ℕ → Option (List ℕ) → Option C → Option ColumnName → Option C → Query-F C E L Q
clauses_as list table correlation_name keeps group having = record { select_list = list; table = table; correlation_name = correlation_name; keeps = keeps; group = group; having = having }

abbrev pub clauses : {C E L Q : Type 0} → L → List ℕ → Option C → Option ColumnName → Option C → Query-F C E L Q
clauses list table keeps group having = clauses_as list table None keeps group having

module _ (tables : Tables) (state : State) where
  condition_rolls : (layer : Condition-F Condition Expression SelectList Query) → truth tables state (roll-Condition layer) ≡ written.condition_step (map-Condition Condition Expression SelectList Query (References → Truth) Evaluation Evaluation (References → List Answer) (truth tables state) (evaluation_of tables state) (select_list tables state) (answers tables state) layer)
  condition_rolls layer = fold-roll-Condition (References → Truth) Evaluation Evaluation (References → List Answer) written.condition_step written.expression_step written.select_list_step (written.query_step tables state) layer

  expression_rolls : (layer : Expression-F Condition Expression SelectList Query) → evaluation_of tables state (roll-Expression layer) ≡ written.expression_step (map-Expression Condition Expression SelectList Query (References → Truth) Evaluation Evaluation (References → List Answer) (truth tables state) (evaluation_of tables state) (select_list tables state) (answers tables state) layer)
  expression_rolls layer = fold-roll-Expression (References → Truth) Evaluation Evaluation (References → List Answer) written.condition_step written.expression_step written.select_list_step (written.query_step tables state) layer

  select_list_rolls : (layer : SelectList-F Condition Expression SelectList Query) → select_list tables state (roll-SelectList layer) ≡ written.select_list_step (map-SelectList Condition Expression SelectList Query (References → Truth) Evaluation Evaluation (References → List Answer) (truth tables state) (evaluation_of tables state) (select_list tables state) (answers tables state) layer)
  select_list_rolls layer = fold-roll-SelectList (References → Truth) Evaluation Evaluation (References → List Answer) written.condition_step written.expression_step written.select_list_step (written.query_step tables state) layer

  query_rolls : (layer : Query-F Condition Expression SelectList Query) → answers tables state (roll-Query layer) ≡ written.query_step tables state (map-Query Condition Expression SelectList Query (References → Truth) Evaluation Evaluation (References → List Answer) (truth tables state) (evaluation_of tables state) (select_list tables state) (answers tables state) layer)
  query_rolls layer = fold-roll-Query (References → Truth) Evaluation Evaluation (References → List Answer) written.condition_step written.expression_step written.select_list_step (written.query_step tables state) layer

  -- ---- expressions

  pub number_is : (n : ℤ) → evaluation_of tables state (roll-Expression (Expression-F.Number n)) ≡ simple (λ around. Int n)
  number_is n = expression_rolls (Expression-F.Number n)

  pub column_is : (c : ColumnName) → evaluation_of tables state (roll-Expression (Expression-F.Column c)) ≡ simple (λ around. first_value (column_values c around))
  column_is c = expression_rolls (Expression-F.Column c)

  pub count_is : evaluation_of tables state (roll-Expression Expression-F.CountRows) ≡ record { sets = true; value = rows_counted }
  count_is = expression_rolls Expression-F.CountRows

  pub set_is : (f : Aggregate) (c : Argument) → evaluation_of tables state (roll-Expression (Expression-F.Aggregate f c)) ≡ record { sets = true; value = set_of_column f c }
  set_is f c = expression_rolls (Expression-F.Aggregate f c)

  pub value_is : (q : Query) (a : References → List Answer) → answers tables state q ≡ a → evaluation_of tables state (roll-Expression (Expression-F.Subquery q)) ≡ simple (λ around. only_value (a around))
  value_is q a e = expression_rolls (Expression-F.Subquery q) ∙ ap (λ (a : References → List Answer). simple (λ around. only_value (a around))) e

  -- ---- conditions

  pub compare_is : (l : Expression) (c : Comparison) (r : Expression) (v w : Evaluation) → evaluation_of tables state l ≡ v → evaluation_of tables state r ≡ w → truth tables state (roll-Condition (Condition-F.Compare l c r)) ≡ (λ around. comparison_truth c (v.value around) (w.value around))
  compare_is l c r v w a b = condition_rolls (Condition-F.Compare l c r) ∙ ap (λ (v : Evaluation). λ around. comparison_truth c (v.value around) ((evaluation_of tables state r).value around)) a ∙ ap (λ (w : Evaluation). λ around. comparison_truth c (v.value around) (w.value around)) b

  pub both_is : (c d : Condition) (s t : References → Truth) → truth tables state c ≡ s → truth tables state d ≡ t → truth tables state (roll-Condition (Condition-F.And (c ∷ d ∷ []))) ≡ (λ around. and_of (s around) (and_of (t around) True))
  both_is c d s t a b = condition_rolls (Condition-F.And (c ∷ d ∷ [])) ∙ ap (λ (s : References → Truth). λ around. and_of (s around) (and_of (truth tables state d around) True)) a ∙ ap (λ (t : References → Truth). λ around. and_of (s around) (and_of (t around) True)) b

  pub exists_is : (q : Query) (a : References → List Answer) → answers tables state q ≡ a → truth tables state (roll-Condition (Condition-F.Exists q)) ≡ (λ around. truth_of_bool (is_any (a around)))
  exists_is q a e = condition_rolls (Condition-F.Exists q) ∙ ap (λ (a : References → List Answer). λ around. truth_of_bool (is_any (a around))) e

  pub denies_is : (q : Query) (a : References → List Answer) → answers tables state q ≡ a → truth tables state (roll-Condition (Condition-F.Not (roll-Condition (Condition-F.Exists q)))) ≡ (λ around. not_of (truth_of_bool (is_any (a around))))
  denies_is q a e = condition_rolls (Condition-F.Not (roll-Condition (Condition-F.Exists q))) ∙ ap (λ (t : References → Truth). λ around. not_of (t around)) (exists_is q a e)

  -- ---- queries

  pub star_is : select_list tables state (roll-SelectList SelectList-F.Star) ≡ written.select_list_step SelectList-F.Star
  star_is = select_list_rolls SelectList-F.Star

  pub one_is : (e : Expression) (v : Evaluation) → evaluation_of tables state e ≡ v → select_list tables state (roll-SelectList (SelectList-F.One e)) ≡ v
  one_is e v is = select_list_rolls (SelectList-F.One e) ∙ is

  pub filtered_is : (l : SelectList) (table : List ℕ) (name : Option (List ℕ)) (c : Condition) (v : Evaluation) (t : References → Truth) → select_list tables state l ≡ v → truth tables state c ≡ t
      → answers tables state (roll-Query (clauses_as l table name (Some c) None None)) ≡ written.query_step tables state (clauses_as v table name (Some t) None None)
  filtered_is l table name c v t a b =
      query_rolls (clauses_as l table name (Some c) None None) ∙ ap (λ (v : Evaluation). written.query_step tables state (clauses_as v table name (Some (truth tables state c)) None None)) a ∙ ap (λ (t : References → Truth). written.query_step tables state (clauses_as v table name (Some t) None None)) b

  pub grouped_is : (l : SelectList) (table : List ℕ) (c : Condition) (g : ColumnName) (h : Condition) (v : Evaluation) (t u : References → Truth) → select_list tables state l ≡ v → truth tables state c ≡ t → truth tables state h ≡ u
      → answers tables state (roll-Query (clauses l table (Some c) (Some g) (Some h))) ≡ written.query_step tables state (clauses v table (Some t) (Some g) (Some u))
  grouped_is l table c g h v t u a b d =
      query_rolls (clauses l table (Some c) (Some g) (Some h)) ∙ ap (λ (v : Evaluation). written.query_step tables state (clauses v table (Some (truth tables state c)) (Some g) (Some (truth tables state h)))) a
      ∙ ap (λ (t : References → Truth). written.query_step tables state (clauses v table (Some t) (Some g) (Some (truth tables state h)))) b ∙ ap (λ (u : References → Truth). written.query_step tables state (clauses v table (Some t) (Some g) (Some u))) d
