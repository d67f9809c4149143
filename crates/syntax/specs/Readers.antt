-- Readers of conditions, expressions and queries, by the next token alone.
use Rattle.std.specs.Prelude.{ℕ, zero, suc, Bool, true, false, List, [], ◌∷◌, Option, Some, None}
use Rattle.token.specs.declared.kinds.Kind.{Kind}
use Rattle.token.specs.declared.kinds.Kind.TheVariants as k
use Rattle.value.specs.declared.comparisons.Comparison.{Comparison}
use Rattle.value.specs.declared.comparisons.Comparison.TheVariants as c
use Rattle.value.specs.declared.truths.Truth.{Truth}
use Rattle.value.specs.declared.truths.Truth.TheVariants as t
use Rattle.syntax.specs.declared.trees.Aggregate.{Aggregate}
use Rattle.syntax.specs.declared.trees.Aggregate.TheVariants as a
use Rattle.syntax.specs.declared.trees.Argument.{Argument}
use Rattle.syntax.specs.declared.trees.ColumnName.{ColumnName}
use Rattle.syntax.specs.declared.trees.SetQuantifier.TheVariants as quantifier
use Rattle.syntax.specs.declared.trees.SelectList.{SelectList}
use Rattle.syntax.specs.declared.trees.SelectList.TheVariants as which
use Rattle.syntax.specs.declared.trees.Query.{Query}
use Rattle.syntax.specs.declared.trees.Expression.{Expression}
use Rattle.syntax.specs.declared.trees.Expression.TheVariants as e
use Rattle.syntax.specs.declared.trees.Condition.{Condition}
use Rattle.syntax.specs.declared.trees.Condition.TheVariants as b
use Rattle.syntax.specs.declared.wants.PartInParentheses.{PartInParentheses}
use Rattle.syntax.specs.declared.wants.PartInParentheses.TheVariants as part
use Rattle.syntax.specs.declared.wants.Want.{Want}
use Rattle.syntax.specs.declared.wants.Want.TheVariants as want
use Rattle.syntax.specs.Language.{Lexeme}
use Rattle.syntax.specs.Reading.{Reader, ◌>>=◌, ◌>>◌, ◌<$>◌, pure, refuse, by_kind, expect, optional, parens, list, all}
use Rattle.syntax.specs.Grammar.{product_of, sum_of, and_of, or_of, text_in_quotes, name_of, number_of, argument_of, query_of}

-- a comparison's sign, by the kind of the next token
abbrev pub sign_by : Kind → Reader Comparison
sign_by k.Equal = expect k.Equal >> pure c.Equal
sign_by k.NotEqual = expect k.NotEqual >> pure c.NotEqual
sign_by k.Less = expect k.Less >> pure c.Less
sign_by k.AtMost = expect k.AtMost >> pure c.AtMost
sign_by k.Greater = expect k.Greater >> pure c.Greater
sign_by k.AtLeast = expect k.AtLeast >> pure c.AtLeast
sign_by _ = refuse

-- reads cmp: the comp op of a comparison predicate (8.2)
unfoldable pub comparison_sign : Reader Comparison
comparison_sign = by_kind sign_by

-- a truth value, by the kind of the next token
abbrev pub truth_by : Kind → Reader Truth
truth_by k.True = expect k.True >> pure t.True
truth_by k.False = expect k.False >> pure t.False
truth_by k.Unknown = expect k.Unknown >> pure t.Unknown
truth_by _ = refuse

-- reads TRUE, FALSE or UNKNOWN: a truth value (8.12)
unfoldable pub truth : Reader Truth
truth = by_kind truth_by

-- reads a number, with the sign that was read before it
unfoldable pub number : Bool → Reader Expression
number is_negative = number_of is_negative <$> expect k.Number

-- reads a text in quotes
unfoldable pub text : Reader Expression
text = (λ x. e.Text (text_in_quotes x)) <$> expect k.Text

-- what follows the first name of a column reference, by the kind of the next token
abbrev pub column_by : Lexeme → Kind → Reader ColumnName
column_by x k.Dot = expect k.Dot >> ((λ y. record { qualifier = Some (name_of x); name = name_of y }) <$> expect k.Name)
column_by x _ = pure (record { qualifier = None; name = name_of x })

-- reads [ "." name ], behind the first name of a column reference
unfoldable pub column_after : Lexeme → Reader ColumnName
column_after x = by_kind (column_by x)

-- reads colref: a column reference (6.4)
unfoldable pub column : Reader ColumnName
column = expect k.Name >>= column_after

-- reads a name
unfoldable pub name : Reader (List ℕ)
name = name_of <$> expect k.Name

-- a set function's argument, by the kind of the next token: its set quantifier or none
abbrev pub argument_by : Kind → Reader Argument
argument_by k.All = expect k.All >> (argument_of quantifier.All <$> column)
argument_by k.Distinct = expect k.Distinct >> (argument_of quantifier.Distinct <$> column)
argument_by _ = argument_of quantifier.All <$> column

-- reads [ ALL | DISTINCT ] colref, the argument of a set function (6.5)
unfoldable pub argument : Reader Argument
argument = by_kind argument_by

-- what COUNT counts, by the kind of the next token
abbrev pub counted_by : Kind → Reader Expression
counted_by k.Star = expect k.Star >> pure e.CountRows
counted_by _ = e.Aggregate a.Count <$> argument

-- "*" or an argument
unfoldable pub counted_inside : Reader Expression
counted_inside = by_kind counted_by

-- a query's correlation name, by the kind of the next token
abbrev pub correlation_name_by : Kind → Reader (Option (List ℕ))
correlation_name_by k.As = expect k.As >> (Some <$> name)
correlation_name_by k.Name = Some <$> name
correlation_name_by _ = pure None

-- reads [ [AS] name ], the correlation name of a query's table (6.3)
unfoldable pub correlation_name : Reader (Option (List ℕ))
correlation_name = by_kind correlation_name_by

-- reads [GROUP BY colref], the group by clause (7.7)
unfoldable pub group_by : Reader (Option ColumnName)
group_by = optional k.Group (expect k.Group >> (expect k.By >> column))

-- what stood in parentheses, where an expression has to
abbrev pub as_expr : PartInParentheses → Reader Expression
as_expr (part.Expression x) = pure x
as_expr _ = refuse

-- what was read, where a condition has to stand
abbrev pub as_cond : PartInParentheses → Reader Condition
as_cond (part.Condition x) = pure x
as_cond _ = refuse

-- what stood in parentheses, where a query has to
abbrev pub as_query : PartInParentheses → Reader Query
as_query (part.Query x) = pure x
as_query _ = refuse

-- a query stands for its value
abbrev pub as_operand : PartInParentheses → Reader Expression
as_operand (part.Expression x) = pure x
as_operand (part.Query x) = pure (e.Subquery x)
as_operand _ = refuse

-- what stood in parentheses at the front of a boolean test: a query there stands for its value
abbrev pub as_test : PartInParentheses → Reader PartInParentheses
as_test (part.Query x) = pure (part.Expression (e.Subquery x))
as_test x = pure x

-- whether a product goes on: with "*"
abbrev pub is_star : Kind → Bool
is_star k.Star = true
is_star _ = false

-- whether a sum goes on: with "+" or "-"
abbrev pub is_sign : Kind → Bool
is_sign k.Plus = true
is_sign k.Minus = true
is_sign _ = false

-- whether a boolean term goes on: with AND
abbrev pub is_and : Kind → Bool
is_and k.And = true
is_and _ = false

-- whether a search condition goes on: with OR
abbrev pub is_or : Kind → Bool
is_or k.Or = true
is_or _ = false

-- what makes a condition of an expression begins so
abbrev pub begins_comparison : Kind → Bool
begins_comparison k.Equal = true
begins_comparison k.NotEqual = true
begins_comparison k.Less = true
begins_comparison k.AtMost = true
begins_comparison k.Greater = true
begins_comparison k.AtLeast = true
begins_comparison k.Is = true
begins_comparison k.Not = true
begins_comparison k.Between = true
begins_comparison k.In = true
begins_comparison _ = false

-- How many parentheses may be opened, and the reader of what stands in them.
module _ (depth : ℕ) (inner : Want → Reader PartInParentheses) where
  -- reads an expression in parentheses
  unfoldable pub inner_expr : Reader Expression
  inner_expr = inner want.Expression >>= as_expr

  -- reads a query in parentheses
  unfoldable pub inner_query : Reader Query
  inner_query = inner want.Query >>= as_query

  -- reads what a primary has in parentheses: an expression, or a query that stands for its value
  unfoldable pub inner_operand : Reader Expression
  inner_operand = inner want.Operand >>= as_operand

  -- reads what a boolean test has in its first parentheses: a condition, an expression or a query
  unfoldable pub inner_test : Reader PartInParentheses
  inner_test = inner want.Any >>= as_test

  -- "(" argument ")"
  unfoldable pub aggregate_of : Aggregate → Reader Expression
  aggregate_of f = e.Aggregate f <$> parens depth argument

  -- what follows COUNT
  unfoldable pub counted : Reader Expression
  counted = parens depth counted_inside

  -- a primary that is no number, by the kind of the next token
  abbrev pub other_by : Kind → Reader Expression
  other_by k.Text = text
  other_by k.Name = e.Column <$> column
  other_by k.Count = expect k.Count >> counted
  other_by k.Sum = expect k.Sum >> aggregate_of a.Sum
  other_by k.Min = expect k.Min >> aggregate_of a.Min
  other_by k.Max = expect k.Max >> aggregate_of a.Max
  other_by k.Open = parens depth inner_operand
  other_by _ = refuse

  -- reads a primary that is no number: text | colref | agg | "(" expr ")" | "(" query ")"
  unfoldable pub other_prim : Reader Expression
  other_prim = by_kind other_by

  -- a primary, by the kind of the next token
  abbrev pub prim_by : Kind → Reader Expression
  prim_by k.Number = number false
  prim_by _ = other_prim

  -- reads prim: SQL-92's value expression primary (6.11)
  unfoldable pub prim : Reader Expression
  prim = by_kind prim_by

  -- what follows a minus sign, by the kind of the next token: a number makes a literal
  abbrev pub negated_by : Kind → Reader Expression
  negated_by k.Number = number true
  negated_by _ = e.Negation <$> other_prim

  -- reads a primary behind a minus sign
  unfoldable pub negated : Reader Expression
  negated = by_kind negated_by

  -- a factor, by the kind of the next token: a sign or none
  abbrev pub factor_by : Kind → Reader Expression
  factor_by k.Plus = expect k.Plus >> prim
  factor_by k.Minus = expect k.Minus >> negated
  factor_by _ = prim

  -- reads factor: [sign] prim (6.12)
  unfoldable pub factor : Reader Expression
  factor = by_kind factor_by

  -- reads a further factor of a product, behind its "*"
  unfoldable pub product_item : Reader Expression
  product_item = expect k.Star >> factor

  -- reads { "*" factor }, behind the first factor
  unfoldable pub product_after : Expression → Reader Expression
  product_after first = product_of <$> all is_star product_item (first ∷ [])

  -- reads term: factor { "*" factor } (6.12)
  unfoldable pub term : Reader Expression
  term = factor >>= product_after

  -- a further term of a sum, by the kind of the next token: its sign
  abbrev pub sum_by : Kind → Reader Expression
  sum_by k.Plus = expect k.Plus >> term
  sum_by _ = expect k.Minus >> (e.Negation <$> term)

  -- reads a further term of a sum, behind its sign
  unfoldable pub sum_item : Reader Expression
  sum_item = by_kind sum_by

  -- reads { ("+" | "-") term }, behind the first term
  unfoldable pub sum_after : Expression → Reader Expression
  sum_after first = sum_of <$> all is_sign sum_item (first ∷ [])

  -- what follows the first factor of an expression
  unfoldable pub expr_after : Expression → Reader Expression
  expr_after first = product_after first >>= sum_after

  -- reads expr: SQL-92's numeric value expression (6.12)
  unfoldable pub expr : Reader Expression
  expr = factor >>= expr_after

  -- reads BETWEEN expr AND expr, behind the expression that is compared (8.3)
  unfoldable pub between : Expression → Reader Condition
  between left = expect k.Between >> (expr >>= (λ low. expect k.And >> (b.Between left low <$> expr)))

  -- reads IN "(" expr { "," expr } ")", behind the expression that is compared (8.4)
  unfoldable pub in_list : Expression → Reader Condition
  in_list left = expect k.In >> (b.In left <$> parens depth (list inner_expr))

  -- BETWEEN or IN, by the kind of the next token
  abbrev pub range_by : Expression → Kind → Reader Condition
  range_by left k.Between = between left
  range_by left k.In = in_list left
  range_by left _ = refuse

  -- reads what is the same with and without NOT: BETWEEN or IN
  unfoldable pub range_or_list : Expression → Reader Condition
  range_or_list left = by_kind (range_by left)

  -- NULL or NOT NULL, by the kind of the next token
  abbrev pub null_by : Expression → Kind → Reader Condition
  null_by left k.Null = expect k.Null >> pure (b.IsNull left)
  null_by left k.Not = expect k.Not >> (expect k.Null >> pure (b.Not (b.IsNull left)))
  null_by left _ = refuse

  -- reads [NOT] NULL, behind IS (8.6)
  unfoldable pub null : Expression → Reader Condition
  null left = by_kind (null_by left)

  -- reads cmp expr, behind the left expression of a comparison (8.2)
  unfoldable pub compared : Expression → Reader Condition
  compared left = comparison_sign >>= (λ sign. b.Compare left sign <$> expr)

  -- what makes a condition of an expression, by the kind of the next token
  abbrev pub comparison_by : Expression → Kind → Reader Condition
  comparison_by left k.Is = expect k.Is >> null left
  comparison_by left k.Not = expect k.Not >> (b.Not <$> range_or_list left)
  comparison_by left k.Between = range_or_list left
  comparison_by left k.In = range_or_list left
  comparison_by left _ = compared left

  -- reads a predicate, behind its first expression (8.2, 8.3, 8.4, 8.6)
  unfoldable pub comparison : Expression → Reader Condition
  comparison left = by_kind (comparison_by left)

  -- what follows IS, by the kind of the next token
  abbrev pub truth_after_by : Condition → Kind → Reader Condition
  truth_after_by x k.Not = expect k.Not >> ((λ y. b.Not (b.Is x y)) <$> truth)
  truth_after_by x _ = b.Is x <$> truth

  -- reads [NOT] (TRUE | FALSE | UNKNOWN), behind IS
  unfoldable pub truth_after : Condition → Reader Condition
  truth_after x = by_kind (truth_after_by x)

  -- what follows a boolean primary, by the kind of the next token
  abbrev pub is_by : Condition → Kind → Reader Condition
  is_by x k.Is = expect k.Is >> truth_after x
  is_by x _ = pure x

  -- reads [ IS [NOT] (TRUE | FALSE | UNKNOWN) ], behind a boolean primary
  unfoldable pub is_after : Condition → Reader Condition
  is_after x = by_kind (is_by x)

  -- reads EXISTS "(" query ")", the exists predicate (8.8)
  unfoldable pub exists : Reader Condition
  exists = expect k.Exists >> (b.Exists <$> parens depth inner_query)

  -- a condition in parentheses, EXISTS, or the first factor of an expression
  abbrev pub first_by : Kind → Reader PartInParentheses
  first_by k.Open = parens depth inner_test
  first_by k.Exists = part.Condition <$> exists
  first_by _ = part.Expression <$> factor

  -- reads the front of a boolean test, by which the test begins with a condition or with an expression
  unfoldable pub first : Reader PartInParentheses
  first = by_kind first_by

  -- a boolean test, by what was at its front
  abbrev pub test_from : PartInParentheses → Reader Condition
  test_from (part.Condition x) = is_after x
  test_from (part.Expression x) = expr_after x >>= (λ left. comparison left >>= is_after)
  test_from (part.Query x) = refuse

  -- reads btest: SQL-92's boolean test (8.12)
  unfoldable pub btest : Reader Condition
  btest = first >>= test_from

  -- a boolean factor, by the kind of the next token: NOT or none
  abbrev pub bfact_by : Kind → Reader Condition
  bfact_by k.Not = expect k.Not >> (b.Not <$> btest)
  bfact_by _ = btest

  -- reads bfact: [NOT] btest, SQL-92's boolean factor (8.12)
  unfoldable pub bfact : Reader Condition
  bfact = by_kind bfact_by

  -- reads a further boolean factor, behind its AND
  unfoldable pub and_item : Reader Condition
  and_item = expect k.And >> bfact

  -- reads { AND bfact }, behind the first boolean factor
  unfoldable pub and_after : Condition → Reader Condition
  and_after x = and_of <$> all is_and and_item (x ∷ [])

  -- reads bterm: SQL-92's boolean term (8.12)
  unfoldable pub bterm : Reader Condition
  bterm = bfact >>= and_after

  -- reads a further boolean term, behind its OR
  unfoldable pub or_item : Reader Condition
  or_item = expect k.Or >> bterm

  -- reads { OR bterm }, behind the first boolean term
  unfoldable pub or_after : Condition → Reader Condition
  or_after x = or_of <$> all is_or or_item (x ∷ [])

  -- what follows the first test of a condition
  unfoldable pub cond_after : Condition → Reader Condition
  cond_after x = and_after x >>= or_after

  -- reads cond: SQL-92's search condition (8.12)
  unfoldable pub condition : Reader Condition
  condition = bfact >>= cond_after

  -- the condition that an expression begins, if the next token says so, and else the expression
  abbrev pub any_by : Expression → Bool → Reader PartInParentheses
  any_by left true = part.Condition <$> (comparison left >>= (λ x. is_after x >>= cond_after))
  any_by left false = pure (part.Expression left)

  -- an expression, or the condition that it begins
  unfoldable pub any_after : Expression → Reader PartInParentheses
  any_after left = by_kind (λ kind. any_by left (begins_comparison kind))

  -- a condition or an expression, by what was at its front
  abbrev pub any_from : PartInParentheses → Reader PartInParentheses
  any_from (part.Condition x) = part.Condition <$> (is_after x >>= cond_after)
  any_from (part.Expression x) = expr_after x >>= any_after
  any_from (part.Query x) = refuse

  -- ---- queries

  -- a select list, by the kind of the next token
  abbrev pub selected_by : Kind → Reader SelectList
  selected_by k.Star = expect k.Star >> pure which.Star
  selected_by _ = which.One <$> expr

  -- reads "*" | expr: a query's select list (7.9)
  unfoldable pub selected : Reader SelectList
  selected = by_kind selected_by

  -- reads [WHERE cond], the where clause (7.6)
  unfoldable pub where_clause : Reader (Option Condition)
  where_clause = optional k.Where (expect k.Where >> condition)

  -- reads [HAVING cond], the having clause (7.8)
  unfoldable pub having : Reader (Option Condition)
  having = optional k.Having (expect k.Having >> condition)

  -- reads what follows a query's table: [WHERE cond] [GROUP BY colref] [HAVING cond]
  unfoldable pub query_rest : SelectList → List ℕ → Option (List ℕ) → Reader Query
  query_rest list table other =
      where_clause >>= (λ keeps. group_by >>= (λ group. query_of list table other keeps group <$> having))

  -- reads what follows a query's FROM: its table, the correlation name and the other clauses
  unfoldable pub query_from : SelectList → Reader Query
  query_from list = name >>= (λ table. correlation_name >>= query_rest list table)

  -- reads query: SQL-92's query specification (7.9)
  unfoldable pub query : Reader Query
  query = expect k.Select >> (selected >>= (λ list. expect k.From >> query_from list))

  -- ---- what is asked for

  -- a condition, an expression or a query, by the kind of the next token
  abbrev pub any_of : Kind → Reader PartInParentheses
  any_of k.Not = part.Condition <$> condition
  any_of k.Select = part.Query <$> query
  any_of _ = first >>= any_from

  -- reads a condition, an expression or a query, whichever stands there
  unfoldable pub any : Reader PartInParentheses
  any = by_kind any_of

  -- an expression or a query, by the kind of the next token
  abbrev pub operand_by : Kind → Reader PartInParentheses
  operand_by k.Select = part.Query <$> query
  operand_by _ = part.Expression <$> expr

  -- reads an expression or a query, whichever stands there
  unfoldable pub operand : Reader PartInParentheses
  operand = by_kind operand_by

  -- reads what is wanted, where what stands in parentheses is read by `inner`
  abbrev pub level : Want → Reader PartInParentheses
  level want.Condition = part.Condition <$> condition
  level want.Expression = part.Expression <$> expr
  level want.Query = part.Query <$> query
  level want.Operand = operand
  level want.Any = any

-- what is wanted, with so many parentheses still to be opened
unfoldable pub read : ℕ → Want → Reader PartInParentheses
read zero wanted = level zero (λ _. refuse) wanted
read (suc n) wanted = level (suc n) (read n) wanted

-- a condition, with so many parentheses still to be opened; an expression
unfoldable pub cond_at : ℕ → Reader Condition
cond_at n = read n want.Condition >>= as_cond

-- an expression, with so many parentheses still to be opened
unfoldable pub expr_at : ℕ → Reader Expression
expr_at n = read n want.Expression >>= as_expr
