-- The grammar of conditions, expressions and queries: which texts of tokens have which trees.
use Rattle.std.specs.Prelude.{ℕ, zero, suc, ℤ, pos, neg_ℤ, Bool, true, false, List, [], ◌∷◌, Option, Some, None}
use Rattle.std.specs.List.{flat_map}
use Rattle.std.specs.Option.{unwrap_or}
use Rattle.token.specs.declared.kinds.Kind.TheVariants as k
use Rattle.token.specs.Bytes.{name_of as upper}
use Rattle.token.specs.Lexer.{number_value}
use Rattle.token.specs.Readings.{with_quotes_once, between_quotes}
use Rattle.value.specs.declared.comparisons.Comparison.{Comparison}
use Rattle.value.specs.declared.comparisons.Comparison.TheVariants as c
use Rattle.value.specs.declared.truths.Truth.{Truth}
use Rattle.value.specs.declared.truths.Truth.TheVariants as t
use Rattle.syntax.specs.declared.trees.Aggregate.{Aggregate}
use Rattle.syntax.specs.declared.trees.Aggregate.TheVariants as a
use Rattle.syntax.specs.declared.trees.Argument.{Argument}
use Rattle.syntax.specs.declared.trees.ColumnName.{ColumnName}
use Rattle.syntax.specs.declared.trees.SetQuantifier.{SetQuantifier}
use Rattle.syntax.specs.declared.trees.SetQuantifier.TheVariants as quantifier
use Rattle.syntax.specs.declared.trees.SelectList.{SelectList}
use Rattle.syntax.specs.declared.trees.SelectList.TheVariants as which
use Rattle.syntax.specs.declared.trees.Query.{Query, roll-Query}
use Rattle.syntax.specs.declared.trees.Expression.{Expression, out-Expression}
use Rattle.syntax.specs.declared.trees.Expression.TheVariants as e
use Rattle.syntax.specs.declared.trees.Condition.{Condition, out-Condition}
use Rattle.syntax.specs.declared.trees.Condition.TheVariants as b
use Rattle.syntax.specs.declared.trees.Condition.TheOpen.{Condition-F, Expression-F}
use Rattle.syntax.specs.declared.wants.PartInParentheses.{PartInParentheses}
use Rattle.syntax.specs.declared.wants.PartInParentheses.TheVariants as part
use Rattle.syntax.specs.declared.wants.Want.{Want}
use Rattle.syntax.specs.declared.wants.Want.TheVariants as want
use Rattle.syntax.specs.Language.{Lexeme, Language, ◌>>=◌, ◌>>◌, ◌<$>◌, ◌∪◌, pure, token, optional, list, parens, Behind, Some_level}

-- ---- trees

-- the value of a number's digits; each token of kind Number has one
unfoldable pub digits_value : Lexeme → ℕ
digits_value x = unwrap_or (number_value x.spelling) 0

-- a number with its sign
abbrev pub signed_number : Bool → ℕ → ℤ
signed_number true n = neg_ℤ (pos n)
signed_number false n = pos n

-- what stands in the quotes of a text
unfoldable pub text_in_quotes : Lexeme → List ℕ
text_in_quotes x = with_quotes_once false (between_quotes x.spelling)

-- a name: the word in upper case
unfoldable pub name_of : Lexeme → List ℕ
name_of x = upper x.spelling

-- the expression of a number's token, with its sign: SQL-92's signed numeric literal
abbrev pub number_of : Bool → Lexeme → Expression
number_of is_negative x = e.Number (signed_number is_negative (digits_value x))

-- Lists of parts: one part stands for itself, and a part of the same kind is merged into the list around it.
abbrev pub product_layer : Expression → Expression-F Condition Expression SelectList Query → List Expression
product_layer x (Expression-F.Product parts) = parts
product_layer x _ = x ∷ []

-- the terms of a sum; any other expression is a term itself
abbrev pub sum_layer : Expression → Expression-F Condition Expression SelectList Query → List Expression
sum_layer x (Expression-F.Sum parts) = parts
sum_layer x _ = x ∷ []

-- the boolean factors that AND joins; any other condition is one itself
abbrev pub and_layer : Condition → Condition-F Condition Expression SelectList Query → List Condition
and_layer x (Condition-F.And parts) = parts
and_layer x _ = x ∷ []

-- the boolean terms that OR joins; any other condition is one itself
abbrev pub or_layer : Condition → Condition-F Condition Expression SelectList Query → List Condition
or_layer x (Condition-F.Or parts) = parts
or_layer x _ = x ∷ []

-- the factors of an expression, as a product takes them in
unfoldable pub product_parts : Expression → List Expression
product_parts x = product_layer x (out-Expression x)

-- the terms of an expression, as a sum takes them in
unfoldable pub sum_parts : Expression → List Expression
sum_parts x = sum_layer x (out-Expression x)

-- the parts of a condition, as AND takes them in
unfoldable pub and_parts : Condition → List Condition
and_parts x = and_layer x (out-Condition x)

-- the parts of a condition, as OR takes them in
unfoldable pub or_parts : Condition → List Condition
or_parts x = or_layer x (out-Condition x)

-- one part stands for itself
abbrev pub alone_or : {A : Type 0} → (A → List A) → (List A → A) → List A → A
alone_or parts join (x ∷ []) = x
alone_or parts join xs = join (flat_map parts xs)

-- the product of some factors
unfoldable pub product_of : List Expression → Expression
product_of = alone_or product_parts e.Product

-- the sum of some terms
unfoldable pub sum_of : List Expression → Expression
sum_of = alone_or sum_parts e.Sum

-- the condition that AND makes of some parts
unfoldable pub and_of : List Condition → Condition
and_of = alone_or and_parts b.And

-- the condition that OR makes of some parts
unfoldable pub or_of : List Condition → Condition
or_of = alone_or or_parts b.Or

-- ---- the grammar. What may stand in parentheses is the argument.

-- cmp: the comp op of a comparison predicate (8.2)
abbrev pub comparison_sign : Language Comparison
comparison_sign =
    (token k.Equal >> pure c.Equal) ∪ (token k.NotEqual >> pure c.NotEqual) ∪ (token k.Less >> pure c.Less)
    ∪ (token k.AtMost >> pure c.AtMost) ∪ (token k.Greater >> pure c.Greater) ∪ (token k.AtLeast >> pure c.AtLeast)

-- TRUE | FALSE | UNKNOWN: a truth value (8.12)
abbrev pub truth : Language Truth
truth = (token k.True >> pure t.True) ∪ (token k.False >> pure t.False) ∪ (token k.Unknown >> pure t.Unknown)

-- a number without a sign: an unsigned numeric literal
abbrev pub number : Language Expression
number = number_of false <$> token k.Number

-- a text in quotes: a character string literal
abbrev pub text : Language Expression
text = (λ x. e.Text (text_in_quotes x)) <$> token k.Text

-- [ "." name ]
unfoldable pub column_after : Lexeme → Language ColumnName
column_after x =
    pure (record { qualifier = None; name = name_of x })
    ∪ (token k.Dot >> ((λ y. record { qualifier = Some (name_of x); name = name_of y }) <$> token k.Name))

-- name [ "." name ]
unfoldable pub column : Language ColumnName
column = token k.Name >>= column_after

-- a name, of a table, a column or whatever else: SQL-92's identifier (5.4)
abbrev pub name : Language (List ℕ)
name = name_of <$> token k.Name

-- a set function's argument, of this set quantifier and this column
abbrev pub argument_of : SetQuantifier → ColumnName → Argument
argument_of quantifier column = record { quantifier = quantifier; column = column }

-- [ ALL | DISTINCT ] colref, where a set quantifier that is not written is ALL (6.5)
unfoldable pub argument : Language Argument
argument =
    (argument_of quantifier.All <$> column)
    ∪ (token k.All >> (argument_of quantifier.All <$> column))
    ∪ (token k.Distinct >> (argument_of quantifier.Distinct <$> column))

-- "(" [ ALL | DISTINCT ] colref ")"
abbrev pub of : Aggregate → Language Expression
of f = e.Aggregate f <$> parens argument

-- agg: COUNT "(" "*" ")" | ( COUNT | SUM | MIN | MAX ) "(" [ ALL | DISTINCT ] colref ")", SQL-92's set function
-- specification (6.5)
unfoldable pub aggregate : Language Expression
aggregate =
    (token k.Count >> parens (token k.Star >> pure e.CountRows))
    ∪ (token k.Count >> of a.Count) ∪ (token k.Sum >> of a.Sum) ∪ (token k.Min >> of a.Min) ∪ (token k.Max >> of a.Max)

-- [ [AS] name ]
unfoldable pub correlation_name : Language (Option (List ℕ))
correlation_name = pure None ∪ (Some <$> name) ∪ (token k.As >> (Some <$> name))

-- [GROUP BY colref]
unfoldable pub group_by : Language (Option ColumnName)
group_by = optional (token k.Group >> (token k.By >> column))

-- the tree of a query
abbrev pub query_of : SelectList → List ℕ → Option (List ℕ) → Option Condition → Option ColumnName → Option Condition
    → Query
query_of list table correlation_name keeps group having =
    roll-Query (record {
      select_list = list;
      table = table;
      correlation_name = correlation_name;
      keeps = keeps;
      group = group;
      having = having;
    })

module _ (inner : Language PartInParentheses) where
  -- what stands in parentheses: an expression, a condition, a query
  abbrev pub inner_expr : Language Expression
  inner_expr w x = inner w (part.Expression x)

  -- a condition in parentheses
  abbrev pub inner_cond : Language Condition
  inner_cond w x = inner w (part.Condition x)

  -- a query in parentheses: a subquery (7.11)
  abbrev pub inner_query : Language Query
  inner_query w x = inner w (part.Query x)

  -- a prim that is no number: text | colref | agg | "(" expr ")" | "(" query ")"
  unfoldable pub other_prim : Language Expression
  other_prim = text ∪ (e.Column <$> column) ∪ aggregate ∪ parens inner_expr ∪ (e.Subquery <$> parens inner_query)

  -- prim: number | text | colref | agg | "(" expr ")" | "(" query ")", SQL-92's value expression primary
  unfoldable pub prim : Language Expression
  prim = number ∪ other_prim

  -- [sign] prim. A minus before a number makes a literal.
  unfoldable pub factor : Language Expression
  factor =
      prim ∪ (token k.Plus >> prim) ∪ (token k.Minus >> (number_of true <$> token k.Number)) ∪
      (token k.Minus >> (e.Negation <$> other_prim))

  -- { "*" factor }
  unfoldable pub product_after : Expression → Language Expression
  product_after first = product_of <$> Behind (first ∷ []) (token k.Star >> factor)

  -- term: factor { "*" factor } (6.12)
  unfoldable pub term : Language Expression
  term = factor >>= product_after

  -- a further term of a sum: ("+" | "-") term, where a minus negates its term
  abbrev pub sum_item : Language Expression
  sum_item = (token k.Plus >> term) ∪ (token k.Minus >> (e.Negation <$> term))

  -- { ("+" | "-") term }
  unfoldable pub sum_after : Expression → Language Expression
  sum_after first = sum_of <$> Behind (first ∷ []) sum_item

  -- expr: term { ("+" | "-") term }, SQL-92's numeric value expression (6.12)
  unfoldable pub expr : Language Expression
  expr = term >>= sum_after

  -- BETWEEN expr AND expr | IN "(" expr { "," expr } ")"
  unfoldable pub range_or_list : Expression → Language Condition
  range_or_list left =
      (token k.Between >> (expr >>= (λ low. token k.And >> (b.Between left low <$> expr))))
      ∪ (token k.In >> (b.In left <$> parens (list inner_expr)))

  -- [NOT] NULL
  unfoldable pub null : Expression → Language Condition
  null left = (token k.Null >> pure (b.IsNull left)) ∪ (token k.Not >> (token k.Null >> pure (b.Not (b.IsNull left))))

  -- what makes a condition of an expression: cmp expr | IS [NOT] NULL | [NOT] BETWEEN .. | [NOT] IN ..
  unfoldable pub comparison : Expression → Language Condition
  comparison left =
      (comparison_sign >>= (λ sign. b.Compare left sign <$> expr))
      ∪ (token k.Is >> null left)
      ∪ range_or_list left
      ∪ (token k.Not >> (b.Not <$> range_or_list left))

  -- EXISTS "(" query ")"
  abbrev pub exists : Language Condition
  exists = token k.Exists >> (b.Exists <$> parens inner_query)

  -- bprim: "(" cond ")" | EXISTS "(" query ")" | expr comparison, SQL-92's boolean primary (8.12)
  unfoldable pub bprim : Language Condition
  bprim = parens inner_cond ∪ exists ∪ (expr >>= comparison)

  -- [ IS [NOT] (TRUE | FALSE | UNKNOWN) ]
  unfoldable pub is_after : Condition → Language Condition
  is_after x =
      pure x ∪ (token k.Is >> (b.Is x <$> truth)) ∪ (token k.Is >> (token k.Not >> ((λ y. b.Not (b.Is x y)) <$> truth)))

  -- btest: bprim [ IS [NOT] (TRUE | FALSE | UNKNOWN) ], SQL-92's boolean test (8.12)
  unfoldable pub btest : Language Condition
  btest = bprim >>= is_after

  -- [NOT] btest
  unfoldable pub bfact : Language Condition
  bfact = btest ∪ (token k.Not >> (b.Not <$> btest))

  -- { AND bfact }
  unfoldable pub and_after : Condition → Language Condition
  and_after first = and_of <$> Behind (first ∷ []) (token k.And >> bfact)

  -- bterm: bfact { AND bfact }, SQL-92's boolean term (8.12)
  unfoldable pub bterm : Language Condition
  bterm = bfact >>= and_after

  -- { OR bterm }
  unfoldable pub or_after : Condition → Language Condition
  or_after first = or_of <$> Behind (first ∷ []) (token k.Or >> bterm)

  -- cond: bterm { OR bterm }, SQL-92's search condition (8.12)
  unfoldable pub cond : Language Condition
  cond = bterm >>= or_after

  -- "*" | expr
  unfoldable pub selected : Language SelectList
  selected = (token k.Star >> pure which.Star) ∪ (which.One <$> expr)

  -- [WHERE cond]
  unfoldable pub where_clause : Language (Option Condition)
  where_clause = optional (token k.Where >> cond)

  -- [HAVING cond]
  unfoldable pub having : Language (Option Condition)
  having = optional (token k.Having >> cond)

  -- [WHERE cond] [GROUP BY colref] [HAVING cond]
  unfoldable pub query_rest : SelectList → List ℕ → Option (List ℕ) → Language Query
  query_rest list table other =
      where_clause >>= (λ keeps. group_by >>= (λ group. query_of list table other keeps group <$> having))

  -- name [ [AS] name ] [WHERE cond] [GROUP BY colref] [HAVING cond]
  unfoldable pub query_from : SelectList → Language Query
  query_from list = name >>= (λ table. correlation_name >>= query_rest list table)

  -- SELECT ( "*" | expr ) FROM name [ [AS] name ] [WHERE cond] [GROUP BY colref] [HAVING cond]
  unfoldable pub query : Language Query
  query = token k.Select >> (selected >>= (λ list. token k.From >> query_from list))

  -- what may stand in parentheses one level further out: a condition, an expression or a query
  abbrev pub found : Language PartInParentheses
  found w (part.Condition x) = cond w x
  found w (part.Expression x) = expr w x
  found w (part.Query x) = query w x

-- the part of it that is asked for
abbrev pub wanted_part : Want → Language PartInParentheses → Language PartInParentheses
wanted_part want.Any inner w x = inner w x
wanted_part want.Condition inner w (part.Condition x) = inner w (part.Condition x)
wanted_part want.Condition inner w _ = ⊥
wanted_part want.Expression inner w (part.Expression x) = inner w (part.Expression x)
wanted_part want.Expression inner w _ = ⊥
wanted_part want.Query inner w (part.Query x) = inner w (part.Query x)
wanted_part want.Query inner w _ = ⊥
wanted_part want.Operand inner w (part.Expression x) = inner w (part.Expression x)
wanted_part want.Operand inner w (part.Query x) = inner w (part.Query x)
wanted_part want.Operand inner w _ = ⊥

-- with parentheses nested less deep than the number
unfoldable pub nested : ℕ → Language PartInParentheses
nested zero w x = ⊥
nested (suc n) w x = found (nested n) w x

-- a condition; an expression
abbrev pub conditions : ℕ → Language Condition
conditions n = inner_cond (nested n)

-- the expressions with parentheses nested less deep than the number
abbrev pub expressions : ℕ → Language Expression
expressions n = inner_expr (nested n)

-- a condition, whose parentheses nest as deep as they like
abbrev pub IsCondition : Language Condition
IsCondition = Some_level conditions
