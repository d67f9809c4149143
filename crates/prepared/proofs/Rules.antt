-- Each rule of the written grammar keeps the numbers of its text.
use Rattle.std.proofs.Common.{◌≡◌, ℕ, zero, suc, Bool, true, false, List, [], ◌∷◌, ◌++◌, map, Option, Some, None, refl, sym, ap, ◌∙◌, append_assoc}
use Rattle.std.specs.Prelude.{unsigned_abs}
use Rattle.token.specs.declared.kinds.Kind.TheVariants as k
use Rattle.value.specs.declared.truths.Truth.TheVariants as t
use Rattle.value.specs.declared.comparisons.Comparison.TheVariants as c
use Rattle.syntax.specs.declared.trees.Aggregate.{Aggregate}
use Rattle.syntax.specs.declared.trees.Aggregate.TheVariants as a
use Rattle.syntax.specs.declared.trees.SetQuantifier.{SetQuantifier}
use Rattle.syntax.specs.declared.trees.SetQuantifier.TheVariants as quantifier
use Rattle.syntax.specs.declared.trees.Condition.{Condition}
use Rattle.syntax.specs.declared.trees.Condition.TheVariants as b
use Rattle.syntax.specs.declared.trees.Expression.{Expression}
use Rattle.syntax.specs.declared.trees.Expression.TheVariants as e
use Rattle.syntax.specs.declared.trees.SelectList.{SelectList}
use Rattle.syntax.specs.declared.trees.SelectList.TheVariants as which
use Rattle.syntax.specs.declared.wants.PartInParentheses.{PartInParentheses}
use Rattle.syntax.specs.declared.wants.PartInParentheses.TheVariants as part
use Rattle.syntax.specs.Grammar as g
use Rattle.syntax.specs.Language.{Lexeme, Lexemes, Language}
use Rattle.syntax.specs.Language as lang
use Rattle.prepared.specs.Numerals.{Numerals, numerals, numerals_of_parts, condition_numerals, expression_numerals, select_list_numerals, query_numerals}
use Rattle.prepared.proofs.Yields.{Yields, Adds, Silent, some_numerals, yields_token, yields_number, yields_or, yields_pure, yields_map, yields_seq, yields_then, yields_more, yields_list, silent_pure, silent_or, silent_seq, silent_then, silent_map, silent_optional, silent_parens, adds_pure, adds_or, adds_seq, adds_parens, adds_map, adds_none, adds_optional}
use Rattle.prepared.proofs.Numerals.{of_number, of_text, of_column, of_countrows, of_aggregate, of_subquery, of_negation, of_not, of_is, of_exists, of_compare, of_isnull, of_between, of_in, of_star, of_one, of_query, of_product, of_sum, of_and, of_or}

-- ---- parts without a number

silent_token : {A : Type 0} (make : Lexeme → A) → Silent (lang.◌<$>◌ make (lang.token k.Name))
silent_token make = silent_map make (lang.token k.Name) (λ before. yields_token k.Name before refl)

pub silent_name : Silent g.name
silent_name = silent_token g.name_of

silent_column_after : (x : Lexeme) → Silent (g.column_after x)
unfolding g.column_after
silent_column_after x = silent_or _ _ (silent_pure _) (silent_seq k.Dot _ refl (silent_token _))

pub silent_column : Silent g.column
unfolding g.column
silent_column = silent_then (lang.token k.Name) g.column_after (λ before. yields_token k.Name before refl) silent_column_after

silent_quantified : (q : SetQuantifier) → Silent (lang.◌<$>◌ (g.argument_of q) g.column)
silent_quantified q = silent_map (g.argument_of q) g.column silent_column

silent_argument : Silent g.argument
unfolding g.argument
silent_argument =
    silent_or _ _ (silent_or _ _ (silent_quantified quantifier.All) (silent_seq k.All _ refl (silent_quantified quantifier.All)))
    (silent_seq k.Distinct _ refl (silent_quantified quantifier.Distinct))

silent_sign : Silent g.comparison_sign
silent_sign =
    silent_or _ _ (silent_or _ _ (silent_or _ _ (silent_or _ _ (silent_or _ _
    (silent_seq k.Equal _ refl (silent_pure c.Equal)) (silent_seq k.NotEqual _ refl (silent_pure c.NotEqual)))
    (silent_seq k.Less _ refl (silent_pure c.Less))) (silent_seq k.AtMost _ refl (silent_pure c.AtMost)))
    (silent_seq k.Greater _ refl (silent_pure c.Greater))) (silent_seq k.AtLeast _ refl (silent_pure c.AtLeast))

silent_truth : Silent g.truth
silent_truth =
    silent_or _ _ (silent_or _ _ (silent_seq k.True _ refl (silent_pure t.True)) (silent_seq k.False _ refl (silent_pure t.False)))
    (silent_seq k.Unknown _ refl (silent_pure t.Unknown))

pub silent_correlation_name : Silent g.correlation_name
unfolding g.correlation_name
silent_correlation_name =
    silent_or _ _ (silent_or _ _ (silent_pure None) (silent_map Some g.name silent_name)) (silent_seq k.As _ refl (silent_map Some g.name silent_name))

silent_group_by : Silent g.group_by
unfolding g.group_by
silent_group_by = silent_optional _ (silent_seq k.Group _ refl (silent_seq k.By _ refl silent_column))

-- ---- what has no parentheses in it

pub abs_signed : (is_negative : Bool) (n : ℕ) → unsigned_abs (g.signed_number is_negative n) ≡ n
abs_signed false n = refl
abs_signed true zero = refl
abs_signed true (suc n) = refl

pub adds_number : (is_negative : Bool) → Adds (lang.◌<$>◌ (g.number_of is_negative) (lang.token k.Number)) expression_numerals
adds_number is_negative before =
    yields_map (g.number_of is_negative) (lang.token k.Number) before (λ x. before ++ g.digits_value x ∷ []) (λ x. before ++ expression_numerals x) (yields_number before)
    (λ x. ap (λ z. before ++ z) (of_number (g.signed_number is_negative (g.digits_value x)) ∙ ap (λ n. n ∷ []) (abs_signed is_negative (g.digits_value x))))

adds_text : Adds g.text expression_numerals
adds_text = adds_none (λ x. e.Text (g.text_in_quotes x)) (lang.token k.Text) expression_numerals (λ x. of_text (g.text_in_quotes x)) (λ before. yields_token k.Text before refl)

adds_of : (f : Aggregate) → Adds (g.of f) expression_numerals
adds_of f = adds_none (e.Aggregate f) (lang.parens g.argument) expression_numerals (of_aggregate f) (silent_parens g.argument silent_argument)

adds_aggregate : Adds g.aggregate expression_numerals
unfolding g.aggregate
adds_aggregate =
    adds_or _ _ expression_numerals (adds_or _ _ expression_numerals (adds_or _ _ expression_numerals (adds_or _ _ expression_numerals
    (adds_seq k.Count _ expression_numerals refl (adds_parens _ expression_numerals (adds_seq k.Star _ expression_numerals refl (adds_pure e.CountRows expression_numerals of_countrows))))
    (adds_seq k.Count _ expression_numerals refl (adds_of a.Count)))
    (adds_seq k.Sum _ expression_numerals refl (adds_of a.Sum)))
    (adds_seq k.Min _ expression_numerals refl (adds_of a.Min)))
    (adds_seq k.Max _ expression_numerals refl (adds_of a.Max))

-- ---- what may have parentheses in it

pub found_numerals : PartInParentheses → Numerals
found_numerals (part.Condition x) = condition_numerals x
found_numerals (part.Expression x) = expression_numerals x
found_numerals (part.Query x) = query_numerals x

module _ (inner : Language PartInParentheses) (adds : Adds inner found_numerals) where
  pub inner_expr : Adds (g.inner_expr inner) expression_numerals
  unfolding found_numerals
  inner_expr before = record { gives = λ w x h. (adds before).gives w (part.Expression x) h }

  pub inner_cond : Adds (g.inner_cond inner) condition_numerals
  unfolding found_numerals
  inner_cond before = record { gives = λ w x h. (adds before).gives w (part.Condition x) h }

  inner_query : Adds (g.inner_query inner) query_numerals
  unfolding found_numerals
  inner_query before = record { gives = λ w x h. (adds before).gives w (part.Query x) h }

  other_prim : Adds (g.other_prim inner) expression_numerals
  unfolding g.other_prim
  other_prim =
      adds_or _ _ expression_numerals (adds_or _ _ expression_numerals (adds_or _ _ expression_numerals (adds_or _ _ expression_numerals
      adds_text (adds_none e.Column g.column expression_numerals of_column silent_column)) adds_aggregate)
      (adds_parens (g.inner_expr inner) expression_numerals inner_expr))
      (adds_map e.Subquery (lang.parens (g.inner_query inner)) query_numerals expression_numerals of_subquery (adds_parens (g.inner_query inner) query_numerals inner_query))

  prim : Adds (g.prim inner) expression_numerals
  unfolding g.prim
  prim = adds_or _ _ expression_numerals (adds_number false) other_prim

  factor : Adds (g.factor inner) expression_numerals
  unfolding g.factor
  factor =
      adds_or _ _ expression_numerals (adds_or _ _ expression_numerals (adds_or _ _ expression_numerals
      prim (adds_seq k.Plus _ expression_numerals refl prim))
      (adds_seq k.Minus _ expression_numerals refl (adds_number true)))
      (adds_seq k.Minus _ expression_numerals refl (adds_map e.Negation (g.other_prim inner) expression_numerals expression_numerals of_negation other_prim))

  -- behind an expression, which the tree then holds
  product_after : (first : Expression) (before : Numerals) → Yields (g.product_after inner first) (before ++ expression_numerals first) (λ x. before ++ expression_numerals x)
  unfolding g.product_after
  product_after first before =
      yields_map g.product_of _ (before ++ expression_numerals first) (λ xs. before ++ numerals_of_parts (map expression_numerals xs)) (λ x. before ++ expression_numerals x)
      (yields_more first _ before expression_numerals (adds_seq k.Star _ expression_numerals refl factor)) (λ xs. ap (λ z. before ++ z) (of_product xs))

  term : Adds (g.term inner) expression_numerals
  unfolding g.term
  term before = yields_then (g.factor inner) (g.product_after inner) before (λ x. before ++ expression_numerals x) (λ x. before ++ expression_numerals x) (factor before) (λ x. product_after x before)

  sum_item : Adds (g.sum_item inner) expression_numerals
  sum_item =
      adds_or _ _ expression_numerals (adds_seq k.Plus _ expression_numerals refl term)
      (adds_seq k.Minus _ expression_numerals refl (adds_map e.Negation (g.term inner) expression_numerals expression_numerals of_negation term))

  sum_after : (first : Expression) (before : Numerals) → Yields (g.sum_after inner first) (before ++ expression_numerals first) (λ x. before ++ expression_numerals x)
  unfolding g.sum_after
  sum_after first before =
      yields_map g.sum_of _ (before ++ expression_numerals first) (λ xs. before ++ numerals_of_parts (map expression_numerals xs)) (λ x. before ++ expression_numerals x)
      (yields_more first _ before expression_numerals sum_item) (λ xs. ap (λ z. before ++ z) (of_sum xs))

  pub expr : Adds (g.expr inner) expression_numerals
  unfolding g.expr
  expr before = yields_then (g.term inner) (g.sum_after inner) before (λ x. before ++ expression_numerals x) (λ x. before ++ expression_numerals x) (term before) (λ x. sum_after x before)

  -- ---- conditions

  range_or_list : (left : Expression) (before : Numerals) → Yields (g.range_or_list inner left) (before ++ expression_numerals left) (λ x. before ++ condition_numerals x)
  unfolding g.range_or_list
  range_or_list left before =
      let behind : Numerals = before ++ expression_numerals left in
      yields_or _ _ behind (λ x. before ++ condition_numerals x)
      (yields_seq k.Between _ behind (λ x. before ++ condition_numerals x) refl
      (yields_then (g.expr inner) _ behind (λ low. behind ++ expression_numerals low) (λ x. before ++ condition_numerals x) (expr behind)
      (λ low. yields_seq k.And _ (behind ++ expression_numerals low) (λ x. before ++ condition_numerals x) refl
      (yields_map (b.Between left low) (g.expr inner) (behind ++ expression_numerals low) (λ high. (behind ++ expression_numerals low) ++ expression_numerals high) (λ x. before ++ condition_numerals x) (expr (behind ++ expression_numerals low))
      (λ high. ap (λ z. before ++ z) (of_between left low high) ∙ sym (append_assoc before (expression_numerals left) (expression_numerals low ++ expression_numerals high)) ∙ sym (append_assoc behind (expression_numerals low) (expression_numerals high)))))))
      (yields_seq k.In _ behind (λ x. before ++ condition_numerals x) refl
      (yields_map (b.In left) _ behind (λ xs. behind ++ numerals_of_parts (map expression_numerals xs)) (λ x. before ++ condition_numerals x)
      (adds_parens _ (λ xs. numerals_of_parts (map expression_numerals xs)) (yields_list (g.inner_expr inner) expression_numerals inner_expr) behind)
      (λ xs. ap (λ z. before ++ z) (of_in left xs) ∙ sym (append_assoc before (expression_numerals left) (numerals_of_parts (map expression_numerals xs))))))

  null : (left : Expression) (before : Numerals) → Yields (g.null inner left) (before ++ expression_numerals left) (λ x. before ++ condition_numerals x)
  unfolding g.null
  null left before =
      let behind : Numerals = before ++ expression_numerals left in
      yields_or _ _ behind (λ x. before ++ condition_numerals x)
      (yields_seq k.Null _ behind (λ x. before ++ condition_numerals x) refl (yields_pure (b.IsNull left) behind (λ x. before ++ condition_numerals x) (ap (λ z. before ++ z) (of_isnull left))))
      (yields_seq k.Not _ behind (λ x. before ++ condition_numerals x) refl (yields_seq k.Null _ behind (λ x. before ++ condition_numerals x) refl
      (yields_pure (b.Not (b.IsNull left)) behind (λ x. before ++ condition_numerals x) (ap (λ z. before ++ z) (of_not (b.IsNull left) ∙ of_isnull left)))))

  comparison : (left : Expression) (before : Numerals) → Yields (g.comparison inner left) (before ++ expression_numerals left) (λ x. before ++ condition_numerals x)
  unfolding g.comparison
  comparison left before =
      let behind : Numerals = before ++ expression_numerals left in
      yields_or _ _ behind (λ x. before ++ condition_numerals x) (yields_or _ _ behind (λ x. before ++ condition_numerals x) (yields_or _ _ behind (λ x. before ++ condition_numerals x)
      (yields_then g.comparison_sign _ behind (λ _. behind) (λ x. before ++ condition_numerals x) (silent_sign behind)
      (λ sign. yields_map (b.Compare left sign) (g.expr inner) behind (λ right. behind ++ expression_numerals right) (λ x. before ++ condition_numerals x) (expr behind)
      (λ right. ap (λ z. before ++ z) (of_compare left sign right) ∙ sym (append_assoc before (expression_numerals left) (expression_numerals right)))))
      (yields_seq k.Is _ behind (λ x. before ++ condition_numerals x) refl (null left before)))
      (range_or_list left before))
      (yields_seq k.Not _ behind (λ x. before ++ condition_numerals x) refl
      (yields_map b.Not (g.range_or_list inner left) behind (λ x. before ++ condition_numerals x) (λ x. before ++ condition_numerals x) (range_or_list left before) (λ x. ap (λ z. before ++ z) (of_not x))))

  exists : Adds (g.exists inner) condition_numerals
  exists =
      adds_seq k.Exists _ condition_numerals refl
      (adds_map b.Exists (lang.parens (g.inner_query inner)) query_numerals condition_numerals of_exists (adds_parens (g.inner_query inner) query_numerals inner_query))

  bprim : Adds (g.bprim inner) condition_numerals
  unfolding g.bprim
  bprim =
      adds_or _ _ condition_numerals (adds_or _ _ condition_numerals (adds_parens (g.inner_cond inner) condition_numerals inner_cond) exists)
      (λ before. yields_then (g.expr inner) (g.comparison inner) before (λ x. before ++ expression_numerals x) (λ x. before ++ condition_numerals x) (expr before) (λ left. comparison left before))

  is_after : (x : Condition) (before : Numerals) → Yields (g.is_after inner x) (before ++ condition_numerals x) (λ y. before ++ condition_numerals y)
  unfolding g.is_after
  is_after x before =
      let behind : Numerals = before ++ condition_numerals x in
      yields_or _ _ behind (λ y. before ++ condition_numerals y) (yields_or _ _ behind (λ y. before ++ condition_numerals y)
      (yields_pure x behind (λ y. before ++ condition_numerals y) refl)
      (yields_seq k.Is _ behind (λ y. before ++ condition_numerals y) refl
      (yields_map (b.Is x) g.truth behind (λ _. behind) (λ y. before ++ condition_numerals y) (silent_truth behind) (λ truth. ap (λ z. before ++ z) (of_is x truth)))))
      (yields_seq k.Is _ behind (λ y. before ++ condition_numerals y) refl (yields_seq k.Not _ behind (λ y. before ++ condition_numerals y) refl
      (yields_map (λ truth. b.Not (b.Is x truth)) g.truth behind (λ _. behind) (λ y. before ++ condition_numerals y) (silent_truth behind)
      (λ truth. ap (λ z. before ++ z) (of_not (b.Is x truth) ∙ of_is x truth)))))

  btest : Adds (g.btest inner) condition_numerals
  unfolding g.btest
  btest before = yields_then (g.bprim inner) (g.is_after inner) before (λ x. before ++ condition_numerals x) (λ x. before ++ condition_numerals x) (bprim before) (λ x. is_after x before)

  bfact : Adds (g.bfact inner) condition_numerals
  unfolding g.bfact
  bfact = adds_or _ _ condition_numerals btest (adds_seq k.Not _ condition_numerals refl (adds_map b.Not (g.btest inner) condition_numerals condition_numerals of_not btest))

  and_after : (first : Condition) (before : Numerals) → Yields (g.and_after inner first) (before ++ condition_numerals first) (λ x. before ++ condition_numerals x)
  unfolding g.and_after
  and_after first before =
      yields_map g.and_of _ (before ++ condition_numerals first) (λ xs. before ++ numerals_of_parts (map condition_numerals xs)) (λ x. before ++ condition_numerals x)
      (yields_more first _ before condition_numerals (adds_seq k.And _ condition_numerals refl bfact)) (λ xs. ap (λ z. before ++ z) (of_and xs))

  bterm : Adds (g.bterm inner) condition_numerals
  unfolding g.bterm
  bterm before = yields_then (g.bfact inner) (g.and_after inner) before (λ x. before ++ condition_numerals x) (λ x. before ++ condition_numerals x) (bfact before) (λ x. and_after x before)

  or_after : (first : Condition) (before : Numerals) → Yields (g.or_after inner first) (before ++ condition_numerals first) (λ x. before ++ condition_numerals x)
  unfolding g.or_after
  or_after first before =
      yields_map g.or_of _ (before ++ condition_numerals first) (λ xs. before ++ numerals_of_parts (map condition_numerals xs)) (λ x. before ++ condition_numerals x)
      (yields_more first _ before condition_numerals (adds_seq k.Or _ condition_numerals refl bterm)) (λ xs. ap (λ z. before ++ z) (of_or xs))

  pub cond : Adds (g.cond inner) condition_numerals
  unfolding g.cond
  cond before = yields_then (g.bterm inner) (g.or_after inner) before (λ x. before ++ condition_numerals x) (λ x. before ++ condition_numerals x) (bterm before) (λ x. or_after x before)

  -- ---- queries

  selected : Adds (g.selected inner) select_list_numerals
  unfolding g.selected
  selected =
      adds_or _ _ select_list_numerals (adds_seq k.Star _ select_list_numerals refl (adds_pure which.Star select_list_numerals of_star))
      (adds_map which.One (g.expr inner) expression_numerals select_list_numerals of_one expr)

  where_clause : Adds (g.where_clause inner) (some_numerals condition_numerals)
  unfolding g.where_clause
  where_clause = adds_optional _ condition_numerals (adds_seq k.Where _ condition_numerals refl cond)

  having : Adds (g.having inner) (some_numerals condition_numerals)
  unfolding g.having
  having = adds_optional _ condition_numerals (adds_seq k.Having _ condition_numerals refl cond)

  query_rest : (list : SelectList) (table : List ℕ) (name : Option (List ℕ)) (before : Numerals)
      → Yields (g.query_rest inner list table name) (before ++ select_list_numerals list) (λ q. before ++ query_numerals q)
  unfolding g.query_rest
  query_rest list table name before =
      let behind : Numerals = before ++ select_list_numerals list in
      yields_then (g.where_clause inner) _ behind (λ keeps. behind ++ some_numerals condition_numerals keeps) (λ q. before ++ query_numerals q) (where_clause behind)
      (λ keeps. yields_then g.group_by _ (behind ++ some_numerals condition_numerals keeps) (λ _. behind ++ some_numerals condition_numerals keeps) (λ q. before ++ query_numerals q) (silent_group_by (behind ++ some_numerals condition_numerals keeps))
      (λ group. yields_map (g.query_of list table name keeps group) (g.having inner) (behind ++ some_numerals condition_numerals keeps) (λ having. (behind ++ some_numerals condition_numerals keeps) ++ some_numerals condition_numerals having) (λ q. before ++ query_numerals q) (having (behind ++ some_numerals condition_numerals keeps))
      (λ having. ap (λ z. before ++ z) (of_query list table name keeps group having)
      ∙ sym (append_assoc before (select_list_numerals list) (some_numerals condition_numerals keeps ++ some_numerals condition_numerals having))
      ∙ sym (append_assoc behind (some_numerals condition_numerals keeps) (some_numerals condition_numerals having)))))

  query_from : (list : SelectList) (before : Numerals) → Yields (g.query_from inner list) (before ++ select_list_numerals list) (λ q. before ++ query_numerals q)
  unfolding g.query_from
  query_from list before =
      let behind : Numerals = before ++ select_list_numerals list in
      yields_then g.name _ behind (λ _. behind) (λ q. before ++ query_numerals q) (silent_name behind)
      (λ table. yields_then g.correlation_name _ behind (λ _. behind) (λ q. before ++ query_numerals q) (silent_correlation_name behind) (λ name. query_rest list table name before))

  query : Adds (g.query inner) query_numerals
  unfolding g.query
  query before =
      yields_seq k.Select _ before (λ q. before ++ query_numerals q) refl
      (yields_then (g.selected inner) _ before (λ list. before ++ select_list_numerals list) (λ q. before ++ query_numerals q) (selected before)
      (λ list. yields_seq k.From _ (before ++ select_list_numerals list) (λ q. before ++ query_numerals q) refl (query_from list before)))

  pub found : Adds (g.found inner) found_numerals
  unfolding found_numerals
  found before = record { gives = go }
    where
      go : (w : Lexemes) (x : PartInParentheses) → g.found inner w x → before ++ found_numerals x ≡ before ++ numerals w
      go w (part.Condition x) h = (cond before).gives w x h
      go w (part.Expression x) h = (expr before).gives w x h
      go w (part.Query x) h = (query before).gives w x h

-- however deep parentheses nest
nested_gives : (n : ℕ) (before : Numerals) (w : Lexemes) (x : PartInParentheses) → g.nested n w x → before ++ found_numerals x ≡ before ++ numerals w
unfolding g.nested
nested_gives zero before w x h = absurd h
nested_gives (suc n) before w x h = (found (g.nested n) (λ b. record { gives = nested_gives n b }) before).gives w x h

pub nested : (n : ℕ) → Adds (g.nested n) found_numerals
nested n before = record { gives = nested_gives n before }
