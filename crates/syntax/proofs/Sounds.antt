-- Each reader is sound for its part of the grammar.
use Rattle.std.proofs.Common.{◌≡◌, ℕ, zero, suc, ◌+◌, ◌≤◌, ◌<◌, Bool, true, false, [], ◌∷◌, ◌++◌, length, Some, None, refl, sym, ◌∙◌, ap, subst, inl, inr, arith, Option, List}
use Rattle.token.specs.declared.kinds.Kind.{Kind}
use Rattle.token.specs.declared.kinds.Kind.TheVariants as k
use Rattle.syntax.specs.declared.trees.Aggregate.{Aggregate}
use Rattle.syntax.specs.declared.trees.Aggregate.TheVariants as a
use Rattle.syntax.specs.declared.trees.SetQuantifier.TheVariants as quantifier
use Rattle.syntax.specs.declared.trees.SelectList.{SelectList}
use Rattle.syntax.specs.declared.trees.SelectList.TheVariants as which
use Rattle.syntax.specs.declared.trees.Query.{Query}
use Rattle.syntax.specs.declared.trees.Expression.{Expression}
use Rattle.syntax.specs.declared.trees.Expression.TheVariants as e
use Rattle.syntax.specs.declared.trees.Condition.{Condition}
use Rattle.syntax.specs.declared.trees.Condition.TheVariants as b
use Rattle.syntax.specs.declared.wants.PartInParentheses.{PartInParentheses}
use Rattle.syntax.specs.declared.wants.PartInParentheses.TheVariants as part
use Rattle.syntax.specs.declared.wants.Want.{Want}
use Rattle.syntax.specs.declared.wants.Want.TheVariants as want
use Rattle.syntax.specs.Language.{Lexeme, Lexemes, Language, Then, Behind, Begins, after_kind}
use Rattle.syntax.specs.Language as lang
use Rattle.syntax.specs.Grammar as g
use Rattle.syntax.specs.Readers as r
use Rattle.syntax.specs.Reading.{Reader, pure, refuse, expect}
use Rattle.syntax.proofs.WordLaws.{append-nil, begins_first, Sound, sound_pure, sound_refuse, sound_by_kind}
use Rattle.syntax.proofs.Loops.{sound_parens}
use Rattle.syntax.proofs.Parts.{optional_s, list_s, some_list, parens_into, opened_up, parens_either, parens_map, behind}
use Rattle.syntax.proofs.Short.{then_s, map_s, tok_s, seq_s, weak, all_s, token_some, token_either, mapped, mapping, regroup_left, then_into}

-- ---- what has no parentheses in it

equal_s : (n : ℕ) → Sound n n g.comparison_sign (r.sign_by k.Equal)
equal_s n = weak (λ w a h. inl (inl (inl (inl (inl h))))) (seq_s k.Equal refl (sound_pure n _))

sign_by_s : (n : ℕ) (kind : Kind) → Sound n n g.comparison_sign (r.sign_by kind)
sign_by_s n k.Equal = equal_s n
sign_by_s n k.NotEqual = weak (λ w a h. inl (inl (inl (inl (inr h))))) (seq_s k.NotEqual refl (sound_pure n _))
sign_by_s n k.Less = weak (λ w a h. inl (inl (inl (inr h)))) (seq_s k.Less refl (sound_pure n _))
sign_by_s n k.AtMost = weak (λ w a h. inl (inl (inr h))) (seq_s k.AtMost refl (sound_pure n _))
sign_by_s n k.Greater = weak (λ w a h. inl (inr h)) (seq_s k.Greater refl (sound_pure n _))
sign_by_s n k.AtLeast = weak (λ w a h. inr h) (seq_s k.AtLeast refl (sound_pure n _))
sign_by_s n _ = sound_refuse n n g.comparison_sign (equal_s n).begins

pub sign_s : (n : ℕ) → Sound n n g.comparison_sign r.comparison_sign
unfolding r.comparison_sign
sign_s n = sound_by_kind n n g.comparison_sign r.sign_by (sign_by_s n)

true_s : (n : ℕ) → Sound n n g.truth (r.truth_by k.True)
true_s n = weak (λ w a h. inl (inl h)) (seq_s k.True refl (sound_pure n _))

truth_by_s : (n : ℕ) (kind : Kind) → Sound n n g.truth (r.truth_by kind)
truth_by_s n k.True = true_s n
truth_by_s n k.False = weak (λ w a h. inl (inr h)) (seq_s k.False refl (sound_pure n _))
truth_by_s n k.Unknown = weak (λ w a h. inr h) (seq_s k.Unknown refl (sound_pure n _))
truth_by_s n _ = sound_refuse n n g.truth (true_s n).begins

pub truth_s : (n : ℕ) → Sound n n g.truth r.truth
unfolding r.truth
truth_s n = sound_by_kind n n g.truth r.truth_by (truth_by_s n)

pub number_s : (n : ℕ) (is_negative : Bool) → Sound n n (lang.◌<$>◌ (g.number_of is_negative) (lang.token k.Number)) (r.number is_negative)
unfolding r.number
number_s n is_negative = map_s (g.number_of is_negative) (tok_s k.Number refl)

pub text_s : (n : ℕ) → Sound n n g.text r.text
unfolding r.text
text_s n = map_s (λ x. e.Text (g.text_in_quotes x)) (tok_s k.Text refl)

plain_s : (n : ℕ) (x : Lexeme) → Sound n n (g.column_after x) (r.column_by x k.End)
unfolding g.column_after
plain_s n x = weak (λ w a h. inl h) (sound_pure n _)

column_by_s : (n : ℕ) (x : Lexeme) (kind : Kind) → Sound n n (g.column_after x) (r.column_by x kind)
unfolding g.column_after
column_by_s n x k.Dot = weak (λ w a h. inr h) (seq_s k.Dot refl (map_s _ (tok_s k.Name refl)))
column_by_s n x _ = plain_s n x

pub column_s : (n : ℕ) → Sound n n g.column r.column
unfolding g.column r.column r.column_after
column_s n = then_s (tok_s k.Name refl) (λ w x h. sound_by_kind n n (g.column_after x) (r.column_by x) (column_by_s n x))

pub name_s : (n : ℕ) → Sound n n g.name r.name
unfolding r.name
name_s n = map_s g.name_of (tok_s k.Name refl)

no_correlation_name : (n : ℕ) → Sound n n g.correlation_name (r.correlation_name_by k.End)
unfolding g.correlation_name
no_correlation_name n = weak (λ w a h. inl (inl h)) (sound_pure n None)

correlation_name_by_s : (n : ℕ) (kind : Kind) → Sound n n g.correlation_name (r.correlation_name_by kind)
unfolding g.correlation_name
correlation_name_by_s n k.As = weak (λ w a h. inr h) (seq_s k.As refl (map_s Some (name_s n)))
correlation_name_by_s n k.Name = weak (λ w a h. inl (inr h)) (map_s Some (name_s n))
correlation_name_by_s n _ = no_correlation_name n

pub correlation_name_s : (n : ℕ) → Sound n n g.correlation_name r.correlation_name
unfolding r.correlation_name
correlation_name_s n = sound_by_kind n n g.correlation_name r.correlation_name_by (correlation_name_by_s n)

pub group_by_s : (n : ℕ) → Sound n n g.group_by r.group_by
unfolding g.group_by r.group_by
group_by_s n = optional_s k.Group (seq_s k.Group refl (seq_s k.By refl (column_s n)))

unquantified_s : (n : ℕ) → Sound n n g.argument (r.argument_by k.End)
unfolding g.argument
unquantified_s n = weak (λ w a h. inl (inl h)) (map_s (g.argument_of quantifier.All) (column_s n))

argument_by_s : (n : ℕ) (kind : Kind) → Sound n n g.argument (r.argument_by kind)
unfolding g.argument
argument_by_s n k.All = weak (λ w a h. inl (inr h)) (seq_s k.All refl (map_s (g.argument_of quantifier.All) (column_s n)))
argument_by_s n k.Distinct = weak (λ w a h. inr h) (seq_s k.Distinct refl (map_s (g.argument_of quantifier.Distinct) (column_s n)))
argument_by_s n _ = unquantified_s n

pub argument_s : (n : ℕ) → Sound n n g.argument r.argument
unfolding r.argument
argument_s n = sound_by_kind n n g.argument r.argument_by (argument_by_s n)

-- what stands in the parentheses of COUNT
abbrev pub counted_in : Language Expression
counted_in = lang.◌∪◌ (Then (lang.token k.Star) (λ _. lang.pure e.CountRows)) (lang.◌<$>◌ (e.Aggregate a.Count) g.argument)

counted_argument : (n : ℕ) → Sound n n counted_in (r.counted_by k.End)
counted_argument n = weak (λ w a h. inr h) (map_s (e.Aggregate a.Count) (argument_s n))

counted_by_s : (n : ℕ) (kind : Kind) → Sound n n counted_in (r.counted_by kind)
counted_by_s n k.Star = weak (λ w a h. inl h) (seq_s k.Star refl (sound_pure n e.CountRows))
counted_by_s n _ = counted_argument n

counted_in_s : (n : ℕ) → Sound n n counted_in r.counted_inside
unfolding r.counted_inside
counted_in_s n = sound_by_kind n n counted_in r.counted_by (counted_by_s n)

count_into : (w : Lexemes) (x : Expression) → Then (lang.token k.Count) (λ _. lang.parens counted_in) w x → g.aggregate w x
unfolding g.aggregate
count_into w x h =
    token_either k.Count (lang.parens (Then (lang.token k.Star) (λ _. lang.pure e.CountRows))) (g.of a.Count) g.aggregate (λ w x h. inl (inl (inl (inl h)))) (λ w x h. inl (inl (inl (inr h)))) w x
    (behind (λ v m. elim (parens_either (Then (lang.token k.Star) (λ _. lang.pure e.CountRows)) (lang.◌<$>◌ (e.Aggregate a.Count) g.argument) v x m) [ inl one ↦ inl one | inr two ↦ inr (parens_map (e.Aggregate a.Count) g.argument v x two) ]) h)

-- ---- what may have parentheses in it, of which n may still be opened

module _ (n : ℕ) (inner : Language PartInParentheses) (reader : Want → Reader PartInParentheses) (some_c : Begins (g.inner_cond inner) []) (some_e : Begins (g.inner_expr inner) []) (some_q : Begins (g.inner_query inner) [])
    (s : (m : ℕ) → n ≡ suc m → (wanted : Want) → Sound m m (g.wanted_part wanted inner) (reader wanted)) where
  abbrev as_expr_of : PartInParentheses → Language Expression
  as_expr_of (part.Expression x) = lang.pure x
  as_expr_of _ = g.inner_expr inner

  as_expr_s : (m : ℕ) (w : Lexemes) (x : PartInParentheses) → g.wanted_part want.Expression inner w x → Sound m m (as_expr_of x) (r.as_expr x)
  as_expr_s m w (part.Expression x) h = sound_pure m x
  as_expr_s m w (part.Condition x) h = absurd h
  as_expr_s m w (part.Query x) h = absurd h

  expr_inside : (w : Lexemes) (x : Expression) → Then (g.wanted_part want.Expression inner) as_expr_of w x → g.inner_expr inner w x
  expr_inside w x h = go w x h.tree h.split.front h.split.back h.split.cut h.split.first h.split.second
    where
      go : (w : Lexemes) (x : Expression) (y : PartInParentheses) (front back : Lexemes) → w ≡ front ++ back → g.wanted_part want.Expression inner front y → as_expr_of y back x → g.inner_expr inner w x
      go w x (part.Expression y) front back cut one two =
          let same : w ≡ front = cut ∙ ap (λ t. front ++ t) two.0 ∙ append-nil front in
          subst (λ z. inner w (part.Expression z)) (sym two.1) (subst (λ t. inner t (part.Expression y)) (sym same) one)
      go w x (part.Condition y) front back cut one two = absurd one
      go w x (part.Query y) front back cut one two = absurd one

  pub inner_expr_s : (m : ℕ) → n ≡ suc m → Sound m m (g.inner_expr inner) (r.inner_expr n reader)
  unfolding r.inner_expr
  inner_expr_s m is = weak expr_inside (then_s (s m is want.Expression) (as_expr_s m))

  abbrev as_query_of : PartInParentheses → Language Query
  as_query_of (part.Query x) = lang.pure x
  as_query_of _ = g.inner_query inner

  as_query_s : (m : ℕ) (w : Lexemes) (x : PartInParentheses) → g.wanted_part want.Query inner w x → Sound m m (as_query_of x) (r.as_query x)
  as_query_s m w (part.Query x) h = sound_pure m x
  as_query_s m w (part.Condition x) h = absurd h
  as_query_s m w (part.Expression x) h = absurd h

  query_inside : (w : Lexemes) (x : Query) → Then (g.wanted_part want.Query inner) as_query_of w x → g.inner_query inner w x
  query_inside w x h = go w x h.tree h.split.front h.split.back h.split.cut h.split.first h.split.second
    where
      go : (w : Lexemes) (x : Query) (y : PartInParentheses) (front back : Lexemes) → w ≡ front ++ back → g.wanted_part want.Query inner front y → as_query_of y back x → g.inner_query inner w x
      go w x (part.Query y) front back cut one two =
          let same : w ≡ front = cut ∙ ap (λ t. front ++ t) two.0 ∙ append-nil front in
          subst (λ z. inner w (part.Query z)) (sym two.1) (subst (λ t. inner t (part.Query y)) (sym same) one)
      go w x (part.Condition y) front back cut one two = absurd one
      go w x (part.Expression y) front back cut one two = absurd one

  pub inner_query_s : (m : ℕ) → n ≡ suc m → Sound m m (g.inner_query inner) (r.inner_query n reader)
  unfolding r.inner_query
  inner_query_s m is = weak query_inside (then_s (s m is want.Query) (as_query_s m))

  -- an expression, or a query for its value
  abbrev pub operand_in : Language Expression
  operand_in = lang.◌∪◌ (g.inner_expr inner) (lang.◌<$>◌ e.Subquery (g.inner_query inner))

  abbrev as_operand_of : PartInParentheses → Language Expression
  as_operand_of (part.Expression x) = lang.pure x
  as_operand_of (part.Query x) = lang.pure (e.Subquery x)
  as_operand_of _ = g.inner_expr inner

  as_operand_s : (m : ℕ) (w : Lexemes) (x : PartInParentheses) → g.wanted_part want.Operand inner w x → Sound m m (as_operand_of x) (r.as_operand x)
  as_operand_s m w (part.Expression x) h = sound_pure m x
  as_operand_s m w (part.Query x) h = sound_pure m (e.Subquery x)
  as_operand_s m w (part.Condition x) h = absurd h

  operand_inside : (w : Lexemes) (x : Expression) → Then (g.wanted_part want.Operand inner) as_operand_of w x → operand_in w x
  operand_inside w x h = go w x h.tree h.split.front h.split.back h.split.cut h.split.first h.split.second
    where
      go : (w : Lexemes) (x : Expression) (y : PartInParentheses) (front back : Lexemes) → w ≡ front ++ back → g.wanted_part want.Operand inner front y → as_operand_of y back x → operand_in w x
      go w x (part.Expression y) front back cut one two =
          let same : w ≡ front = cut ∙ ap (λ t. front ++ t) two.0 ∙ append-nil front in
          inl (subst (λ z. inner w (part.Expression z)) (sym two.1) (subst (λ t. inner t (part.Expression y)) (sym same) one))
      go w x (part.Query y) front back cut one two =
          let same : w ≡ front = cut ∙ ap (λ t. front ++ t) two.0 ∙ append-nil front in
          inr (subst (λ z. lang.◌<$>◌ e.Subquery (g.inner_query inner) w z) (sym two.1) (mapping e.Subquery (g.inner_query inner) w y (subst (λ t. inner t (part.Query y)) (sym same) one)))
      go w x (part.Condition y) front back cut one two = absurd one

  inner_operand_s : (m : ℕ) → n ≡ suc m → Sound m m operand_in (r.inner_operand n reader)
  unfolding r.inner_operand
  inner_operand_s m is = weak operand_inside (then_s (s m is want.Operand) (as_operand_s m))

  some_operand : Begins operand_in []
  some_operand = (some_e.0, some_e.1, inl some_e.2)

  operand_parens : (w : Lexemes) (x : Expression) → lang.parens operand_in w x → g.other_prim inner w x
  unfolding g.other_prim
  operand_parens w x h = elim (parens_either (g.inner_expr inner) (lang.◌<$>◌ e.Subquery (g.inner_query inner)) w x h) [ inl one ↦ inl (inr one) | inr two ↦ inr (parens_map e.Subquery (g.inner_query inner) w x two) ]

  of_s : (f : Aggregate) → Sound n n (g.of f) (r.aggregate_of n reader f)
  unfolding r.aggregate_of
  of_s f = map_s (e.Aggregate f) (sound_parens n g.argument r.argument (argument_s 0).begins (λ m is. argument_s m))

  counted_s : Sound n n (lang.parens counted_in) (r.counted n reader)
  unfolding r.counted
  counted_s = sound_parens n counted_in r.counted_inside (counted_in_s 0).begins (λ m is. counted_in_s m)

  other_text : Sound n n (g.other_prim inner) r.text
  unfolding g.other_prim
  other_text = weak (λ w a h. inl (inl (inl (inl h)))) (text_s n)

  other_aggregate : (w : Lexemes) (x : Expression) → g.aggregate w x → g.other_prim inner w x
  unfolding g.other_prim
  other_aggregate w x h = inl (inl (inr h))

  aggregate_s : (f : Aggregate) (kind : Kind) → after_kind kind n ≡ Some n → ((w : Lexemes) (x : Expression) → Then (lang.token kind) (λ _. g.of f) w x → g.aggregate w x) → Sound n n (g.other_prim inner) (Rattle.syntax.specs.Reading.◌>>◌ (expect kind) (r.aggregate_of n reader f))
  aggregate_s f kind neutral into = weak (λ w x h. other_aggregate w x (into w x h)) (seq_s kind neutral (of_s f))

  sum_of_s : Sound n n (g.other_prim inner) (r.other_by n reader k.Sum)
  unfolding g.aggregate
  sum_of_s = aggregate_s a.Sum k.Sum refl (λ w x h. inl (inl (inr h)))

  min_of_s : Sound n n (g.other_prim inner) (r.other_by n reader k.Min)
  unfolding g.aggregate
  min_of_s = aggregate_s a.Min k.Min refl (λ w x h. inl (inr h))

  max_of_s : Sound n n (g.other_prim inner) (r.other_by n reader k.Max)
  unfolding g.aggregate
  max_of_s = aggregate_s a.Max k.Max refl (λ w x h. inr h)

  other_by_s : (kind : Kind) → Sound n n (g.other_prim inner) (r.other_by n reader kind)
  unfolding g.other_prim
  other_by_s k.Text = other_text
  other_by_s k.Name = weak (λ w a h. inl (inl (inl (inr h)))) (map_s e.Column (column_s n))
  other_by_s k.Count = weak (λ w x h. other_aggregate w x (count_into w x h)) (seq_s k.Count refl counted_s)
  other_by_s k.Sum = sum_of_s
  other_by_s k.Min = min_of_s
  other_by_s k.Max = max_of_s
  other_by_s k.Open = weak operand_parens (sound_parens n operand_in (r.inner_operand n reader) some_operand inner_operand_s)
  other_by_s _ = sound_refuse n n (g.other_prim inner) other_text.begins

  pub other_s : Sound n n (g.other_prim inner) (r.other_prim n reader)
  unfolding r.other_prim
  other_s = sound_by_kind n n (g.other_prim inner) (r.other_by n reader) other_by_s

  prim_by_s : (kind : Kind) → Sound n n (g.prim inner) (r.prim_by n reader kind)
  unfolding g.prim
  prim_by_s k.Number = weak (λ w a h. inl h) (number_s n false)
  prim_by_s _ = weak (λ w a h. inr h) other_s

  pub prim_s : Sound n n (g.prim inner) (r.prim n reader)
  unfolding r.prim
  prim_s = sound_by_kind n n (g.prim inner) (r.prim_by n reader) prim_by_s

  -- what follows a minus
  abbrev negated_of : Language Expression
  negated_of = lang.◌∪◌ (lang.◌<$>◌ (g.number_of true) (lang.token k.Number)) (lang.◌<$>◌ e.Negation (g.other_prim inner))

  negated_by_s : (kind : Kind) → Sound n n negated_of (r.negated_by n reader kind)
  negated_by_s k.Number = weak (λ w a h. inl h) (number_s n true)
  negated_by_s _ = weak (λ w a h. inr h) (map_s e.Negation other_s)

  minus_either : (w : Lexemes) (x : Expression) → Then (lang.token k.Minus) (λ _. negated_of) w x → g.factor inner w x
  unfolding g.factor
  minus_either = token_either k.Minus _ _ (g.factor inner) (λ w x h. inl (inr h)) (λ w x h. inr h)

  factor_by_s : (kind : Kind) → Sound n n (g.factor inner) (r.factor_by n reader kind)
  unfolding g.factor r.negated
  factor_by_s k.Plus = weak (λ w a h. inl (inl (inr h))) (seq_s k.Plus refl prim_s)
  factor_by_s k.Minus = weak minus_either (seq_s k.Minus refl (sound_by_kind n n negated_of (r.negated_by n reader) negated_by_s))
  factor_by_s _ = weak (λ w a h. inl (inl (inl h))) prim_s

  pub factor_s : Sound n n (g.factor inner) (r.factor n reader)
  unfolding r.factor
  factor_s = sound_by_kind n n (g.factor inner) (r.factor_by n reader) factor_by_s

  pub product_after_s : (x : Expression) → Sound n n (g.product_after inner x) (r.product_after n reader x)
  unfolding g.product_after r.product_after r.product_item
  product_after_s x = map_s g.product_of (all_s r.is_star (seq_s k.Star refl factor_s) (token_some k.Star (λ _. g.factor inner)) refl (x ∷ []))

  pub term_s : Sound n n (g.term inner) (r.term n reader)
  unfolding g.term r.term
  term_s = then_s factor_s (λ w x h. product_after_s x)

  minus_term : Sound n n (g.sum_item inner) (r.sum_by n reader k.Minus)
  minus_term = weak (λ w a h. inr h) (seq_s k.Minus refl (map_s e.Negation term_s))

  sum_by_s : (kind : Kind) → Sound n n (g.sum_item inner) (r.sum_by n reader kind)
  sum_by_s k.Plus = weak (λ w a h. inl h) (seq_s k.Plus refl term_s)
  sum_by_s _ = minus_term

  sum_some : (w : Lexemes) (x : Expression) → g.sum_item inner w x → 1 ≤ length w
  sum_some w x (inl h) = token_some k.Plus (λ _. g.term inner) w x h
  sum_some w x (inr h) = token_some k.Minus (λ _. lang.◌<$>◌ e.Negation (g.term inner)) w x h

  pub sum_after_s : (x : Expression) → Sound n n (g.sum_after inner x) (r.sum_after n reader x)
  unfolding g.sum_after r.sum_after r.sum_item
  sum_after_s x = map_s g.sum_of (all_s r.is_sign (sound_by_kind n n (g.sum_item inner) (r.sum_by n reader) sum_by_s) sum_some refl (x ∷ []))

  -- what follows the first factor
  abbrev pub expr_after : Expression → Language Expression
  expr_after x = Then (g.product_after inner x) (g.sum_after inner)

  pub expr_after_s : (x : Expression) → Sound n n (expr_after x) (r.expr_after n reader x)
  unfolding r.expr_after
  expr_after_s x = then_s (product_after_s x) (λ w y h. sum_after_s y)

  expr_from : (w : Lexemes) (x : Expression) → Then (g.factor inner) expr_after w x → g.expr inner w x
  unfolding g.expr g.term
  expr_from w x h = regroup_left (g.factor inner) (g.product_after inner) (g.sum_after inner) w x h

  pub expr_s : Sound n n (g.expr inner) (r.expr n reader)
  unfolding r.expr
  expr_s = weak expr_from (then_s factor_s (λ w x h. expr_after_s x))

  -- ---- conditions

  between_s : (left : Expression) → Sound n n (g.range_or_list inner left) (r.between n reader left)
  unfolding g.range_or_list r.between
  between_s left = weak (λ w a h. inl h) (seq_s k.Between refl (then_s expr_s (λ w low h. seq_s k.And refl (map_s (b.Between left low) expr_s))))

  range_by_s : (left : Expression) (kind : Kind) → Sound n n (g.range_or_list inner left) (r.range_by n reader left kind)
  unfolding g.range_or_list r.in_list
  range_by_s left k.Between = between_s left
  range_by_s left k.In = weak (λ w a h. inr h) (seq_s k.In refl (map_s (b.In left) (sound_parens n (lang.list (g.inner_expr inner)) _ (some_list (g.inner_expr inner) some_e) (λ m is. list_s (inner_expr_s m is)))))
  range_by_s left _ = sound_refuse n n (g.range_or_list inner left) (between_s left).begins

  range_s : (left : Expression) → Sound n n (g.range_or_list inner left) (r.range_or_list n reader left)
  unfolding r.range_or_list
  range_s left = sound_by_kind n n (g.range_or_list inner left) (r.range_by n reader left) (range_by_s left)

  is_null : (left : Expression) → Sound n n (g.null inner left) (r.null_by n reader left k.Null)
  unfolding g.null
  is_null left = weak (λ w a h. inl h) (seq_s k.Null refl (sound_pure n _))

  null_by_s : (left : Expression) (kind : Kind) → Sound n n (g.null inner left) (r.null_by n reader left kind)
  unfolding g.null
  null_by_s left k.Null = is_null left
  null_by_s left k.Not = weak (λ w a h. inr h) (seq_s k.Not refl (seq_s k.Null refl (sound_pure n _)))
  null_by_s left _ = sound_refuse n n (g.null inner left) (is_null left).begins

  null_s : (left : Expression) → Sound n n (g.null inner left) (r.null n reader left)
  unfolding r.null
  null_s left = sound_by_kind n n (g.null inner left) (r.null_by n reader left) (null_by_s left)

  compared_s : (left : Expression) → Sound n n (g.comparison inner left) (r.compared n reader left)
  unfolding g.comparison r.compared
  compared_s left = weak (λ w a h. inl (inl (inl h))) (then_s (sign_s n) (λ w sign h. map_s (b.Compare left sign) expr_s))

  ranged_s : (left : Expression) → Sound n n (g.comparison inner left) (r.range_or_list n reader left)
  unfolding g.comparison
  ranged_s left = weak (λ w a h. inl (inr h)) (range_s left)

  comparison_by_s : (left : Expression) (kind : Kind) → Sound n n (g.comparison inner left) (r.comparison_by n reader left kind)
  unfolding g.comparison
  comparison_by_s left k.Is = weak (λ w a h. inl (inl (inr h))) (seq_s k.Is refl (null_s left))
  comparison_by_s left k.Not = weak (λ w a h. inr h) (seq_s k.Not refl (map_s b.Not (range_s left)))
  comparison_by_s left k.Between = ranged_s left
  comparison_by_s left k.In = ranged_s left
  comparison_by_s left _ = compared_s left

  pub comparison_s : (left : Expression) → Sound n n (g.comparison inner left) (r.comparison n reader left)
  unfolding r.comparison
  comparison_s left = sound_by_kind n n (g.comparison inner left) (r.comparison_by n reader left) (comparison_by_s left)

  -- what follows IS behind a condition
  abbrev truth_after : Condition → Language Condition
  truth_after x = lang.◌∪◌ (lang.◌<$>◌ (b.Is x) g.truth) (Then (lang.token k.Not) (λ _. lang.◌<$>◌ (λ y. b.Not (b.Is x y)) g.truth))

  truth_after_by_s : (x : Condition) (kind : Kind) → Sound n n (truth_after x) (r.truth_after_by n reader x kind)
  truth_after_by_s x k.Not = weak (λ w a h. inr h) (seq_s k.Not refl (map_s (λ y. b.Not (b.Is x y)) (truth_s n)))
  truth_after_by_s x _ = weak (λ w a h. inl h) (map_s (b.Is x) (truth_s n))

  is_either : (x : Condition) (w : Lexemes) (y : Condition) → Then (lang.token k.Is) (λ _. truth_after x) w y → g.is_after inner x w y
  unfolding g.is_after
  is_either x = token_either k.Is _ _ (g.is_after inner x) (λ w y h. inl (inr h)) (λ w y h. inr h)

  is_by_s : (x : Condition) (kind : Kind) → Sound n n (g.is_after inner x) (r.is_by n reader x kind)
  unfolding g.is_after r.truth_after
  is_by_s x k.Is = weak (is_either x) (seq_s k.Is refl (sound_by_kind n n (truth_after x) (r.truth_after_by n reader x) (truth_after_by_s x)))
  is_by_s x _ = weak (λ w a h. inl (inl h)) (sound_pure n x)

  pub is_after_s : (x : Condition) → Sound n n (g.is_after inner x) (r.is_after n reader x)
  unfolding r.is_after
  is_after_s x = sound_by_kind n n (g.is_after inner x) (r.is_by n reader x) (is_by_s x)

  -- a condition in parentheses or of EXISTS, or a factor
  abbrev pub first : Language PartInParentheses
  first w (part.Condition x) = lang.◌∪◌ (lang.parens (g.inner_cond inner)) (g.exists inner) w x
  first w (part.Expression x) = g.factor inner w x
  first w (part.Query x) = ⊥

  abbrev pub test_in : Language PartInParentheses
  test_in w (part.Condition x) = g.inner_cond inner w x
  test_in w (part.Expression x) = operand_in w x
  test_in w (part.Query x) = ⊥

  abbrev as_test_of : PartInParentheses → Language PartInParentheses
  as_test_of (part.Query x) = lang.pure (part.Expression (e.Subquery x))
  as_test_of x = lang.pure x

  as_test_s : (m : ℕ) (w : Lexemes) (x : PartInParentheses) → g.wanted_part want.Any inner w x → Sound m m (as_test_of x) (r.as_test x)
  as_test_s m w (part.Query x) h = sound_pure m _
  as_test_s m w (part.Condition x) h = sound_pure m _
  as_test_s m w (part.Expression x) h = sound_pure m _

  test_inside : (w : Lexemes) (x : PartInParentheses) → Then (g.wanted_part want.Any inner) as_test_of w x → test_in w x
  test_inside w x h = go w x h.tree h.split.front h.split.back h.split.cut h.split.first h.split.second
    where
      go : (w : Lexemes) (x : PartInParentheses) (y : PartInParentheses) (front back : Lexemes) → w ≡ front ++ back → g.wanted_part want.Any inner front y → as_test_of y back x → test_in w x
      go w x (part.Condition y) front back cut one two =
          let same : w ≡ front = cut ∙ ap (λ t. front ++ t) two.0 ∙ append-nil front in
          subst (λ z. test_in w z) (sym two.1) (subst (λ t. inner t (part.Condition y)) (sym same) one)
      go w x (part.Expression y) front back cut one two =
          let same : w ≡ front = cut ∙ ap (λ t. front ++ t) two.0 ∙ append-nil front in
          subst (λ z. test_in w z) (sym two.1) (inl (subst (λ t. inner t (part.Expression y)) (sym same) one))
      go w x (part.Query y) front back cut one two =
          let same : w ≡ front = cut ∙ ap (λ t. front ++ t) two.0 ∙ append-nil front in
          subst (λ z. test_in w z) (sym two.1) (inr (mapping e.Subquery (g.inner_query inner) w y (subst (λ t. inner t (part.Query y)) (sym same) one)))

  inner_test_s : (m : ℕ) → n ≡ suc m → Sound m m test_in (r.inner_test n reader)
  unfolding r.inner_test
  inner_test_s m is = weak test_inside (then_s (s m is want.Any) (as_test_s m))

  first_parens : (w : Lexemes) (x : PartInParentheses) → lang.parens test_in w x → first w x
  unfolding g.factor g.prim
  first_parens w (part.Condition x) h = inl (parens_into test_in (g.inner_cond inner) w (part.Condition x) x (λ v m. m) h)
  first_parens w (part.Expression x) h = inl (inl (inl (inr (operand_parens w x (parens_into test_in operand_in w (part.Expression x) x (λ v m. m) h)))))
  first_parens w (part.Query x) h = let p = opened_up test_in w (part.Query x) h in absurd p.inside

  first_factor : (w : Lexemes) (x : PartInParentheses) → lang.◌<$>◌ part.Expression (g.factor inner) w x → first w x
  first_factor w x h = let m = mapped part.Expression (g.factor inner) w x h in subst (λ y. first w y) (sym m.2) m.1

  first_exists : (w : Lexemes) (x : PartInParentheses) → lang.◌<$>◌ part.Condition (g.exists inner) w x → first w x
  first_exists w x h = let m = mapped part.Condition (g.exists inner) w x h in subst (λ y. first w y) (sym m.2) (inr m.1)

  some_test : Begins test_in []
  some_test = (some_e.0, part.Expression some_e.1, inl some_e.2)

  exists_s : Sound n n (g.exists inner) (r.exists n reader)
  unfolding r.exists
  exists_s = seq_s k.Exists refl (map_s b.Exists (sound_parens n (g.inner_query inner) (r.inner_query n reader) some_q inner_query_s))

  first_by_s : (kind : Kind) → Sound n n first (r.first_by n reader kind)
  first_by_s k.Open = weak first_parens (sound_parens n test_in (r.inner_test n reader) some_test inner_test_s)
  first_by_s k.Exists = weak first_exists (map_s part.Condition exists_s)
  first_by_s _ = weak first_factor (map_s part.Expression factor_s)

  first_s : Sound n n first (r.first n reader)
  unfolding r.first
  first_s = sound_by_kind n n first (r.first_by n reader) first_by_s

  abbrev pub test_from : PartInParentheses → Language Condition
  test_from (part.Condition x) = g.is_after inner x
  test_from (part.Expression x) = Then (expr_after x) (λ left. Then (g.comparison inner left) (g.is_after inner))
  test_from (part.Query x) = g.cond inner

  test_from_s : (w : Lexemes) (x : PartInParentheses) → first w x → Sound n n (test_from x) (r.test_from n reader x)
  test_from_s w (part.Condition x) h = is_after_s x
  test_from_s w (part.Expression x) h = then_s (expr_after_s x) (λ w left h. then_s (comparison_s left) (λ w y h. is_after_s y))
  test_from_s w (part.Query x) h = absurd h

  -- an expression, and what makes a condition of it
  compared : {A : Type 0} (M : Condition → Language A) (x : Expression) (front back w : Lexemes) (c : A) → w ≡ front ++ back → g.factor inner front x → Then (expr_after x) (λ left. Then (g.comparison inner left) M) back c → Then (g.bprim inner) M w c
  unfolding g.bprim
  compared M x front back w c cut h k =
      then_into (Then (g.expr inner) (g.comparison inner)) (g.bprim inner) M M (λ w y h. inr h) (λ y w z h. h) w c
      (regroup_left (g.expr inner) (g.comparison inner) M w c
      (then_into (Then (g.factor inner) expr_after) (g.expr inner) (λ left. Then (g.comparison inner left) M) (λ left. Then (g.comparison inner left) M) expr_from (λ y w z h. h) w c
      (regroup_left (g.factor inner) expr_after (λ left. Then (g.comparison inner left) M) w c (record { tree = x; split = record { front = front; back = back; cut = cut; first = h; second = k } }))))

  in_parens : {A : Type 0} (M : Condition → Language A) (x : Condition) (front back w : Lexemes) (c : A) → w ≡ front ++ back → lang.◌∪◌ (lang.parens (g.inner_cond inner)) (g.exists inner) front x → M x back c → Then (g.bprim inner) M w c
  unfolding g.bprim
  in_parens M x front back w c cut h k = record { tree = x; split = record { front = front; back = back; cut = cut; first = inl h; second = k } }

  test_into : (w : Lexemes) (c : Condition) → Then first test_from w c → g.btest inner w c
  unfolding g.btest
  test_into w c h = go h.tree h.split.front h.split.back w c h.split.cut h.split.first h.split.second
    where
      go : (x : PartInParentheses) (front back w : Lexemes) (c : Condition) → w ≡ front ++ back → first front x → test_from x back c → Then (g.bprim inner) (g.is_after inner) w c
      go (part.Condition x) front back w c cut h k = in_parens (g.is_after inner) x front back w c cut h k
      go (part.Expression x) front back w c cut h k = compared (g.is_after inner) x front back w c cut h k
      go (part.Query x) front back w c cut h k = absurd h

  pub btest_s : Sound n n (g.btest inner) (r.btest n reader)
  unfolding r.btest
  btest_s = weak test_into (then_s first_s test_from_s)

  bfact_by_s : (kind : Kind) → Sound n n (g.bfact inner) (r.bfact_by n reader kind)
  unfolding g.bfact
  bfact_by_s k.Not = weak (λ w a h. inr h) (seq_s k.Not refl (map_s b.Not btest_s))
  bfact_by_s _ = weak (λ w a h. inl h) btest_s

  pub bfact_s : Sound n n (g.bfact inner) (r.bfact n reader)
  unfolding r.bfact
  bfact_s = sound_by_kind n n (g.bfact inner) (r.bfact_by n reader) bfact_by_s

  pub and_after_s : (x : Condition) → Sound n n (g.and_after inner x) (r.and_after n reader x)
  unfolding g.and_after r.and_after r.and_item
  and_after_s x = map_s g.and_of (all_s r.is_and (seq_s k.And refl bfact_s) (token_some k.And (λ _. g.bfact inner)) refl (x ∷ []))

  pub bterm_s : Sound n n (g.bterm inner) (r.bterm n reader)
  unfolding g.bterm r.bterm
  bterm_s = then_s bfact_s (λ w x h. and_after_s x)

  pub or_after_s : (x : Condition) → Sound n n (g.or_after inner x) (r.or_after n reader x)
  unfolding g.or_after r.or_after r.or_item
  or_after_s x = map_s g.or_of (all_s r.is_or (seq_s k.Or refl bterm_s) (token_some k.Or (λ _. g.bterm inner)) refl (x ∷ []))

  abbrev pub cond_after : Condition → Language Condition
  cond_after x = Then (g.and_after inner x) (g.or_after inner)

  pub cond_after_s : (x : Condition) → Sound n n (cond_after x) (r.cond_after n reader x)
  unfolding r.cond_after
  cond_after_s x = then_s (and_after_s x) (λ w y h. or_after_s y)

  cond_from : (w : Lexemes) (c : Condition) → Then (g.bfact inner) cond_after w c → g.cond inner w c
  unfolding g.cond g.bterm
  cond_from w c h = regroup_left (g.bfact inner) (g.and_after inner) (g.or_after inner) w c h

  pub condition_s : Sound n n (g.cond inner) (r.condition n reader)
  unfolding r.condition
  condition_s = weak cond_from (then_s bfact_s (λ w x h. cond_after_s x))

  -- ---- either

  abbrev pub rest_from : Condition → Language Condition
  rest_from x = Then (g.is_after inner x) cond_after

  abbrev pub any_after : Expression → Language PartInParentheses
  any_after left = lang.◌∪◌ (lang.◌<$>◌ part.Condition (Then (g.comparison inner left) rest_from)) (lang.pure (part.Expression left))

  abbrev pub any_from : PartInParentheses → Language PartInParentheses
  any_from (part.Condition x) = lang.◌<$>◌ part.Condition (rest_from x)
  any_from (part.Expression x) = Then (expr_after x) any_after
  any_from (part.Query x) = g.found inner

  any_by_s : (left : Expression) (b : Bool) → Sound n n (any_after left) (r.any_by n reader left b)
  any_by_s left true = weak (λ w a h. inl h) (map_s part.Condition (then_s (comparison_s left) (λ w x h. then_s (is_after_s x) (λ w y h. cond_after_s y))))
  any_by_s left false = weak (λ w a h. inr h) (sound_pure n (part.Expression left))

  any_from_s : (w : Lexemes) (x : PartInParentheses) → first w x → Sound n n (any_from x) (r.any_from n reader x)
  unfolding r.any_after
  any_from_s w (part.Condition x) h = map_s part.Condition (then_s (is_after_s x) (λ w y h. cond_after_s y))
  any_from_s w (part.Expression x) h = then_s (expr_after_s x) (λ w left h. sound_by_kind n n (any_after left) (λ kind. r.any_by n reader left (r.begins_comparison kind)) (λ kind. any_by_s left (r.begins_comparison kind)))
  any_from_s w (part.Query x) h = absurd h

  tested : (w : Lexemes) (c : Condition) → Then (g.bprim inner) rest_from w c → g.cond inner w c
  unfolding g.btest g.bfact
  tested w c h = cond_from w c (then_into (Then (g.bprim inner) (g.is_after inner)) (g.bfact inner) cond_after cond_after (λ w y h. inl h) (λ y w z h. h) w c (regroup_left (g.bprim inner) (g.is_after inner) cond_after w c h))

  any_into : (w : Lexemes) (x : PartInParentheses) → Then first any_from w x → g.found inner w x
  any_into w x h = go h.tree h.split.front h.split.back w x h.split.cut h.split.first h.split.second
    where
      ended : (y left : Expression) (front back more tail w : Lexemes) (x : PartInParentheses) → w ≡ front ++ back → g.factor inner front y → back ≡ more ++ tail → expr_after y more left → any_after left tail x → g.found inner w x
      ended y left front back more tail w x cut h cut' k (inl m) =
          let o = mapped part.Condition (Then (g.comparison inner left) rest_from) tail x m in
          subst (λ z. g.found inner w z) (sym o.2) (tested w o.0 (compared rest_from y front back w o.0 cut h (record { tree = left; split = record { front = more; back = tail; cut = cut'; first = k; second = o.1 } })))
      ended y left front back more tail w x cut h cut' k (inr m) =
          let all : back ≡ more = cut' ∙ ap (λ t. more ++ t) m.0 ∙ append-nil more in
          subst (λ z. g.found inner w z) (sym m.1) (expr_from w left (record { tree = y; split = record { front = front; back = back; cut = cut; first = h; second = subst (λ t. expr_after y t left) (sym all) k } }))

      go : (y : PartInParentheses) (front back w : Lexemes) (x : PartInParentheses) → w ≡ front ++ back → first front y → any_from y back x → g.found inner w x
      go (part.Condition y) front back w x cut h k =
          let m = mapped part.Condition (rest_from y) back x k in
          subst (λ z. g.found inner w z) (sym m.2) (tested w m.0 (in_parens rest_from y front back w m.0 cut h m.1))
      go (part.Expression y) front back w x cut h k = ended y k.tree front back k.split.front k.split.back w x cut h k.split.cut k.split.first k.split.second
      go (part.Query y) front back w x cut h k = absurd h

  found_of_cond : (w : Lexemes) (x : PartInParentheses) → lang.◌<$>◌ part.Condition (g.cond inner) w x → g.found inner w x
  found_of_cond w x h = let m = mapped part.Condition (g.cond inner) w x h in subst (λ y. g.found inner w y) (sym m.2) m.1

  -- ---- queries

  selected_expr : Sound n n (g.selected inner) (r.selected_by n reader k.End)
  unfolding g.selected
  selected_expr = weak (λ w a h. inr h) (map_s which.One expr_s)

  selected_by_s : (kind : Kind) → Sound n n (g.selected inner) (r.selected_by n reader kind)
  unfolding g.selected
  selected_by_s k.Star = weak (λ w a h. inl h) (seq_s k.Star refl (sound_pure n which.Star))
  selected_by_s _ = selected_expr

  selected_s : Sound n n (g.selected inner) (r.selected n reader)
  unfolding r.selected
  selected_s = sound_by_kind n n (g.selected inner) (r.selected_by n reader) selected_by_s

  where_s : Sound n n (g.where_clause inner) (r.where_clause n reader)
  unfolding g.where_clause r.where_clause
  where_s = optional_s k.Where (seq_s k.Where refl condition_s)

  having_s : Sound n n (g.having inner) (r.having n reader)
  unfolding g.having r.having
  having_s = optional_s k.Having (seq_s k.Having refl condition_s)

  query_rest_s : (list : SelectList) (table : List ℕ) (other : Option (List ℕ)) → Sound n n (g.query_rest inner list table other) (r.query_rest n reader list table other)
  unfolding g.query_rest r.query_rest
  query_rest_s list table other = then_s where_s (λ w keeps h. then_s (group_by_s n) (λ w group h. map_s (g.query_of list table other keeps group) having_s))

  query_from_s : (list : SelectList) → Sound n n (g.query_from inner list) (r.query_from n reader list)
  unfolding g.query_from r.query_from
  query_from_s list = then_s (name_s n) (λ w table h. then_s (correlation_name_s n) (λ w other h. query_rest_s list table other))

  pub query_s : Sound n n (g.query inner) (r.query n reader)
  unfolding g.query r.query
  query_s = seq_s k.Select refl (then_s selected_s (λ w list h. seq_s k.From refl (query_from_s list)))

  -- ---- what is asked for

  any_first : Sound n n (g.found inner) (r.any_of n reader k.End)
  any_first = weak any_into (then_s first_s any_from_s)

  found_of_query : (w : Lexemes) (x : PartInParentheses) → lang.◌<$>◌ part.Query (g.query inner) w x → g.found inner w x
  found_of_query w x h = let m = mapped part.Query (g.query inner) w x h in subst (λ y. g.found inner w y) (sym m.2) m.1

  any_of_s : (kind : Kind) → Sound n n (g.found inner) (r.any_of n reader kind)
  any_of_s k.Not = weak found_of_cond (map_s part.Condition condition_s)
  any_of_s k.Select = weak found_of_query (map_s part.Query query_s)
  any_of_s _ = any_first

  asked_of_cond : (w : Lexemes) (x : PartInParentheses) → lang.◌<$>◌ part.Condition (g.cond inner) w x → g.wanted_part want.Condition (g.found inner) w x
  asked_of_cond w x h = let m = mapped part.Condition (g.cond inner) w x h in subst (λ y. g.wanted_part want.Condition (g.found inner) w y) (sym m.2) m.1

  asked_of_expr : (w : Lexemes) (x : PartInParentheses) → lang.◌<$>◌ part.Expression (g.expr inner) w x → g.wanted_part want.Expression (g.found inner) w x
  asked_of_expr w x h = let m = mapped part.Expression (g.expr inner) w x h in subst (λ y. g.wanted_part want.Expression (g.found inner) w y) (sym m.2) m.1

  asked_of_query : (w : Lexemes) (x : PartInParentheses) → lang.◌<$>◌ part.Query (g.query inner) w x → g.wanted_part want.Query (g.found inner) w x
  asked_of_query w x h = let m = mapped part.Query (g.query inner) w x h in subst (λ y. g.wanted_part want.Query (g.found inner) w y) (sym m.2) m.1

  operand_of_expr : (w : Lexemes) (x : PartInParentheses) → lang.◌<$>◌ part.Expression (g.expr inner) w x → g.wanted_part want.Operand (g.found inner) w x
  operand_of_expr w x h = let m = mapped part.Expression (g.expr inner) w x h in subst (λ y. g.wanted_part want.Operand (g.found inner) w y) (sym m.2) m.1

  operand_of_query : (w : Lexemes) (x : PartInParentheses) → lang.◌<$>◌ part.Query (g.query inner) w x → g.wanted_part want.Operand (g.found inner) w x
  operand_of_query w x h = let m = mapped part.Query (g.query inner) w x h in subst (λ y. g.wanted_part want.Operand (g.found inner) w y) (sym m.2) m.1

  operand_by_s : (kind : Kind) → Sound n n (g.wanted_part want.Operand (g.found inner)) (r.operand_by n reader kind)
  operand_by_s k.Select = weak operand_of_query (map_s part.Query query_s)
  operand_by_s _ = weak operand_of_expr (map_s part.Expression expr_s)

  pub level_s : (wanted : Want) → Sound n n (g.wanted_part wanted (g.found inner)) (r.level n reader wanted)
  unfolding r.any r.operand
  level_s want.Any = sound_by_kind n n (g.found inner) (r.any_of n reader) any_of_s
  level_s want.Operand = sound_by_kind n n (g.wanted_part want.Operand (g.found inner)) (r.operand_by n reader) operand_by_s
  level_s want.Condition = weak asked_of_cond (map_s part.Condition condition_s)
  level_s want.Expression = weak asked_of_expr (map_s part.Expression expr_s)
  level_s want.Query = weak asked_of_query (map_s part.Query query_s)

-- ---- some text of each kind: a number, and a number that equals another

into_begins : {A : Type 0} (K L : Language A) → ((w : Lexemes) (a : A) → K w a → L w a) → Begins K [] → Begins L []
into_begins K L f (w, a, h) = (w, a, f w a h)

pub some_expr : (inner : Language PartInParentheses) → Begins (g.expr inner) []
unfolding g.expr g.term g.factor g.prim g.sum_after g.product_after
some_expr inner =
    begins_first (g.term inner) (g.sum_after inner) [] (λ v x h. ([], _, mapping g.sum_of (Behind (x ∷ []) (g.sum_item inner)) [] (x ∷ []) ([], refl, refl)))
    (begins_first (g.factor inner) (g.product_after inner) [] (λ v x h. ([], _, mapping g.product_of (Behind (x ∷ []) (Then (lang.token k.Star) (λ _. g.factor inner))) [] (x ∷ []) ([], refl, refl)))
    (into_begins g.number (g.factor inner) (λ w x h. inl (inl (inl (inl h)))) (number_s 0 false).begins))

pub some_cond : (inner : Language PartInParentheses) → Begins (g.cond inner) []
unfolding g.cond g.bterm g.bfact g.btest g.bprim g.comparison g.is_after g.and_after g.or_after
some_cond inner =
    begins_first (g.bterm inner) (g.or_after inner) [] (λ v x h. ([], _, mapping g.or_of (Behind (x ∷ []) (Then (lang.token k.Or) (λ _. g.bterm inner))) [] (x ∷ []) ([], refl, refl)))
    (begins_first (g.bfact inner) (g.and_after inner) [] (λ v x h. ([], _, mapping g.and_of (Behind (x ∷ []) (Then (lang.token k.And) (λ _. g.bfact inner))) [] (x ∷ []) ([], refl, refl)))
    (into_begins (g.btest inner) (g.bfact inner) (λ w x h. inl h)
    (begins_first (g.bprim inner) (g.is_after inner) [] (λ v x h. ([], x, inl (inl (refl, refl))))
    (into_begins (Then (g.expr inner) (g.comparison inner)) (g.bprim inner) (λ w x h. inr h)
    (begins_first (g.expr inner) (g.comparison inner) [] (λ v left h.
    into_begins (Then g.comparison_sign (λ sign. lang.◌<$>◌ (b.Compare left sign) (g.expr inner))) (g.comparison inner left) (λ w x h. inl (inl (inl h)))
    (begins_first g.comparison_sign (λ sign. lang.◌<$>◌ (b.Compare left sign) (g.expr inner)) [] (λ v sign h.
    begins_first (g.expr inner) (λ right. lang.pure (b.Compare left sign right)) [] (λ v right h. ([], _, (refl, refl))) (some_expr inner))
    (sign_s 0).begins))
    (some_expr inner))))))

pub some_query : (inner : Language PartInParentheses) → Begins (g.query inner) []
unfolding g.query g.query_from g.query_rest g.where_clause g.group_by g.having g.correlation_name g.selected
some_query inner =
    begins_first (lang.token k.Select) (λ _. lang.◌>>=◌ (g.selected inner) (λ list. lang.◌>>◌ (lang.token k.From) (g.query_from inner list))) [] (λ v x h.
    begins_first (g.selected inner) (λ list. lang.◌>>◌ (lang.token k.From) (g.query_from inner list)) [] (λ v list h.
    begins_first (lang.token k.From) (λ _. g.query_from inner list) [] (λ v x h.
    begins_first g.name (λ table. lang.◌>>=◌ g.correlation_name (g.query_rest inner list table)) [] (λ v table h.
    begins_first g.correlation_name (g.query_rest inner list table) [] (λ v other h.
    begins_first (g.where_clause inner) (λ keeps. lang.◌>>=◌ g.group_by (λ group. lang.◌<$>◌ (g.query_of list table other keeps group) (g.having inner))) [] (λ v keeps h.
    begins_first g.group_by (λ group. lang.◌<$>◌ (g.query_of list table other keeps group) (g.having inner)) [] (λ v group h.
    ([], _, mapping (g.query_of list table other keeps group) (g.having inner) [] None (inl (refl, refl)))) ([], None, inl (refl, refl))) ([], None, inl (refl, refl))) ([], None, inl (inl (refl, refl)))) (name_s 0).begins) (tok_s {n = 0} k.From refl).begins)
    (into_begins (Then (lang.token k.Star) (λ _. lang.pure which.Star)) (g.selected inner) (λ w x h. inl h) (seq_s k.Star refl (sound_pure 0 which.Star)).begins)) (tok_s {n = 0} k.Select refl).begins

-- ---- at each depth

pub read_s : (n l : ℕ) → n + 1 < l → (wanted : Want) → Sound n n (g.wanted_part wanted (g.nested l)) (r.read n wanted)
unfolding r.read g.nested
read_s n zero below wanted = absurd (omega arith)
read_s n (suc zero) below wanted = absurd (omega arith)
read_s zero (suc (suc l)) below wanted =
    level_s zero (g.nested (suc l)) (λ _. refuse) (some_cond (g.nested l)) (some_expr (g.nested l)) (some_query (g.nested l)) (λ m is. absurd (omega arith)) wanted
read_s (suc n) (suc (suc l)) below wanted =
    level_s (suc n) (g.nested (suc l)) (r.read n) (some_cond (g.nested l)) (some_expr (g.nested l)) (some_query (g.nested l))
    (λ m is wanted. let same : n ≡ m = omega arith in subst (λ i. Sound i i (g.wanted_part wanted (g.nested (suc l))) (r.read n wanted)) same (read_s n (suc l) (omega arith) wanted)) wanted

-- ---- a condition, an expression, at the level of a statement

abbrev as_cond_of : Language PartInParentheses → PartInParentheses → Language Condition
as_cond_of inner (part.Condition x) = lang.pure x
as_cond_of inner _ = g.inner_cond inner

as_cond_s : (inner : Language PartInParentheses) (m : ℕ) (w : Lexemes) (x : PartInParentheses) → g.wanted_part want.Condition inner w x → Sound m m (as_cond_of inner x) (r.as_cond x)
as_cond_s inner m w (part.Condition x) h = sound_pure m x
as_cond_s inner m w (part.Expression x) h = absurd h
as_cond_s inner m w (part.Query x) h = absurd h

cond_inside : (inner : Language PartInParentheses) (w : Lexemes) (x : Condition) → Then (g.wanted_part want.Condition inner) (as_cond_of inner) w x → g.inner_cond inner w x
cond_inside inner w x h = go inner w x h.tree h.split.front h.split.back h.split.cut h.split.first h.split.second
  where
    go : (inner : Language PartInParentheses) (w : Lexemes) (x : Condition) (y : PartInParentheses) (front back : Lexemes) → w ≡ front ++ back → g.wanted_part want.Condition inner front y → as_cond_of inner y back x → g.inner_cond inner w x
    go inner w x (part.Condition y) front back cut one two =
        let same : w ≡ front = cut ∙ ap (λ t. front ++ t) two.0 ∙ append-nil front in
        subst (λ z. inner w (part.Condition z)) (sym two.1) (subst (λ t. inner t (part.Condition y)) (sym same) one)
    go inner w x (part.Expression y) front back cut one two = absurd one
    go inner w x (part.Query y) front back cut one two = absurd one

pub cond_at_s : (n l : ℕ) → n + 1 < l → Sound n n (g.conditions l) (r.cond_at n)
unfolding r.cond_at
cond_at_s n l below = weak (cond_inside (g.nested l)) (then_s (read_s n l below want.Condition) (as_cond_s (g.nested l) n))

abbrev expr_of : Language PartInParentheses → PartInParentheses → Language Expression
expr_of inner (part.Expression x) = lang.pure x
expr_of inner _ = g.inner_expr inner

expr_of_s : (inner : Language PartInParentheses) (m : ℕ) (w : Lexemes) (x : PartInParentheses) → g.wanted_part want.Expression inner w x → Sound m m (expr_of inner x) (r.as_expr x)
expr_of_s inner m w (part.Expression x) h = sound_pure m x
expr_of_s inner m w (part.Condition x) h = absurd h
expr_of_s inner m w (part.Query x) h = absurd h

expr_in : (inner : Language PartInParentheses) (w : Lexemes) (x : Expression) → Then (g.wanted_part want.Expression inner) (expr_of inner) w x → g.inner_expr inner w x
expr_in inner w x h = go inner w x h.tree h.split.front h.split.back h.split.cut h.split.first h.split.second
  where
    go : (inner : Language PartInParentheses) (w : Lexemes) (x : Expression) (y : PartInParentheses) (front back : Lexemes) → w ≡ front ++ back → g.wanted_part want.Expression inner front y → expr_of inner y back x → g.inner_expr inner w x
    go inner w x (part.Expression y) front back cut one two =
        let same : w ≡ front = cut ∙ ap (λ t. front ++ t) two.0 ∙ append-nil front in
        subst (λ z. inner w (part.Expression z)) (sym two.1) (subst (λ t. inner t (part.Expression y)) (sym same) one)
    go inner w x (part.Condition y) front back cut one two = absurd one
    go inner w x (part.Query y) front back cut one two = absurd one

pub expr_at_s : (n l : ℕ) → n + 1 < l → Sound n n (g.expressions l) (r.expr_at n)
unfolding r.expr_at
expr_at_s n l below = weak (expr_in (g.nested l)) (then_s (read_s n l below want.Expression) (expr_of_s (g.nested l) n))
