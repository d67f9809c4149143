-- Each reader finds the texts of its part of the grammar.
use Rattle.std.proofs.Common.{◌≡◌, ℕ, zero, suc, ◌+◌, ◌≤◌, Bool, true, false, [], ◌∷◌, ◌++◌, List, Option, Some, None, refl, sym, ap, ◌∙◌, subst, inl, inr, ◌⊎◌, arith}
use Rattle.token.specs.declared.kinds.Kind.{Kind}
use Rattle.token.specs.declared.kinds.Kind.TheVariants as k
use Rattle.value.specs.declared.comparisons.Comparison.{Comparison}
use Rattle.value.specs.declared.truths.Truth.{Truth}
use Rattle.syntax.specs.declared.trees.Aggregate.{Aggregate}
use Rattle.syntax.specs.declared.trees.Aggregate.TheVariants as a
use Rattle.syntax.specs.declared.trees.Argument.{Argument}
use Rattle.syntax.specs.declared.trees.ColumnName.{ColumnName}
use Rattle.syntax.specs.declared.trees.SetQuantifier.{SetQuantifier}
use Rattle.syntax.specs.declared.trees.SetQuantifier.TheVariants as quantifier
use Rattle.syntax.specs.declared.trees.SelectList.{SelectList}
use Rattle.syntax.specs.declared.trees.SelectList.TheVariants as which
use Rattle.syntax.specs.declared.trees.Expression.{Expression}
use Rattle.syntax.specs.declared.trees.Expression.TheVariants as e
use Rattle.syntax.specs.declared.trees.Condition.{Condition}
use Rattle.syntax.specs.declared.trees.Condition.TheVariants as b
use Rattle.syntax.specs.declared.wants.PartInParentheses.{PartInParentheses}
use Rattle.syntax.specs.declared.wants.PartInParentheses.TheVariants as part
use Rattle.syntax.specs.declared.wants.Want.{Want}
use Rattle.syntax.specs.declared.wants.Want.TheVariants as want
use Rattle.syntax.specs.Language.{Lexeme, Lexemes, kind_at, Language, Then}
use Rattle.syntax.specs.Language as lang
use Rattle.syntax.specs.Grammar as g
use Rattle.syntax.specs.Readers as r
use Rattle.syntax.specs.Reading.{Reader, pure, refuse, by_kind, parens}
use Rattle.syntax.specs.Reading as rd
use Rattle.syntax.proofs.WordLaws.{append-nil, Finds, Accepts, finds_pure, finds_then}
use Rattle.syntax.proofs.Loops.{finds_parens, finds_expect, finds_after, Loops, Opening, accepts_through}
use Rattle.syntax.proofs.Sounds.{counted_in, cond_at_s}
use Rattle.syntax.proofs.Whole.{Exact}
use Rattle.syntax.proofs.Short.{mapping, mapped, regroup, regroup_left, then_into}
use Rattle.syntax.proofs.Parts.{optional_f, optional_follows, list_f, parens_into, map_parens}
use Rattle.syntax.proofs.Follow.{rank, Opens, opens_then, opens_token, opens_either, Follows, follows_opens, follows_pure, follows_either, follows_then, follows_map, follows_behind, token_opening, then_f, map_f, seq_f, few, lower, all_f, pick, Goes, route}

-- ---- what has no parentheses in it

sign_f : (m : ℕ) → Finds rank m g.comparison_sign r.comparison_sign
unfolding r.comparison_sign
sign_f m = record { finds = go m }
  where
    go : (m : ℕ) (w rest : Lexemes) (x : Comparison) → g.comparison_sign w x → rank (kind_at rest) ≤ m → Accepts (by_kind r.sign_by (w ++ rest)) x rest
    go m w rest x (inl (inl (inl (inl (inl h))))) small = pick r.sign_by k.Equal m refl (seq_f m k.Equal (finds_pure rank m _)) w rest x h small
    go m w rest x (inl (inl (inl (inl (inr h))))) small = pick r.sign_by k.NotEqual m refl (seq_f m k.NotEqual (finds_pure rank m _)) w rest x h small
    go m w rest x (inl (inl (inl (inr h)))) small = pick r.sign_by k.Less m refl (seq_f m k.Less (finds_pure rank m _)) w rest x h small
    go m w rest x (inl (inl (inr h))) small = pick r.sign_by k.AtMost m refl (seq_f m k.AtMost (finds_pure rank m _)) w rest x h small
    go m w rest x (inl (inr h)) small = pick r.sign_by k.Greater m refl (seq_f m k.Greater (finds_pure rank m _)) w rest x h small
    go m w rest x (inr h) small = pick r.sign_by k.AtLeast m refl (seq_f m k.AtLeast (finds_pure rank m _)) w rest x h small

truth_f : (m : ℕ) → Finds rank m g.truth r.truth
unfolding r.truth
truth_f m = record { finds = go m }
  where
    go : (m : ℕ) (w rest : Lexemes) (x : Truth) → g.truth w x → rank (kind_at rest) ≤ m → Accepts (by_kind r.truth_by (w ++ rest)) x rest
    go m w rest x (inl (inl h)) small = pick r.truth_by k.True m refl (seq_f m k.True (finds_pure rank m _)) w rest x h small
    go m w rest x (inl (inr h)) small = pick r.truth_by k.False m refl (seq_f m k.False (finds_pure rank m _)) w rest x h small
    go m w rest x (inr h) small = pick r.truth_by k.Unknown m refl (seq_f m k.Unknown (finds_pure rank m _)) w rest x h small

number_f : (m : ℕ) (is_negative : Bool) → Finds rank m (lang.◌<$>◌ (g.number_of is_negative) (lang.token k.Number)) (r.number is_negative)
unfolding r.number
number_f m is_negative = map_f m (g.number_of is_negative) (finds_expect rank m k.Number)

text_f : (m : ℕ) → Finds rank m g.text r.text
unfolding r.text
text_f m = map_f m (λ x. e.Text (g.text_in_quotes x)) (finds_expect rank m k.Text)

pub opens_kind : (P : Kind → Type 0) (kind : Kind) → P kind → Opens (lang.token kind) P
opens_kind P kind p w rest x h = subst P (sym (ap (λ t. kind_at (t ++ rest)) h.0 ∙ h.1)) p

column_opens : (P : Kind → Type 0) → P k.Name → Opens g.column P
unfolding g.column
column_opens P name = opens_token P k.Name name

-- a token behind which no name is qualified
quiet_dot : (x : Lexeme) (kind : Kind) → rank kind ≤ 9 → r.column_by x kind ≡ r.column_by x k.End
quiet_dot x k.Dot small = absurd (omega arith)
quiet_dot x _ small = refl

column_after_f : (x : Lexeme) → Finds rank 9 (g.column_after x) (r.column_after x)
unfolding g.column_after r.column_after
column_after_f x = record { finds = go x }
  where
    go : (x : Lexeme) (w rest : Lexemes) (y : ColumnName)
        → lang.◌∪◌ (lang.pure (record { qualifier = None; name = g.name_of x })) (lang.◌>>◌ (lang.token k.Dot) (lang.◌<$>◌ (λ y. record { qualifier = Some (g.name_of x); name = g.name_of y }) (lang.token k.Name))) w y
        → rank (kind_at rest) ≤ 9 → Accepts (by_kind (r.column_by x) (w ++ rest)) y rest
    go x w rest y (inl h) small =
        subst (λ t. Accepts (by_kind (r.column_by x) (t ++ rest)) y rest) (sym h.0)
        (subst (λ p. Accepts (p rest) y rest) (sym (quiet_dot x (kind_at rest) small)) ((finds_pure rank 9 _).finds [] rest y (refl, h.1) small))
    go x w rest y (inr h) small = pick (r.column_by x) k.Dot 9 refl (seq_f 9 k.Dot (map_f 9 _ (finds_expect rank 9 k.Name))) w rest y h small

pub column_f : Finds rank 9 g.column r.column
unfolding g.column r.column
column_f = finds_after rank 9 k.Name g.column_after r.column_after (λ w x h. column_after_f x)

pub name_f : (m : ℕ) → Finds rank m g.name r.name
unfolding r.name
name_f m = map_f m g.name_of (finds_expect rank m k.Name)

pub free_name : Finds (λ _. 0) 0 g.name r.name
unfolding r.name
free_name = finds_then (λ _. 0) (λ _. 0) 0 0 (lang.token k.Name) _ _ _ (finds_expect (λ _. 0) 0 k.Name) (λ w a h. finds_pure (λ _. 0) 0 (g.name_of a)) (λ a v rest b h small. omega arith)

no_correlation_name : (kind : Kind) → rank kind ≤ 4 → r.correlation_name_by kind ≡ pure None
no_correlation_name k.As small = absurd (omega arith)
no_correlation_name k.Name small = absurd (omega arith)
no_correlation_name _ small = refl

pub correlation_name_f : Finds rank 4 g.correlation_name r.correlation_name
unfolding g.correlation_name r.correlation_name
correlation_name_f = record { finds = go }
  where
    go : (w rest : Lexemes) (x : Option (List ℕ)) → lang.◌∪◌ (lang.◌∪◌ (lang.pure None) (lang.◌<$>◌ Some g.name)) (lang.◌>>◌ (lang.token k.As) (lang.◌<$>◌ Some g.name)) w x → rank (kind_at rest) ≤ 4 → Accepts (by_kind r.correlation_name_by (w ++ rest)) x rest
    go w rest x (inl (inl h)) small =
        subst (λ t. Accepts (by_kind r.correlation_name_by (t ++ rest)) x rest) (sym h.0)
        (subst (λ p. Accepts (p rest) x rest) (sym (no_correlation_name (kind_at rest) small)) ((finds_pure rank 4 None).finds [] rest x (refl, h.1) small))
    go w rest x (inl (inr h)) small = route r.correlation_name_by 4 (map_f 4 Some (name_f 4)) (opens_then (Goes r.correlation_name_by (rd.◌<$>◌ Some r.name)) (opens_then (Goes r.correlation_name_by (rd.◌<$>◌ Some r.name)) (opens_kind (Goes r.correlation_name_by (rd.◌<$>◌ Some r.name)) k.Name refl))) w rest x h small
    go w rest x (inr h) small = pick r.correlation_name_by k.As 4 refl (seq_f 4 k.As (map_f 4 Some (name_f 4))) w rest x h small

pub correlation_name_follows : Follows 5 4 g.correlation_name
unfolding g.correlation_name
correlation_name_follows =
    let P : Kind → Type 0 = λ kind. rank kind ≤ 5 in
    follows_either 5 4 (follows_either 5 4 (follows_pure 5 4 None (omega arith)) (follows_opens 5 4 (opens_then P (opens_then P (opens_kind P k.Name (omega arith))))))
    (follows_opens 5 4 (opens_token P k.As (omega arith)))

group_by_f : Finds rank 1 g.group_by r.group_by
unfolding g.group_by r.group_by
group_by_f = optional_f 1 k.Group (omega arith) (opens_token (λ next. next ≡ k.Group) k.Group refl) (seq_f 1 k.Group (seq_f 1 k.By (lower 1 9 (omega arith) column_f)))

group_by_follows : Follows 2 1 g.group_by
unfolding g.group_by
group_by_follows = optional_follows 2 1 k.Group (omega arith) (omega arith) (opens_token (λ next. next ≡ k.Group) k.Group refl)

argument_opens : (P : Kind → Type 0) → P k.Name → P k.All → P k.Distinct → Opens g.argument P
unfolding g.argument
argument_opens P name all distinct = opens_either P (opens_either P (opens_then P (column_opens P name)) (opens_token P k.All all)) (opens_token P k.Distinct distinct)

-- a set function's argument behind its set quantifier
abbrev quantified : SetQuantifier → Language Argument
quantified q = lang.◌<$>◌ (g.argument_of q) g.column

quantified_f : (q : SetQuantifier) → Finds rank 9 (quantified q) (rd.◌<$>◌ (g.argument_of q) r.column)
quantified_f q = map_f 9 (g.argument_of q) column_f

argument_f : Finds rank 9 g.argument r.argument
unfolding g.argument r.argument
argument_f = record { finds = go }
  where
    go : (w rest : Lexemes) (x : Argument)
        → lang.◌∪◌ (lang.◌∪◌ (quantified quantifier.All) (lang.◌>>◌ (lang.token k.All) (quantified quantifier.All))) (lang.◌>>◌ (lang.token k.Distinct) (quantified quantifier.Distinct)) w x
        → rank (kind_at rest) ≤ 9 → Accepts (by_kind r.argument_by (w ++ rest)) x rest
    go w rest x (inl (inl h)) small =
        let P : Kind → Type 0 = Goes r.argument_by (rd.◌<$>◌ (g.argument_of quantifier.All) r.column) in
        route r.argument_by 9 (quantified_f quantifier.All) (opens_then P (column_opens P refl)) w rest x h small
    go w rest x (inl (inr h)) small = pick r.argument_by k.All 9 refl (seq_f 9 k.All (quantified_f quantifier.All)) w rest x h small
    go w rest x (inr h) small = pick r.argument_by k.Distinct 9 refl (seq_f 9 k.Distinct (quantified_f quantifier.Distinct)) w rest x h small

-- what stands in the parentheses of COUNT
counted_in_f : Finds rank 0 counted_in r.counted_inside
unfolding r.counted_inside
counted_in_f = record { finds = go }
  where
    go : (w rest : Lexemes) (x : Expression) → counted_in w x → rank (kind_at rest) ≤ 0 → Accepts (by_kind r.counted_by (w ++ rest)) x rest
    go w rest x (inl h) small = pick r.counted_by k.Star 0 refl (seq_f 0 k.Star (finds_pure rank 0 e.CountRows)) w rest x h small
    go w rest x (inr h) small =
        let P : Kind → Type 0 = Goes r.counted_by (rd.◌<$>◌ (e.Aggregate a.Count) r.argument) in
        route r.counted_by 0 (map_f 0 (e.Aggregate a.Count) (lower 0 9 (omega arith) argument_f)) (opens_then P (argument_opens P refl refl refl)) w rest x h small

-- ---- what may have parentheses in it

-- the kinds that begin an expression
pub record Other (P : Kind → Type 0) : Type 0 where
  pub text : P k.Text
  pub name : P k.Name
  pub open_ : P k.Open
  pub count : P k.Count
  pub sum : P k.Sum
  pub min : P k.Min
  pub max : P k.Max

-- with a number and a sign
pub record Operand (P : Kind → Type 0) : Type 0 where
  pub other : Other P
  pub number : P k.Number
  pub plus : P k.Plus
  pub minus : P k.Minus

-- and a condition
pub record Test (P : Kind → Type 0) : Type 0 where
  pub operand : Operand P
  pub exists : P k.Exists

abbrev pub limit : Want → ℕ
limit want.Expression = 7
limit want.Condition = 4
limit want.Query = 0
limit want.Operand = 0
limit want.Any = 0

star_loop : (inner : Language PartInParentheses) → Loops rank 9 8 r.is_star (Then (lang.token k.Star) (λ _. g.factor inner))
star_loop inner = record { opening = token_opening r.is_star k.Star (λ _. g.factor inner) refl; binds = binds; stops = stops; below = omega arith }
  where
    binds : (kind : Kind) → r.is_star kind ≡ true → rank kind ≤ 9
    binds k.Star is = omega arith
    binds _ is = absurd (cc)

    stops : (kind : Kind) → rank kind ≤ 8 → r.is_star kind ≡ false
    stops k.Star small = absurd (omega arith)
    stops _ small = refl

sum_opening : (inner : Language PartInParentheses) (w : Lexemes) (x : Expression) → g.sum_item inner w x → Opening r.is_sign (g.sum_item inner) w
sum_opening inner w x (inl h) = let o = token_opening r.is_sign k.Plus (λ _. g.term inner) refl w x h in record { token = o.token; more = o.more; is = o.is; passes = o.passes }
sum_opening inner w x (inr h) = let o = token_opening r.is_sign k.Minus (λ _. lang.◌<$>◌ e.Negation (g.term inner)) refl w x h in record { token = o.token; more = o.more; is = o.is; passes = o.passes }

sum_loop : (inner : Language PartInParentheses) → Loops rank 8 7 r.is_sign (g.sum_item inner)
sum_loop inner = record { opening = sum_opening inner; binds = binds; stops = stops; below = omega arith }
  where
    binds : (kind : Kind) → r.is_sign kind ≡ true → rank kind ≤ 8
    binds k.Plus is = omega arith
    binds k.Minus is = omega arith
    binds _ is = absurd (cc)

    stops : (kind : Kind) → rank kind ≤ 7 → r.is_sign kind ≡ false
    stops k.Plus small = absurd (omega arith)
    stops k.Minus small = absurd (omega arith)
    stops _ small = refl

and_loop : (inner : Language PartInParentheses) → Loops rank 6 5 r.is_and (Then (lang.token k.And) (λ _. g.bfact inner))
and_loop inner = record { opening = token_opening r.is_and k.And (λ _. g.bfact inner) refl; binds = binds; stops = stops; below = omega arith }
  where
    binds : (kind : Kind) → r.is_and kind ≡ true → rank kind ≤ 6
    binds k.And is = omega arith
    binds _ is = absurd (cc)

    stops : (kind : Kind) → rank kind ≤ 5 → r.is_and kind ≡ false
    stops k.And small = absurd (omega arith)
    stops _ small = refl

or_loop : (inner : Language PartInParentheses) → Loops rank 5 4 r.is_or (Then (lang.token k.Or) (λ _. g.bterm inner))
or_loop inner = record { opening = token_opening r.is_or k.Or (λ _. g.bterm inner) refl; binds = binds; stops = stops; below = omega arith }
  where
    binds : (kind : Kind) → r.is_or kind ≡ true → rank kind ≤ 5
    binds k.Or is = omega arith
    binds _ is = absurd (cc)

    stops : (kind : Kind) → rank kind ≤ 4 → r.is_or kind ≡ false
    stops k.Or small = absurd (omega arith)
    stops _ small = refl

module _ (n : ℕ) (inner : Language PartInParentheses) (reader : Want → Reader PartInParentheses)
    (f : (m : ℕ) → n ≡ suc m → (wanted : Want) → Finds rank (limit wanted) (g.wanted_part wanted inner) (reader wanted)) where
  inner_expr_f : (m : ℕ) → n ≡ suc m → Finds rank 7 (g.inner_expr inner) (r.inner_expr n reader)
  unfolding r.inner_expr
  inner_expr_f m is = record {
    finds = λ w rest x h small.
        accepts_through (reader want.Expression) r.as_expr (w ++ rest) rest rest (part.Expression x) x ((f m is want.Expression).finds w rest (part.Expression x) h small) (inl refl);
  }

  inner_query_f : (m : ℕ) → n ≡ suc m → Finds rank 0 (g.inner_query inner) (r.inner_query n reader)
  unfolding r.inner_query
  inner_query_f m is = record {
    finds = λ w rest x h small.
        accepts_through (reader want.Query) r.as_query (w ++ rest) rest rest (part.Query x) x ((f m is want.Query).finds w rest (part.Query x) h small) (inl refl);
  }

  operand_expr_f : (m : ℕ) → n ≡ suc m → Finds rank 0 (g.inner_expr inner) (r.inner_operand n reader)
  unfolding r.inner_operand
  operand_expr_f m is = record {
    finds = λ w rest x h small.
        accepts_through (reader want.Operand) r.as_operand (w ++ rest) rest rest (part.Expression x) x ((f m is want.Operand).finds w rest (part.Expression x) h small) (inl refl);
  }

  operand_query_f : (m : ℕ) → n ≡ suc m → Finds rank 0 (lang.◌<$>◌ e.Subquery (g.inner_query inner)) (r.inner_operand n reader)
  unfolding r.inner_operand
  operand_query_f m is = record {
    finds = λ w rest x h small.
        let o = mapped e.Subquery (g.inner_query inner) w x h in
        subst (λ y. Accepts (r.inner_operand n reader (w ++ rest)) y rest) (sym o.2)
        (accepts_through (reader want.Operand) r.as_operand (w ++ rest) rest rest (part.Query o.0) (e.Subquery o.0) ((f m is want.Operand).finds w rest (part.Query o.0) o.1 small) (inl refl));
  }

  parens_expr_f : (m : ℕ) → Finds rank m (lang.parens (g.inner_expr inner)) (parens n (r.inner_operand n reader))
  parens_expr_f m = finds_parens rank m n (g.inner_expr inner) (r.inner_operand n reader) (omega arith) operand_expr_f

  parens_query_f : (m : ℕ) → Finds rank m (lang.◌<$>◌ e.Subquery (lang.parens (g.inner_query inner))) (parens n (r.inner_operand n reader))
  parens_query_f m = few (map_parens e.Subquery (g.inner_query inner)) (finds_parens rank m n (lang.◌<$>◌ e.Subquery (g.inner_query inner)) (r.inner_operand n reader) (omega arith) operand_query_f)

  of_f : (m : ℕ) (y : Aggregate) → Finds rank m (g.of y) (r.aggregate_of n reader y)
  unfolding r.aggregate_of
  of_f m y = map_f m (e.Aggregate y) (finds_parens rank m n g.argument r.argument (omega arith) (λ i is. lower 0 9 (omega arith) argument_f))

  counted_f : (m : ℕ) → Finds rank m (lang.parens counted_in) (r.counted n reader)
  unfolding r.counted
  counted_f m = finds_parens rank m n counted_in r.counted_inside (omega arith) (λ i is. counted_in_f)

  star_to : (w : Lexemes) (x : Expression) → lang.parens (lang.◌>>◌ (lang.token k.Star) (lang.pure e.CountRows)) w x → lang.parens counted_in w x
  star_to w x h = parens_into (lang.◌>>◌ (lang.token k.Star) (lang.pure e.CountRows)) counted_in w x x (λ v m. inl m) h

  count_to : (w : Lexemes) (x : Expression) → g.of a.Count w x → lang.parens counted_in w x
  count_to w x h = parens_into (lang.◌<$>◌ (e.Aggregate a.Count) g.argument) counted_in w x x (λ v m. inr m) (map_parens (e.Aggregate a.Count) g.argument w x h)

  aggregate_f : (w rest : Lexemes) (x : Expression) → g.aggregate w x → rank (kind_at rest) ≤ 9 → Accepts (by_kind (r.other_by n reader) (w ++ rest)) x rest
  unfolding g.aggregate
  aggregate_f w rest x (inl (inl (inl (inl h)))) small = pick (r.other_by n reader) k.Count 9 refl (seq_f 9 k.Count (few star_to (counted_f 9))) w rest x h small
  aggregate_f w rest x (inl (inl (inl (inr h)))) small = pick (r.other_by n reader) k.Count 9 refl (seq_f 9 k.Count (few count_to (counted_f 9))) w rest x h small
  aggregate_f w rest x (inl (inl (inr h))) small = pick (r.other_by n reader) k.Sum 9 refl (seq_f 9 k.Sum (of_f 9 a.Sum)) w rest x h small
  aggregate_f w rest x (inl (inr h)) small = pick (r.other_by n reader) k.Min 9 refl (seq_f 9 k.Min (of_f 9 a.Min)) w rest x h small
  aggregate_f w rest x (inr h) small = pick (r.other_by n reader) k.Max 9 refl (seq_f 9 k.Max (of_f 9 a.Max)) w rest x h small

  aggregate_opens : (P : Kind → Type 0) → P k.Count → P k.Sum → P k.Min → P k.Max → Opens g.aggregate P
  unfolding g.aggregate
  aggregate_opens P count sum min max = opens_either P (opens_either P (opens_either P (opens_either P (opens_token P k.Count count) (opens_token P k.Count count)) (opens_token P k.Sum sum)) (opens_token P k.Min min)) (opens_token P k.Max max)

  other_opens : (P : Kind → Type 0) → Other P → Opens (g.other_prim inner) P
  unfolding g.other_prim
  other_opens P o = opens_either P (opens_either P (opens_either P (opens_either P (opens_token P k.Text o.text) (opens_then P (column_opens P o.name))) (aggregate_opens P o.count o.sum o.min o.max)) (opens_token P k.Open o.open_)) (opens_then P (opens_token P k.Open o.open_))

  other_f : Finds rank 9 (g.other_prim inner) (r.other_prim n reader)
  unfolding g.other_prim r.other_prim
  other_f = record { finds = go }
    where
      go : (w rest : Lexemes) (x : Expression) → lang.◌∪◌ (lang.◌∪◌ (lang.◌∪◌ (lang.◌∪◌ g.text (lang.◌<$>◌ e.Column g.column)) g.aggregate) (lang.parens (g.inner_expr inner))) (lang.◌<$>◌ e.Subquery (lang.parens (g.inner_query inner))) w x → rank (kind_at rest) ≤ 9 → Accepts (by_kind (r.other_by n reader) (w ++ rest)) x rest
      go w rest x (inl (inl (inl (inl h)))) small = pick (r.other_by n reader) k.Text 9 refl (text_f 9) w rest x h small
      go w rest x (inl (inl (inl (inr h)))) small = route (r.other_by n reader) 9 (map_f 9 e.Column column_f) (opens_then (Goes (r.other_by n reader) (rd.◌<$>◌ e.Column r.column)) (column_opens (Goes (r.other_by n reader) (rd.◌<$>◌ e.Column r.column)) refl)) w rest x h small
      go w rest x (inl (inl (inr h))) small = aggregate_f w rest x h small
      go w rest x (inl (inr h)) small = pick (r.other_by n reader) k.Open 9 refl (parens_expr_f 9) w rest x h small
      go w rest x (inr h) small = route (r.other_by n reader) 9 (parens_query_f 9) (opens_then (Goes (r.other_by n reader) (parens n (r.inner_operand n reader))) (opens_token (Goes (r.other_by n reader) (parens n (r.inner_operand n reader))) k.Open refl)) w rest x h small

  prim_f : Finds rank 9 (g.prim inner) (r.prim n reader)
  unfolding g.prim r.prim
  prim_f = record { finds = go }
    where
      go : (w rest : Lexemes) (x : Expression) → lang.◌∪◌ g.number (g.other_prim inner) w x → rank (kind_at rest) ≤ 9 → Accepts (by_kind (r.prim_by n reader) (w ++ rest)) x rest
      go w rest x (inl h) small = pick (r.prim_by n reader) k.Number 9 refl (number_f 9 false) w rest x h small
      go w rest x (inr h) small = route (r.prim_by n reader) 9 other_f (other_opens (Goes (r.prim_by n reader) (r.other_prim n reader)) (record { text = refl; name = refl; open_ = refl; count = refl; sum = refl; min = refl; max = refl })) w rest x h small

  prim_opens : (P : Kind → Type 0) → P k.Number → Other P → Opens (g.prim inner) P
  unfolding g.prim
  prim_opens P number o = opens_either P (opens_token P k.Number number) (other_opens P o)

  number_negated_f : Finds rank 9 (lang.◌<$>◌ (g.number_of true) (lang.token k.Number)) (r.negated n reader)
  unfolding r.negated
  number_negated_f = record { finds = λ w rest x h small. pick (r.negated_by n reader) k.Number 9 refl (number_f 9 true) w rest x h small }

  other_negated_f : Finds rank 9 (lang.◌<$>◌ e.Negation (g.other_prim inner)) (r.negated n reader)
  unfolding r.negated
  other_negated_f = record { finds = λ w rest x h small. route (r.negated_by n reader) 9 (map_f 9 e.Negation other_f) (opens_then (Goes (r.negated_by n reader) (rd.◌<$>◌ e.Negation (r.other_prim n reader))) (other_opens (Goes (r.negated_by n reader) (rd.◌<$>◌ e.Negation (r.other_prim n reader))) (record { text = refl; name = refl; open_ = refl; count = refl; sum = refl; min = refl; max = refl }))) w rest x h small }

  factor_f : Finds rank 9 (g.factor inner) (r.factor n reader)
  unfolding g.factor r.factor
  factor_f = record { finds = go }
    where
      go : (w rest : Lexemes) (x : Expression) → lang.◌∪◌ (lang.◌∪◌ (lang.◌∪◌ (g.prim inner) (lang.◌>>◌ (lang.token k.Plus) (g.prim inner))) (lang.◌>>◌ (lang.token k.Minus) (lang.◌<$>◌ (g.number_of true) (lang.token k.Number)))) (lang.◌>>◌ (lang.token k.Minus) (lang.◌<$>◌ e.Negation (g.other_prim inner))) w x
          → rank (kind_at rest) ≤ 9 → Accepts (by_kind (r.factor_by n reader) (w ++ rest)) x rest
      go w rest x (inl (inl (inl h))) small = route (r.factor_by n reader) 9 prim_f (prim_opens (Goes (r.factor_by n reader) (r.prim n reader)) refl (record { text = refl; name = refl; open_ = refl; count = refl; sum = refl; min = refl; max = refl })) w rest x h small
      go w rest x (inl (inl (inr h))) small = pick (r.factor_by n reader) k.Plus 9 refl (seq_f 9 k.Plus prim_f) w rest x h small
      go w rest x (inl (inr h)) small = pick (r.factor_by n reader) k.Minus 9 refl (seq_f 9 k.Minus number_negated_f) w rest x h small
      go w rest x (inr h) small = pick (r.factor_by n reader) k.Minus 9 refl (seq_f 9 k.Minus other_negated_f) w rest x h small

  factor_opens : (P : Kind → Type 0) → Operand P → Opens (g.factor inner) P
  unfolding g.factor
  factor_opens P o = opens_either P (opens_either P (opens_either P (prim_opens P o.number o.other) (opens_token P k.Plus o.plus)) (opens_token P k.Minus o.minus)) (opens_token P k.Minus o.minus)

  product_after_f : (x : Expression) → Finds rank 8 (g.product_after inner x) (r.product_after n reader x)
  unfolding g.product_after r.product_after r.product_item
  product_after_f x = map_f 8 g.product_of (all_f 9 8 r.is_star (star_loop inner) (seq_f 9 k.Star factor_f) (x ∷ []))

  product_after_follows : (x : Expression) → Follows 9 8 (g.product_after inner x)
  unfolding g.product_after
  product_after_follows x = follows_then 9 8 8 (follows_behind (x ∷ []) (star_loop inner)) (λ xs. follows_pure 8 8 (g.product_of xs) (omega arith))

  term_f : Finds rank 8 (g.term inner) (r.term n reader)
  unfolding g.term r.term
  term_f = then_f 9 8 factor_f (λ w x h. product_after_f x) product_after_follows

  sum_item_f : Finds rank 8 (g.sum_item inner) (r.sum_item n reader)
  unfolding r.sum_item
  sum_item_f = record { finds = go }
    where
      go : (w rest : Lexemes) (x : Expression) → g.sum_item inner w x → rank (kind_at rest) ≤ 8 → Accepts (by_kind (r.sum_by n reader) (w ++ rest)) x rest
      go w rest x (inl h) small = pick (r.sum_by n reader) k.Plus 8 refl (seq_f 8 k.Plus term_f) w rest x h small
      go w rest x (inr h) small = pick (r.sum_by n reader) k.Minus 8 refl (seq_f 8 k.Minus (map_f 8 e.Negation term_f)) w rest x h small

  sum_after_f : (x : Expression) → Finds rank 7 (g.sum_after inner x) (r.sum_after n reader x)
  unfolding g.sum_after r.sum_after
  sum_after_f x = map_f 7 g.sum_of (all_f 8 7 r.is_sign (sum_loop inner) sum_item_f (x ∷ []))

  sum_after_follows : (x : Expression) → Follows 8 7 (g.sum_after inner x)
  unfolding g.sum_after
  sum_after_follows x = follows_then 8 7 7 (follows_behind (x ∷ []) (sum_loop inner)) (λ xs. follows_pure 7 7 (g.sum_of xs) (omega arith))

  abbrev expr_after : Expression → Language Expression
  expr_after x = Then (g.product_after inner x) (g.sum_after inner)

  expr_after_f : (x : Expression) → Finds rank 7 (expr_after x) (r.expr_after n reader x)
  unfolding r.expr_after
  expr_after_f x = then_f 8 7 (product_after_f x) (λ w y h. sum_after_f y) sum_after_follows

  expr_after_follows : (x : Expression) → Follows 9 7 (expr_after x)
  expr_after_follows x = follows_then 9 8 7 (product_after_follows x) sum_after_follows

  expr_to : (w : Lexemes) (x : Expression) → g.expr inner w x → Then (g.factor inner) expr_after w x
  unfolding g.expr g.term
  expr_to w x h = regroup (g.factor inner) (g.product_after inner) (g.sum_after inner) w x h

  expr_f : Finds rank 7 (g.expr inner) (r.expr n reader)
  unfolding r.expr
  expr_f = few expr_to (then_f 9 7 factor_f (λ w x h. expr_after_f x) expr_after_follows)

  expr_opens : (P : Kind → Type 0) → Operand P → Opens (g.expr inner) P
  unfolding g.expr g.term
  expr_opens P o = opens_then P (opens_then P (factor_opens P o))

  -- ---- conditions

  between_f : (left : Expression) → Finds rank 7 (lang.◌>>◌ (lang.token k.Between) (lang.◌>>=◌ (g.expr inner) (λ low. lang.◌>>◌ (lang.token k.And) (lang.◌<$>◌ (b.Between left low) (g.expr inner))))) (r.between n reader left)
  unfolding r.between
  between_f left = seq_f 7 k.Between (then_f 7 7 expr_f (λ w low h. seq_f 7 k.And (map_f 7 (b.Between left low) expr_f)) (λ low. follows_opens 7 7 (opens_token (λ kind. rank kind ≤ 7) k.And (omega arith))))

  in_list_f : (left : Expression) → Finds rank 7 (lang.◌>>◌ (lang.token k.In) (lang.◌<$>◌ (b.In left) (lang.parens (lang.list (g.inner_expr inner))))) (r.in_list n reader left)
  unfolding r.in_list
  in_list_f left = seq_f 7 k.In (map_f 7 (b.In left) (finds_parens rank 7 n (lang.list (g.inner_expr inner)) _ (omega arith) (λ i is. lower 0 3 (omega arith) (list_f (lower 4 7 (omega arith) (inner_expr_f i is))))))

  range_f : (left : Expression) → Finds rank 7 (g.range_or_list inner left) (r.range_or_list n reader left)
  unfolding g.range_or_list r.range_or_list
  range_f left = record { finds = go left }
    where
      go : (left : Expression) (w rest : Lexemes) (x : Condition)
          → lang.◌∪◌ (lang.◌>>◌ (lang.token k.Between) (lang.◌>>=◌ (g.expr inner) (λ low. lang.◌>>◌ (lang.token k.And) (lang.◌<$>◌ (b.Between left low) (g.expr inner))))) (lang.◌>>◌ (lang.token k.In) (lang.◌<$>◌ (b.In left) (lang.parens (lang.list (g.inner_expr inner))))) w x
          → rank (kind_at rest) ≤ 7 → Accepts (by_kind (r.range_by n reader left) (w ++ rest)) x rest
      go left w rest x (inl h) small = pick (r.range_by n reader left) k.Between 7 refl (between_f left) w rest x h small
      go left w rest x (inr h) small = pick (r.range_by n reader left) k.In 7 refl (in_list_f left) w rest x h small

  range_opens : (P : Kind → Type 0) (left : Expression) → P k.Between → P k.In → Opens (g.range_or_list inner left) P
  unfolding g.range_or_list
  range_opens P left between list = opens_either P (opens_token P k.Between between) (opens_token P k.In list)

  null_f : (left : Expression) → Finds rank 7 (g.null inner left) (r.null n reader left)
  unfolding g.null r.null
  null_f left = record { finds = go left }
    where
      go : (left : Expression) (w rest : Lexemes) (x : Condition)
          → lang.◌∪◌ (lang.◌>>◌ (lang.token k.Null) (lang.pure (b.IsNull left))) (lang.◌>>◌ (lang.token k.Not) (lang.◌>>◌ (lang.token k.Null) (lang.pure (b.Not (b.IsNull left))))) w x
          → rank (kind_at rest) ≤ 7 → Accepts (by_kind (r.null_by n reader left) (w ++ rest)) x rest
      go left w rest x (inl h) small = pick (r.null_by n reader left) k.Null 7 refl (seq_f 7 k.Null (finds_pure rank 7 _)) w rest x h small
      go left w rest x (inr h) small = pick (r.null_by n reader left) k.Not 7 refl (seq_f 7 k.Not (seq_f 7 k.Null (finds_pure rank 7 _))) w rest x h small

  -- the kinds that make a condition of an expression
  sign_opens : (P : Kind → Type 0) → P k.Equal → P k.NotEqual → P k.Less → P k.AtMost → P k.Greater → P k.AtLeast → Opens g.comparison_sign P
  sign_opens P equal not_equal less at_most greater at_least =
      opens_either P (opens_either P (opens_either P (opens_either P (opens_either P (opens_token P k.Equal equal) (opens_token P k.NotEqual not_equal)) (opens_token P k.Less less))
      (opens_token P k.AtMost at_most)) (opens_token P k.Greater greater)) (opens_token P k.AtLeast at_least)

  compared_f : (left : Expression) → Finds rank 7 (lang.◌>>=◌ g.comparison_sign (λ sign. lang.◌<$>◌ (b.Compare left sign) (g.expr inner))) (r.compared n reader left)
  unfolding r.compared
  compared_f left = finds_then (λ _. 0) rank 0 7 _ _ r.comparison_sign _ (record { finds = λ w rest x h small. go w rest x h }) (λ w sign h. map_f 7 (b.Compare left sign) expr_f) (λ x v rest b h small. omega arith)
    where
      go : (w rest : Lexemes) (x : Comparison) → g.comparison_sign w x → Accepts (r.comparison_sign (w ++ rest)) x rest
      go w rest x h = (sign_f (rank (kind_at rest))).finds w rest x h (omega arith)

  comparison_f : (left : Expression) → Finds rank 7 (g.comparison inner left) (r.comparison n reader left)
  unfolding g.comparison r.comparison
  comparison_f left = record { finds = go left }
    where
      go : (left : Expression) (w rest : Lexemes) (x : Condition)
          → lang.◌∪◌ (lang.◌∪◌ (lang.◌∪◌ (lang.◌>>=◌ g.comparison_sign (λ sign. lang.◌<$>◌ (b.Compare left sign) (g.expr inner))) (lang.◌>>◌ (lang.token k.Is) (g.null inner left))) (g.range_or_list inner left)) (lang.◌>>◌ (lang.token k.Not) (lang.◌<$>◌ b.Not (g.range_or_list inner left))) w x
          → rank (kind_at rest) ≤ 7 → Accepts (by_kind (r.comparison_by n reader left) (w ++ rest)) x rest
      go left w rest x (inl (inl (inl h))) small = route (r.comparison_by n reader left) 7 (compared_f left) (opens_then (Goes (r.comparison_by n reader left) (r.compared n reader left)) (sign_opens (Goes (r.comparison_by n reader left) (r.compared n reader left)) refl refl refl refl refl refl)) w rest x h small
      go left w rest x (inl (inl (inr h))) small = pick (r.comparison_by n reader left) k.Is 7 refl (seq_f 7 k.Is (null_f left)) w rest x h small
      go left w rest x (inl (inr h)) small = route (r.comparison_by n reader left) 7 (range_f left) (range_opens (Goes (r.comparison_by n reader left) (r.range_or_list n reader left)) left refl refl) w rest x h small
      go left w rest x (inr h) small = pick (r.comparison_by n reader left) k.Not 7 refl (seq_f 7 k.Not (map_f 7 b.Not (range_f left))) w rest x h small

  comparison_opens : (P : Kind → Type 0) (left : Expression) → P k.Equal → P k.NotEqual → P k.Less → P k.AtMost → P k.Greater → P k.AtLeast → P k.Is → P k.Not → P k.Between → P k.In → Opens (g.comparison inner left) P
  unfolding g.comparison
  comparison_opens P left equal not_equal less at_most greater at_least is negated between list =
      opens_either P (opens_either P (opens_either P (opens_then P (sign_opens P equal not_equal less at_most greater at_least)) (opens_token P k.Is is)) (range_opens P left between list)) (opens_token P k.Not negated)

  comparison_follows : (m : ℕ) (left : Expression) → Follows 7 m (g.comparison inner left)
  comparison_follows m left = follows_opens 7 m (comparison_opens (λ kind. rank kind ≤ 7) left (omega arith) (omega arith) (omega arith) (omega arith) (omega arith) (omega arith) (omega arith) (omega arith) (omega arith) (omega arith))

  truth_opens : (P : Kind → Type 0) → P k.True → P k.False → P k.Unknown → Opens g.truth P
  truth_opens P true_ false_ unknown = opens_either P (opens_either P (opens_token P k.True true_) (opens_token P k.False false_)) (opens_token P k.Unknown unknown)

  is_truth_f : (x : Condition) → Finds rank 6 (lang.◌<$>◌ (b.Is x) g.truth) (r.truth_after n reader x)
  unfolding r.truth_after
  is_truth_f x = record {
    finds = λ w rest y h small. route (r.truth_after_by n reader x) 6 (map_f 6 (b.Is x) (truth_f 6))
        (opens_then (Goes (r.truth_after_by n reader x) (rd.◌<$>◌ (b.Is x) r.truth)) (truth_opens (Goes (r.truth_after_by n reader x) (rd.◌<$>◌ (b.Is x) r.truth)) refl refl refl)) w rest y h small;
  }

  not_truth_f : (x : Condition) → Finds rank 6 (lang.◌>>◌ (lang.token k.Not) (lang.◌<$>◌ (λ y. b.Not (b.Is x y)) g.truth)) (r.truth_after n reader x)
  unfolding r.truth_after
  not_truth_f x = record { finds = λ w rest y h small. pick (r.truth_after_by n reader x) k.Not 6 refl (seq_f 6 k.Not (map_f 6 (λ y. b.Not (b.Is x y)) (truth_f 6))) w rest y h small }

  quiet_is : (x : Condition) (kind : Kind) → rank kind ≤ 6 → r.is_by n reader x kind ≡ pure x
  quiet_is x k.Is small = absurd (omega arith)
  quiet_is x _ small = refl

  is_after_f : (x : Condition) → Finds rank 6 (g.is_after inner x) (r.is_after n reader x)
  unfolding g.is_after r.is_after
  is_after_f x = record { finds = go x }
    where
      go : (x : Condition) (w rest : Lexemes) (y : Condition)
          → lang.◌∪◌ (lang.◌∪◌ (lang.pure x) (lang.◌>>◌ (lang.token k.Is) (lang.◌<$>◌ (b.Is x) g.truth))) (lang.◌>>◌ (lang.token k.Is) (lang.◌>>◌ (lang.token k.Not) (lang.◌<$>◌ (λ y. b.Not (b.Is x y)) g.truth))) w y
          → rank (kind_at rest) ≤ 6 → Accepts (by_kind (r.is_by n reader x) (w ++ rest)) y rest
      go x w rest y (inl (inl h)) small =
          subst (λ t. Accepts (by_kind (r.is_by n reader x) (t ++ rest)) y rest) (sym h.0)
          (subst (λ p. Accepts (p rest) y rest) (sym (quiet_is x (kind_at rest) small)) ((finds_pure rank 6 x).finds [] rest y (refl, h.1) small))
      go x w rest y (inl (inr h)) small = pick (r.is_by n reader x) k.Is 6 refl (seq_f 6 k.Is (is_truth_f x)) w rest y h small
      go x w rest y (inr h) small = pick (r.is_by n reader x) k.Is 6 refl (seq_f 6 k.Is (not_truth_f x)) w rest y h small

  is_after_follows : (x : Condition) → Follows 7 6 (g.is_after inner x)
  unfolding g.is_after
  is_after_follows x = follows_either 7 6 (follows_either 7 6 (follows_pure 7 6 x (omega arith)) (follows_opens 7 6 (opens_token (λ kind. rank kind ≤ 7) k.Is (omega arith)))) (follows_opens 7 6 (opens_token (λ kind. rank kind ≤ 7) k.Is (omega arith)))

  -- ---- a condition in parentheses, or a factor

  abbrev first : Language PartInParentheses
  first w (part.Condition x) = lang.◌∪◌ (lang.parens (g.inner_cond inner)) (g.exists inner) w x
  first w (part.Expression x) = g.factor inner w x
  first w (part.Query x) = ⊥

  -- a factor begins with another token than a parenthesis, or stands in parentheses
  abbrev Bare : Kind → Type 0
  Bare = Goes (r.first_by n reader) (rd.◌<$>◌ part.Expression (r.factor n reader))

  aggregate_bare : Opens g.aggregate Bare
  aggregate_bare = aggregate_opens Bare refl refl refl refl

  factor_split : (w rest : Lexemes) (x : Expression) → g.factor inner w x → Bare (kind_at (w ++ rest)) ⊎ (lang.parens (g.inner_expr inner) w x ⊎ lang.◌<$>◌ e.Subquery (lang.parens (g.inner_query inner)) w x)
  unfolding g.factor g.prim g.other_prim
  factor_split w rest x (inl (inl (inl (inl h)))) = inl (opens_token Bare k.Number refl w rest x h)
  factor_split w rest x (inl (inl (inl (inr (inl (inl (inl (inl h)))))))) = inl (opens_token Bare k.Text refl w rest x h)
  factor_split w rest x (inl (inl (inl (inr (inl (inl (inl (inr h)))))))) = inl (opens_then Bare (column_opens Bare refl) w rest x h)
  factor_split w rest x (inl (inl (inl (inr (inl (inl (inr h))))))) = inl (aggregate_bare w rest x h)
  factor_split w rest x (inl (inl (inl (inr (inl (inr h)))))) = inr (inl h)
  factor_split w rest x (inl (inl (inl (inr (inr h))))) = inr (inr h)
  factor_split w rest x (inl (inl (inr h))) = inl (opens_token Bare k.Plus refl w rest x h)
  factor_split w rest x (inl (inr h)) = inl (opens_token Bare k.Minus refl w rest x h)
  factor_split w rest x (inr h) = inl (opens_token Bare k.Minus refl w rest x h)

  -- what a test in parentheses may be
  test_cond : Language PartInParentheses
  test_cond w (part.Condition x) = g.inner_cond inner w x
  test_cond w (part.Expression x) = lang.◌∪◌ (g.inner_expr inner) (lang.◌<$>◌ e.Subquery (g.inner_query inner)) w x
  test_cond w (part.Query x) = ⊥

  inner_test_f : (m : ℕ) → n ≡ suc m → Finds rank 0 test_cond (r.inner_test n reader)
  unfolding test_cond r.inner_test
  inner_test_f m is = record { finds = go m is }
    where
      go : (m : ℕ) → n ≡ suc m → (w rest : Lexemes) (x : PartInParentheses) → test_cond w x → rank (kind_at rest) ≤ 0 → Accepts (rd.◌>>=◌ (reader want.Any) r.as_test (w ++ rest)) x rest
      go m is w rest (part.Condition x) h small = accepts_through (reader want.Any) r.as_test (w ++ rest) rest rest (part.Condition x) (part.Condition x) ((f m is want.Any).finds w rest (part.Condition x) h small) (inl refl)
      go m is w rest (part.Expression x) (inl h) small = accepts_through (reader want.Any) r.as_test (w ++ rest) rest rest (part.Expression x) (part.Expression x) ((f m is want.Any).finds w rest (part.Expression x) h small) (inl refl)
      go m is w rest (part.Expression x) (inr h) small =
          let o = mapped e.Subquery (g.inner_query inner) w x h in
          subst (λ y. Accepts (rd.◌>>=◌ (reader want.Any) r.as_test (w ++ rest)) (part.Expression y) rest) (sym o.2)
          (accepts_through (reader want.Any) r.as_test (w ++ rest) rest rest (part.Query o.0) (part.Expression (e.Subquery o.0)) ((f m is want.Any).finds w rest (part.Query o.0) o.1 small) (inl refl))
      go m is w rest (part.Query x) h small = absurd h

  exists_f : (m : ℕ) → Finds rank m (g.exists inner) (r.exists n reader)
  unfolding r.exists
  exists_f m = seq_f m k.Exists (map_f m b.Exists (finds_parens rank m n (g.inner_query inner) (r.inner_query n reader) (omega arith) inner_query_f))

  exists_opens : (P : Kind → Type 0) → P k.Exists → Opens (g.exists inner) P
  exists_opens P exists = opens_token P k.Exists exists

  expr_in_test : (v : Lexemes) (x : Expression) → g.inner_expr inner v x → test_cond v (part.Expression x)
  unfolding test_cond
  expr_in_test v x m = inl m

  query_in_test : (v : Lexemes) (x : Expression) → lang.◌<$>◌ e.Subquery (g.inner_query inner) v x → test_cond v (part.Expression x)
  unfolding test_cond
  query_in_test v x m = inr m

  cond_in_test : (v : Lexemes) (x : Condition) → g.inner_cond inner v x → test_cond v (part.Condition x)
  unfolding test_cond
  cond_in_test v x m = m

  first_f : Finds rank 9 first (r.first n reader)
  unfolding r.first
  first_f = record { finds = go }
    where
      inside : Finds rank 9 (lang.parens test_cond) (parens n (r.inner_test n reader))
      inside = finds_parens rank 9 n test_cond (r.inner_test n reader) (omega arith) inner_test_f

      either : (w rest : Lexemes) (x : Expression) → g.factor inner w x → rank (kind_at rest) ≤ 9 → Bare (kind_at (w ++ rest)) ⊎ (lang.parens (g.inner_expr inner) w x ⊎ lang.◌<$>◌ e.Subquery (lang.parens (g.inner_query inner)) w x) → Accepts (by_kind (r.first_by n reader) (w ++ rest)) (part.Expression x) rest
      either w rest x h small (inl e) = subst (λ p. Accepts (p (w ++ rest)) (part.Expression x) rest) (sym e) ((map_f 9 part.Expression factor_f).finds w rest (part.Expression x) (mapping part.Expression (g.factor inner) w x h) small)
      either w rest x h small (inr (inl p)) = pick (r.first_by n reader) k.Open 9 refl inside w rest (part.Expression x) (parens_into (g.inner_expr inner) test_cond w x (part.Expression x) (λ v m. expr_in_test v x m) p) small
      either w rest x h small (inr (inr p)) = pick (r.first_by n reader) k.Open 9 refl inside w rest (part.Expression x) (parens_into (lang.◌<$>◌ e.Subquery (g.inner_query inner)) test_cond w x (part.Expression x) (λ v m. query_in_test v x m) (map_parens e.Subquery (g.inner_query inner) w x p)) small

      go : (w rest : Lexemes) (x : PartInParentheses) → first w x → rank (kind_at rest) ≤ 9 → Accepts (by_kind (r.first_by n reader) (w ++ rest)) x rest
      go w rest (part.Condition x) (inl h) small = pick (r.first_by n reader) k.Open 9 refl inside w rest (part.Condition x) (parens_into (g.inner_cond inner) test_cond w x (part.Condition x) (λ v m. cond_in_test v x m) h) small
      go w rest (part.Condition x) (inr h) small =
          let P : Kind → Type 0 = Goes (r.first_by n reader) (rd.◌<$>◌ part.Condition (r.exists n reader)) in
          route (r.first_by n reader) 9 (map_f 9 part.Condition (exists_f 9)) (opens_then P (exists_opens P refl)) w rest (part.Condition x) (mapping part.Condition (g.exists inner) w x h) small
      go w rest (part.Expression x) h small = either w rest x h small (factor_split w rest x h)
      go w rest (part.Query x) h small = absurd h

  first_opens : (P : Kind → Type 0) → Test P → Opens first P
  first_opens P o w rest (part.Condition x) (inl h) = opens_token P k.Open o.operand.other.open_ w rest x h
  first_opens P o w rest (part.Condition x) (inr h) = opens_token P k.Exists o.exists w rest x h
  first_opens P o w rest (part.Expression x) h = factor_opens P o.operand w rest x h
  first_opens P o w rest (part.Query x) h = absurd h

  abbrev test_from : PartInParentheses → Language Condition
  test_from (part.Condition x) = g.is_after inner x
  test_from (part.Expression x) = Then (expr_after x) (λ left. Then (g.comparison inner left) (g.is_after inner))
  test_from (part.Query x) = λ w y. ⊥

  tail_follows : (x : Expression) → Follows 9 6 (Then (expr_after x) (λ left. Then (g.comparison inner left) (g.is_after inner)))
  tail_follows x = follows_then 9 7 6 (expr_after_follows x) (λ left. follows_then 7 7 6 (comparison_follows 7 left) is_after_follows)

  test_from_f : (w : Lexemes) (x : PartInParentheses) → first w x → Finds rank 6 (test_from x) (r.test_from n reader x)
  test_from_f w (part.Condition x) h = is_after_f x
  test_from_f w (part.Expression x) h = then_f 7 6 (expr_after_f x) (λ w left h. then_f 7 6 (comparison_f left) (λ w y h. is_after_f y) is_after_follows) (λ left. follows_then 7 7 6 (comparison_follows 7 left) is_after_follows)
  test_from_f w (part.Query x) h = absurd h

  test_from_follows : (x : PartInParentheses) → Follows 9 6 (test_from x)
  test_from_follows (part.Condition x) = λ w rest y h small. let three = is_after_follows x w rest y h small in omega arith
  test_from_follows (part.Expression x) = tail_follows x
  test_from_follows (part.Query x) = λ w rest y h small. absurd h

  -- an expression and what makes a condition of it, by its first factor
  apart : {A : Type 0} (M : Condition → Language A) (w : Lexemes) (c : A) → Then (Then (g.expr inner) (g.comparison inner)) M w c
      → Then (g.factor inner) (λ x. Then (expr_after x) (λ left. Then (g.comparison inner left) M)) w c
  apart M w c h =
      regroup (g.factor inner) expr_after (λ left. Then (g.comparison inner left) M) w c
      (then_into (g.expr inner) (Then (g.factor inner) expr_after) (λ left. Then (g.comparison inner left) M) (λ left. Then (g.comparison inner left) M) expr_to (λ y w z h. h) w c
      (regroup (g.expr inner) (g.comparison inner) M w c h))

  -- a condition by what it begins with
  begun : {A : Type 0} (M : Condition → Language A) (N : PartInParentheses → Language A) → ((x : Condition) (w : Lexemes) (c : A) → M x w c → N (part.Condition x) w c)
      → ((x : Expression) (w : Lexemes) (c : A) → Then (expr_after x) (λ left. Then (g.comparison inner left) M) w c → N (part.Expression x) w c)
      → (w : Lexemes) (c : A) → Then (g.bprim inner) M w c → Then first N w c
  unfolding g.bprim
  begun M N one two w c h = go M N one two h.tree h.split.front h.split.back w c h.split.cut h.split.first h.split.second
    where
      go : {A : Type 0} (M : Condition → Language A) (N : PartInParentheses → Language A) → ((x : Condition) (w : Lexemes) (c : A) → M x w c → N (part.Condition x) w c)
          → ((x : Expression) (w : Lexemes) (c : A) → Then (expr_after x) (λ left. Then (g.comparison inner left) M) w c → N (part.Expression x) w c)
          → (y : Condition) (front back w : Lexemes) (c : A) → w ≡ front ++ back → lang.◌∪◌ (lang.◌∪◌ (lang.parens (g.inner_cond inner)) (g.exists inner)) (lang.◌>>=◌ (g.expr inner) (g.comparison inner)) front y → M y back c → Then first N w c
      go M N one two y front back w c cut (inl h) k = record { tree = part.Condition y; split = record { front = front; back = back; cut = cut; first = h; second = one y back c k } }
      go M N one two y front back w c cut (inr h) k =
          let a = apart M w c (record { tree = y; split = record { front = front; back = back; cut = cut; first = h; second = k } }) in
          record { tree = part.Expression a.tree; split = record { front = a.split.front; back = a.split.back; cut = a.split.cut; first = a.split.first; second = two a.tree a.split.back c a.split.second } }

  btest_to : (w : Lexemes) (c : Condition) → g.btest inner w c → Then first test_from w c
  unfolding g.btest
  btest_to w c h = begun (g.is_after inner) test_from (λ x w c h. h) (λ x w c h. h) w c h

  btest_f : Finds rank 6 (g.btest inner) (r.btest n reader)
  unfolding r.btest
  btest_f = few btest_to (then_f 9 6 first_f test_from_f test_from_follows)

  btest_opens : (P : Kind → Type 0) → Test P → Opens (g.btest inner) P
  btest_opens P o w rest c h = opens_then P (first_opens P o) w rest c (btest_to w c h)

  bfact_f : Finds rank 6 (g.bfact inner) (r.bfact n reader)
  unfolding g.bfact r.bfact
  bfact_f = record { finds = go }
    where
      go : (w rest : Lexemes) (x : Condition) → lang.◌∪◌ (g.btest inner) (lang.◌>>◌ (lang.token k.Not) (lang.◌<$>◌ b.Not (g.btest inner))) w x → rank (kind_at rest) ≤ 6 → Accepts (by_kind (r.bfact_by n reader) (w ++ rest)) x rest
      go w rest x (inl h) small = route (r.bfact_by n reader) 6 btest_f (btest_opens (Goes (r.bfact_by n reader) (r.btest n reader)) (record { operand = (record { other = (record { text = refl; name = refl; open_ = refl; count = refl; sum = refl; min = refl; max = refl }); number = refl; plus = refl; minus = refl }); exists = refl })) w rest x h small
      go w rest x (inr h) small = pick (r.bfact_by n reader) k.Not 6 refl (seq_f 6 k.Not (map_f 6 b.Not btest_f)) w rest x h small

  and_after_f : (x : Condition) → Finds rank 5 (g.and_after inner x) (r.and_after n reader x)
  unfolding g.and_after r.and_after r.and_item
  and_after_f x = map_f 5 g.and_of (all_f 6 5 r.is_and (and_loop inner) (seq_f 6 k.And bfact_f) (x ∷ []))

  and_after_follows : (x : Condition) → Follows 6 5 (g.and_after inner x)
  unfolding g.and_after
  and_after_follows x = follows_map 6 5 g.and_of (follows_behind (x ∷ []) (and_loop inner))

  bterm_f : Finds rank 5 (g.bterm inner) (r.bterm n reader)
  unfolding g.bterm r.bterm
  bterm_f = then_f 6 5 bfact_f (λ w x h. and_after_f x) and_after_follows

  or_after_f : (x : Condition) → Finds rank 4 (g.or_after inner x) (r.or_after n reader x)
  unfolding g.or_after r.or_after r.or_item
  or_after_f x = map_f 4 g.or_of (all_f 5 4 r.is_or (or_loop inner) (seq_f 5 k.Or bterm_f) (x ∷ []))

  or_after_follows : (x : Condition) → Follows 5 4 (g.or_after inner x)
  unfolding g.or_after
  or_after_follows x = follows_map 5 4 g.or_of (follows_behind (x ∷ []) (or_loop inner))

  abbrev cond_after : Condition → Language Condition
  cond_after x = Then (g.and_after inner x) (g.or_after inner)

  cond_after_f : (x : Condition) → Finds rank 4 (cond_after x) (r.cond_after n reader x)
  unfolding r.cond_after
  cond_after_f x = then_f 5 4 (and_after_f x) (λ w y h. or_after_f y) or_after_follows

  cond_after_follows : (x : Condition) → Follows 6 4 (cond_after x)
  cond_after_follows x = follows_then 6 5 4 (and_after_follows x) or_after_follows

  cond_to : (w : Lexemes) (c : Condition) → g.cond inner w c → Then (g.bfact inner) cond_after w c
  unfolding g.cond g.bterm
  cond_to w c h = regroup (g.bfact inner) (g.and_after inner) (g.or_after inner) w c h

  condition_f : Finds rank 4 (g.cond inner) (r.condition n reader)
  unfolding r.condition
  condition_f = few cond_to (then_f 6 4 bfact_f (λ w x h. cond_after_f x) cond_after_follows)

  -- ---- queries

  selected_f : Finds rank 0 (g.selected inner) (r.selected n reader)
  unfolding g.selected r.selected
  selected_f = record { finds = go }
    where
      go : (w rest : Lexemes) (x : SelectList) → lang.◌∪◌ (lang.◌>>◌ (lang.token k.Star) (lang.pure which.Star)) (lang.◌<$>◌ which.One (g.expr inner)) w x → rank (kind_at rest) ≤ 0 → Accepts (by_kind (r.selected_by n reader) (w ++ rest)) x rest
      go w rest x (inl h) small = pick (r.selected_by n reader) k.Star 0 refl (seq_f 0 k.Star (finds_pure rank 0 which.Star)) w rest x h small
      go w rest x (inr h) small =
          let P : Kind → Type 0 = Goes (r.selected_by n reader) (rd.◌<$>◌ which.One (r.expr n reader)) in
          route (r.selected_by n reader) 0 (map_f 0 which.One (lower 0 7 (omega arith) expr_f)) (opens_then P (expr_opens P (record { other = (record { text = refl; name = refl; open_ = refl; count = refl; sum = refl; min = refl; max = refl }); number = refl; plus = refl; minus = refl }))) w rest x h small

  where_f : Finds rank 2 (g.where_clause inner) (r.where_clause n reader)
  unfolding g.where_clause r.where_clause
  where_f = optional_f 2 k.Where (omega arith) (opens_token (λ next. next ≡ k.Where) k.Where refl) (seq_f 2 k.Where (lower 2 4 (omega arith) condition_f))

  where_follows : Follows 3 2 (g.where_clause inner)
  unfolding g.where_clause
  where_follows = optional_follows 3 2 k.Where (omega arith) (omega arith) (opens_token (λ next. next ≡ k.Where) k.Where refl)

  having_f : Finds rank 0 (g.having inner) (r.having n reader)
  unfolding g.having r.having
  having_f = optional_f 0 k.Having (omega arith) (opens_token (λ next. next ≡ k.Having) k.Having refl) (seq_f 0 k.Having (lower 0 4 (omega arith) condition_f))

  having_follows : Follows 1 0 (g.having inner)
  unfolding g.having
  having_follows = optional_follows 1 0 k.Having (omega arith) (omega arith) (opens_token (λ next. next ≡ k.Having) k.Having refl)

  group_having_follows : (list : SelectList) (table : List ℕ) (other : Option (List ℕ)) (keeps : Option Condition) → Follows 2 0 (lang.◌>>=◌ g.group_by (λ group. lang.◌<$>◌ (g.query_of list table other keeps group) (g.having inner)))
  group_having_follows list table other keeps = follows_then 2 1 0 group_by_follows (λ group. follows_map 1 0 (g.query_of list table other keeps group) having_follows)

  query_rest_f : (list : SelectList) (table : List ℕ) (other : Option (List ℕ)) → Finds rank 0 (g.query_rest inner list table other) (r.query_rest n reader list table other)
  unfolding g.query_rest r.query_rest
  query_rest_f list table other =
      then_f 2 0 where_f
      (λ w keeps h. then_f 1 0 group_by_f (λ w group h. map_f 0 (g.query_of list table other keeps group) having_f) (λ group. follows_map 1 0 (g.query_of list table other keeps group) having_follows))
      (group_having_follows list table other)

  query_rest_follows : (list : SelectList) (table : List ℕ) (other : Option (List ℕ)) → Follows 3 0 (g.query_rest inner list table other)
  unfolding g.query_rest
  query_rest_follows list table other = follows_then 3 2 0 where_follows (group_having_follows list table other)

  query_from_f : (list : SelectList) → Finds rank 0 (g.query_from inner list) (r.query_from n reader list)
  unfolding g.query_from r.query_from
  query_from_f list = finds_then (λ _. 0) rank 0 0 _ _ r.name _ (free_name) (λ w table h. then_f 3 0 (lower 3 4 (omega arith) correlation_name_f) (λ w other h. query_rest_f list table other) (query_rest_follows list table)) (λ x v rest b h small. omega arith)

  query_f : Finds rank 0 (g.query inner) (r.query n reader)
  unfolding g.query r.query
  query_f = seq_f 0 k.Select (then_f 0 0 selected_f (λ w list h. seq_f 0 k.From (query_from_f list)) (λ list. follows_opens 0 0 (opens_token (λ kind. rank kind ≤ 0) k.From (omega arith))))

  query_opens : (P : Kind → Type 0) → P k.Select → Opens (g.query inner) P
  unfolding g.query
  query_opens P select = opens_token P k.Select select

  -- ---- either

  abbrev rest_from : Condition → Language Condition
  rest_from x = Then (g.is_after inner x) cond_after

  rest_from_f : (x : Condition) → Finds rank 4 (rest_from x) (λ ts. rd.◌>>=◌ (r.is_after n reader x) (r.cond_after n reader) ts)
  rest_from_f x = then_f 6 4 (is_after_f x) (λ w y h. cond_after_f y) cond_after_follows

  rest_from_follows : (x : Condition) → Follows 7 4 (rest_from x)
  rest_from_follows x = follows_then 7 6 4 (is_after_follows x) cond_after_follows

  abbrev any_after : Expression → Language PartInParentheses
  any_after left = lang.◌∪◌ (lang.◌<$>◌ part.Condition (Then (g.comparison inner left) rest_from)) (lang.pure (part.Expression left))

  abbrev any_from : PartInParentheses → Language PartInParentheses
  any_from (part.Condition x) = lang.◌<$>◌ part.Condition (rest_from x)
  any_from (part.Expression x) = Then (expr_after x) any_after
  any_from (part.Query x) = λ w y. ⊥

  quiet_comparison : (kind : Kind) → rank kind ≤ 4 → r.begins_comparison kind ≡ false
  quiet_comparison k.Equal small = absurd (omega arith)
  quiet_comparison k.NotEqual small = absurd (omega arith)
  quiet_comparison k.Less small = absurd (omega arith)
  quiet_comparison k.AtMost small = absurd (omega arith)
  quiet_comparison k.Greater small = absurd (omega arith)
  quiet_comparison k.AtLeast small = absurd (omega arith)
  quiet_comparison k.Is small = absurd (omega arith)
  quiet_comparison k.Not small = absurd (omega arith)
  quiet_comparison k.Between small = absurd (omega arith)
  quiet_comparison k.In small = absurd (omega arith)
  quiet_comparison _ small = refl

  compared_whole : (left : Expression) → Finds rank 4 (lang.◌<$>◌ part.Condition (Then (g.comparison inner left) rest_from)) (r.any_by n reader left true)
  compared_whole left = map_f 4 part.Condition (then_f 7 4 (comparison_f left) (λ w x h. rest_from_f x) rest_from_follows)

  any_after_f : (left : Expression) → Finds rank 4 (any_after left) (r.any_after n reader left)
  unfolding r.any_after
  any_after_f left = record { finds = go left }
    where
      go : (left : Expression) (w rest : Lexemes) (x : PartInParentheses) → any_after left w x → rank (kind_at rest) ≤ 4 → Accepts (by_kind (λ kind. r.any_by n reader left (r.begins_comparison kind)) (w ++ rest)) x rest
      go left w rest x (inl h) small =
          let begins = opens_then (λ kind. r.begins_comparison kind ≡ true) (opens_then (λ kind. r.begins_comparison kind ≡ true) (comparison_opens (λ kind. r.begins_comparison kind ≡ true) left refl refl refl refl refl refl refl refl refl refl)) w rest x h in
          subst (λ t. Accepts (r.any_by n reader left t (w ++ rest)) x rest) (sym begins) ((compared_whole left).finds w rest x h small)
      go left w rest x (inr h) small =
          subst (λ t. Accepts (by_kind (λ kind. r.any_by n reader left (r.begins_comparison kind)) (t ++ rest)) x rest) (sym h.0)
          (subst (λ t. Accepts (r.any_by n reader left t rest) x rest) (sym (quiet_comparison (kind_at rest) small)) ((finds_pure rank 4 (part.Expression left)).finds [] rest x (refl, h.1) small))

  any_after_follows : (left : Expression) → Follows 7 4 (any_after left)
  any_after_follows left = follows_either 7 4 (follows_map 7 4 part.Condition (follows_then 7 7 4 (comparison_follows 7 left) rest_from_follows)) (follows_pure 7 4 (part.Expression left) (omega arith))

  any_from_f : (w : Lexemes) (x : PartInParentheses) → first w x → Finds rank 4 (any_from x) (r.any_from n reader x)
  any_from_f w (part.Condition x) h = map_f 4 part.Condition (rest_from_f x)
  any_from_f w (part.Expression x) h = then_f 7 4 (expr_after_f x) (λ w left h. any_after_f left) any_after_follows
  any_from_f w (part.Query x) h = absurd h

  any_from_follows : (x : PartInParentheses) → Follows 9 4 (any_from x)
  any_from_follows (part.Condition x) = λ w rest y h small. let three = follows_map 7 4 part.Condition (rest_from_follows x) w rest y h small in omega arith
  any_from_follows (part.Expression x) = follows_then 9 7 4 (expr_after_follows x) any_after_follows
  any_from_follows (part.Query x) = λ w rest y h small. absurd h

  any_f : Finds rank 4 (Then first any_from) (rd.◌>>=◌ (r.first n reader) (r.any_from n reader))
  any_f = then_f 9 4 first_f any_from_f any_from_follows

  any_of_expr : (w : Lexemes) (x : Expression) → g.expr inner w x → Then first any_from w (part.Expression x)
  any_of_expr w x h =
      let t = expr_to w x h in
      let s = t.split in
      record {
        tree = part.Expression t.tree;
        split = record {
          front = s.front;
          back = s.back;
          cut = s.cut;
          first = s.first;
          second =
              record { tree = x; split = record { front = s.back; back = []; cut = sym (append-nil s.back); first = s.second; second = inr (refl, refl) } };
        };
      }

  any_of_test : (w : Lexemes) (x : Condition) → Then (g.btest inner) cond_after w x → Then first any_from w (part.Condition x)
  unfolding g.btest
  any_of_test w x h =
      begun (λ y. lang.◌<$>◌ part.Condition (rest_from y)) any_from (λ y w z h. h) (λ y w z h. into y w z h) w (part.Condition x) (whole w x (regroup (g.bprim inner) (g.is_after inner) cond_after w x h))
    where
      whole : (w : Lexemes) (x : Condition) → Then (g.bprim inner) rest_from w x → Then (g.bprim inner) (λ y. lang.◌<$>◌ part.Condition (rest_from y)) w (part.Condition x)
      whole w x h = record { tree = h.tree; split = record { front = h.split.front; back = h.split.back; cut = h.split.cut; first = h.split.first; second = mapping part.Condition (rest_from h.tree) h.split.back x h.split.second } }

      into : (y : Expression) (w : Lexemes) (z : PartInParentheses) → Then (expr_after y) (λ left. Then (g.comparison inner left) (λ u. lang.◌<$>◌ part.Condition (rest_from u))) w z → Then (expr_after y) any_after w z
      into y w z h = record {
        tree = h.tree;
        split = record {
          front = h.split.front;
          back = h.split.back;
          cut = h.split.cut;
          first = h.split.first;
          second =
              inl (regroup_left (g.comparison inner h.tree) rest_from (λ c. lang.pure (part.Condition c)) h.split.back z h.split.second);
        };
      }

  open_bfact : (w : Lexemes) (x : Condition) → g.bfact inner w x → lang.◌∪◌ (g.btest inner) (lang.◌>>◌ (lang.token k.Not) (lang.◌<$>◌ b.Not (g.btest inner))) w x
  unfolding g.bfact
  open_bfact w x h = h

  found_f : Finds rank 0 (g.found inner) (r.any n reader)
  unfolding r.any
  found_f = record { finds = go }
    where
      by_first : (w rest : Lexemes) (x : PartInParentheses) → Goes (r.any_of n reader) (rd.◌>>=◌ (r.first n reader) (r.any_from n reader)) (kind_at (w ++ rest)) → Then first any_from w x → rank (kind_at rest) ≤ 0 → Accepts (by_kind (r.any_of n reader) (w ++ rest)) x rest
      by_first w rest x e h small = subst (λ p. Accepts (p (w ++ rest)) x rest) (sym e) ((lower 0 4 (omega arith) any_f).finds w rest x h small)

      cond_at : (w rest : Lexemes) (x : Condition) → g.cond inner w x → (y : Condition) (front back : Lexemes) → w ≡ front ++ back
          → lang.◌∪◌ (g.btest inner) (lang.◌>>◌ (lang.token k.Not) (lang.◌<$>◌ b.Not (g.btest inner))) front y → cond_after y back x → rank (kind_at rest) ≤ 0 → Accepts (by_kind (r.any_of n reader) (w ++ rest)) (part.Condition x) rest
      cond_at w rest x whole y front back cut (inl h) after small =
          let t : Then (g.btest inner) cond_after w x = record { tree = y; split = record { front = front; back = back; cut = cut; first = h; second = after } } in
          let P : Kind → Type 0 = Goes (r.any_of n reader) (rd.◌>>=◌ (r.first n reader) (r.any_from n reader)) in
          by_first w rest (part.Condition x) (opens_then P (btest_opens P (record { operand = (record { other = (record { text = refl; name = refl; open_ = refl; count = refl; sum = refl; min = refl; max = refl }); number = refl; plus = refl; minus = refl }); exists = refl })) w rest x t) (any_of_test w x t) small
      cond_at w rest x whole y front back cut (inr h) after small =
          let P : Kind → Type 0 = Goes (r.any_of n reader) (rd.◌<$>◌ part.Condition (r.condition n reader)) in
          let t : Then (lang.◌>>◌ (lang.token k.Not) (lang.◌<$>◌ b.Not (g.btest inner))) cond_after w x = record { tree = y; split = record { front = front; back = back; cut = cut; first = h; second = after } } in
          let e = opens_then P (opens_token P k.Not refl) w rest x t in
          subst (λ p. Accepts (p (w ++ rest)) (part.Condition x) rest) (sym e) ((lower 0 4 (omega arith) (map_f 4 part.Condition condition_f)).finds w rest (part.Condition x) (mapping part.Condition (g.cond inner) w x whole) small)

      go : (w rest : Lexemes) (x : PartInParentheses) → g.found inner w x → rank (kind_at rest) ≤ 0 → Accepts (by_kind (r.any_of n reader) (w ++ rest)) x rest
      go w rest (part.Condition x) h small = let t = cond_to w x h in cond_at w rest x h t.tree t.split.front t.split.back t.split.cut (open_bfact t.split.front t.tree t.split.first) t.split.second small
      go w rest (part.Expression x) h small =
          let P : Kind → Type 0 = Goes (r.any_of n reader) (rd.◌>>=◌ (r.first n reader) (r.any_from n reader)) in
          by_first w rest (part.Expression x) (expr_opens P (record { other = (record { text = refl; name = refl; open_ = refl; count = refl; sum = refl; min = refl; max = refl }); number = refl; plus = refl; minus = refl }) w rest x h) (any_of_expr w x h) small
      go w rest (part.Query x) h small =
          let P : Kind → Type 0 = Goes (r.any_of n reader) (rd.◌<$>◌ part.Query (r.query n reader)) in
          route (r.any_of n reader) 0 (map_f 0 part.Query query_f) (opens_then P (query_opens P refl)) w rest (part.Query x) (mapping part.Query (g.query inner) w x h) small

  asked_cond : (w : Lexemes) (x : PartInParentheses) → g.wanted_part want.Condition (g.found inner) w x → lang.◌<$>◌ part.Condition (g.cond inner) w x
  asked_cond w (part.Condition x) h = mapping part.Condition (g.cond inner) w x h
  asked_cond w (part.Expression x) h = absurd h
  asked_cond w (part.Query x) h = absurd h

  asked_expr : (w : Lexemes) (x : PartInParentheses) → g.wanted_part want.Expression (g.found inner) w x → lang.◌<$>◌ part.Expression (g.expr inner) w x
  asked_expr w (part.Expression x) h = mapping part.Expression (g.expr inner) w x h
  asked_expr w (part.Condition x) h = absurd h
  asked_expr w (part.Query x) h = absurd h

  asked_query : (w : Lexemes) (x : PartInParentheses) → g.wanted_part want.Query (g.found inner) w x → lang.◌<$>◌ part.Query (g.query inner) w x
  asked_query w (part.Query x) h = mapping part.Query (g.query inner) w x h
  asked_query w (part.Condition x) h = absurd h
  asked_query w (part.Expression x) h = absurd h

  operand_f : Finds rank 0 (g.wanted_part want.Operand (g.found inner)) (r.operand n reader)
  unfolding r.operand
  operand_f = record { finds = go }
    where
      go : (w rest : Lexemes) (x : PartInParentheses) → g.wanted_part want.Operand (g.found inner) w x → rank (kind_at rest) ≤ 0 → Accepts (by_kind (r.operand_by n reader) (w ++ rest)) x rest
      go w rest (part.Expression x) h small =
          let P : Kind → Type 0 = Goes (r.operand_by n reader) (rd.◌<$>◌ part.Expression (r.expr n reader)) in
          route (r.operand_by n reader) 0 (map_f 0 part.Expression (lower 0 7 (omega arith) expr_f)) (opens_then P (expr_opens P (record { other = (record { text = refl; name = refl; open_ = refl; count = refl; sum = refl; min = refl; max = refl }); number = refl; plus = refl; minus = refl }))) w rest (part.Expression x) (mapping part.Expression (g.expr inner) w x h) small
      go w rest (part.Query x) h small =
          let P : Kind → Type 0 = Goes (r.operand_by n reader) (rd.◌<$>◌ part.Query (r.query n reader)) in
          route (r.operand_by n reader) 0 (map_f 0 part.Query query_f) (opens_then P (query_opens P refl)) w rest (part.Query x) (mapping part.Query (g.query inner) w x h) small
      go w rest (part.Condition x) h small = absurd h

  level_f : (wanted : Want) → Finds rank (limit wanted) (g.wanted_part wanted (g.found inner)) (r.level n reader wanted)
  level_f want.Any = found_f
  level_f want.Operand = operand_f
  level_f want.Condition = few asked_cond (map_f 4 part.Condition condition_f)
  level_f want.Expression = few asked_expr (map_f 7 part.Expression expr_f)
  level_f want.Query = few asked_query (map_f 0 part.Query query_f)

-- ---- at each depth

nothing : (wanted : Want) (w : Lexemes) (x : PartInParentheses) → g.wanted_part wanted (g.nested zero) w x → ⊥
unfolding g.nested
nothing want.Any w x h = h
nothing want.Condition w (part.Condition x) h = h
nothing want.Condition w (part.Expression x) h = h
nothing want.Condition w (part.Query x) h = h
nothing want.Expression w (part.Condition x) h = h
nothing want.Expression w (part.Expression x) h = h
nothing want.Expression w (part.Query x) h = h
nothing want.Query w (part.Condition x) h = h
nothing want.Query w (part.Expression x) h = h
nothing want.Query w (part.Query x) h = h
nothing want.Operand w (part.Condition x) h = h
nothing want.Operand w (part.Expression x) h = h
nothing want.Operand w (part.Query x) h = h

-- one level of it
asked_level : (l : ℕ) (wanted : Want) (w : Lexemes) (x : PartInParentheses) → g.wanted_part wanted (g.nested (suc l)) w x → g.wanted_part wanted (g.found (g.nested l)) w x
unfolding g.nested
asked_level l want.Any w x h = h
asked_level l want.Condition w (part.Condition x) h = h
asked_level l want.Condition w (part.Expression x) h = h
asked_level l want.Condition w (part.Query x) h = h
asked_level l want.Expression w (part.Condition x) h = h
asked_level l want.Expression w (part.Expression x) h = h
asked_level l want.Expression w (part.Query x) h = h
asked_level l want.Query w (part.Condition x) h = h
asked_level l want.Query w (part.Expression x) h = h
asked_level l want.Query w (part.Query x) h = h
asked_level l want.Operand w (part.Condition x) h = h
asked_level l want.Operand w (part.Expression x) h = h
asked_level l want.Operand w (part.Query x) h = h

pub read_f : (n l : ℕ) (wanted : Want) → Finds rank (limit wanted) (g.wanted_part wanted (g.nested l)) (r.read n wanted)
unfolding r.read
read_f n zero wanted = record { finds = λ w rest x h small. absurd (nothing wanted w x h) }
read_f zero (suc l) wanted = few (asked_level l wanted) (level_f zero (g.nested l) (λ _. refuse) (λ m is. absurd (omega arith)) wanted)
read_f (suc n) (suc l) wanted =
    few (asked_level l wanted) (level_f (suc n) (g.nested l) (r.read n) (λ m is wanted. let same : n ≡ m = omega arith in read_f n l wanted) wanted)

-- ---- a condition, an expression, at the level of a statement

pub cond_at_f : (n l : ℕ) → Finds rank 4 (g.conditions l) (r.cond_at n)
unfolding r.cond_at
cond_at_f n l = record { finds = λ w rest x h small. accepts_through (r.read n want.Condition) r.as_cond (w ++ rest) rest rest (part.Condition x) x ((read_f n l want.Condition).finds w rest (part.Condition x) h small) (inl refl) }

pub expr_at_f : (n l : ℕ) → Finds rank 7 (g.expressions l) (r.expr_at n)
unfolding r.expr_at
expr_at_f n l = record { finds = λ w rest x h small. accepts_through (r.read n want.Expression) r.as_expr (w ++ rest) rest rest (part.Expression x) x ((read_f n l want.Expression).finds w rest (part.Expression x) h small) (inl refl) }

pub exact_conditions : Exact g.conditions r.cond_at
exact_conditions = record { sound = λ n. cond_at_s n (n + 2) (omega arith); finds = λ n l. lower 0 4 (omega arith) (cond_at_f n l) }

pub expressions_opens : (l : ℕ) (P : Kind → Type 0) → Operand P → Opens (g.expressions l) P
unfolding g.nested
expressions_opens zero P o = λ w rest x h. absurd h
expressions_opens (suc l) P o = expr_opens 0 (g.nested l) (λ _. refuse) (λ m is. absurd (omega arith)) P o
