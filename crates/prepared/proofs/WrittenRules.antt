-- Each rule of conditions, expressions and queries keeps the constants that are written.
use Rattle.std.proofs.Common.{◌≡◌, ℕ, zero, suc, ℤ, pos, negsuc, Bool, true, false, List, [], ◌∷◌, ◌++◌, map, Option, Some, None, Ok, Err, refl, sym, ap, subst, ◌∙◌, inl, inr, append-nil}
use Rattle.std.specs.Prelude.{if◌then◌else◌}
use Rattle.token.specs.declared.kinds.Kind.{Kind}
use Rattle.token.specs.declared.kinds.Kind.TheVariants as k
use Rattle.value.specs.declared.truths.Truth.TheVariants as t
use Rattle.value.specs.declared.comparisons.Comparison.TheVariants as c
use Rattle.value.specs.declared.values.Value.{Value}
use Rattle.value.specs.declared.values.Value.TheVariants as v
use Rattle.syntax.specs.declared.trees.Aggregate.{Aggregate}
use Rattle.syntax.specs.declared.trees.Aggregate.TheVariants as a
use Rattle.syntax.specs.declared.trees.SetQuantifier.{SetQuantifier}
use Rattle.syntax.specs.declared.trees.SetQuantifier.TheVariants as quantifier
use Rattle.syntax.specs.declared.trees.Condition.{Condition}
use Rattle.syntax.specs.declared.trees.Condition.TheVariants as b
use Rattle.syntax.specs.declared.trees.Expression.{Expression}
use Rattle.syntax.specs.declared.trees.Expression.TheVariants as e
use Rattle.syntax.specs.declared.trees.SelectList.{SelectList}
use Rattle.syntax.specs.declared.trees.SelectList.TheVariants as which
use Rattle.syntax.specs.declared.wants.PartInParentheses.{PartInParentheses}
use Rattle.syntax.specs.Grammar as g
use Rattle.syntax.specs.Language.{Lexeme, Lexemes, Language, Then, Behind}
use Rattle.syntax.specs.Language as lang
use Rattle.prepared.specs.declared.faults.FillFault.TheVariants.{NumberOutOfRange, TextNotPlain}
use Rattle.prepared.specs.Numbers.{is_number}
use Rattle.prepared.specs.Constants.{Argument, Constants, first_and_rest, and_then, then_made, both, all, next_by, constant_by, expression_by, expression_of}
use Rattle.prepared.specs.Conditions.{filled_expression, filled_condition, filled_select_list, filled_query}
use Rattle.prepared.specs.Written.{IsConstant, Writes, for_token, behind_token, written_token, tokens_with_constants}
use Rattle.prepared.proofs.Keeps.{Prior, Operand, Sign, Other, step, after, Ends, Any, Clear, ClearAt, left, Kept, Keeps, Quiet, keeps_pure, keeps_or, keeps_either, keeps_into, keeps_less, keeps_then, keeps_map, keeps_seq, keeps_parens, keeps_behind, keeps_quiet, keeps_optional, keeps_more, keeps_list, quiet_pure, quiet_or, quiet_seq, quiet_less, quiet_parens, quiet_token, quiet_map, quiet_then, quiet_optional}
use Rattle.prepared.proofs.Fills.{clause, of_number, of_text, of_column, of_countrows, of_aggregate, of_subquery, of_negation, of_not, of_is, of_exists, of_compare, of_isnull, of_between, of_in, of_star, of_one, of_query, product_filled, sum_filled, and_filled, or_filled}

-- ---- texts of few tokens

pub map_reads : {A B : Type 0} (make : A → B) (L : Language A) (w : Lexemes) (x : A) → L w x → lang.◌<$>◌ make L w (make x)
map_reads make L w x h = record { tree = x; split = record { front = w; back = []; cut = sym (append-nil w); first = h; second = (refl, refl) } }

pub seq_reads : {A : Type 0} (kind : Kind) (L : Language A) (x : Lexeme) (w : Lexemes) (y : A) → x.kind ≡ kind → L w y → lang.◌>>◌ (lang.token kind) L (x ∷ w) y
seq_reads kind L x w y e h = record { tree = x; split = record { front = x ∷ []; back = w; cut = refl; first = (refl, e); second = h } }

-- a token with its tree
pub record OfToken {A : Type 0} (kind : Kind) (make : Lexeme → A) (w : Lexemes) (x : A) : Type 0 where
  pub token : Lexeme
  pub are : w ≡ token ∷ []
  pub is_of : token.kind ≡ kind
  pub is : x ≡ make token

pub of_token : {A : Type 0} (kind : Kind) (make : Lexeme → A) (w : Lexemes) (x : A) → lang.◌<$>◌ make (lang.token kind) w x → OfToken kind make w x
of_token kind make w x h = record {
  token = h.tree;
  are = h.split.cut ∙ ap (λ z. z ++ h.split.back) h.split.first.0 ∙ ap (λ z. h.tree ∷ z) h.split.second.0;
  is_of = h.split.first.1;
  is = h.split.second.1;
}

-- how the constants of a written text are spelled
module _ (write : Argument → Lexemes) (ok : Value → Type 0) where
  -- ---- parts without a number

  pub quiet_name : (p : Prior) → Quiet write ok g.name p Ends
  quiet_name p = quiet_map write ok g.name_of (lang.token k.Name) p Ends (quiet_token write ok k.Name p refl)

  quiet_column_after : (x : Lexeme) (p : Prior) → Ends p → Quiet write ok (g.column_after x) p Ends
  unfolding g.column_after
  quiet_column_after x p q =
      quiet_or write ok _ _ p Ends (quiet_pure write ok _ p Ends q)
      (quiet_seq write ok k.Dot _ p Other Ends refl refl (quiet_map write ok _ (lang.token k.Name) Other Ends (quiet_token write ok k.Name Other refl)))

  pub quiet_column : (p : Prior) → Quiet write ok g.column p Ends
  unfolding g.column
  quiet_column p = quiet_then write ok (lang.token k.Name) g.column_after p Ends Ends (quiet_token write ok k.Name p refl) quiet_column_after

  quiet_quantified : (q : SetQuantifier) (p : Prior) → Quiet write ok (lang.◌<$>◌ (g.argument_of q) g.column) p Ends
  quiet_quantified q p = quiet_map write ok (g.argument_of q) g.column p Ends (quiet_column p)

  quiet_argument : (p : Prior) → Quiet write ok g.argument p Ends
  unfolding g.argument
  quiet_argument p =
      quiet_or write ok _ _ p Ends (quiet_or write ok _ _ p Ends
      (quiet_quantified quantifier.All p)
      (quiet_seq write ok k.All _ p Other Ends refl refl (quiet_quantified quantifier.All Other)))
      (quiet_seq write ok k.Distinct _ p Other Ends refl refl (quiet_quantified quantifier.Distinct Other))

  abbrev IsOther : Prior → Type 0
  IsOther q = q ≡ Other

  quiet_sign : (p : Prior) → Quiet write ok g.comparison_sign p IsOther
  quiet_sign p =
      quiet_or write ok _ _ p IsOther (quiet_or write ok _ _ p IsOther (quiet_or write ok _ _ p IsOther (quiet_or write ok _ _ p IsOther (quiet_or write ok _ _ p IsOther
      (quiet_seq write ok k.Equal _ p Other IsOther refl refl (quiet_pure write ok c.Equal Other IsOther refl))
      (quiet_seq write ok k.NotEqual _ p Other IsOther refl refl (quiet_pure write ok c.NotEqual Other IsOther refl)))
      (quiet_seq write ok k.Less _ p Other IsOther refl refl (quiet_pure write ok c.Less Other IsOther refl)))
      (quiet_seq write ok k.AtMost _ p Other IsOther refl refl (quiet_pure write ok c.AtMost Other IsOther refl)))
      (quiet_seq write ok k.Greater _ p Other IsOther refl refl (quiet_pure write ok c.Greater Other IsOther refl)))
      (quiet_seq write ok k.AtLeast _ p Other IsOther refl refl (quiet_pure write ok c.AtLeast Other IsOther refl))

  quiet_truth : (p : Prior) → Quiet write ok g.truth p Any
  quiet_truth p =
      quiet_or write ok _ _ p Any (quiet_or write ok _ _ p Any
      (quiet_seq write ok k.True _ p Other Any refl refl (quiet_pure write ok t.True Other Any tt))
      (quiet_seq write ok k.False _ p Other Any refl refl (quiet_pure write ok t.False Other Any tt)))
      (quiet_seq write ok k.Unknown _ p Other Any refl refl (quiet_pure write ok t.Unknown Other Any tt))

  some_name : (p : Prior) → Quiet write ok (lang.◌<$>◌ Some g.name) p Any
  some_name p = quiet_less write ok _ p Ends Any (λ q e. tt) (quiet_map write ok Some g.name p Ends (quiet_name p))

  pub quiet_correlation_name : (p : Prior) → Quiet write ok g.correlation_name p Any
  unfolding g.correlation_name
  quiet_correlation_name p =
      quiet_or write ok _ _ p Any (quiet_or write ok _ _ p Any (quiet_pure write ok None p Any tt) (some_name p)) (quiet_seq write ok k.As _ p Other Any refl refl (some_name Other))

  quiet_group_by : (p : Prior) → Quiet write ok g.group_by p Any
  unfolding g.group_by
  quiet_group_by p =
      quiet_optional write ok _ p Any tt
      (quiet_seq write ok k.Group _ p Other Any refl refl (quiet_seq write ok k.By _ Other Other Any refl refl (quiet_less write ok _ Other Ends Any (λ q e. tt) (quiet_column Other))))

  keeps_text : (p : Prior) (now : Constants) → Keeps write ok g.text g.text now (λ x. filled_expression x now) p Ends
  keeps_text p = keeps_quiet write ok (λ x. e.Text (g.text_in_quotes x)) (lang.token k.Text) filled_expression p Ends (λ x now. of_text (g.text_in_quotes x) now) (quiet_token write ok k.Text p refl)

  keeps_of : (f : Aggregate) (p : Prior) (now : Constants) → Keeps write ok (g.of f) (g.of f) now (λ x. filled_expression x now) p Ends
  keeps_of f p = keeps_quiet write ok (e.Aggregate f) (lang.parens g.argument) filled_expression p Ends (of_aggregate f) (quiet_parens write ok g.argument p Ends (quiet_argument Other))

  keeps_aggregate : (p : Prior) (now : Constants) → Keeps write ok g.aggregate g.aggregate now (λ x. filled_expression x now) p Ends
  unfolding g.aggregate
  keeps_aggregate p now =
      let fill = λ (x : Expression). filled_expression x now in
      keeps_or write ok _ _ _ _ now fill p Ends (keeps_or write ok _ _ _ _ now fill p Ends (keeps_or write ok _ _ _ _ now fill p Ends (keeps_or write ok _ _ _ _ now fill p Ends
      (keeps_seq write ok k.Count _ _ now fill p Other Ends refl refl
      (keeps_parens write ok _ _ now fill Other Any (keeps_seq write ok k.Star _ _ now fill Other Other Any refl refl (keeps_pure write ok e.CountRows e.CountRows now fill Other Any (of_countrows now) tt))))
      (keeps_seq write ok k.Count _ _ now fill p Other Ends refl refl (keeps_of a.Count Other now)))
      (keeps_seq write ok k.Sum _ _ now fill p Other Ends refl refl (keeps_of a.Sum Other now)))
      (keeps_seq write ok k.Min _ _ now fill p Other Ends refl refl (keeps_of a.Min Other now)))
      (keeps_seq write ok k.Max _ _ now fill p Other Ends refl refl (keeps_of a.Max Other now))

  -- what stands in parentheses
  pub record Inner (inner : Language PartInParentheses) : Type 0 where
    pub expr : (now : Constants) → Keeps write ok (g.inner_expr inner) (g.inner_expr inner) now (λ x. filled_expression x now) Other Ends
    pub cond : (now : Constants) → Keeps write ok (g.inner_cond inner) (g.inner_cond inner) now (λ x. filled_condition x now) Other Any
    pub query : (now : Constants) → Keeps write ok (g.inner_query inner) (g.inner_query inner) now (λ x. filled_query x now) Other Any

  -- the constants are written as they are spelled
  module _ (writes : (given : Argument) → ok given.value → Writes given.value (write given)) (strict : (value : Value) → ok value → IsConstant value) (inner : Language PartInParentheses) (i : Inner inner) where
    -- ---- numbers

    -- a number behind a sign is no parameter
    sign_kept : (given : Option Argument) (rest : Constants) (y : Lexeme) (x : Expression) (L : Language Expression) → ClearAt ok Sign given → L (y ∷ []) x
        → Kept L (written_token write y given ++ []) (next_by expression_of x given rest) rest
    sign_kept None rest y x L clear h = record { tree = x; is = refl; reads = h }
    sign_kept (Some given) rest y x L clear h = absurd clear.0

    positive_reads : (n : ℕ) (x : Lexeme) → x.kind ≡ k.Number → g.digits_value x ≡ n → g.factor inner (x ∷ []) (e.Number (pos n))
    unfolding g.factor g.prim
    positive_reads n x is_of d =
        subst (λ z. g.factor inner (x ∷ []) (e.Number (pos z))) d
        (inl (inl (inl (inl (map_reads (g.number_of false) (lang.token k.Number) (x ∷ []) x (refl, is_of))))))

    negative_reads : (n : ℕ) (m x : Lexeme) → m.kind ≡ k.Minus → x.kind ≡ k.Number → g.digits_value x ≡ suc n → g.factor inner (m ∷ x ∷ []) (e.Number (negsuc n))
    unfolding g.factor g.prim
    negative_reads n m x minus is_of d =
        inl (inr (seq_reads k.Minus _ m (x ∷ []) (e.Number (negsuc n)) minus
        (subst (λ z. lang.◌<$>◌ (g.number_of true) (lang.token k.Number) (x ∷ []) (e.Number (g.signed_number true z))) d (map_reads (g.number_of true) (lang.token k.Number) (x ∷ []) x (refl, is_of)))))

    text_reads : (s : List ℕ) (x : Lexeme) → x.kind ≡ k.Text → g.text_in_quotes x ≡ s → g.factor inner (x ∷ []) (e.Text s)
    unfolding g.factor g.prim g.other_prim
    text_reads s x is_of d =
        subst (λ z. g.factor inner (x ∷ []) (e.Text z)) d
        (inl (inl (inl (inr (inl (inl (inl (inl (map_reads (λ x. e.Text (g.text_in_quotes x)) (lang.token k.Text) (x ∷ []) x (refl, is_of))))))))))

    value_reads : (n : ℤ) (tokens : Lexemes) → Writes (v.Int n) tokens → g.factor inner (tokens ++ []) (e.Number n)
    value_reads (pos n) tokens w = subst (λ z. g.factor inner (z ++ []) (e.Number (pos n))) (sym w.are) (positive_reads n w.number w.digits.kind w.digits.digits)
    value_reads (negsuc n) tokens w = subst (λ z. g.factor inner (z ++ []) (e.Number (negsuc n))) (sym w.are) (negative_reads n w.minus w.number w.sign w.digits.kind w.digits.digits)

    -- a value in the place of a number
    value_kept : (parameter : ℕ) (value : Value) (tokens : Lexemes) (rest : Constants) → IsConstant value → Writes value tokens
        → Kept (g.factor inner) (tokens ++ []) (and_then {B = Expression × Constants} (and_then (constant_by parameter value) (expression_by parameter)) (λ made. Ok (made, rest))) rest
    value_kept parameter v.Null tokens rest is w = absurd is
    value_kept parameter (v.Int n) tokens rest is w = record {
      tree = e.Number n;
      is = ap (λ z. and_then {B = Expression × Constants} (and_then (if z then Err (NumberOutOfRange parameter) else Ok (v.Int n)) (expression_by parameter)) (λ made. Ok (made, rest))) is;
      reads = value_reads n tokens w;
    }
    value_kept parameter (v.Text s) tokens rest is w = record {
      tree = e.Text s;
      is = ap (λ z. and_then {B = Expression × Constants} (and_then (if z then Ok (v.Text s) else Err (TextNotPlain parameter)) (expression_by parameter)) (λ made. Ok (made, rest))) is;
      reads = subst (λ z. g.factor inner (z ++ []) (e.Text s)) (sym w.are) (text_reads s w.text w.kind w.inside);
    }

    -- a number, or the value in its place
    fresh_kept : (given : Option Argument) (rest : Constants) (y : Lexeme) (x : Expression) → ClearAt ok Other given → g.factor inner (y ∷ []) x
        → Kept (g.factor inner) (written_token write y given ++ []) (next_by expression_of x given rest) rest
    fresh_kept None rest y x clear h = record { tree = x; is = refl; reads = h }
    fresh_kept (Some given) rest y x clear h = value_kept given.parameter given.value (write given) rest (strict given.value clear.1) (writes given clear.1)

    -- the token of a number, by what stands for it
    number_by : (L : Language Expression) (p : Prior) (is_negative : Bool) (now : Constants)
        → ((y : Lexeme) (n : ℤ) → y.kind ≡ k.Number → n ≡ g.signed_number is_negative (g.digits_value y) → ClearAt ok p (first_and_rest now).0
        → Kept L (written_token write y (first_and_rest now).0 ++ []) (next_by expression_of (e.Number n) (first_and_rest now).0 (first_and_rest now).1) (first_and_rest now).1)
        → Keeps write ok (lang.◌<$>◌ (g.number_of is_negative) (lang.token k.Number)) L now (λ x. filled_expression x now) p Ends
    number_by L p is_negative now kept = record {
      keeps = λ w x h clear.
          let y = of_token k.Number (g.number_of is_negative) w x h in
          let number : is_number y.token.kind ≡ true = ap is_number y.is_of in
          let at : ClearAt ok p (first_and_rest now).0 = subst (λ z. ClearAt ok p (for_token z now)) number (subst (λ z. Clear ok p z now) y.are clear).0 in
          let one = kept y.token (g.signed_number is_negative (g.digits_value y.token)) y.is_of refl at in (
            record {
              tree = one.tree;
              is =
                  ap (λ z. filled_expression z now) y.is ∙ of_number (g.signed_number is_negative (g.digits_value y.token)) now ∙ one.is
                  ∙ ap (λ z. Ok (one.tree, z)) (sym (ap (λ z. left z now) y.are ∙ ap (λ z. behind_token z now) number));
              reads = subst (λ z. L z one.tree) (sym (ap (λ z. tokens_with_constants write z now) y.are ∙ ap (λ z. written_token write y.token (for_token z now) ++ []) number)) one.reads;
            },
            ap (after p) y.are ∙ ap (step p) y.is_of,
          );
    }

    number_sign : (is_negative : Bool) (now : Constants)
        → Keeps write ok (lang.◌<$>◌ (g.number_of is_negative) (lang.token k.Number)) (lang.◌<$>◌ (g.number_of is_negative) (lang.token k.Number)) now (λ x. filled_expression x now) Sign Ends
    number_sign is_negative now =
        number_by (lang.◌<$>◌ (g.number_of is_negative) (lang.token k.Number)) Sign is_negative now
        (λ y n is_of is clear. sign_kept (first_and_rest now).0 (first_and_rest now).1 y (e.Number n) (lang.◌<$>◌ (g.number_of is_negative) (lang.token k.Number)) clear
        (subst (λ z. lang.◌<$>◌ (g.number_of is_negative) (lang.token k.Number) (y ∷ []) (e.Number z)) (sym is) (map_reads (g.number_of is_negative) (lang.token k.Number) (y ∷ []) y (refl, is_of))))

    number_fresh : (now : Constants) → Keeps write ok g.number (g.factor inner) now (λ x. filled_expression x now) Other Ends
    number_fresh now =
        number_by (g.factor inner) Other false now
        (λ y n is_of is clear. fresh_kept (first_and_rest now).0 (first_and_rest now).1 y (e.Number n) clear (subst (λ z. g.factor inner (y ∷ []) (e.Number z)) (sym is) (positive_reads (g.digits_value y) y is_of refl)))

    -- ---- expressions

    other_prim : (p : Prior) (now : Constants) → Keeps write ok (g.other_prim inner) (g.other_prim inner) now (λ x. filled_expression x now) p Ends
    unfolding g.other_prim
    other_prim p now =
        let fill = λ (x : Expression). filled_expression x now in
        keeps_or write ok _ _ _ _ now fill p Ends (keeps_or write ok _ _ _ _ now fill p Ends (keeps_or write ok _ _ _ _ now fill p Ends (keeps_or write ok _ _ _ _ now fill p Ends
        (keeps_text p now) (keeps_quiet write ok e.Column g.column filled_expression p Ends of_column (quiet_column p) now)) (keeps_aggregate p now))
        (keeps_parens write ok (g.inner_expr inner) (g.inner_expr inner) now fill p Ends (i.expr now)))
        (keeps_map write ok e.Subquery e.Subquery (lang.parens (g.inner_query inner)) (lang.parens (g.inner_query inner)) now (λ q. filled_query q now) fill p Ends
        (keeps_parens write ok (g.inner_query inner) (g.inner_query inner) now (λ q. filled_query q now) p Any (i.query now))
        (λ x y rest is. of_subquery x now ∙ ap (then_made e.Subquery) is))

    prim_sign : (now : Constants) → Keeps write ok (g.prim inner) (g.prim inner) now (λ x. filled_expression x now) Sign Ends
    unfolding g.prim
    prim_sign now = keeps_or write ok _ _ _ _ now (λ x. filled_expression x now) Sign Ends (number_sign false now) (other_prim Sign now)

    factor_prim : (now : Constants) → Keeps write ok (g.prim inner) (g.factor inner) now (λ x. filled_expression x now) Other Ends
    unfolding g.prim g.factor
    factor_prim now =
        keeps_either write ok _ _ _ now (λ x. filled_expression x now) Other Ends (number_fresh now)
        (keeps_into write ok (g.other_prim inner) (g.other_prim inner) _ now (λ x. filled_expression x now) Other Ends (λ w x h. inl (inl (inl (inr h)))) (other_prim Other now))

    factor : (now : Constants) → Keeps write ok (g.factor inner) (g.factor inner) now (λ x. filled_expression x now) Other Ends
    unfolding g.factor
    factor now =
        let fill = λ (x : Expression). filled_expression x now in
        keeps_either write ok _ _ _ now fill Other Ends (keeps_either write ok _ _ _ now fill Other Ends (keeps_either write ok _ _ _ now fill Other Ends
        (factor_prim now)
        (keeps_into write ok _ _ _ now fill Other Ends (λ w x h. inl (inl (inr h))) (keeps_seq write ok k.Plus (g.prim inner) (g.prim inner) now fill Other Sign Ends refl refl (prim_sign now))))
        (keeps_into write ok _ _ _ now fill Other Ends (λ w x h. inl (inr h)) (keeps_seq write ok k.Minus _ _ now fill Other Sign Ends refl refl (number_sign true now))))
        (keeps_into write ok _ _ _ now fill Other Ends (λ w x h. inr h) (keeps_seq write ok k.Minus _ _ now fill Other Sign Ends refl refl
        (keeps_map write ok e.Negation e.Negation (g.other_prim inner) (g.other_prim inner) now fill fill Sign Ends (other_prim Sign now) (λ x y rest is. of_negation x now ∙ ap (then_made e.Negation) is))))

    product_after : (x y : Expression) (start now : Constants) → filled_expression x start ≡ Ok (y, now)
        → Keeps write ok (g.product_after inner x) (g.product_after inner y) now (λ z. filled_expression z start) Operand Ends
    unfolding g.product_after
    product_after x y start now h =
        keeps_map write ok g.product_of g.product_of _ _ now (λ xs. all (map filled_expression xs) start) (λ z. filled_expression z start) Operand Ends
        (keeps_more write ok x y _ _ filled_expression start now Operand Ends h refl
        (λ p q later. keeps_seq write ok k.Star (g.factor inner) (g.factor inner) later (λ z. filled_expression z later) p Other Ends refl refl (factor later)))
        (λ xs ys rest is. product_filled xs ys start rest is)

    term : (now : Constants) → Keeps write ok (g.term inner) (g.term inner) now (λ x. filled_expression x now) Other Ends
    unfolding g.term
    term now =
        keeps_then write ok (g.factor inner) (g.factor inner) (g.product_after inner) (g.product_after inner) now (λ x. filled_expression x now) (λ x. filled_expression x now) Other Ends Ends (factor now)
        (λ x y rest q ends is. subst (λ z. Keeps write ok (g.product_after inner x) (g.product_after inner y) rest (λ x. filled_expression x now) z Ends) (sym ends) (product_after x y now rest is))

    sum_item : (now : Constants) → Keeps write ok (g.sum_item inner) (g.sum_item inner) now (λ x. filled_expression x now) Operand Ends
    sum_item now =
        let fill = λ (x : Expression). filled_expression x now in
        keeps_or write ok _ _ _ _ now fill Operand Ends (keeps_seq write ok k.Plus (g.term inner) (g.term inner) now fill Operand Other Ends refl refl (term now))
        (keeps_seq write ok k.Minus _ _ now fill Operand Other Ends refl refl
        (keeps_map write ok e.Negation e.Negation (g.term inner) (g.term inner) now fill fill Other Ends (term now) (λ x y rest is. of_negation x now ∙ ap (then_made e.Negation) is)))

    sum_after : (x y : Expression) (start now : Constants) → filled_expression x start ≡ Ok (y, now)
        → Keeps write ok (g.sum_after inner x) (g.sum_after inner y) now (λ z. filled_expression z start) Operand Ends
    unfolding g.sum_after
    sum_after x y start now h =
        keeps_map write ok g.sum_of g.sum_of _ _ now (λ xs. all (map filled_expression xs) start) (λ z. filled_expression z start) Operand Ends
        (keeps_more write ok x y (g.sum_item inner) (g.sum_item inner) filled_expression start now Operand Ends h refl
        (λ p q later. subst (λ z. Keeps write ok (g.sum_item inner) (g.sum_item inner) later (λ z. filled_expression z later) z Ends) (sym q) (sum_item later)))
        (λ xs ys rest is. sum_filled xs ys start rest is)

    pub expr : (now : Constants) → Keeps write ok (g.expr inner) (g.expr inner) now (λ x. filled_expression x now) Other Ends
    unfolding g.expr
    expr now =
        keeps_then write ok (g.term inner) (g.term inner) (g.sum_after inner) (g.sum_after inner) now (λ x. filled_expression x now) (λ x. filled_expression x now) Other Ends Ends (term now)
        (λ x y rest q ends is. subst (λ z. Keeps write ok (g.sum_after inner x) (g.sum_after inner y) rest (λ x. filled_expression x now) z Ends) (sym ends) (sum_after x y now rest is))

    expr_any : (now : Constants) → Keeps write ok (g.expr inner) (g.expr inner) now (λ x. filled_expression x now) Other Any
    expr_any now = keeps_less write ok (g.expr inner) (g.expr inner) now (λ x. filled_expression x now) Other Ends Any (λ q e. tt) (expr now)

    -- ---- conditions

    range_or_list : (x y : Expression) (start now : Constants) (p : Prior) → filled_expression x start ≡ Ok (y, now)
        → Keeps write ok (g.range_or_list inner x) (g.range_or_list inner y) now (λ z. filled_condition z start) p Any
    unfolding g.range_or_list
    range_or_list x y start now p h =
        let fill = λ (z : Condition). filled_condition z start in
        keeps_or write ok _ _ _ _ now fill p Any
        (keeps_seq write ok k.Between _ _ now fill p Other Any refl refl
        (keeps_then write ok (g.expr inner) (g.expr inner) _ _ now (λ z. filled_expression z now) fill Other Ends Any (expr now)
        (λ low low' between q ends low_is. keeps_seq write ok k.And _ _ between fill q Other Any refl refl
        (keeps_map write ok (b.Between x low) (b.Between y low') (g.expr inner) (g.expr inner) between (λ z. filled_expression z between) fill Other Any (expr_any between)
        (λ high high' rest high_is.
        of_between x low high start
        ∙ ap (λ r. and_then r (λ s. both (b.Between s.0) (filled_expression low) (filled_expression high) s.1)) h
        ∙ ap (λ r. and_then r (λ l. then_made (b.Between y l.0) (filled_expression high l.1))) low_is
        ∙ ap (then_made (b.Between y low')) high_is)))))
        (keeps_seq write ok k.In _ _ now fill p Other Any refl refl
        (keeps_map write ok (b.In x) (b.In y) _ _ now (λ zs. all (map filled_expression zs) now) fill Other Any
        (keeps_less write ok _ _ now (λ zs. all (map filled_expression zs) now) Other Ends Any (λ q ends. tt)
        (keeps_parens write ok _ _ now (λ zs. all (map filled_expression zs) now) Other Ends (keeps_list write ok (g.inner_expr inner) (g.inner_expr inner) filled_expression Ends i.expr now)))
        (λ xs ys rest is.
        of_in x xs start ∙ ap (λ r. and_then r (λ l. then_made (b.In l.0) (all (map filled_expression xs) l.1))) h ∙ ap (then_made (b.In y)) is)))

    null : (x y : Expression) (start now : Constants) (p : Prior) → filled_expression x start ≡ Ok (y, now)
        → Keeps write ok (g.null inner x) (g.null inner y) now (λ z. filled_condition z start) p Any
    unfolding g.null
    null x y start now p h =
        let fill = λ (z : Condition). filled_condition z start in
        let is : filled_condition (b.IsNull x) start ≡ Ok (b.IsNull y, now) = of_isnull x start ∙ ap (then_made b.IsNull) h in
        keeps_or write ok _ _ _ _ now fill p Any
        (keeps_seq write ok k.Null _ _ now fill p Other Any refl refl (keeps_pure write ok (b.IsNull x) (b.IsNull y) now fill Other Any is tt))
        (keeps_seq write ok k.Not _ _ now fill p Other Any refl refl (keeps_seq write ok k.Null _ _ now fill Other Other Any refl refl
        (keeps_pure write ok (b.Not (b.IsNull x)) (b.Not (b.IsNull y)) now fill Other Any (of_not (b.IsNull x) start ∙ ap (then_made b.Not) is) tt)))

    comparison : (x y : Expression) (start now : Constants) (p : Prior) → filled_expression x start ≡ Ok (y, now)
        → Keeps write ok (g.comparison inner x) (g.comparison inner y) now (λ z. filled_condition z start) p Any
    unfolding g.comparison
    comparison x y start now p h =
        let fill = λ (z : Condition). filled_condition z start in
        keeps_or write ok _ _ _ _ now fill p Any (keeps_or write ok _ _ _ _ now fill p Any (keeps_or write ok _ _ _ _ now fill p Any
        (keeps_behind write ok g.comparison_sign _ _ now fill p IsOther Any (quiet_sign p)
        (λ sign q other. subst (λ z. Keeps write ok (lang.◌<$>◌ (b.Compare x sign) (g.expr inner)) (lang.◌<$>◌ (b.Compare y sign) (g.expr inner)) now fill z Any) (sym other)
        (keeps_map write ok (b.Compare x sign) (b.Compare y sign) (g.expr inner) (g.expr inner) now (λ z. filled_expression z now) fill Other Any (expr_any now)
        (λ r r' rest is.
        of_compare x sign r start ∙ ap (λ z. and_then z (λ l. then_made (λ m. b.Compare l.0 sign m) (filled_expression r l.1))) h
        ∙ ap (then_made (λ m. b.Compare y sign m)) is))))
        (keeps_seq write ok k.Is _ _ now fill p Other Any refl refl (null x y start now Other h)))
        (range_or_list x y start now p h))
        (keeps_seq write ok k.Not _ _ now fill p Other Any refl refl
        (keeps_map write ok b.Not b.Not (g.range_or_list inner x) (g.range_or_list inner y) now fill fill Other Any (range_or_list x y start now Other h)
        (λ z z' rest is. of_not z start ∙ ap (then_made b.Not) is)))

    exists : (p : Prior) (now : Constants) → Keeps write ok (g.exists inner) (g.exists inner) now (λ z. filled_condition z now) p Any
    exists p now =
        keeps_seq write ok k.Exists _ _ now (λ z. filled_condition z now) p Other Any refl refl
        (keeps_map write ok b.Exists b.Exists (lang.parens (g.inner_query inner)) (lang.parens (g.inner_query inner)) now (λ q. filled_query q now) (λ z. filled_condition z now) Other Any
        (keeps_less write ok _ _ now (λ q. filled_query q now) Other Ends Any (λ q ends. tt) (keeps_parens write ok (g.inner_query inner) (g.inner_query inner) now (λ q. filled_query q now) Other Any (i.query now)))
        (λ q q' rest is. of_exists q now ∙ ap (then_made b.Exists) is))

    bprim : (now : Constants) → Keeps write ok (g.bprim inner) (g.bprim inner) now (λ z. filled_condition z now) Other Any
    unfolding g.bprim
    bprim now =
        let fill = λ (z : Condition). filled_condition z now in
        keeps_or write ok _ _ _ _ now fill Other Any (keeps_or write ok _ _ _ _ now fill Other Any
        (keeps_less write ok _ _ now fill Other Ends Any (λ q ends. tt) (keeps_parens write ok (g.inner_cond inner) (g.inner_cond inner) now fill Other Any (i.cond now)))
        (exists Other now))
        (keeps_then write ok (g.expr inner) (g.expr inner) (g.comparison inner) (g.comparison inner) now (λ z. filled_expression z now) fill Other Ends Any (expr now)
        (λ x y rest q ends is. comparison x y now rest q is))

    is_after : (x y : Condition) (start now : Constants) (p : Prior) → filled_condition x start ≡ Ok (y, now)
        → Keeps write ok (g.is_after inner x) (g.is_after inner y) now (λ z. filled_condition z start) p Any
    unfolding g.is_after
    is_after x y start now p h =
        let fill = λ (z : Condition). filled_condition z start in
        keeps_or write ok _ _ _ _ now fill p Any (keeps_or write ok _ _ _ _ now fill p Any
        (keeps_pure write ok x y now fill p Any h tt)
        (keeps_seq write ok k.Is _ _ now fill p Other Any refl refl
        (keeps_map write ok (b.Is x) (b.Is y) g.truth g.truth now (λ truth. Ok (truth, now)) fill Other Any (quiet_truth Other now)
        (λ truth other rest is. of_is x truth start ∙ ap (then_made (λ z. b.Is z truth)) h ∙ ap (then_made (b.Is y)) is))))
        (keeps_seq write ok k.Is _ _ now fill p Other Any refl refl (keeps_seq write ok k.Not _ _ now fill Other Other Any refl refl
        (keeps_map write ok (λ truth. b.Not (b.Is x truth)) (λ truth. b.Not (b.Is y truth)) g.truth g.truth now (λ truth. Ok (truth, now)) fill Other Any (quiet_truth Other now)
        (λ truth other rest is.
        of_not (b.Is x truth) start ∙ ap (then_made b.Not) (of_is x truth start ∙ ap (then_made (λ z. b.Is z truth)) h)
        ∙ ap (then_made (λ z. b.Not (b.Is y z))) is))))

    btest : (now : Constants) → Keeps write ok (g.btest inner) (g.btest inner) now (λ z. filled_condition z now) Other Any
    unfolding g.btest
    btest now =
        keeps_then write ok (g.bprim inner) (g.bprim inner) (g.is_after inner) (g.is_after inner) now (λ z. filled_condition z now) (λ z. filled_condition z now) Other Any Any (bprim now)
        (λ x y rest q ends is. is_after x y now rest q is)

    bfact : (now : Constants) → Keeps write ok (g.bfact inner) (g.bfact inner) now (λ z. filled_condition z now) Other Any
    unfolding g.bfact
    bfact now =
        let fill = λ (z : Condition). filled_condition z now in
        keeps_or write ok _ _ _ _ now fill Other Any (btest now)
        (keeps_seq write ok k.Not _ _ now fill Other Other Any refl refl
        (keeps_map write ok b.Not b.Not (g.btest inner) (g.btest inner) now fill fill Other Any (btest now) (λ x y rest is. of_not x now ∙ ap (then_made b.Not) is)))

    and_after : (x y : Condition) (start now : Constants) (p : Prior) → filled_condition x start ≡ Ok (y, now)
        → Keeps write ok (g.and_after inner x) (g.and_after inner y) now (λ z. filled_condition z start) p Any
    unfolding g.and_after
    and_after x y start now p h =
        keeps_map write ok g.and_of g.and_of _ _ now (λ xs. all (map filled_condition xs) start) (λ z. filled_condition z start) p Any
        (keeps_more write ok x y _ _ filled_condition start now p Any h tt
        (λ q any later. keeps_seq write ok k.And (g.bfact inner) (g.bfact inner) later (λ z. filled_condition z later) q Other Any refl refl (bfact later)))
        (λ xs ys rest is. and_filled xs ys start rest is)

    bterm : (now : Constants) → Keeps write ok (g.bterm inner) (g.bterm inner) now (λ z. filled_condition z now) Other Any
    unfolding g.bterm
    bterm now =
        keeps_then write ok (g.bfact inner) (g.bfact inner) (g.and_after inner) (g.and_after inner) now (λ z. filled_condition z now) (λ z. filled_condition z now) Other Any Any (bfact now)
        (λ x y rest q ends is. and_after x y now rest q is)

    or_after : (x y : Condition) (start now : Constants) (p : Prior) → filled_condition x start ≡ Ok (y, now)
        → Keeps write ok (g.or_after inner x) (g.or_after inner y) now (λ z. filled_condition z start) p Any
    unfolding g.or_after
    or_after x y start now p h =
        keeps_map write ok g.or_of g.or_of _ _ now (λ xs. all (map filled_condition xs) start) (λ z. filled_condition z start) p Any
        (keeps_more write ok x y _ _ filled_condition start now p Any h tt
        (λ q any later. keeps_seq write ok k.Or (g.bterm inner) (g.bterm inner) later (λ z. filled_condition z later) q Other Any refl refl (bterm later)))
        (λ xs ys rest is. or_filled xs ys start rest is)

    pub cond : (now : Constants) → Keeps write ok (g.cond inner) (g.cond inner) now (λ z. filled_condition z now) Other Any
    unfolding g.cond
    cond now =
        keeps_then write ok (g.bterm inner) (g.bterm inner) (g.or_after inner) (g.or_after inner) now (λ z. filled_condition z now) (λ z. filled_condition z now) Other Any Any (bterm now)
        (λ x y rest q ends is. or_after x y now rest q is)

    -- ---- queries

    selected : (now : Constants) → Keeps write ok (g.selected inner) (g.selected inner) now (λ z. filled_select_list z now) Other Any
    unfolding g.selected
    selected now =
        let fill = λ (z : SelectList). filled_select_list z now in
        keeps_or write ok _ _ _ _ now fill Other Any
        (keeps_seq write ok k.Star _ _ now fill Other Other Any refl refl (keeps_pure write ok which.Star which.Star now fill Other Any (of_star now) tt))
        (keeps_map write ok which.One which.One (g.expr inner) (g.expr inner) now (λ z. filled_expression z now) fill Other Any (expr_any now) (λ x y rest is. of_one x now ∙ ap (then_made which.One) is))

    where_clause : (p : Prior) (now : Constants) → Keeps write ok (g.where_clause inner) (g.where_clause inner) now (λ z. clause z now) p Any
    unfolding g.where_clause
    where_clause p now =
        keeps_optional write ok _ _ now (λ z. filled_condition z now) p Any tt (keeps_seq write ok k.Where (g.cond inner) (g.cond inner) now (λ z. filled_condition z now) p Other Any refl refl (cond now))

    having : (p : Prior) (now : Constants) → Keeps write ok (g.having inner) (g.having inner) now (λ z. clause z now) p Any
    unfolding g.having
    having p now =
        keeps_optional write ok _ _ now (λ z. filled_condition z now) p Any tt (keeps_seq write ok k.Having (g.cond inner) (g.cond inner) now (λ z. filled_condition z now) p Other Any refl refl (cond now))

    query_rest : (x y : SelectList) (table : List ℕ) (name : Option (List ℕ)) (start now : Constants) (p : Prior) → filled_select_list x start ≡ Ok (y, now)
        → Keeps write ok (g.query_rest inner x table name) (g.query_rest inner y table name) now (λ q. filled_query q start) p Any
    unfolding g.query_rest
    query_rest x y table name start now p h =
        keeps_then write ok (g.where_clause inner) (g.where_clause inner) _ _ now (λ z. clause z now) (λ q. filled_query q start) p Any Any (where_clause p now)
        (λ keeps keeps' between q any keeps_is.
        keeps_behind write ok g.group_by _ _ between (λ q. filled_query q start) q Any Any (quiet_group_by q)
        (λ group r other. keeps_map write ok (g.query_of x table name keeps group) (g.query_of y table name keeps' group) (g.having inner) (g.having inner) between (λ z. clause z between) (λ q. filled_query q start) r Any (having r between)
        (λ hav hav' rest is.
        of_query x table name keeps group hav start
        ∙ ap (λ r. and_then r (λ l. and_then (clause keeps l.1) (λ k. then_made (λ z. g.query_of l.0 table name k.0 group z) (clause hav k.1)))) h
        ∙ ap (λ r. and_then r (λ k. then_made (λ z. g.query_of y table name k.0 group z) (clause hav k.1))) keeps_is
        ∙ ap (then_made (λ z. g.query_of y table name keeps' group z)) is)))

    query_from : (x y : SelectList) (start now : Constants) (p : Prior) → filled_select_list x start ≡ Ok (y, now)
        → Keeps write ok (g.query_from inner x) (g.query_from inner y) now (λ q. filled_query q start) p Any
    unfolding g.query_from
    query_from x y start now p h =
        keeps_behind write ok g.name _ _ now (λ q. filled_query q start) p Ends Any (quiet_name p)
        (λ table q ends. keeps_behind write ok g.correlation_name _ _ now (λ q. filled_query q start) q Any Any (quiet_correlation_name q)
        (λ name r any. query_rest x y table name start now r h))

    query : (now : Constants) → Keeps write ok (g.query inner) (g.query inner) now (λ q. filled_query q now) Other Any
    unfolding g.query
    query now =
        keeps_seq write ok k.Select _ _ now (λ q. filled_query q now) Other Other Any refl refl
        (keeps_then write ok (g.selected inner) (g.selected inner) _ _ now (λ z. filled_select_list z now) (λ q. filled_query q now) Other Any Any (selected now)
        (λ x y rest q any is. keeps_seq write ok k.From _ _ rest (λ q. filled_query q now) q Other Any refl refl (query_from x y now rest Other is)))

    found : Inner (g.found inner)
    found = record {
      expr = λ now. record { keeps = λ w x h clear. let kept = (expr now).keeps w x h clear in (record { tree = kept.0.tree; is = kept.0.is; reads = kept.0.reads }, kept.1) };
      cond = λ now. record { keeps = λ w x h clear. let kept = (cond now).keeps w x h clear in (record { tree = kept.0.tree; is = kept.0.is; reads = kept.0.reads }, kept.1) };
      query = λ now. record { keeps = λ w x h clear. let kept = (query now).keeps w x h clear in (record { tree = kept.0.tree; is = kept.0.is; reads = kept.0.reads }, kept.1) };
    }

  -- however deep parentheses nest
  module _ (writes : (given : Argument) → ok given.value → Writes given.value (write given)) (strict : (value : Value) → ok value → IsConstant value) where
    pub nested : (n : ℕ) → Inner (g.nested n)
    unfolding g.nested
    nested zero = record {
      expr = λ now. record { keeps = λ w x h clear. absurd h };
      cond = λ now. record { keeps = λ w x h clear. absurd h };
      query = λ now. record { keeps = λ w x h clear. absurd h };
    }
    nested (suc n) = found writes strict (g.nested n) (nested n)
