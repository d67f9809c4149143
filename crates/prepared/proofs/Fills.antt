-- What each kind of tree is filled to, and lists whose parts of the same kind are merged.
use Rattle.std.proofs.Common.{◌≡◌, ℕ, ℤ, List, [], ◌∷◌, ◌++◌, map, Option, Some, None, Result, Ok, Err, refl, sym, ap, subst, ◌∙◌}
use Rattle.std.specs.List.{flat_map}
use Rattle.value.specs.declared.values.Value.{Value}
use Rattle.value.specs.declared.values.Value.TheVariants as v
use Rattle.value.specs.declared.truths.Truth.{Truth}
use Rattle.value.specs.declared.comparisons.Comparison.{Comparison}
use Rattle.syntax.specs.declared.trees.Aggregate.{Aggregate}
use Rattle.syntax.specs.declared.trees.Argument.{Argument as SetFunctionArgument}
use Rattle.syntax.specs.declared.trees.ColumnName.{ColumnName}
use Rattle.syntax.specs.declared.trees.Condition.{Condition, roll-Condition, out-Condition, out-roll-Condition, roll-out-Condition}
use Rattle.syntax.specs.declared.trees.Condition.TheVariants as b
use Rattle.syntax.specs.declared.trees.Condition.TheOpen.{Condition-F, Expression-F, SelectList-F, Query-F}
use Rattle.syntax.specs.declared.trees.Condition.TheFolds.{map-Condition, map-Expression, fold-roll-Condition, fold-roll-Expression, fold-roll-SelectList, fold-roll-Query}
use Rattle.syntax.specs.declared.trees.Expression.{Expression, roll-Expression, out-Expression, out-roll-Expression, roll-out-Expression}
use Rattle.syntax.specs.declared.trees.Expression.TheVariants as e
use Rattle.syntax.specs.declared.trees.SelectList.{SelectList}
use Rattle.syntax.specs.declared.trees.SelectList.TheVariants as which
use Rattle.syntax.specs.declared.trees.Query.{Query}
use Rattle.syntax.specs.Grammar as g
use Rattle.prepared.specs.declared.faults.FillFault.{FillFault}
use Rattle.prepared.specs.Constants.{Argument, Constants, Filling, first_and_rest, and_then, then_made, both, all, next, next_by, constant_of, expression_by, expression_of}
use Rattle.prepared.specs.Conditions.{expression_step, condition_step, select_list_step, query_step, filled_expression, filled_condition, filled_select_list, filled_query}
use Rattle.prepared.proofs.Keeps.{some_result}

-- ---- each kind of tree

pub expression_rolled : (layer : Expression-F Condition Expression SelectList Query) (now : Constants)
    → filled_expression (roll-Expression layer) now ≡ expression_step (map-Expression Condition Expression SelectList Query (Filling Condition) (Filling Expression) (Filling SelectList) (Filling Query) filled_condition filled_expression filled_select_list filled_query layer) now
expression_rolled layer now = ap (λ f. f now) (fold-roll-Expression (Filling Condition) (Filling Expression) (Filling SelectList) (Filling Query) condition_step expression_step select_list_step query_step layer)

condition_rolled : (layer : Condition-F Condition Expression SelectList Query) (now : Constants)
    → filled_condition (roll-Condition layer) now ≡ condition_step (map-Condition Condition Expression SelectList Query (Filling Condition) (Filling Expression) (Filling SelectList) (Filling Query) filled_condition filled_expression filled_select_list filled_query layer) now
condition_rolled layer now = ap (λ f. f now) (fold-roll-Condition (Filling Condition) (Filling Expression) (Filling SelectList) (Filling Query) condition_step expression_step select_list_step query_step layer)

pub of_number : (n : ℤ) (now : Constants) → filled_expression (e.Number n) now ≡ next expression_of (e.Number n) now
of_number n now = ap (λ x. filled_expression x now) (sym (e.rolls-Number n)) ∙ expression_rolled (Expression-F.Number n) now

pub of_text : (t : List ℕ) (now : Constants) → filled_expression (e.Text t) now ≡ Ok (e.Text t, now)
of_text t now = ap (λ x. filled_expression x now) (sym (e.rolls-Text t)) ∙ expression_rolled (Expression-F.Text t) now

pub of_column : (column : ColumnName) (now : Constants) → filled_expression (e.Column column) now ≡ Ok (e.Column column, now)
of_column column now = ap (λ x. filled_expression x now) (sym (e.rolls-Column column)) ∙ expression_rolled (Expression-F.Column column) now

pub of_aggregate : (function : Aggregate) (argument : SetFunctionArgument) (now : Constants) → filled_expression (e.Aggregate function argument) now ≡ Ok (e.Aggregate function argument, now)
of_aggregate function argument now = ap (λ x. filled_expression x now) (sym (e.rolls-Aggregate function argument)) ∙ expression_rolled (Expression-F.Aggregate function argument) now

pub of_subquery : (query : Query) (now : Constants) → filled_expression (e.Subquery query) now ≡ then_made e.Subquery (filled_query query now)
of_subquery query now = ap (λ x. filled_expression x now) (sym (e.rolls-Subquery query)) ∙ expression_rolled (Expression-F.Subquery query) now

pub of_negation : (part : Expression) (now : Constants) → filled_expression (e.Negation part) now ≡ then_made e.Negation (filled_expression part now)
of_negation part now = ap (λ x. filled_expression x now) (sym (e.rolls-Negation part)) ∙ expression_rolled (Expression-F.Negation part) now

pub of_sum : (parts : List Expression) (now : Constants) → filled_expression (e.Sum parts) now ≡ then_made e.Sum (all (map filled_expression parts) now)
of_sum parts now = ap (λ x. filled_expression x now) (sym (e.rolls-Sum parts)) ∙ expression_rolled (Expression-F.Sum parts) now

pub of_product : (parts : List Expression) (now : Constants) → filled_expression (e.Product parts) now ≡ then_made e.Product (all (map filled_expression parts) now)
of_product parts now = ap (λ x. filled_expression x now) (sym (e.rolls-Product parts)) ∙ expression_rolled (Expression-F.Product parts) now

pub of_countrows : (now : Constants) → filled_expression e.CountRows now ≡ Ok (e.CountRows, now)
of_countrows now = ap (λ x. filled_expression x now) (sym e.rolls-CountRows) ∙ expression_rolled Expression-F.CountRows now

pub of_or : (parts : List Condition) (now : Constants) → filled_condition (b.Or parts) now ≡ then_made b.Or (all (map filled_condition parts) now)
of_or parts now = ap (λ x. filled_condition x now) (sym (b.rolls-Or parts)) ∙ condition_rolled (Condition-F.Or parts) now

pub of_and : (parts : List Condition) (now : Constants) → filled_condition (b.And parts) now ≡ then_made b.And (all (map filled_condition parts) now)
of_and parts now = ap (λ x. filled_condition x now) (sym (b.rolls-And parts)) ∙ condition_rolled (Condition-F.And parts) now

pub of_not : (part : Condition) (now : Constants) → filled_condition (b.Not part) now ≡ then_made b.Not (filled_condition part now)
of_not part now = ap (λ x. filled_condition x now) (sym (b.rolls-Not part)) ∙ condition_rolled (Condition-F.Not part) now

pub of_is : (part : Condition) (truth : Truth) (now : Constants) → filled_condition (b.Is part truth) now ≡ then_made (λ c. b.Is c truth) (filled_condition part now)
of_is part truth now = ap (λ x. filled_condition x now) (sym (b.rolls-Is part truth)) ∙ condition_rolled (Condition-F.Is part truth) now

pub of_exists : (query : Query) (now : Constants) → filled_condition (b.Exists query) now ≡ then_made b.Exists (filled_query query now)
of_exists query now = ap (λ x. filled_condition x now) (sym (b.rolls-Exists query)) ∙ condition_rolled (Condition-F.Exists query) now

pub of_compare : (left : Expression) (comparison : Comparison) (right : Expression) (now : Constants) → filled_condition (b.Compare left comparison right) now ≡ both (λ l r. b.Compare l comparison r) (filled_expression left) (filled_expression right) now
of_compare left comparison right now = ap (λ x. filled_condition x now) (sym (b.rolls-Compare left comparison right)) ∙ condition_rolled (Condition-F.Compare left comparison right) now

pub of_isnull : (part : Expression) (now : Constants) → filled_condition (b.IsNull part) now ≡ then_made b.IsNull (filled_expression part now)
of_isnull part now = ap (λ x. filled_condition x now) (sym (b.rolls-IsNull part)) ∙ condition_rolled (Condition-F.IsNull part) now

pub of_between : (subject low high : Expression) (now : Constants) → filled_condition (b.Between subject low high) now ≡ and_then (filled_expression subject now) (λ s. both (b.Between s.0) (filled_expression low) (filled_expression high) s.1)
of_between subject low high now = ap (λ x. filled_condition x now) (sym (b.rolls-Between subject low high)) ∙ condition_rolled (Condition-F.Between subject low high) now

pub of_in : (subject : Expression) (values : List Expression) (now : Constants) → filled_condition (b.In subject values) now ≡ both b.In (filled_expression subject) (all (map filled_expression values)) now
of_in subject values now = ap (λ x. filled_condition x now) (sym (b.rolls-In subject values)) ∙ condition_rolled (Condition-F.In subject values) now

pub of_star : (now : Constants) → filled_select_list which.Star now ≡ Ok (which.Star, now)
of_star now =
    ap (λ x. filled_select_list x now) (sym which.rolls-Star)
    ∙ ap (λ f. f now) (fold-roll-SelectList (Filling Condition) (Filling Expression) (Filling SelectList) (Filling Query) condition_step expression_step select_list_step query_step SelectList-F.Star)

pub of_one : (part : Expression) (now : Constants) → filled_select_list (which.One part) now ≡ then_made which.One (filled_expression part now)
of_one part now =
    ap (λ x. filled_select_list x now) (sym (which.rolls-One part))
    ∙ ap (λ f. f now) (fold-roll-SelectList (Filling Condition) (Filling Expression) (Filling SelectList) (Filling Query) condition_step expression_step select_list_step query_step (SelectList-F.One part))

-- a clause that may be missing
abbrev pub clause : Option Condition → Filling (Option Condition)
clause part now = some_result (λ c. filled_condition c now) now part

-- a query's parts, from the left
abbrev pub query_parts : SelectList → List ℕ → Option (List ℕ) → Option Condition → Option ColumnName → Option Condition → Filling Query
query_parts list table name keeps group having now =
    and_then (filled_select_list list now) (λ l. and_then (clause keeps l.1) (λ k. then_made (λ h. g.query_of l.0 table name k.0 group h) (clause having k.1)))

query_layer : SelectList → List ℕ → Option (List ℕ) → Option Condition → Option ColumnName → Option Condition → Query-F Condition Expression SelectList Query
query_layer list table name keeps group having = record { select_list = list; table = table; correlation_name = name; keeps = keeps; group = group; having = having }

pub of_query : (list : SelectList) (table : List ℕ) (name : Option (List ℕ)) (keeps : Option Condition) (group : Option ColumnName) (having : Option Condition) (now : Constants)
    → filled_query (g.query_of list table name keeps group having) now ≡ query_parts list table name keeps group having now
unfolding query_layer
of_query list table name None group None now = ap (λ f. f now) (fold-roll-Query (Filling Condition) (Filling Expression) (Filling SelectList) (Filling Query) condition_step expression_step select_list_step query_step (query_layer list table name (None) group (None)))
of_query list table name None group (Some h) now = ap (λ f. f now) (fold-roll-Query (Filling Condition) (Filling Expression) (Filling SelectList) (Filling Query) condition_step expression_step select_list_step query_step (query_layer list table name (None) group (Some h)))
of_query list table name (Some k) group None now = ap (λ f. f now) (fold-roll-Query (Filling Condition) (Filling Expression) (Filling SelectList) (Filling Query) condition_step expression_step select_list_step query_step (query_layer list table name (Some k) group (None)))
of_query list table name (Some k) group (Some h) now = ap (λ f. f now) (fold-roll-Query (Filling Condition) (Filling Expression) (Filling SelectList) (Filling Query) condition_step expression_step select_list_step query_step (query_layer list table name (Some k) group (Some h)))

-- ---- what an answer was made of

pub record MadeOf {A B : Type 0} (make : A → B) (made : Result (A × Constants) FillFault) (made_to : B) (rest : Constants) : Type 0 where
  pub part : A
  pub part_is : made ≡ Ok (part, rest)
  pub is : made_to ≡ make part

first_of : {A : Type 0} → A → Result (A × Constants) FillFault → A
first_of a (Ok m) = m.0
first_of a (Err fault) = a

rest_of : {A : Type 0} → Constants → Result (A × Constants) FillFault → Constants
rest_of now (Ok m) = m.1
rest_of now (Err fault) = now

is_answer : {A : Type 0} → Result (A × Constants) FillFault → Type 0
is_answer (Ok m) = Unit {0}
is_answer (Err fault) = ⊥

pub first_same : {A : Type 0} (a x : A) (now rest : Constants) → ◌≡◌ {A = Result (A × Constants) FillFault} (Ok (a, now)) (Ok (x, rest)) → a ≡ x
unfolding first_of
first_same a x now rest h = ap (first_of a) h

pub rest_same : {A : Type 0} (a x : A) (now rest : Constants) → ◌≡◌ {A = Result (A × Constants) FillFault} (Ok (a, now)) (Ok (x, rest)) → now ≡ rest
unfolding rest_of
rest_same a x now rest h = ap (rest_of now) h

pub no_answer : {A : Type 0} (fault : FillFault) (x : A) (rest : Constants) → ◌≡◌ {A = Result (A × Constants) FillFault} (Err fault) (Ok (x, rest)) → ⊥
unfolding is_answer
no_answer fault x rest h = cc

pub made_of : {A B : Type 0} (make : A → B) (made : Result (A × Constants) FillFault) (x : B) (rest : Constants) → then_made make made ≡ Ok (x, rest) → MadeOf make made x rest
made_of make (Ok m) x rest h = record {
  part = m.0;
  part_is = ap (λ z. Ok (m.0, z)) (rest_same (make m.0) x m.1 rest h);
  is = sym (first_same (make m.0) x m.1 rest h);
}
made_of make (Err fault) x rest h = absurd (no_answer fault x rest h)

-- a list was made of its first and the others
pub record MadeOfAll {A B : Type 0} (fill : A → Filling B) (x : A) (xs : List A) (now : Constants) (made : List B) (rest : Constants) : Type 0 where
  pub first : B
  pub between : Constants
  pub others : List B
  pub first_is : fill x now ≡ Ok (first, between)
  pub others_are : all (map fill xs) between ≡ Ok (others, rest)
  pub are : made ≡ first ∷ others

made_of_first : {A B : Type 0} (fill : A → Filling B) (x : A) (xs : List A) (now : Constants) (made : List B) (rest : Constants) (r : Result (B × Constants) FillFault) → fill x now ≡ r
    → and_then r (λ first. then_made (λ others. first.0 ∷ others) (all (map fill xs) first.1)) ≡ Ok (made, rest) → MadeOfAll fill x xs now made rest
made_of_first fill x xs now made rest (Ok m) is h =
    let others = made_of (λ others. m.0 ∷ others) (all (map fill xs) m.1) made rest h in
    record { first = m.0; between = m.1; others = others.part; first_is = is; others_are = others.part_is; are = others.is }
made_of_first fill x xs now made rest (Err fault) is h = absurd (no_answer fault made rest h)

pub made_of_all : {A B : Type 0} (fill : A → Filling B) (x : A) (xs : List A) (now : Constants) (made : List B) (rest : Constants)
    → all (map fill (x ∷ xs)) now ≡ Ok (made, rest) → MadeOfAll fill x xs now made rest
made_of_all fill x xs now made rest h = made_of_first fill x xs now made rest (fill x now) refl h

pub all_cons : {A B : Type 0} (fill : A → Filling B) (x : A) (xs : List A) (now between rest : Constants) (y : B) (ys : List B)
    → fill x now ≡ Ok (y, between) → all (map fill xs) between ≡ Ok (ys, rest) → all (map fill (x ∷ xs)) now ≡ Ok (y ∷ ys, rest)
all_cons fill x xs now between rest y ys e f =
    ap (λ r. and_then r (λ first. then_made (λ others. first.0 ∷ others) (all (map fill xs) first.1))) e ∙ ap (then_made (λ others. y ∷ others)) f

all_append : {A B : Type 0} (fill : A → Filling B) (u w : List A) (now between rest : Constants) (x y : List B)
    → all (map fill u) now ≡ Ok (x, between) → all (map fill w) between ≡ Ok (y, rest) → all (map fill (u ++ w)) now ≡ Ok (x ++ y, rest)
all_append fill [] w now between rest x y e f =
    ap (λ z. all (map fill w) z) (rest_same [] x now between e) ∙ f ∙ ap (λ z. Ok (z ++ y, rest)) (first_same [] x now between e)
all_append fill (a ∷ u) w now between rest x y e f =
    let m = made_of_all fill a u now x between e in
    all_cons fill a (u ++ w) now m.between rest m.first (m.others ++ y) m.first_is (all_append fill u w m.between between rest m.others y m.others_are f)
    ∙ ap (λ z. Ok (z ++ y, rest)) (sym m.are)

-- ---- lists of parts, with those of the same kind merged into them

module _ {A : Type 0} (parts : A → List A) (join : List A → A) (fill : A → Filling A)
    (merged : (x y : A) (now rest : Constants) → fill x now ≡ Ok (y, rest) → all (map fill (parts x)) now ≡ Ok (parts y, rest))
    (joins : (xs ys : List A) (now rest : Constants) → all (map fill xs) now ≡ Ok (ys, rest) → fill (join xs) now ≡ Ok (join ys, rest)) where
  flat_filled : (xs ys : List A) (now rest : Constants) → all (map fill xs) now ≡ Ok (ys, rest) → all (map fill (flat_map parts xs)) now ≡ Ok (flat_map parts ys, rest)
  flat_filled [] ys now rest h = h ∙ ap (λ z. Ok (z, rest)) (sym (first_same [] ys now rest h) ∙ ap (flat_map parts) (first_same [] ys now rest h))
  flat_filled (x ∷ xs) ys now rest h =
      let m = made_of_all fill x xs now ys rest h in
      all_append fill (parts x) (flat_map parts xs) now m.between rest (parts m.first) (flat_map parts m.others) (merged x m.first now m.between m.first_is) (flat_filled xs m.others m.between rest m.others_are)
      ∙ ap (λ z. Ok (flat_map parts z, rest)) (sym m.are)

  alone_filled : (xs ys : List A) (now rest : Constants) → all (map fill xs) now ≡ Ok (ys, rest) → fill (g.alone_or parts join xs) now ≡ Ok (g.alone_or parts join ys, rest)
  alone_filled [] ys now rest h =
      joins [] [] now rest (h ∙ ap (λ z. Ok (z, rest)) (sym (first_same [] ys now rest h))) ∙ ap (λ z. Ok (g.alone_or parts join z, rest)) (first_same [] ys now rest h)
  alone_filled (x ∷ []) ys now rest h =
      let m = made_of_all fill x [] now ys rest h in
      m.first_is ∙ ap (λ z. Ok (m.first, z)) (rest_same [] m.others m.between rest m.others_are)
      ∙ ap (λ z. Ok (g.alone_or parts join z, rest)) (ap (λ z. m.first ∷ z) (first_same [] m.others m.between rest m.others_are) ∙ sym m.are)
  alone_filled (x ∷ y ∷ xs) ys now rest h =
      let m = made_of_all fill x (y ∷ xs) now ys rest h in
      let n = made_of_all fill y xs m.between m.others rest m.others_are in
      let are : ys ≡ m.first ∷ n.first ∷ n.others = m.are ∙ ap (λ z. m.first ∷ z) n.are in
      joins (flat_map parts (x ∷ y ∷ xs)) (flat_map parts ys) now rest (flat_filled (x ∷ y ∷ xs) ys now rest h)
      ∙ ap (λ z. Ok (join (flat_map parts z), rest)) are ∙ ap (λ z. Ok (g.alone_or parts join z, rest)) (sym are)

alone_part : {A : Type 0} (parts : A → List A) (fill : A → Filling A) (x y : A) (now rest : Constants) → fill x now ≡ Ok (y, rest) → parts x ≡ x ∷ [] → parts y ≡ y ∷ [] → all (map fill (parts x)) now ≡ Ok (parts y, rest)
alone_part parts fill x y now rest h e f =
    ap (λ z. all (map fill z) now) e ∙ all_cons fill x [] now rest rest y [] h refl ∙ ap (λ z. Ok (z, rest)) (sym f)

-- ---- an expression among the parts of a product or a sum

out_expression : (x : Expression) (layer : Expression-F Condition Expression SelectList Query) → roll-Expression layer ≡ x → out-Expression x ≡ layer
out_expression x layer e = ap out-Expression (sym e) ∙ out-roll-Expression layer

out_condition : (x : Condition) (layer : Condition-F Condition Expression SelectList Query) → roll-Condition layer ≡ x → out-Condition x ≡ layer
out_condition x layer e = ap out-Condition (sym e) ∙ out-roll-Condition layer

product_by : (x : Expression) (layer : Expression-F Condition Expression SelectList Query) → roll-Expression layer ≡ x → g.product_parts x ≡ g.product_layer x layer
unfolding g.product_parts
product_by x layer e = ap (g.product_layer x) (out_expression x layer e)

sum_by : (x : Expression) (layer : Expression-F Condition Expression SelectList Query) → roll-Expression layer ≡ x → g.sum_parts x ≡ g.sum_layer x layer
unfolding g.sum_parts
sum_by x layer e = ap (g.sum_layer x) (out_expression x layer e)

and_by : (x : Condition) (layer : Condition-F Condition Expression SelectList Query) → roll-Condition layer ≡ x → g.and_parts x ≡ g.and_layer x layer
unfolding g.and_parts
and_by x layer e = ap (g.and_layer x) (out_condition x layer e)

or_by : (x : Condition) (layer : Condition-F Condition Expression SelectList Query) → roll-Condition layer ≡ x → g.or_parts x ≡ g.or_layer x layer
unfolding g.or_parts
or_by x layer e = ap (g.or_layer x) (out_condition x layer e)

-- a number is filled to a number or a text
pub record IsLiteral (x : Expression) : Type 0 where
  pub layer : Expression-F Condition Expression SelectList Query
  pub rolled : roll-Expression layer ≡ x
  pub product : g.product_layer x layer ≡ x ∷ []
  pub sum : g.sum_layer x layer ≡ x ∷ []

literal_number : (n : ℤ) → IsLiteral (e.Number n)
literal_number n = record { layer = Expression-F.Number n; rolled = e.rolls-Number n; product = refl; sum = refl }

literal_text : (t : List ℕ) → IsLiteral (e.Text t)
literal_text t = record { layer = Expression-F.Text t; rolled = e.rolls-Text t; product = refl; sum = refl }

literal_same : (x y : Expression) → x ≡ y → IsLiteral x → IsLiteral y
literal_same x y e l = subst IsLiteral e l

literal_by : (parameter : ℕ) (r : Result Value FillFault) (rest now : Constants) (y : Expression)
    → and_then {B = Expression × Constants} (and_then r (expression_by parameter)) (λ made. Ok (made, rest)) ≡ Ok (y, now) → IsLiteral y
literal_by parameter (Ok v.Null) rest now y h = absurd (no_answer _ y now h)
literal_by parameter (Ok (v.Int n)) rest now y h = literal_same (e.Number n) y (first_same (e.Number n) y rest now h) (literal_number n)
literal_by parameter (Ok (v.Text t)) rest now y h = literal_same (e.Text t) y (first_same (e.Text t) y rest now h) (literal_text t)
literal_by parameter (Err fault) rest now y h = absurd (no_answer fault y now h)

literal_next : (n : ℤ) (given : Option Argument) (rest now : Constants) (y : Expression) → next_by expression_of (e.Number n) given rest ≡ Ok (y, now) → IsLiteral y
literal_next n None rest now y h = literal_same (e.Number n) y (first_same (e.Number n) y rest now h) (literal_number n)
literal_next n (Some given) rest now y h = literal_by given.parameter (constant_of given) rest now y h

product_merged_by : (x y : Expression) (now rest : Constants) (layer : Expression-F Condition Expression SelectList Query) → roll-Expression layer ≡ x → filled_expression x now ≡ Ok (y, rest)
    → all (map filled_expression (g.product_parts x)) now ≡ Ok (g.product_parts y, rest)
product_merged_by x y now rest (Expression-F.Number n) r h =
    let l = literal_next n (first_and_rest now).0 (first_and_rest now).1 rest y (sym (expression_rolled (Expression-F.Number n) now) ∙ ap (λ z. filled_expression z now) r ∙ h) in
    alone_part g.product_parts filled_expression x y now rest h (product_by x (Expression-F.Number n) r) (product_by y l.layer l.rolled ∙ l.product)
product_merged_by x y now rest (Expression-F.Text t) r h =
    let is : roll-Expression (Expression-F.Text t) ≡ y = e.rolls-Text t ∙ first_same (e.Text t) y now rest (sym (expression_rolled (Expression-F.Text t) now) ∙ ap (λ z. filled_expression z now) r ∙ h) in
    alone_part g.product_parts filled_expression x y now rest h (product_by x (Expression-F.Text t) r) (product_by y (Expression-F.Text t) is)
product_merged_by x y now rest (Expression-F.Column column) r h =
    let is : roll-Expression (Expression-F.Column column) ≡ y = e.rolls-Column column ∙ first_same (e.Column column) y now rest (sym (expression_rolled (Expression-F.Column column) now) ∙ ap (λ z. filled_expression z now) r ∙ h) in
    alone_part g.product_parts filled_expression x y now rest h (product_by x (Expression-F.Column column) r) (product_by y (Expression-F.Column column) is)
product_merged_by x y now rest (Expression-F.Aggregate function argument) r h =
    let is : roll-Expression (Expression-F.Aggregate function argument) ≡ y = e.rolls-Aggregate function argument ∙ first_same (e.Aggregate function argument) y now rest (sym (expression_rolled (Expression-F.Aggregate function argument) now) ∙ ap (λ z. filled_expression z now) r ∙ h) in
    alone_part g.product_parts filled_expression x y now rest h (product_by x (Expression-F.Aggregate function argument) r) (product_by y (Expression-F.Aggregate function argument) is)
product_merged_by x y now rest (Expression-F.Subquery query) r h =
    let m = made_of e.Subquery (filled_query query now) y rest (sym (expression_rolled (Expression-F.Subquery query) now) ∙ ap (λ z. filled_expression z now) r ∙ h) in
    alone_part g.product_parts filled_expression x y now rest h (product_by x (Expression-F.Subquery query) r) (product_by y (Expression-F.Subquery m.part) (e.rolls-Subquery m.part ∙ sym m.is))
product_merged_by x y now rest (Expression-F.Negation part) r h =
    let m = made_of e.Negation (filled_expression part now) y rest (sym (expression_rolled (Expression-F.Negation part) now) ∙ ap (λ z. filled_expression z now) r ∙ h) in
    alone_part g.product_parts filled_expression x y now rest h (product_by x (Expression-F.Negation part) r) (product_by y (Expression-F.Negation m.part) (e.rolls-Negation m.part ∙ sym m.is))
product_merged_by x y now rest (Expression-F.Sum parts) r h =
    let m = made_of e.Sum (all (map filled_expression parts) now) y rest (sym (expression_rolled (Expression-F.Sum parts) now) ∙ ap (λ z. filled_expression z now) r ∙ h) in
    alone_part g.product_parts filled_expression x y now rest h (product_by x (Expression-F.Sum parts) r) (product_by y (Expression-F.Sum m.part) (e.rolls-Sum m.part ∙ sym m.is))
product_merged_by x y now rest (Expression-F.Product parts) r h =
    let m = made_of e.Product (all (map filled_expression parts) now) y rest (sym (expression_rolled (Expression-F.Product parts) now) ∙ ap (λ z. filled_expression z now) r ∙ h) in
    ap (λ z. all (map filled_expression z) now) (product_by x (Expression-F.Product parts) r) ∙ m.part_is
    ∙ ap (λ z. Ok (z, rest)) (sym (product_by y (Expression-F.Product m.part) (e.rolls-Product m.part ∙ sym m.is)))
product_merged_by x y now rest Expression-F.CountRows r h =
    let is : roll-Expression Expression-F.CountRows ≡ y = e.rolls-CountRows ∙ first_same e.CountRows y now rest (sym (expression_rolled Expression-F.CountRows now) ∙ ap (λ z. filled_expression z now) r ∙ h) in
    alone_part g.product_parts filled_expression x y now rest h (product_by x Expression-F.CountRows r) (product_by y Expression-F.CountRows is)

sum_merged_by : (x y : Expression) (now rest : Constants) (layer : Expression-F Condition Expression SelectList Query) → roll-Expression layer ≡ x → filled_expression x now ≡ Ok (y, rest)
    → all (map filled_expression (g.sum_parts x)) now ≡ Ok (g.sum_parts y, rest)
sum_merged_by x y now rest (Expression-F.Number n) r h =
    let l = literal_next n (first_and_rest now).0 (first_and_rest now).1 rest y (sym (expression_rolled (Expression-F.Number n) now) ∙ ap (λ z. filled_expression z now) r ∙ h) in
    alone_part g.sum_parts filled_expression x y now rest h (sum_by x (Expression-F.Number n) r) (sum_by y l.layer l.rolled ∙ l.sum)
sum_merged_by x y now rest (Expression-F.Text t) r h =
    let is : roll-Expression (Expression-F.Text t) ≡ y = e.rolls-Text t ∙ first_same (e.Text t) y now rest (sym (expression_rolled (Expression-F.Text t) now) ∙ ap (λ z. filled_expression z now) r ∙ h) in
    alone_part g.sum_parts filled_expression x y now rest h (sum_by x (Expression-F.Text t) r) (sum_by y (Expression-F.Text t) is)
sum_merged_by x y now rest (Expression-F.Column column) r h =
    let is : roll-Expression (Expression-F.Column column) ≡ y = e.rolls-Column column ∙ first_same (e.Column column) y now rest (sym (expression_rolled (Expression-F.Column column) now) ∙ ap (λ z. filled_expression z now) r ∙ h) in
    alone_part g.sum_parts filled_expression x y now rest h (sum_by x (Expression-F.Column column) r) (sum_by y (Expression-F.Column column) is)
sum_merged_by x y now rest (Expression-F.Aggregate function argument) r h =
    let is : roll-Expression (Expression-F.Aggregate function argument) ≡ y = e.rolls-Aggregate function argument ∙ first_same (e.Aggregate function argument) y now rest (sym (expression_rolled (Expression-F.Aggregate function argument) now) ∙ ap (λ z. filled_expression z now) r ∙ h) in
    alone_part g.sum_parts filled_expression x y now rest h (sum_by x (Expression-F.Aggregate function argument) r) (sum_by y (Expression-F.Aggregate function argument) is)
sum_merged_by x y now rest (Expression-F.Subquery query) r h =
    let m = made_of e.Subquery (filled_query query now) y rest (sym (expression_rolled (Expression-F.Subquery query) now) ∙ ap (λ z. filled_expression z now) r ∙ h) in
    alone_part g.sum_parts filled_expression x y now rest h (sum_by x (Expression-F.Subquery query) r) (sum_by y (Expression-F.Subquery m.part) (e.rolls-Subquery m.part ∙ sym m.is))
sum_merged_by x y now rest (Expression-F.Negation part) r h =
    let m = made_of e.Negation (filled_expression part now) y rest (sym (expression_rolled (Expression-F.Negation part) now) ∙ ap (λ z. filled_expression z now) r ∙ h) in
    alone_part g.sum_parts filled_expression x y now rest h (sum_by x (Expression-F.Negation part) r) (sum_by y (Expression-F.Negation m.part) (e.rolls-Negation m.part ∙ sym m.is))
sum_merged_by x y now rest (Expression-F.Sum parts) r h =
    let m = made_of e.Sum (all (map filled_expression parts) now) y rest (sym (expression_rolled (Expression-F.Sum parts) now) ∙ ap (λ z. filled_expression z now) r ∙ h) in
    ap (λ z. all (map filled_expression z) now) (sum_by x (Expression-F.Sum parts) r) ∙ m.part_is
    ∙ ap (λ z. Ok (z, rest)) (sym (sum_by y (Expression-F.Sum m.part) (e.rolls-Sum m.part ∙ sym m.is)))
sum_merged_by x y now rest (Expression-F.Product parts) r h =
    let m = made_of e.Product (all (map filled_expression parts) now) y rest (sym (expression_rolled (Expression-F.Product parts) now) ∙ ap (λ z. filled_expression z now) r ∙ h) in
    alone_part g.sum_parts filled_expression x y now rest h (sum_by x (Expression-F.Product parts) r) (sum_by y (Expression-F.Product m.part) (e.rolls-Product m.part ∙ sym m.is))
sum_merged_by x y now rest Expression-F.CountRows r h =
    let is : roll-Expression Expression-F.CountRows ≡ y = e.rolls-CountRows ∙ first_same e.CountRows y now rest (sym (expression_rolled Expression-F.CountRows now) ∙ ap (λ z. filled_expression z now) r ∙ h) in
    alone_part g.sum_parts filled_expression x y now rest h (sum_by x Expression-F.CountRows r) (sum_by y Expression-F.CountRows is)

-- two parts, of which both were made
pub record MadeOfBoth {A B C : Type 0} (make : A → B → C) (left : Filling A) (right : Filling B) (now : Constants) (made : C) (rest : Constants) : Type 0 where
  pub first : A
  pub second : B
  pub is : made ≡ make first second

made_of_both_by : {A B C : Type 0} (make : A → B → C) (left : Filling A) (right : Filling B) (now : Constants) (made : C) (rest : Constants) (r : Result (A × Constants) FillFault)
    → and_then r (λ l. then_made (make l.0) (right l.1)) ≡ Ok (made, rest) → MadeOfBoth make left right now made rest
made_of_both_by make left right now made rest (Ok m) h =
    let second = made_of (make m.0) (right m.1) made rest h in record { first = m.0; second = second.part; is = second.is }
made_of_both_by make left right now made rest (Err fault) h = absurd (no_answer fault made rest h)

pub made_of_both : {A B C : Type 0} (make : A → B → C) (left : Filling A) (right : Filling B) (now : Constants) (made : C) (rest : Constants)
    → both make left right now ≡ Ok (made, rest) → MadeOfBoth make left right now made rest
made_of_both make left right now made rest h = made_of_both_by make left right now made rest (left now) h

pub record MadeOfThree {A B C D : Type 0} (make : A → B → C → D) (made : D) : Type 0 where
  pub first : A
  pub second : B
  pub third : C
  pub is : made ≡ make first second third

made_of_three : {A B C D : Type 0} (make : A → B → C → D) (middle : Filling B) (last : Filling C) (made : D) (rest : Constants) (r : Result (A × Constants) FillFault)
    → and_then r (λ s. both (make s.0) middle last s.1) ≡ Ok (made, rest) → MadeOfThree make made
made_of_three make middle last made rest (Ok m) h =
    let others = made_of_both (make m.0) middle last m.1 made rest h in record { first = m.0; second = others.first; third = others.second; is = others.is }
made_of_three make middle last made rest (Err fault) h = absurd (no_answer fault made rest h)

and_merged_by : (x y : Condition) (now rest : Constants) (layer : Condition-F Condition Expression SelectList Query) → roll-Condition layer ≡ x → filled_condition x now ≡ Ok (y, rest)
    → all (map filled_condition (g.and_parts x)) now ≡ Ok (g.and_parts y, rest)
and_merged_by x y now rest (Condition-F.Or parts) r h =
    let m = made_of b.Or (all (map filled_condition parts) now) y rest (sym (condition_rolled (Condition-F.Or parts) now) ∙ ap (λ z. filled_condition z now) r ∙ h) in
    alone_part g.and_parts filled_condition x y now rest h (and_by x (Condition-F.Or parts) r) (and_by y (Condition-F.Or m.part) (b.rolls-Or m.part ∙ sym m.is))
and_merged_by x y now rest (Condition-F.And parts) r h =
    let m = made_of b.And (all (map filled_condition parts) now) y rest (sym (condition_rolled (Condition-F.And parts) now) ∙ ap (λ z. filled_condition z now) r ∙ h) in
    ap (λ z. all (map filled_condition z) now) (and_by x (Condition-F.And parts) r) ∙ m.part_is
    ∙ ap (λ z. Ok (z, rest)) (sym (and_by y (Condition-F.And m.part) (b.rolls-And m.part ∙ sym m.is)))
and_merged_by x y now rest (Condition-F.Not part) r h =
    let m = made_of b.Not (filled_condition part now) y rest (sym (condition_rolled (Condition-F.Not part) now) ∙ ap (λ z. filled_condition z now) r ∙ h) in
    alone_part g.and_parts filled_condition x y now rest h (and_by x (Condition-F.Not part) r) (and_by y (Condition-F.Not m.part) (b.rolls-Not m.part ∙ sym m.is))
and_merged_by x y now rest (Condition-F.Is part truth) r h =
    let m = made_of (λ c. b.Is c truth) (filled_condition part now) y rest (sym (condition_rolled (Condition-F.Is part truth) now) ∙ ap (λ z. filled_condition z now) r ∙ h) in
    alone_part g.and_parts filled_condition x y now rest h (and_by x (Condition-F.Is part truth) r) (and_by y (Condition-F.Is m.part truth) (b.rolls-Is m.part truth ∙ sym m.is))
and_merged_by x y now rest (Condition-F.Exists query) r h =
    let m = made_of b.Exists (filled_query query now) y rest (sym (condition_rolled (Condition-F.Exists query) now) ∙ ap (λ z. filled_condition z now) r ∙ h) in
    alone_part g.and_parts filled_condition x y now rest h (and_by x (Condition-F.Exists query) r) (and_by y (Condition-F.Exists m.part) (b.rolls-Exists m.part ∙ sym m.is))
and_merged_by x y now rest (Condition-F.IsNull part) r h =
    let m = made_of b.IsNull (filled_expression part now) y rest (sym (condition_rolled (Condition-F.IsNull part) now) ∙ ap (λ z. filled_condition z now) r ∙ h) in
    alone_part g.and_parts filled_condition x y now rest h (and_by x (Condition-F.IsNull part) r) (and_by y (Condition-F.IsNull m.part) (b.rolls-IsNull m.part ∙ sym m.is))
and_merged_by x y now rest (Condition-F.Compare left comparison right) r h =
    let m = made_of_both (λ l r. b.Compare l comparison r) (filled_expression left) (filled_expression right) now y rest (sym (condition_rolled (Condition-F.Compare left comparison right) now) ∙ ap (λ z. filled_condition z now) r ∙ h) in
    alone_part g.and_parts filled_condition x y now rest h (and_by x (Condition-F.Compare left comparison right) r) (and_by y (Condition-F.Compare m.first comparison m.second) (b.rolls-Compare m.first comparison m.second ∙ sym m.is))
and_merged_by x y now rest (Condition-F.Between subject low high) r h =
    let m = made_of_three b.Between (filled_expression low) (filled_expression high) y rest (filled_expression subject now) (sym (condition_rolled (Condition-F.Between subject low high) now) ∙ ap (λ z. filled_condition z now) r ∙ h) in
    alone_part g.and_parts filled_condition x y now rest h (and_by x (Condition-F.Between subject low high) r) (and_by y (Condition-F.Between m.first m.second m.third) (b.rolls-Between m.first m.second m.third ∙ sym m.is))
and_merged_by x y now rest (Condition-F.In subject values) r h =
    let m = made_of_both b.In (filled_expression subject) (all (map filled_expression values)) now y rest (sym (condition_rolled (Condition-F.In subject values) now) ∙ ap (λ z. filled_condition z now) r ∙ h) in
    alone_part g.and_parts filled_condition x y now rest h (and_by x (Condition-F.In subject values) r) (and_by y (Condition-F.In m.first m.second) (b.rolls-In m.first m.second ∙ sym m.is))

or_merged_by : (x y : Condition) (now rest : Constants) (layer : Condition-F Condition Expression SelectList Query) → roll-Condition layer ≡ x → filled_condition x now ≡ Ok (y, rest)
    → all (map filled_condition (g.or_parts x)) now ≡ Ok (g.or_parts y, rest)
or_merged_by x y now rest (Condition-F.Or parts) r h =
    let m = made_of b.Or (all (map filled_condition parts) now) y rest (sym (condition_rolled (Condition-F.Or parts) now) ∙ ap (λ z. filled_condition z now) r ∙ h) in
    ap (λ z. all (map filled_condition z) now) (or_by x (Condition-F.Or parts) r) ∙ m.part_is
    ∙ ap (λ z. Ok (z, rest)) (sym (or_by y (Condition-F.Or m.part) (b.rolls-Or m.part ∙ sym m.is)))
or_merged_by x y now rest (Condition-F.And parts) r h =
    let m = made_of b.And (all (map filled_condition parts) now) y rest (sym (condition_rolled (Condition-F.And parts) now) ∙ ap (λ z. filled_condition z now) r ∙ h) in
    alone_part g.or_parts filled_condition x y now rest h (or_by x (Condition-F.And parts) r) (or_by y (Condition-F.And m.part) (b.rolls-And m.part ∙ sym m.is))
or_merged_by x y now rest (Condition-F.Not part) r h =
    let m = made_of b.Not (filled_condition part now) y rest (sym (condition_rolled (Condition-F.Not part) now) ∙ ap (λ z. filled_condition z now) r ∙ h) in
    alone_part g.or_parts filled_condition x y now rest h (or_by x (Condition-F.Not part) r) (or_by y (Condition-F.Not m.part) (b.rolls-Not m.part ∙ sym m.is))
or_merged_by x y now rest (Condition-F.Is part truth) r h =
    let m = made_of (λ c. b.Is c truth) (filled_condition part now) y rest (sym (condition_rolled (Condition-F.Is part truth) now) ∙ ap (λ z. filled_condition z now) r ∙ h) in
    alone_part g.or_parts filled_condition x y now rest h (or_by x (Condition-F.Is part truth) r) (or_by y (Condition-F.Is m.part truth) (b.rolls-Is m.part truth ∙ sym m.is))
or_merged_by x y now rest (Condition-F.Exists query) r h =
    let m = made_of b.Exists (filled_query query now) y rest (sym (condition_rolled (Condition-F.Exists query) now) ∙ ap (λ z. filled_condition z now) r ∙ h) in
    alone_part g.or_parts filled_condition x y now rest h (or_by x (Condition-F.Exists query) r) (or_by y (Condition-F.Exists m.part) (b.rolls-Exists m.part ∙ sym m.is))
or_merged_by x y now rest (Condition-F.IsNull part) r h =
    let m = made_of b.IsNull (filled_expression part now) y rest (sym (condition_rolled (Condition-F.IsNull part) now) ∙ ap (λ z. filled_condition z now) r ∙ h) in
    alone_part g.or_parts filled_condition x y now rest h (or_by x (Condition-F.IsNull part) r) (or_by y (Condition-F.IsNull m.part) (b.rolls-IsNull m.part ∙ sym m.is))
or_merged_by x y now rest (Condition-F.Compare left comparison right) r h =
    let m = made_of_both (λ l r. b.Compare l comparison r) (filled_expression left) (filled_expression right) now y rest (sym (condition_rolled (Condition-F.Compare left comparison right) now) ∙ ap (λ z. filled_condition z now) r ∙ h) in
    alone_part g.or_parts filled_condition x y now rest h (or_by x (Condition-F.Compare left comparison right) r) (or_by y (Condition-F.Compare m.first comparison m.second) (b.rolls-Compare m.first comparison m.second ∙ sym m.is))
or_merged_by x y now rest (Condition-F.Between subject low high) r h =
    let m = made_of_three b.Between (filled_expression low) (filled_expression high) y rest (filled_expression subject now) (sym (condition_rolled (Condition-F.Between subject low high) now) ∙ ap (λ z. filled_condition z now) r ∙ h) in
    alone_part g.or_parts filled_condition x y now rest h (or_by x (Condition-F.Between subject low high) r) (or_by y (Condition-F.Between m.first m.second m.third) (b.rolls-Between m.first m.second m.third ∙ sym m.is))
or_merged_by x y now rest (Condition-F.In subject values) r h =
    let m = made_of_both b.In (filled_expression subject) (all (map filled_expression values)) now y rest (sym (condition_rolled (Condition-F.In subject values) now) ∙ ap (λ z. filled_condition z now) r ∙ h) in
    alone_part g.or_parts filled_condition x y now rest h (or_by x (Condition-F.In subject values) r) (or_by y (Condition-F.In m.first m.second) (b.rolls-In m.first m.second ∙ sym m.is))

product_merged : (x y : Expression) (now rest : Constants) → filled_expression x now ≡ Ok (y, rest) → all (map filled_expression (g.product_parts x)) now ≡ Ok (g.product_parts y, rest)
product_merged x y now rest h = product_merged_by x y now rest (out-Expression x) (roll-out-Expression x) h

product_joins : (xs ys : List Expression) (now rest : Constants) → all (map filled_expression xs) now ≡ Ok (ys, rest) → filled_expression (e.Product xs) now ≡ Ok (e.Product ys, rest)
product_joins xs ys now rest h = of_product xs now ∙ ap (then_made e.Product) h

pub product_filled : (xs ys : List Expression) (now rest : Constants) → all (map filled_expression xs) now ≡ Ok (ys, rest) → filled_expression (g.product_of xs) now ≡ Ok (g.product_of ys, rest)
unfolding g.product_of
product_filled xs ys now rest h = alone_filled g.product_parts e.Product filled_expression product_merged product_joins xs ys now rest h

sum_merged : (x y : Expression) (now rest : Constants) → filled_expression x now ≡ Ok (y, rest) → all (map filled_expression (g.sum_parts x)) now ≡ Ok (g.sum_parts y, rest)
sum_merged x y now rest h = sum_merged_by x y now rest (out-Expression x) (roll-out-Expression x) h

sum_joins : (xs ys : List Expression) (now rest : Constants) → all (map filled_expression xs) now ≡ Ok (ys, rest) → filled_expression (e.Sum xs) now ≡ Ok (e.Sum ys, rest)
sum_joins xs ys now rest h = of_sum xs now ∙ ap (then_made e.Sum) h

pub sum_filled : (xs ys : List Expression) (now rest : Constants) → all (map filled_expression xs) now ≡ Ok (ys, rest) → filled_expression (g.sum_of xs) now ≡ Ok (g.sum_of ys, rest)
unfolding g.sum_of
sum_filled xs ys now rest h = alone_filled g.sum_parts e.Sum filled_expression sum_merged sum_joins xs ys now rest h

and_merged : (x y : Condition) (now rest : Constants) → filled_condition x now ≡ Ok (y, rest) → all (map filled_condition (g.and_parts x)) now ≡ Ok (g.and_parts y, rest)
and_merged x y now rest h = and_merged_by x y now rest (out-Condition x) (roll-out-Condition x) h

and_joins : (xs ys : List Condition) (now rest : Constants) → all (map filled_condition xs) now ≡ Ok (ys, rest) → filled_condition (b.And xs) now ≡ Ok (b.And ys, rest)
and_joins xs ys now rest h = of_and xs now ∙ ap (then_made b.And) h

pub and_filled : (xs ys : List Condition) (now rest : Constants) → all (map filled_condition xs) now ≡ Ok (ys, rest) → filled_condition (g.and_of xs) now ≡ Ok (g.and_of ys, rest)
unfolding g.and_of
and_filled xs ys now rest h = alone_filled g.and_parts b.And filled_condition and_merged and_joins xs ys now rest h

or_merged : (x y : Condition) (now rest : Constants) → filled_condition x now ≡ Ok (y, rest) → all (map filled_condition (g.or_parts x)) now ≡ Ok (g.or_parts y, rest)
or_merged x y now rest h = or_merged_by x y now rest (out-Condition x) (roll-out-Condition x) h

or_joins : (xs ys : List Condition) (now rest : Constants) → all (map filled_condition xs) now ≡ Ok (ys, rest) → filled_condition (b.Or xs) now ≡ Ok (b.Or ys, rest)
or_joins xs ys now rest h = of_or xs now ∙ ap (then_made b.Or) h

pub or_filled : (xs ys : List Condition) (now rest : Constants) → all (map filled_condition xs) now ≡ Ok (ys, rest) → filled_condition (g.or_of xs) now ≡ Ok (g.or_of ys, rest)
unfolding g.or_of
or_filled xs ys now rest h = alone_filled g.or_parts b.Or filled_condition or_merged or_joins xs ys now rest h
