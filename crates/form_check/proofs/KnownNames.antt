-- Where a condition or an expression is over the rows of one table, each of its names stands for a column of that table.
use Rattle.std.proofs.Common.{◌≡◌, ℕ, ◌≤◌, Option, Some, None, Ok, List, [], ◌∷◌, ◌++◌, length, map, refl, ap, sym, ◌∙◌, subst, arith}
use Rattle.std.proofs.lemmas.List.{length-append}
use Rattle.std.specs.Prelude.{Bool, true, false, is_some, if◌then◌else◌}
use Rattle.std.specs.Option.{option_or}
use Rattle.value.specs.declared.values.Value.{Value}
use Rattle.value.specs.declared.values.Value.TheVariants as value
use Rattle.value.specs.declared.refusals.Refusal.{Refusal}
use Rattle.value.specs.declared.refusals.Refusal.TheVariants.{UnknownName}
use Rattle.value.specs.Results.{and_then}
use Rattle.table.specs.Rows.{Tables}
use Rattle.table.specs.Conditions.{between_of, in_of}
use Rattle.table.specs.declared.exprs.Expr.{Expr}
use Rattle.table.specs.declared.exprs.Expr.TheVariants as expr
use Rattle.table.specs.declared.exprs.Expr.TheViews as expr_of
use Rattle.table.specs.declared.conds.Cond.{Cond}
use Rattle.table.specs.declared.conds.Cond.TheVariants as cond
use Rattle.table.specs.declared.conds.Cond.TheViews as cond_of
use Rattle.syntax.specs.declared.trees.ColumnName.{ColumnName}
use Rattle.syntax.specs.declared.trees.Condition.{Condition, roll-Condition}
use Rattle.syntax.specs.declared.trees.Condition.TheOpen.{Condition-F, Expression-F}
use Rattle.syntax.specs.declared.trees.Condition.TheFolds.{map-Condition, map-Expression, fold-roll-Condition, fold-roll-Expression, ind-Condition, ind-Expression}
use Rattle.syntax.specs.declared.trees.Expression.{Expression, roll-Expression}
use Rattle.syntax.specs.declared.trees.SelectList.{SelectList}
use Rattle.syntax.specs.declared.trees.Query.{Query}
use Rattle.form_check.specs.Columns.{at_place}
use Rattle.form_check.specs.Leaves.{Leaf, Leaves, Numbering, Rows, Of, Exists, Value as Worth, expression_of_column, slot, then_made, both, all, numbered, numbered_expression}
use Rattle.form_check.specs.Leaves as leaves_of
use Rattle.form_check.specs.Names.{Fault, parts_fault, condition_fault, expression_fault, select_list_fault, query_fault}
use Rattle.form_check.specs.Names as names
use Rattle.form_check.specs.Queries.{alone, row_condition, row_expression}
use Rattle.form_check.specs.Scopes.{Scope, Scopes, column_fault, fault_in, is_name_of, named_in, own_column}
use Rattle.form_check.proofs.Equations.{condition_rolled, expression_rolled}
use Rattle.form_check.proofs.Steps.{alone_ok, and_then_ok, in_class_ok, then_ok, ok_pair, mapped_some}

-- ---- columns

-- a column that a table has under its own name
own_named : (b : Bool) (column : ColumnName) (scope : Scope) (c : ℕ) → (if b then named_in column.name scope else None) ≡ Some c
    → fault_in column (if b then Some scope else None) ≡ None
own_named true column scope c e = ap (λ o. if is_some o then None else Some (UnknownName column.name)) e
own_named false column scope c e = cc

own_known : (scope : Scope) (column : ColumnName) (c : ℕ) → own_column scope column ≡ Some c → column_fault column (scope ∷ []) ≡ None
own_known scope column c is = own_named (is_name_of column.qualifier column.name scope) column scope c is

-- nor in both of two parts
pub both_none : (f g : Option Refusal) → f ≡ None → g ≡ None → option_or f g ≡ None
both_none None g e e' = e'
both_none (Some fault) g e e' = cc

-- ---- parts that leave no slot

-- slots are put behind those that were there; where none was, no name is unknown
abbrev pub Known : {A : Type 0} → Option Refusal → Numbering A → Type 0
Known {A} fault make = (before : Leaves) (made : A) (after : Leaves) → make before ≡ Ok (made, after)
    → (length before ≤ length after) × (length after ≤ length before → fault ≡ None)

then_known : {A B : Type 0} (make : A → B) (fault : Option Refusal) (n : Numbering A) → Known fault n → Known fault (λ leaves. then_made make (n leaves))
then_known make fault n good before made after e =
    let (a, (is, makes)) = then_ok make (n before) made after e in
    good before a after is

both_known : {A B C : Type 0} (make : A → B → C) (f g : Option Refusal) (m : Numbering A) (n : Numbering B) → Known f m → Known g n → Known (option_or f g) (both make m n)
both_known make f g m n good_m good_n before made after e =
    let (l, (is, more)) = and_then_ok (m before) (λ l. then_made (make l.0) (n l.1)) (made, after) e in
    let (b, (is_b, makes)) = then_ok (make l.0) (n l.1) made after more in
    let (up_m, none_m) = good_m before l.0 l.1 is in
    let (up_n, none_n) = good_n l.1 b after is_b in
    (omega arith, λ short. both_none f g (none_m (omega arith)) (none_n (omega arith)))

-- parts from the left
all_known : {X A : Type 0} (scopes : Scopes) (fault_of : X → Fault) (make : X → Numbering A) (parts : List ((x : X) × Known (fault_of x scopes) (make x)))
    → Known (parts_fault (map fault_of (map (λ e. e.0) parts)) scopes) (all (map (λ x. (x, make x)) (map (λ e. e.0) parts)))
all_known {A = A} scopes fault_of make [] before made after e =
    let none : List A = [] in
    let (is, same) = ok_pair none made before after e in
    let long = ap length same in
    (omega arith, λ short. refl)
all_known {A = A} scopes fault_of make (part ∷ parts) before made after e =
    let others : Numbering (List A) = all (map (λ x. (x, make x)) (map (λ e. e.0) parts)) in
    let (l, (is, more)) = and_then_ok (make part.0 before) (λ l. then_made (λ others. l.0 ∷ others) (others l.1)) (made, after) e in
    let (rest, (is_rest, makes)) = then_ok (λ others. l.0 ∷ others) (others l.1) made after more in
    let (up_part, none_part) = part.1 before l.0 l.1 is in
    let (up_rest, none_rest) = all_known scopes fault_of make parts l.1 rest after is_rest in
    (omega arith, λ short. both_none (fault_of part.0 scopes) (parts_fault (map fault_of (map (λ e. e.0) parts)) scopes) (none_part (omega arith)) (none_rest (omega arith)))

-- a slot more
put_known : {A : Type 0} (fault : Option Refusal) (leaf : Leaf) (make : Leaves → A) → Known fault (λ leaves. Ok (make leaves, leaves ++ leaf ∷ []))
put_known fault leaf make before made after e =
    let (is, same) = ok_pair (make before) made (before ++ leaf ∷ []) after e in
    let long = ap length same in
    let one = length-append before (leaf ∷ []) in
    (omega arith, λ short. absurd (omega arith))

-- a literal, which makes no slot
literal_known : (v : Value) → Known None (λ leaves. Ok (expr.Literal v, leaves))
literal_known v before made after e =
    let (is, same) = ok_pair (expr.Literal v) made before after e in
    let long = ap length same in
    (omega arith, λ short. refl)

moved : {A : Type 0} (f g : Option Refusal) (m n : Numbering A) → f ≡ g → m ≡ n → Known g n → Known f m
moved f g m n same makes good before made after e =
    let (up, none) = good before made after (sym (ap (λ make. make before) makes) ∙ e) in
    (up, λ short. same ∙ none short)

module _ (tables : Tables) (scope : Scope) where
  abbrev scopes : Scopes
  scopes = scope ∷ []

  abbrev place : ColumnName → Option Expr
  place = at_place (own_column scope)

  column_known : (column : ColumnName) → Known (column_fault column scopes) (expression_of_column (place column))
  column_known column before made after e =
      let (x, (is, more)) = in_class_ok (place column) (λ x. Ok (x, before)) (made, after) e in
      let (makes, same) = ok_pair x made before after more in
      let (c, (own, is_own)) = mapped_some expr.Column (own_column scope column) x is in
      let long = ap length same in
      (omega arith, λ short. own_known scope column c own)

  abbrev pub IsKnown : Condition → Type 0
  IsKnown c = Known (condition_fault tables c scopes) (numbered place c)

  abbrev pub IsKnownExpression : Expression → Type 0
  IsKnownExpression e = Known (expression_fault tables e scopes) (numbered_expression place e)

  abbrev of_condition : Type 0
  of_condition = (c : Condition) × IsKnown c

  abbrev of_expression : Type 0
  of_expression = (e : Expression) × IsKnownExpression e

  abbrev of_select_list : Type 0
  of_select_list = SelectList × Unit {0}

  abbrev of_query : Type 0
  of_query = Query × Unit {0}

  expression_layer : (y : Expression-F of_condition of_expression of_select_list of_query)
      → Known
      (names.expression_step (map-Expression Condition Expression SelectList Query Fault Fault Fault Fault (condition_fault tables) (expression_fault tables) (select_list_fault tables) (query_fault tables)
      (map-Expression of_condition of_expression of_select_list of_query Condition Expression SelectList Query (λ e. e.0) (λ e. e.0) (λ e. e.0) (λ e. e.0) y)) scopes)
      (leaves_of.expression_step place (map-Expression Condition Expression SelectList Query (Condition × Numbering Cond) (Expression × Numbering Expr) (SelectList × Unit {0}) (Query × Unit {0}) (λ c. (c, numbered place c)) (λ e. (e, numbered_expression place e)) (λ l. (l, tt)) (λ q. (q, tt))
      (map-Expression of_condition of_expression of_select_list of_query Condition Expression SelectList Query (λ e. e.0) (λ e. e.0) (λ e. e.0) (λ e. e.0) y)))
  expression_layer (Expression-F.Number n) = literal_known (value.Int n)
  expression_layer (Expression-F.Text t) = literal_known (value.Text t)
  expression_layer (Expression-F.Column column) = column_known column
  expression_layer Expression-F.CountRows = put_known None Rows (λ leaves. expr.Slot (length leaves))
  expression_layer (Expression-F.Aggregate function argument) = put_known (column_fault argument.column scopes) (Of function argument) (λ leaves. expr.Slot (length leaves))
  expression_layer (Expression-F.Subquery query) = put_known (query_fault tables query.0 scopes) (Worth query.0) (λ leaves. expr.Slot (length leaves))
  expression_layer (Expression-F.Negation part) = then_known expr_of.Negation (expression_fault tables part.0 scopes) (numbered_expression place part.0) part.1
  expression_layer (Expression-F.Sum parts) =
      then_known expr_of.Sum (parts_fault (map (expression_fault tables) (map (λ e. e.0) parts)) scopes) (all (map (λ e. (e, numbered_expression place e)) (map (λ e. e.0) parts)))
      (all_known scopes (expression_fault tables) (numbered_expression place) parts)
  expression_layer (Expression-F.Product parts) =
      then_known expr_of.Product (parts_fault (map (expression_fault tables) (map (λ e. e.0) parts)) scopes) (all (map (λ e. (e, numbered_expression place e)) (map (λ e. e.0) parts)))
      (all_known scopes (expression_fault tables) (numbered_expression place) parts)

  between_known : (x low high : of_expression) → Known (option_or (expression_fault tables x.0 scopes) (option_or (expression_fault tables low.0 scopes) (expression_fault tables high.0 scopes)))
      (λ leaves. and_then (numbered_expression place x.0 leaves) (λ s. both (between_of s.0) (numbered_expression place low.0) (numbered_expression place high.0) s.1))
  between_known x low high before made after e =
      let (s, (is, more)) = and_then_ok (numbered_expression place x.0 before) (λ s. both (between_of s.0) (numbered_expression place low.0) (numbered_expression place high.0) s.1) (made, after) e in
      let ends : Option Refusal = option_or (expression_fault tables low.0 scopes) (expression_fault tables high.0 scopes) in
      let (up_x, none_x) = x.1 before s.0 s.1 is in
      let (up, none) = both_known (between_of s.0) (expression_fault tables low.0 scopes) (expression_fault tables high.0 scopes) (numbered_expression place low.0) (numbered_expression place high.0) low.1 high.1 s.1 made after more in
      (omega arith, λ short. both_none (expression_fault tables x.0 scopes) ends (none_x (omega arith)) (none (omega arith)))

  condition_layer : (y : Condition-F of_condition of_expression of_select_list of_query)
      → Known
      (names.condition_step (map-Condition Condition Expression SelectList Query Fault Fault Fault Fault (condition_fault tables) (expression_fault tables) (select_list_fault tables) (query_fault tables)
      (map-Condition of_condition of_expression of_select_list of_query Condition Expression SelectList Query (λ e. e.0) (λ e. e.0) (λ e. e.0) (λ e. e.0) y)) scopes)
      (leaves_of.condition_step place (map-Condition Condition Expression SelectList Query (Condition × Numbering Cond) (Expression × Numbering Expr) (SelectList × Unit {0}) (Query × Unit {0}) (λ c. (c, numbered place c)) (λ e. (e, numbered_expression place e)) (λ l. (l, tt)) (λ q. (q, tt))
      (map-Condition of_condition of_expression of_select_list of_query Condition Expression SelectList Query (λ e. e.0) (λ e. e.0) (λ e. e.0) (λ e. e.0) y)))
  condition_layer (Condition-F.Or parts) =
      then_known cond_of.Or (parts_fault (map (condition_fault tables) (map (λ e. e.0) parts)) scopes) (all (map (λ c. (c, numbered place c)) (map (λ e. e.0) parts)))
      (all_known scopes (condition_fault tables) (numbered place) parts)
  condition_layer (Condition-F.And parts) =
      then_known cond_of.And (parts_fault (map (condition_fault tables) (map (λ e. e.0) parts)) scopes) (all (map (λ c. (c, numbered place c)) (map (λ e. e.0) parts)))
      (all_known scopes (condition_fault tables) (numbered place) parts)
  condition_layer (Condition-F.Not part) = then_known cond_of.Not (condition_fault tables part.0 scopes) (numbered place part.0) part.1
  condition_layer (Condition-F.Is part wanted) = then_known (λ c. cond_of.Is c wanted) (condition_fault tables part.0 scopes) (numbered place part.0) part.1
  condition_layer (Condition-F.Exists query) = put_known (query_fault tables query.0 scopes) (Exists query.0) (λ leaves. cond.Exists (length leaves))
  condition_layer (Condition-F.Compare left comparison right) = both_known (λ a b. cond.Compare comparison a b) (expression_fault tables left.0 scopes) (expression_fault tables right.0 scopes) (numbered_expression place left.0) (numbered_expression place right.0) left.1 right.1
  condition_layer (Condition-F.IsNull part) = then_known cond.IsNull (expression_fault tables part.0 scopes) (numbered_expression place part.0) part.1
  condition_layer (Condition-F.Between x low high) = between_known x low high
  condition_layer (Condition-F.In x list) =
      both_known in_of (expression_fault tables x.0 scopes) (parts_fault (map (expression_fault tables) (map (λ e. e.0) list)) scopes) (numbered_expression place x.0) (all (map (λ e. (e, numbered_expression place e)) (map (λ e. e.0) list)))
      x.1 (all_known scopes (expression_fault tables) (numbered_expression place) list)

  expression_at : (x : Expression-F Condition Expression SelectList Query) (y : Expression-F of_condition of_expression of_select_list of_query) → map-Expression of_condition of_expression of_select_list of_query Condition Expression SelectList Query (λ e. e.0) (λ e. e.0) (λ e. e.0) (λ e. e.0) y ≡ x → IsKnownExpression (roll-Expression x)
  expression_at x y is =
      let layer = map-Expression of_condition of_expression of_select_list of_query Condition Expression SelectList Query (λ e. e.0) (λ e. e.0) (λ e. e.0) (λ e. e.0) y in
      let faults = map-Expression Condition Expression SelectList Query Fault Fault Fault Fault (condition_fault tables) (expression_fault tables) (select_list_fault tables) (query_fault tables) layer in
      let made = map-Expression Condition Expression SelectList Query (Condition × Numbering Cond) (Expression × Numbering Expr) (SelectList × Unit {0}) (Query × Unit {0}) (λ c. (c, numbered place c)) (λ e. (e, numbered_expression place e)) (λ l. (l, tt)) (λ q. (q, tt)) layer in
      subst (λ x. IsKnownExpression (roll-Expression x)) is (moved (expression_fault tables (roll-Expression layer) scopes) (names.expression_step faults scopes) (numbered_expression place (roll-Expression layer)) (leaves_of.expression_step place made)
      (ap (λ fault. fault scopes) (fold-roll-Expression Fault Fault Fault Fault names.condition_step names.expression_step names.select_list_step (names.query_step tables) layer)) (expression_rolled place layer) (expression_layer y))

  condition_at : (x : Condition-F Condition Expression SelectList Query) (y : Condition-F of_condition of_expression of_select_list of_query) → map-Condition of_condition of_expression of_select_list of_query Condition Expression SelectList Query (λ e. e.0) (λ e. e.0) (λ e. e.0) (λ e. e.0) y ≡ x → IsKnown (roll-Condition x)
  condition_at x y is =
      let layer = map-Condition of_condition of_expression of_select_list of_query Condition Expression SelectList Query (λ e. e.0) (λ e. e.0) (λ e. e.0) (λ e. e.0) y in
      let faults = map-Condition Condition Expression SelectList Query Fault Fault Fault Fault (condition_fault tables) (expression_fault tables) (select_list_fault tables) (query_fault tables) layer in
      let made = map-Condition Condition Expression SelectList Query (Condition × Numbering Cond) (Expression × Numbering Expr) (SelectList × Unit {0}) (Query × Unit {0}) (λ c. (c, numbered place c)) (λ e. (e, numbered_expression place e)) (λ l. (l, tt)) (λ q. (q, tt)) layer in
      subst (λ x. IsKnown (roll-Condition x)) is (moved (condition_fault tables (roll-Condition layer) scopes) (names.condition_step faults scopes) (numbered place (roll-Condition layer)) (leaves_of.condition_step place made)
      (ap (λ fault. fault scopes) (fold-roll-Condition Fault Fault Fault Fault names.condition_step names.expression_step names.select_list_step (names.query_step tables) layer)) (condition_rolled place layer) (condition_layer y))

  known_of_condition : (c : Condition) → IsKnown c
  known_of_condition = ind-Condition IsKnown IsKnownExpression (λ l. Unit {0}) (λ q. Unit {0}) condition_at expression_at (λ x y is. tt) (λ x y is. tt)

  known_of_expression : (e : Expression) → IsKnownExpression e
  known_of_expression = ind-Expression IsKnown IsKnownExpression (λ l. Unit {0}) (λ q. Unit {0}) condition_at expression_at (λ x y is. tt) (λ x y is. tt)

  -- what was made of no slots, and left none, knows its names
  none_left : {A : Type 0} (fault : Option Refusal) (n : Numbering A) (made : A) → Known fault n → and_then (n []) (λ m. alone m.0 m.1) ≡ Ok made → fault ≡ None
  none_left fault n made good e =
      let (m, (is, rest)) = and_then_ok (n []) (λ m. alone m.0 m.1) made e in
      let (same, none) = alone_ok m.0 m.1 made rest in
      let long = ap length none in
      (good [] m.0 m.1 is).1 (omega arith)

  pub row_condition_known : (condition : Condition) (made : Cond) → row_condition scope condition ≡ Ok made → condition_fault tables condition scopes ≡ None
  row_condition_known condition made e = none_left (condition_fault tables condition scopes) (numbered place condition) made (known_of_condition condition) e

  pub row_expression_known : (expression : Expression) (made : Expr) → row_expression scope expression ≡ Ok made → expression_fault tables expression scopes ≡ None
  row_expression_known expression made e = none_left (expression_fault tables expression scopes) (numbered_expression place expression) made (known_of_expression expression) e
