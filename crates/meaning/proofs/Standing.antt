-- A condition is numbered exactly where its columns may stand there, and its slots are then its set functions and queries.
use Rattle.std.proofs.Common.{◌≡◌, Option, Some, None, Ok, List, [], ◌∷◌, ◌++◌, length, map, refl, ap, sym, ◌∙◌, subst, append-nil, append_assoc}
use Rattle.std.proofs.lemmas.List.{map-append}
use Rattle.std.specs.Prelude.{IsSome, is_some, flat_map, ◌↔◌}
use Rattle.value.specs.declared.values.Value.TheVariants as value
use Rattle.table.specs.declared.exprs.Expr.{Expr}
use Rattle.table.specs.declared.exprs.Expr.TheVariants as expr
use Rattle.table.specs.declared.exprs.Expr.TheViews as expr_of
use Rattle.table.specs.declared.conds.Cond.{Cond}
use Rattle.table.specs.declared.conds.Cond.TheVariants as cond
use Rattle.table.specs.declared.conds.Cond.TheViews as cond_of
use Rattle.table.specs.Conditions.{between_of, in_of}
use Rattle.syntax.specs.declared.trees.ColumnName.{ColumnName}
use Rattle.syntax.specs.declared.trees.Condition.{Condition, roll-Condition}
use Rattle.syntax.specs.declared.trees.Condition.TheOpen.{Condition-F, Expression-F}
use Rattle.syntax.specs.declared.trees.Condition.TheFolds.{map-Condition, map-Expression, fold-Expression, para-Expression, para-roll-Condition, para-roll-Expression, fold-roll-Condition, fold-roll-Expression, ind-Condition}
use Rattle.syntax.specs.declared.trees.Expression.{Expression, roll-Expression}
use Rattle.syntax.specs.declared.trees.SelectList.{SelectList}
use Rattle.syntax.specs.declared.trees.Query.{Query}
use Rattle.value.specs.Results.{and_then}
use Rattle.form_check.specs.Results.{in_class}
use Rattle.form_check.specs.Leaves.{Leaf, Leaves, Numbering, Rows, Of, Exists, Value as Worth, expression_of_column, then_made, both, all, numbered, numbered_expression}
use Rattle.form_check.specs.Leaves as leaves_of
use Rattle.meaning.specs.Class as class
use Rattle.meaning.specs.Class.{Piece, Pieces, Each, condition_columns, expression_columns, columns_in, condition_pieces, expression_pieces, pieces_in}
use Rattle.form_check.proofs.Steps.{and_then_ok, in_class_ok, then_ok, ok_pair}
use Rattle.form_check.proofs.Equations.{condition_rolled, expression_rolled}

-- the columns and the leaves of an expression
abbrev pub columns_of : Expression → List ColumnName
columns_of = fold-Expression (List ColumnName) (List ColumnName) (Unit {0}) (Unit {0}) condition_columns expression_columns (λ l. tt) (λ q. tt)

unfoldable pub pieces_at : Expression → Pieces
pieces_at = para-Expression Pieces Pieces (Unit {0}) (Unit {0}) condition_pieces expression_pieces (λ l. tt) (λ q. tt)

pub condition_pieces_rolled : (layer : Condition-F Condition Expression SelectList Query) → pieces_in (roll-Condition layer) ≡ condition_pieces (map-Condition Condition Expression SelectList Query (Condition × Pieces) (Expression × Pieces) (SelectList × Unit {0}) (Query × Unit {0}) (λ c. (c, pieces_in c)) (λ e. (e, pieces_at e)) (λ l. (l, tt)) (λ q. (q, tt)) layer)
unfolding pieces_in pieces_at
condition_pieces_rolled layer = para-roll-Condition Pieces Pieces (Unit {0}) (Unit {0}) condition_pieces expression_pieces (λ l. tt) (λ q. tt) layer

pub expression_pieces_rolled : (layer : Expression-F Condition Expression SelectList Query) → pieces_at (roll-Expression layer) ≡ expression_pieces (map-Expression Condition Expression SelectList Query (Condition × Pieces) (Expression × Pieces) (SelectList × Unit {0}) (Query × Unit {0}) (λ c. (c, pieces_in c)) (λ e. (e, pieces_at e)) (λ l. (l, tt)) (λ q. (q, tt)) layer)
unfolding pieces_in pieces_at
expression_pieces_rolled layer = para-roll-Expression Pieces Pieces (Unit {0}) (Unit {0}) condition_pieces expression_pieces (λ l. tt) (λ q. tt) layer

-- a piece, as what stands in its slot
abbrev pub leaf_of : Piece → Leaf
leaf_of class.Rows = Rows
leaf_of (class.Of function argument) = Of function argument
leaf_of (class.Exists query) = Exists query
leaf_of (class.Value query) = Worth query

joined : (before : Leaves) (l1 l2 : Pieces) → (before ++ map leaf_of l1) ++ map leaf_of l2 ≡ before ++ map leaf_of (l1 ++ l2)
joined before l1 l2 = append_assoc before (map leaf_of l1) (map leaf_of l2) ∙ ap (λ l. before ++ l) (sym (map-append leaf_of l1 l2))

pub each_append : {X : Type 0} (P : X → Type 0) (xs ys : List X) → Each P (xs ++ ys) ↔ (Each P xs × Each P ys)
each_append P [] ys = (λ h. (tt, h), λ h. h.1)
each_append P (x ∷ xs) ys = (λ h. let more = (each_append P xs ys).0 h.1 in ((h.0, more.0), more.1), λ h. (h.0.0, (each_append P xs ys).1 (h.0.1, h.1)))

pub each_other : {X : Type 0} (P Q : X → Type 0) → ((x : X) → P x → Q x) → (xs : List X) → Each P xs → Each Q xs
each_other P Q one [] h = tt
each_other P Q one (x ∷ xs) h = (one x h.0, each_other P Q one xs h.1)

pub some_is : {A : Type 0} (o : Option A) → IsSome o → (a : A) × (o ≡ Some a)
some_is None h = cc
some_is (Some a) h = (a, refl)

module _ (place : ColumnName → Option Expr) where
  abbrev pub MayStand : ColumnName → Type 0
  MayStand column = IsSome (place column)

  -- what is numbered has these columns, all of which may stand there, and these slots; and where they may, it is numbered
  pub record Numbers {A : Type 0} (columns : List ColumnName) (pieces : Pieces) (make : Numbering A) : Type 0 where
    pub says : (before : Leaves) (made : A) (after : Leaves) → make before ≡ Ok (made, after) → Each MayStand columns × (after ≡ before ++ map leaf_of pieces)
    pub finds : (before : Leaves) → Each MayStand columns → (made : A) × (make before ≡ Ok (made, before ++ map leaf_of pieces))

  then_numbers : {A B : Type 0} (make : A → B) (columns : List ColumnName) (leaves : Pieces) (n : Numbering A) → Numbers columns leaves n → Numbers columns leaves (λ before. then_made make (n before))
  then_numbers make columns leaves n good = record {
    says = λ before made after e. let (a, (is, makes)) = then_ok make (n before) made after e in good.says before a after is;
    finds = λ before h. let (a, is) = good.finds before h in (make a, ap (then_made make) is);
  }

  after_numbers : {A B : Type 0} (make : A → Numbering B) (c1 c2 : List ColumnName) (l1 l2 : Pieces) (m : Numbering A) → Numbers c1 l1 m → ((a : A) → Numbers c2 l2 (make a)) → Numbers (c1 ++ c2) (l1 ++ l2) (λ before. and_then (m before) (λ a. make a.0 a.1))
  after_numbers make c1 c2 l1 l2 m first second = record {
    says = λ before made after e.
        let (a, (is, more)) = and_then_ok (m before) (λ a. make a.0 a.1) (made, after) e in
        let (here, between) = first.says before a.0 a.1 is in
        let (there, behind) = (second a.0).says a.1 made after more in
        ((each_append MayStand c1 c2).1 (here, there), behind ∙ ap (λ l. l ++ map leaf_of l2) between ∙ joined before l1 l2);
    finds = λ before h.
        let (here, there) = (each_append MayStand c1 c2).0 h in
        let (a, is) = first.finds before here in
        let (b, more) = (second a).finds (before ++ map leaf_of l1) there in
        (b, ap (λ r. and_then r (λ a. make a.0 a.1)) is ∙ more ∙ ap (λ l. Ok (b, l)) (joined before l1 l2));
  }

  both_numbers : {A B C : Type 0} (make : A → B → C) (c1 c2 : List ColumnName) (l1 l2 : Pieces) (m : Numbering A) (n : Numbering B) → Numbers c1 l1 m → Numbers c2 l2 n → Numbers (c1 ++ c2) (l1 ++ l2) (both make m n)
  both_numbers make c1 c2 l1 l2 m n first second = after_numbers (λ a before. then_made (make a) (n before)) c1 c2 l1 l2 m first (λ a. then_numbers (make a) c2 l2 n second)

  -- what takes no slot and no column
  plain_numbers : {A : Type 0} (a : A) → Numbers [] [] (λ before. Ok (a, before))
  plain_numbers a = record {
    says = λ before made after e. (tt, sym (ok_pair a made before after e).1 ∙ sym (append-nil before));
    finds = λ before h. (a, ap (λ l. Ok (a, l)) (sym (append-nil before)));
  }

  -- what takes one slot
  slot_numbers : {A : Type 0} (make : Leaves → A) (piece : Piece) → Numbers [] (piece ∷ []) (λ before. Ok (make before, before ++ leaf_of piece ∷ []))
  slot_numbers make piece = record {
    says = λ before made after e. (tt, sym (ok_pair (make before) made (before ++ leaf_of piece ∷ []) after e).1);
    finds = λ before h. (make before, refl);
  }

  is_some_of : {A : Type 0} (o : Option A) (a : A) → o ≡ Some a → IsSome o
  is_some_of o a e = ap is_some e

  column_numbers : (column : ColumnName) → Numbers (column ∷ []) [] (expression_of_column (place column))
  column_numbers column = record {
    says = λ before made after e.
        let (x, (is, more)) = in_class_ok (place column) (λ x. Ok (x, before)) (made, after) e in
        ((is_some_of (place column) x is, tt), sym (ok_pair x made before after more).1 ∙ sym (append-nil before));
    finds = λ before h.
        let (x, is) = some_is (place column) h.0 in
        (x, ap (λ o. in_class o (λ x. Ok (x, before))) is ∙ ap (λ l. Ok (x, l)) (sym (append-nil before)));
  }

  all_numbers : {X A : Type 0} (make : X → Numbering A) (columns : X → List ColumnName) (leaves : X → Pieces) (parts : List ((x : X) × Numbers (columns x) (leaves x) (make x)))
      → Numbers (flat_map (λ cs. cs) (map columns (map (λ e. e.0) parts))) (flat_map (λ (p : X × Pieces). p.1) (map (λ x. (x, leaves x)) (map (λ e. e.0) parts))) (all (map (λ x. (x, make x)) (map (λ e. e.0) parts)))
  all_numbers {X = X} {A = A} make columns leaves [] = let none : List A = [] in plain_numbers none
  all_numbers {X = X} {A = A} make columns leaves (part ∷ parts) =
      let others : Numbering (List A) = all (map (λ x. (x, make x)) (map (λ e. e.0) parts)) in
      after_numbers (λ a before. then_made (λ rest. a ∷ rest) (others before)) (columns part.0) (flat_map (λ cs. cs) (map columns (map (λ e. e.0) parts))) (leaves part.0) (flat_map (λ (p : X × Pieces). p.1) (map (λ x. (x, leaves x)) (map (λ e. e.0) parts))) (make part.0) part.1
      (λ a. then_numbers (λ rest. a ∷ rest) (flat_map (λ cs. cs) (map columns (map (λ e. e.0) parts))) (flat_map (λ (p : X × Pieces). p.1) (map (λ x. (x, leaves x)) (map (λ e. e.0) parts))) others (all_numbers make columns leaves parts))

  abbrev pub IsNumbered : Condition → Type 0
  IsNumbered c = Numbers (columns_in c) (pieces_in c) (numbered place c)

  abbrev pub IsNumberedExpression : Expression → Type 0
  IsNumberedExpression e = Numbers (columns_of e) (pieces_at e) (numbered_expression place e)

  abbrev of_condition : Type 0
  of_condition = (c : Condition) × IsNumbered c

  abbrev of_expression : Type 0
  of_expression = (e : Expression) × IsNumberedExpression e

  abbrev of_select_list : Type 0
  of_select_list = SelectList × Unit {0}

  abbrev of_query : Type 0
  of_query = Query × Unit {0}

  abbrev under_condition : Condition-F of_condition of_expression of_select_list of_query → Condition-F Condition Expression SelectList Query
  under_condition y = map-Condition of_condition of_expression of_select_list of_query Condition Expression SelectList Query (λ e. e.0) (λ e. e.0) (λ e. e.0) (λ e. e.0) y

  abbrev under_expression : Expression-F of_condition of_expression of_select_list of_query → Expression-F Condition Expression SelectList Query
  under_expression y = map-Expression of_condition of_expression of_select_list of_query Condition Expression SelectList Query (λ e. e.0) (λ e. e.0) (λ e. e.0) (λ e. e.0) y

  expression_layer : (y : Expression-F of_condition of_expression of_select_list of_query)
      → Numbers (expression_columns (map-Expression Condition Expression SelectList Query (List ColumnName) (List ColumnName) (Unit {0}) (Unit {0}) columns_in columns_of (λ l. tt) (λ q. tt) (under_expression y)))
      (expression_pieces (map-Expression Condition Expression SelectList Query (Condition × Pieces) (Expression × Pieces) (SelectList × Unit {0}) (Query × Unit {0}) (λ c. (c, pieces_in c)) (λ e. (e, pieces_at e)) (λ l. (l, tt)) (λ q. (q, tt)) (under_expression y)))
      (leaves_of.expression_step place (map-Expression Condition Expression SelectList Query (Condition × Numbering Cond) (Expression × Numbering Expr) (SelectList × Unit {0}) (Query × Unit {0}) (λ c. (c, numbered place c)) (λ e. (e, numbered_expression place e)) (λ l. (l, tt)) (λ q. (q, tt)) (under_expression y)))
  expression_layer (Expression-F.Number n) = plain_numbers (expr.Literal (value.Int n))
  expression_layer (Expression-F.Text t) = plain_numbers (expr.Literal (value.Text t))
  expression_layer (Expression-F.Column column) = column_numbers column
  expression_layer Expression-F.CountRows = slot_numbers (λ before. expr.Slot (length before)) class.Rows
  expression_layer (Expression-F.Aggregate function argument) = slot_numbers (λ before. expr.Slot (length before)) (class.Of function argument)
  expression_layer (Expression-F.Subquery query) = slot_numbers (λ before. expr.Slot (length before)) (class.Value query.0)
  expression_layer (Expression-F.Negation part) = then_numbers expr_of.Negation (columns_of part.0) (pieces_at part.0) (numbered_expression place part.0) part.1
  expression_layer (Expression-F.Sum parts) = then_numbers expr_of.Sum (flat_map (λ cs. cs) (map columns_of (map (λ e. e.0) parts))) (flat_map (λ (p : Expression × Pieces). p.1) (map (λ x. (x, pieces_at x)) (map (λ e. e.0) parts))) (all (map (λ e. (e, numbered_expression place e)) (map (λ e. e.0) parts))) (all_numbers (numbered_expression place) columns_of pieces_at parts)
  expression_layer (Expression-F.Product parts) = then_numbers expr_of.Product (flat_map (λ cs. cs) (map columns_of (map (λ e. e.0) parts))) (flat_map (λ (p : Expression × Pieces). p.1) (map (λ x. (x, pieces_at x)) (map (λ e. e.0) parts))) (all (map (λ e. (e, numbered_expression place e)) (map (λ e. e.0) parts))) (all_numbers (numbered_expression place) columns_of pieces_at parts)

  condition_layer : (y : Condition-F of_condition of_expression of_select_list of_query)
      → Numbers (condition_columns (map-Condition Condition Expression SelectList Query (List ColumnName) (List ColumnName) (Unit {0}) (Unit {0}) columns_in columns_of (λ l. tt) (λ q. tt) (under_condition y)))
      (condition_pieces (map-Condition Condition Expression SelectList Query (Condition × Pieces) (Expression × Pieces) (SelectList × Unit {0}) (Query × Unit {0}) (λ c. (c, pieces_in c)) (λ e. (e, pieces_at e)) (λ l. (l, tt)) (λ q. (q, tt)) (under_condition y)))
      (leaves_of.condition_step place (map-Condition Condition Expression SelectList Query (Condition × Numbering Cond) (Expression × Numbering Expr) (SelectList × Unit {0}) (Query × Unit {0}) (λ c. (c, numbered place c)) (λ e. (e, numbered_expression place e)) (λ l. (l, tt)) (λ q. (q, tt)) (under_condition y)))
  condition_layer (Condition-F.Or parts) = then_numbers cond_of.Or (flat_map (λ cs. cs) (map columns_in (map (λ e. e.0) parts))) (flat_map (λ (p : Condition × Pieces). p.1) (map (λ x. (x, pieces_in x)) (map (λ e. e.0) parts))) (all (map (λ c. (c, numbered place c)) (map (λ e. e.0) parts))) (all_numbers (numbered place) columns_in pieces_in parts)
  condition_layer (Condition-F.And parts) = then_numbers cond_of.And (flat_map (λ cs. cs) (map columns_in (map (λ e. e.0) parts))) (flat_map (λ (p : Condition × Pieces). p.1) (map (λ x. (x, pieces_in x)) (map (λ e. e.0) parts))) (all (map (λ c. (c, numbered place c)) (map (λ e. e.0) parts))) (all_numbers (numbered place) columns_in pieces_in parts)
  condition_layer (Condition-F.Not part) = then_numbers cond_of.Not (columns_in part.0) (pieces_in part.0) (numbered place part.0) part.1
  condition_layer (Condition-F.Is part truth) = then_numbers (λ c. cond_of.Is c truth) (columns_in part.0) (pieces_in part.0) (numbered place part.0) part.1
  condition_layer (Condition-F.Exists query) = slot_numbers (λ before. cond.Exists (length before)) (class.Exists query.0)
  condition_layer (Condition-F.Compare left comparison right) = both_numbers (λ a b. cond.Compare comparison a b) (columns_of left.0) (columns_of right.0) (pieces_at left.0) (pieces_at right.0) (numbered_expression place left.0) (numbered_expression place right.0) left.1 right.1
  condition_layer (Condition-F.IsNull part) = then_numbers cond.IsNull (columns_of part.0) (pieces_at part.0) (numbered_expression place part.0) part.1
  condition_layer (Condition-F.Between x low high) = after_numbers (λ s. both (between_of s) (numbered_expression place low.0) (numbered_expression place high.0)) (columns_of x.0) (columns_of low.0 ++ columns_of high.0) (pieces_at x.0) (pieces_at low.0 ++ pieces_at high.0) (numbered_expression place x.0) x.1
      (λ s. both_numbers (between_of s) (columns_of low.0) (columns_of high.0) (pieces_at low.0) (pieces_at high.0) (numbered_expression place low.0) (numbered_expression place high.0) low.1 high.1)
  condition_layer (Condition-F.In x list) = both_numbers in_of (columns_of x.0) (flat_map (λ cs. cs) (map columns_of (map (λ e. e.0) list))) (pieces_at x.0) (flat_map (λ (p : Expression × Pieces). p.1) (map (λ x. (x, pieces_at x)) (map (λ e. e.0) list))) (numbered_expression place x.0) (all (map (λ e. (e, numbered_expression place e)) (map (λ e. e.0) list))) x.1 (all_numbers (numbered_expression place) columns_of pieces_at list)

  moved : {A : Type 0} (c1 c2 : List ColumnName) (l1 l2 : Pieces) (m n : Numbering A) → c1 ≡ c2 → l1 ≡ l2 → m ≡ n → Numbers c2 l2 n → Numbers c1 l1 m
  moved c1 c2 l1 l2 m n c l e good = subst (λ cs. Numbers cs l1 m) (sym c) (subst (λ ls. Numbers c2 ls m) (sym l) (subst (λ k. Numbers c2 l2 k) (sym e) good))

  expression_at : (x : Expression-F Condition Expression SelectList Query) (y : Expression-F of_condition of_expression of_select_list of_query) → under_expression y ≡ x → IsNumberedExpression (roll-Expression x)
  expression_at x y is =
      let layer = under_expression y in
      let columns = expression_columns (map-Expression Condition Expression SelectList Query (List ColumnName) (List ColumnName) (Unit {0}) (Unit {0}) columns_in columns_of (λ l. tt) (λ q. tt) layer) in
      let leaves = expression_pieces (map-Expression Condition Expression SelectList Query (Condition × Pieces) (Expression × Pieces) (SelectList × Unit {0}) (Query × Unit {0}) (λ c. (c, pieces_in c)) (λ e. (e, pieces_at e)) (λ l. (l, tt)) (λ q. (q, tt)) layer) in
      let made = leaves_of.expression_step place (map-Expression Condition Expression SelectList Query (Condition × Numbering Cond) (Expression × Numbering Expr) (SelectList × Unit {0}) (Query × Unit {0}) (λ c. (c, numbered place c)) (λ e. (e, numbered_expression place e)) (λ l. (l, tt)) (λ q. (q, tt)) layer) in
      subst (λ x. IsNumberedExpression (roll-Expression x)) is (moved (columns_of (roll-Expression layer)) columns (pieces_at (roll-Expression layer)) leaves (numbered_expression place (roll-Expression layer)) made
      (fold-roll-Expression (List ColumnName) (List ColumnName) (Unit {0}) (Unit {0}) condition_columns expression_columns (λ l. tt) (λ q. tt) layer) (expression_pieces_rolled layer) (expression_rolled place layer) (expression_layer y))

  condition_at : (x : Condition-F Condition Expression SelectList Query) (y : Condition-F of_condition of_expression of_select_list of_query) → under_condition y ≡ x → IsNumbered (roll-Condition x)
  condition_at x y is =
      let layer = under_condition y in
      let columns = condition_columns (map-Condition Condition Expression SelectList Query (List ColumnName) (List ColumnName) (Unit {0}) (Unit {0}) columns_in columns_of (λ l. tt) (λ q. tt) layer) in
      let leaves = condition_pieces (map-Condition Condition Expression SelectList Query (Condition × Pieces) (Expression × Pieces) (SelectList × Unit {0}) (Query × Unit {0}) (λ c. (c, pieces_in c)) (λ e. (e, pieces_at e)) (λ l. (l, tt)) (λ q. (q, tt)) layer) in
      let made = leaves_of.condition_step place (map-Condition Condition Expression SelectList Query (Condition × Numbering Cond) (Expression × Numbering Expr) (SelectList × Unit {0}) (Query × Unit {0}) (λ c. (c, numbered place c)) (λ e. (e, numbered_expression place e)) (λ l. (l, tt)) (λ q. (q, tt)) layer) in
      subst (λ x. IsNumbered (roll-Condition x)) is (moved (columns_in (roll-Condition layer)) columns (pieces_in (roll-Condition layer)) leaves (numbered place (roll-Condition layer)) made
      (fold-roll-Condition (List ColumnName) (List ColumnName) (Unit {0}) (Unit {0}) condition_columns expression_columns (λ l. tt) (λ q. tt) layer) (condition_pieces_rolled layer) (condition_rolled place layer) (condition_layer y))

  -- each condition is numbered exactly where its columns may stand there, and its slots are what stands in it
  pub condition_numbers : (c : Condition) → IsNumbered c
  condition_numbers = ind-Condition IsNumbered IsNumberedExpression (λ l. Unit {0}) (λ q. Unit {0}) condition_at expression_at (λ x y is. tt) (λ x y is. tt)
