-- Each rule of statements and events keeps the constants that are written.
use Rattle.std.proofs.Common.{◌≡◌, ℕ, suc, ℤ, pos, negsuc, Bool, true, false, List, [], ◌∷◌, ◌++◌, Option, Some, None, Result, Ok, Err, refl, sym, ap, subst, ◌∙◌, inl, inr}
use Rattle.std.specs.Prelude.{if◌then◌else◌}
use Rattle.token.specs.declared.kinds.Kind.TheVariants as k
use Rattle.value.specs.declared.values.Value.{Value}
use Rattle.value.specs.declared.values.Value.TheVariants as v
use Rattle.syntax.specs.declared.trees.Condition.{Condition}
use Rattle.syntax.specs.declared.trees.Condition.TheOpen.{Expression-F}
use Rattle.syntax.specs.declared.trees.Expression.{Expression, roll-Expression, out-Expression, roll-out-Expression}
use Rattle.syntax.specs.declared.trees.Expression.TheVariants as e
use Rattle.syntax.specs.declared.trees.SelectList.{SelectList}
use Rattle.syntax.specs.declared.trees.Query.{Query}
use Rattle.syntax.specs.Grammar as grammar
use Rattle.syntax.specs.declared.statements.UpdateSource.{UpdateSource}
use Rattle.syntax.specs.declared.statements.UpdateSource.TheVariants as to
use Rattle.syntax.specs.declared.statements.Insert.{Insert}
use Rattle.syntax.specs.declared.statements.DerivedColumn.{DerivedColumn}
use Rattle.syntax.specs.declared.statements.Select.{Select}
use Rattle.syntax.specs.declared.statements.Which.TheVariants as which
use Rattle.syntax.specs.declared.statements.Mode.TheVariants as mode
use Rattle.syntax.specs.declared.statements.Statement.{Statement}
use Rattle.syntax.specs.declared.statements.Statement.TheVariants as s
use Rattle.syntax.specs.declared.statements.Event.{Event}
use Rattle.syntax.specs.declared.statements.Event.TheVariants as event
use Rattle.syntax.specs.StatementGrammar as g
use Rattle.syntax.specs.declared.wants.PartInParentheses.{PartInParentheses}
use Rattle.syntax.specs.Language.{Lexeme, Lexemes, Language}
use Rattle.syntax.specs.Language as lang
use Rattle.prepared.specs.declared.faults.FillFault.{FillFault}
use Rattle.prepared.specs.declared.faults.FillFault.TheVariants.{NumberOutOfRange, TextNotPlain}
use Rattle.prepared.specs.Numbers.{is_number}
use Rattle.prepared.specs.Constants.{Argument, Constants, first_and_rest, and_then, then_made, next_by, constant_by, constant_of, expression_by, expression_of, assigned_by, assigned_of}
use Rattle.prepared.specs.Conditions.{filled_expression, filled_condition}
use Rattle.prepared.specs.Statements.{filled_value, filled_values, filled_rows, filled_insert, assigned_layer, filled_assigned, filled_assignment, filled_assignments, filled_filter, filled_derived_column, filled_derived_columns, filled_selected, filled_select, filled_statement, filled_event}
use Rattle.prepared.specs.Written.{IsConstant, IsValue, Writes, for_token, behind_token, written_token, tokens_with_constants}
use Rattle.prepared.proofs.Keeps.{Prior, Sign, Other, Ends, Any, Clear, ClearAt, left, Kept, Keeps, Quiet, some_result, keeps_pure, keeps_or, keeps_either, keeps_into, keeps_less, keeps_as, keeps_then, keeps_map, keeps_seq, keeps_parens, keeps_behind, keeps_quiet, keeps_optional, keeps_list, quiet_pure, quiet_or, quiet_seq, quiet_less, quiet_parens, quiet_token, quiet_map, quiet_list, quiet_optional}
use Rattle.prepared.proofs.Fills.{expression_rolled, no_answer}
use Rattle.prepared.proofs.WrittenRules.{Inner, map_reads, seq_reads, of_token, quiet_name, quiet_column, quiet_correlation_name, nested}

-- ---- what an UPDATE gives to a column

constant_assigned : (parameter : ℕ) (r : Result Value FillFault) (rest now : Constants) (y : Expression)
    → and_then {B = Expression × Constants} (and_then r (expression_by parameter)) (λ made. Ok (made, rest)) ≡ Ok (y, now)
    → and_then {B = UpdateSource × Constants} (and_then r (λ value. Ok (assigned_by value))) (λ made. Ok (made, rest)) ≡ Ok (to.To y, now)
constant_assigned parameter (Ok v.Null) rest now y h = absurd (no_answer _ y now h)
constant_assigned parameter (Ok (v.Int n)) rest now y h = ap (then_made to.To) h
constant_assigned parameter (Ok (v.Text t)) rest now y h = ap (then_made to.To) h
constant_assigned parameter (Err fault) rest now y h = absurd (no_answer fault y now h)

number_assigned : (n : ℤ) (given : Option Argument) (rest now : Constants) (y : Expression)
    → next_by expression_of (e.Number n) given rest ≡ Ok (y, now) → next_by assigned_of (to.To (e.Number n)) given rest ≡ Ok (to.To y, now)
number_assigned n None rest now y h = ap (then_made to.To) h
number_assigned n (Some given) rest now y h = constant_assigned given.parameter (constant_of given) rest now y h

layer_assigned : (x y : Expression) (now rest : Constants) (layer : Expression-F Condition Expression SelectList Query) → roll-Expression layer ≡ x
    → filled_expression x now ≡ Ok (y, rest) → assigned_layer x layer now ≡ Ok (to.To y, rest)
layer_assigned x y now rest (Expression-F.Number n) r h =
    number_assigned n (first_and_rest now).0 (first_and_rest now).1 rest y (sym (expression_rolled (Expression-F.Number n) now) ∙ ap (λ z. filled_expression z now) r ∙ h)
layer_assigned x y now rest _ r h = ap (then_made to.To) h

expression_assigned : (x y : Expression) (now rest : Constants) → filled_expression x now ≡ Ok (y, rest) → filled_assigned (to.To x) now ≡ Ok (to.To y, rest)
expression_assigned x y now rest h = layer_assigned x y now rest (out-Expression x) (roll-out-Expression x) h

filter_is : (z : Option Condition) (now : Constants) → some_result (λ c. filled_condition c now) now z ≡ filled_filter z now
filter_is None now = refl
filter_is (Some z) now = refl

begins : (only : Option Lexeme) (now : Constants) → filled_event (g.begin_of only) now ≡ Ok (g.begin_of only, now)
begins None now = refl
begins (Some x) now = refl

-- how the constants of a written text are spelled
module _ (write : Argument → Lexemes) (ok : Value → Type 0) where
  -- ---- parts without a number

  names : Quiet write ok (lang.list grammar.name) Other Ends
  names = quiet_list write ok grammar.name Ends (quiet_name write ok Other)

  quiet_columns : (p : Prior) → Quiet write ok g.columns p Any
  unfolding g.columns
  quiet_columns p = quiet_optional write ok _ p Any tt (quiet_less write ok _ p Ends Any (λ q ends. tt) (quiet_parens write ok (lang.list grammar.name) p Ends names))

  quiet_group_by : (p : Prior) → Quiet write ok g.group_by p Any
  unfolding g.group_by
  quiet_group_by p =
      quiet_optional write ok _ p Any tt
      (quiet_seq write ok k.Group _ p Other Any refl refl (quiet_seq write ok k.By _ Other Other Any refl refl
      (quiet_less write ok (lang.list grammar.column) Other Ends Any (λ q ends. tt) (quiet_list write ok grammar.column Ends (quiet_column write ok Other)))))

  quiet_check_time : (p : Prior) → Quiet write ok g.check_time p Any
  unfolding g.check_time
  quiet_check_time p =
      quiet_or write ok _ _ p Any (quiet_seq write ok k.Deferred _ p Other Any refl refl (quiet_pure write ok mode.Deferred Other Any tt))
      (quiet_seq write ok k.Immediate _ p Other Any refl refl (quiet_pure write ok mode.Immediate Other Any tt))

  quiet_names : Quiet write ok (lang.◌<$>◌ which.Names (lang.list grammar.name)) Other Any
  quiet_names = quiet_less write ok _ Other Ends Any (λ q ends. tt) (quiet_map write ok which.Names (lang.list grammar.name) Other Ends names)

  quiet_constraints : Quiet write ok g.constraints Other Any
  unfolding g.constraints
  quiet_constraints = quiet_or write ok _ _ Other Any (quiet_seq write ok k.All _ Other Other Any refl refl (quiet_pure write ok which.All Other Any tt)) quiet_names

  quiet_work : (p : Prior) → Quiet write ok (lang.optional (lang.token k.Work)) p Any
  quiet_work p = quiet_optional write ok (lang.token k.Work) p Any tt (quiet_less write ok (lang.token k.Work) p (λ q. q ≡ Other) Any (λ q is. tt) (quiet_token write ok k.Work p refl))

  set_constraints : (now : Constants) → Keeps write ok g.set_constraints g.set_constraints now (λ z. filled_statement z now) Other Any
  unfolding g.set_constraints
  set_constraints now =
      let fill = λ (z : Statement). filled_statement z now in
      keeps_seq write ok k.Set _ _ now fill Other Other Any refl refl (keeps_seq write ok k.Constraints _ _ now fill Other Other Any refl refl
      (keeps_behind write ok g.constraints _ _ now fill Other Any Any quiet_constraints
      (λ which q any. keeps_quiet write ok (s.SetConstraints which) g.check_time filled_statement q Any (λ mode now. refl) (quiet_check_time q) now)))

  verdict : (now : Constants) → Keeps write ok g.verdict g.verdict now (λ z. filled_statement z now) Other Any
  unfolding g.verdict
  verdict now =
      keeps_seq write ok k.Verdict _ _ now (λ z. filled_statement z now) Other Other Any refl refl
      (keeps_quiet write ok s.Verdict grammar.name filled_statement Other Any (λ name now. refl) (quiet_less write ok grammar.name Other Ends Any (λ q ends. tt) (quiet_name write ok Other)) now)

  access : (now : Constants) → Keeps write ok g.access g.access now (λ z. filled_event z now) Other Any
  unfolding g.access
  access now =
      keeps_quiet write ok g.begin_of _ filled_event Other Any begins
      (quiet_optional write ok _ Other Any tt
      (quiet_seq write ok k.Read (lang.token k.Only) Other Other Any refl refl (quiet_less write ok (lang.token k.Only) Other (λ q. q ≡ Other) Any (λ q is. tt) (quiet_token write ok k.Only Other refl)))) now

  -- the constants are written as they are spelled
  module _ (writes : (given : Argument) → ok given.value → Writes given.value (write given)) (loose : (value : Value) → ok value → IsValue value) where
    -- ---- INSERT

    positive_reads : (n : ℕ) (x : Lexeme) → x.kind ≡ k.Number → grammar.digits_value x ≡ n → g.constant (x ∷ []) (v.Int (pos n))
    unfolding g.constant
    positive_reads n x is_of d =
        subst (λ z. g.constant (x ∷ []) (v.Int (pos z))) d (inl (inl (inr (map_reads (g.number_of false) (lang.token k.Number) (x ∷ []) x (refl, is_of)))))

    negative_reads : (n : ℕ) (m x : Lexeme) → m.kind ≡ k.Minus → x.kind ≡ k.Number → grammar.digits_value x ≡ suc n → g.constant (m ∷ x ∷ []) (v.Int (negsuc n))
    unfolding g.constant
    negative_reads n m x minus is_of d =
        inr (seq_reads k.Minus _ m (x ∷ []) (v.Int (negsuc n)) minus
        (subst (λ z. lang.◌<$>◌ (g.number_of true) (lang.token k.Number) (x ∷ []) (v.Int (grammar.signed_number true z))) d (map_reads (g.number_of true) (lang.token k.Number) (x ∷ []) x (refl, is_of))))

    text_reads : (t : List ℕ) (x : Lexeme) → x.kind ≡ k.Text → grammar.text_in_quotes x ≡ t → g.constant (x ∷ []) (v.Text t)
    unfolding g.constant
    text_reads t x is_of d = subst (λ z. g.constant (x ∷ []) (v.Text z)) d (inl (inl (inl (inr (map_reads g.text_of (lang.token k.Text) (x ∷ []) x (refl, is_of))))))

    null_reads : (x : Lexeme) → x.kind ≡ k.Null → g.constant (x ∷ []) v.Null
    unfolding g.constant
    null_reads x is_of = inl (inl (inl (inl (seq_reads k.Null (lang.pure v.Null) x [] v.Null is_of (refl, refl)))))

    value_reads : (n : ℤ) (tokens : Lexemes) → Writes (v.Int n) tokens → g.constant (tokens ++ []) (v.Int n)
    value_reads (pos n) tokens w = subst (λ z. g.constant (z ++ []) (v.Int (pos n))) (sym w.are) (positive_reads n w.number w.digits.kind w.digits.digits)
    value_reads (negsuc n) tokens w = subst (λ z. g.constant (z ++ []) (v.Int (negsuc n))) (sym w.are) (negative_reads n w.minus w.number w.sign w.digits.kind w.digits.digits)

    value_kept : (parameter : ℕ) (value : Value) (tokens : Lexemes) (rest : Constants) → IsValue value → Writes value tokens
        → Kept g.constant (tokens ++ []) (and_then {B = Value × Constants} (constant_by parameter value) (λ made. Ok (made, rest))) rest
    value_kept parameter v.Null tokens rest is w = record {
      tree = v.Null;
      is = refl;
      reads = subst (λ z. g.constant (z ++ []) v.Null) (sym w.are) (null_reads w.null w.kind);
    }
    value_kept parameter (v.Int n) tokens rest is w = record {
      tree = v.Int n;
      is = ap (λ z. and_then {B = Value × Constants} (if z then Err (NumberOutOfRange parameter) else Ok (v.Int n)) (λ made. Ok (made, rest))) is;
      reads = value_reads n tokens w;
    }
    value_kept parameter (v.Text t) tokens rest is w = record {
      tree = v.Text t;
      is = ap (λ z. and_then {B = Value × Constants} (if z then Ok (v.Text t) else Err (TextNotPlain parameter)) (λ made. Ok (made, rest))) is;
      reads = subst (λ z. g.constant (z ++ []) (v.Text t)) (sym w.are) (text_reads t w.text w.kind w.inside);
    }

    fresh_kept : (given : Option Argument) (rest : Constants) (y : Lexeme) (x : Value) → ClearAt ok Other given → g.constant (y ∷ []) x
        → Kept g.constant (written_token write y given ++ []) (next_by constant_of x given rest) rest
    fresh_kept None rest y x clear h = record { tree = x; is = refl; reads = h }
    fresh_kept (Some given) rest y x clear h = value_kept given.parameter given.value (write given) rest (loose given.value clear.1) (writes given clear.1)

    sign_kept : (given : Option Argument) (rest : Constants) (y : Lexeme) (x : Value) (L : Language Value) → ClearAt ok Sign given → L (y ∷ []) x
        → Kept L (written_token write y given ++ []) (next_by constant_of x given rest) rest
    sign_kept None rest y x L clear h = record { tree = x; is = refl; reads = h }
    sign_kept (Some given) rest y x L clear h = absurd clear.0

    number_by : (L : Language Value) (p : Prior) (is_negative : Bool) (now : Constants)
        → ((y : Lexeme) (n : ℤ) → y.kind ≡ k.Number → n ≡ grammar.signed_number is_negative (grammar.digits_value y) → ClearAt ok p (first_and_rest now).0
        → Kept L (written_token write y (first_and_rest now).0 ++ []) (next_by constant_of (v.Int n) (first_and_rest now).0 (first_and_rest now).1) (first_and_rest now).1)
        → Keeps write ok (lang.◌<$>◌ (g.number_of is_negative) (lang.token k.Number)) L now (λ x. filled_value x now) p Any
    number_by L p is_negative now kept = record {
      keeps = λ w x h clear.
          let y = of_token k.Number (g.number_of is_negative) w x h in
          let number : is_number y.token.kind ≡ true = ap is_number y.is_of in
          let at : ClearAt ok p (first_and_rest now).0 = subst (λ z. ClearAt ok p (for_token z now)) number (subst (λ z. Clear ok p z now) y.are clear).0 in
          let one = kept y.token (grammar.signed_number is_negative (grammar.digits_value y.token)) y.is_of refl at in (
            record {
              tree = one.tree;
              is =
                  ap (λ z. filled_value z now) y.is ∙ one.is
                  ∙ ap (λ z. Ok (one.tree, z)) (sym (ap (λ z. left z now) y.are ∙ ap (λ z. behind_token z now) number));
              reads = subst (λ z. L z one.tree) (sym (ap (λ z. tokens_with_constants write z now) y.are ∙ ap (λ z. written_token write y.token (for_token z now) ++ []) number)) one.reads;
            },
            tt,
          );
    }

    number_fresh : (now : Constants) → Keeps write ok (lang.◌<$>◌ (g.number_of false) (lang.token k.Number)) g.constant now (λ x. filled_value x now) Other Any
    number_fresh now =
        number_by g.constant Other false now
        (λ y n is_of is clear. fresh_kept (first_and_rest now).0 (first_and_rest now).1 y (v.Int n) clear (subst (λ z. g.constant (y ∷ []) (v.Int z)) (sym is) (positive_reads (grammar.digits_value y) y is_of refl)))

    number_sign : (is_negative : Bool) (now : Constants)
        → Keeps write ok (lang.◌<$>◌ (g.number_of is_negative) (lang.token k.Number)) (lang.◌<$>◌ (g.number_of is_negative) (lang.token k.Number)) now (λ x. filled_value x now) Sign Any
    number_sign is_negative now =
        number_by (lang.◌<$>◌ (g.number_of is_negative) (lang.token k.Number)) Sign is_negative now
        (λ y n is_of is clear. sign_kept (first_and_rest now).0 (first_and_rest now).1 y (v.Int n) (lang.◌<$>◌ (g.number_of is_negative) (lang.token k.Number)) clear
        (subst (λ z. lang.◌<$>◌ (g.number_of is_negative) (lang.token k.Number) (y ∷ []) (v.Int z)) (sym is) (map_reads (g.number_of is_negative) (lang.token k.Number) (y ∷ []) y (refl, is_of))))

    constant : (now : Constants) → Keeps write ok g.constant g.constant now (λ x. filled_value x now) Other Any
    unfolding g.constant
    constant now =
        let fill = λ (z : Value). filled_value z now in
        keeps_either write ok _ _ _ now fill Other Any (keeps_either write ok _ _ _ now fill Other Any (keeps_either write ok _ _ _ now fill Other Any (keeps_either write ok _ _ _ now fill Other Any
        (keeps_into write ok _ _ _ now fill Other Any (λ w x h. inl (inl (inl (inl h)))) (keeps_seq write ok k.Null _ _ now fill Other Other Any refl refl (keeps_pure write ok v.Null v.Null now fill Other Any refl tt)))
        (keeps_into write ok _ _ _ now fill Other Any (λ w x h. inl (inl (inl (inr h))))
        (keeps_quiet write ok g.text_of (lang.token k.Text) filled_value Other Any (λ x now. refl) (quiet_less write ok (lang.token k.Text) Other Ends Any (λ q ends. tt) (quiet_token write ok k.Text Other refl)) now)))
        (number_fresh now))
        (keeps_into write ok _ _ _ now fill Other Any (λ w x h. inl (inr h)) (keeps_seq write ok k.Plus _ _ now fill Other Sign Any refl refl (number_sign false now))))
        (keeps_into write ok _ _ _ now fill Other Any (λ w x h. inr h) (keeps_seq write ok k.Minus _ _ now fill Other Sign Any refl refl (number_sign true now)))

    row : (now : Constants) → Keeps write ok g.row_value g.row_value now (λ xs. filled_values xs now) Other Any
    unfolding g.row_value
    row now =
        let fill = λ (xs : List Value). filled_values xs now in
        keeps_less write ok _ _ now fill Other Ends Any (λ q ends. tt)
        (keeps_parens write ok (lang.list g.constant) (lang.list g.constant) now fill Other Any (keeps_list write ok g.constant g.constant filled_value Any constant now))

    pub insert : (now : Constants) → Keeps write ok g.insert g.insert now (λ z. filled_insert z now) Other Any
    unfolding g.insert
    insert now =
        let fill = λ (z : Insert). filled_insert z now in
        keeps_seq write ok k.Insert _ _ now fill Other Other Any refl refl (keeps_seq write ok k.Into _ _ now fill Other Other Any refl refl
        (keeps_behind write ok grammar.name _ _ now fill Other Ends Any (quiet_name write ok Other)
        (λ table p ends. keeps_behind write ok g.columns _ _ now fill p Any Any (quiet_columns p)
        (λ columns q any. keeps_seq write ok k.Values _ _ now fill q Other Any refl refl
        (keeps_map write ok (g.insert_of table columns) (g.insert_of table columns) (lang.list g.row_value) (lang.list g.row_value) now (λ rows. filled_rows rows now) fill Other Any
        (keeps_list write ok g.row_value g.row_value filled_values Any row now)
        (λ rows rows' rest is. ap (then_made (g.insert_of table columns)) is))))))

    -- ---- what may have parentheses in it

    module _ (inner : Language PartInParentheses) (i : Inner write ok inner) where
      where_clause : (p : Prior) (now : Constants) → Keeps write ok (g.where_clause inner) (g.where_clause inner) now (λ z. filled_filter z now) p Any
      unfolding g.where_clause
      where_clause p now =
          keeps_as write ok _ _ now (some_result (λ z. filled_condition z now) now) (λ z. filled_filter z now) p Any (λ z y rest is. sym (filter_is z now) ∙ is)
          (keeps_optional write ok _ _ now (λ z. filled_condition z now) p Any tt
          (keeps_seq write ok k.Where (grammar.inner_cond inner) (grammar.inner_cond inner) now (λ z. filled_condition z now) p Other Any refl refl (i.cond now)))

      assigned : (now : Constants) → Keeps write ok (g.assigned inner) (g.assigned inner) now (λ z. filled_assigned z now) Other Any
      unfolding g.assigned
      assigned now =
          let fill = λ (z : UpdateSource). filled_assigned z now in
          keeps_or write ok _ _ _ _ now fill Other Any (keeps_seq write ok k.Null _ _ now fill Other Other Any refl refl (keeps_pure write ok to.Null to.Null now fill Other Any refl tt))
          (keeps_map write ok to.To to.To (grammar.inner_expr inner) (grammar.inner_expr inner) now (λ z. filled_expression z now) fill Other Any
          (keeps_less write ok (grammar.inner_expr inner) (grammar.inner_expr inner) now (λ z. filled_expression z now) Other Ends Any (λ q ends. tt) (i.expr now))
          (λ x y rest is. expression_assigned x y now rest is))

      assignment : (now : Constants) → Keeps write ok (g.assignment inner) (g.assignment inner) now (λ z. filled_assignment z now) Other Any
      unfolding g.assignment
      assignment now =
          keeps_behind write ok grammar.name _ _ now (λ z. filled_assignment z now) Other Ends Any (quiet_name write ok Other)
          (λ column p ends. keeps_seq write ok k.Equal _ _ now (λ z. filled_assignment z now) p Other Any refl refl
          (keeps_map write ok (g.assignment_of column) (g.assignment_of column) (g.assigned inner) (g.assigned inner) now (λ z. filled_assigned z now) (λ z. filled_assignment z now) Other Any (assigned now)
          (λ x y rest is. ap (then_made (g.assignment_of column)) is)))

      update : (now : Constants) → Keeps write ok (g.update inner) (g.update inner) now (λ z. filled_statement z now) Other Any
      unfolding g.update
      update now =
          let fill = λ (z : Statement). filled_statement z now in
          keeps_seq write ok k.Update _ _ now fill Other Other Any refl refl
          (keeps_behind write ok grammar.name _ _ now fill Other Ends Any (quiet_name write ok Other)
          (λ table p ends. keeps_seq write ok k.Set _ _ now fill p Other Any refl refl
          (keeps_then write ok (lang.list (g.assignment inner)) (lang.list (g.assignment inner)) _ _ now (λ z. filled_assignments z now) fill Other Any Any
          (keeps_list write ok (g.assignment inner) (g.assignment inner) filled_assignment Any assignment now)
          (λ sets sets' between q any sets_are. keeps_map write ok (s.Update table sets) (s.Update table sets') (g.where_clause inner) (g.where_clause inner) between (λ z. filled_filter z between) fill q Any (where_clause q between)
          (λ keeps keeps' rest is. ap (λ r. and_then r (λ l. then_made (s.Update table l.0) (filled_filter keeps l.1))) sets_are ∙ ap (then_made (s.Update table sets')) is)))))

      delete : (now : Constants) → Keeps write ok (g.delete inner) (g.delete inner) now (λ z. filled_statement z now) Other Any
      unfolding g.delete
      delete now =
          let fill = λ (z : Statement). filled_statement z now in
          keeps_seq write ok k.Delete _ _ now fill Other Other Any refl refl (keeps_seq write ok k.From _ _ now fill Other Other Any refl refl
          (keeps_behind write ok grammar.name _ _ now fill Other Ends Any (quiet_name write ok Other)
          (λ table p ends. keeps_map write ok (s.Delete table) (s.Delete table) (g.where_clause inner) (g.where_clause inner) now (λ z. filled_filter z now) fill p Any (where_clause p now)
          (λ keeps keeps' rest is. ap (then_made (s.Delete table)) is))))

      derived_column : (now : Constants) → Keeps write ok (g.derived_column inner) (g.derived_column inner) now (λ z. filled_derived_column z now) Other Any
      unfolding g.derived_column
      derived_column now =
          let fill = λ (z : DerivedColumn). filled_derived_column z now in
          keeps_then write ok (grammar.inner_expr inner) (grammar.inner_expr inner) _ _ now (λ z. filled_expression z now) fill Other Ends Any (i.expr now)
          (λ value value' between p ends value_is. keeps_map write ok (g.derived_column_of value) (g.derived_column_of value') grammar.correlation_name grammar.correlation_name between (λ z. Ok (z, between)) fill p Any
          (quiet_correlation_name write ok p between)
          (λ name name' rest is. ap (then_made (λ z. g.derived_column_of z name)) value_is ∙ ap (then_made (g.derived_column_of value')) is))

      selected : (now : Constants) → Keeps write ok (g.selected inner) (g.selected inner) now (λ z. filled_selected z now) Other Any
      unfolding g.selected
      selected now =
          let fill = λ (z : Option (List DerivedColumn)). filled_selected z now in
          keeps_or write ok _ _ _ _ now fill Other Any (keeps_seq write ok k.Star _ _ now fill Other Other Any refl refl (keeps_pure write ok None None now fill Other Any refl tt))
          (keeps_map write ok Some Some (lang.list (g.derived_column inner)) (lang.list (g.derived_column inner)) now (λ z. filled_derived_columns z now) fill Other Any
          (keeps_list write ok (g.derived_column inner) (g.derived_column inner) filled_derived_column Any derived_column now)
          (λ columns columns' rest is. ap (then_made Some) is))

      having : (p : Prior) (now : Constants) → Keeps write ok (g.having inner) (g.having inner) now (λ z. filled_filter z now) p Any
      unfolding g.having
      having p now =
          keeps_as write ok _ _ now (some_result (λ z. filled_condition z now) now) (λ z. filled_filter z now) p Any (λ z y rest is. sym (filter_is z now) ∙ is)
          (keeps_optional write ok _ _ now (λ z. filled_condition z now) p Any tt
          (keeps_seq write ok k.Having (grammar.inner_cond inner) (grammar.inner_cond inner) now (λ z. filled_condition z now) p Other Any refl refl (i.cond now)))

      selected_rows : (x y : Option (List DerivedColumn)) (table : List ℕ) (other : Option (List ℕ)) (start now : Constants) (p : Prior) → filled_selected x start ≡ Ok (y, now)
          → Keeps write ok (g.selected_rows inner x table other) (g.selected_rows inner y table other) now (λ z. filled_select z start) p Any
      unfolding g.selected_rows
      selected_rows x y table other start now p h =
          let fill = λ (z : Select). filled_select z start in
          keeps_then write ok (g.where_clause inner) (g.where_clause inner) _ _ now (λ z. filled_filter z now) fill p Any Any (where_clause p now)
          (λ keeps keeps' between q any keeps_is. keeps_behind write ok g.group_by _ _ between fill q Any Any (quiet_group_by q)
          (λ group r any. keeps_map write ok (g.select_of x table other keeps group) (g.select_of y table other keeps' group) (g.having inner) (g.having inner) between (λ z. filled_filter z between) fill r Any (having r between)
          (λ hav hav' rest is.
          ap (λ r. and_then r (λ l. and_then (filled_filter keeps l.1) (λ k. then_made (g.select_of l.0 table other k.0 group) (filled_filter hav k.1)))) h
          ∙ ap (λ r. and_then r (λ k. then_made (g.select_of y table other k.0 group) (filled_filter hav k.1))) keeps_is
          ∙ ap (then_made (g.select_of y table other keeps' group)) is)))

      select : (now : Constants) → Keeps write ok (g.select inner) (g.select inner) now (λ z. filled_select z now) Other Any
      unfolding g.select
      select now =
          let fill = λ (z : Select). filled_select z now in
          keeps_seq write ok k.Select _ _ now fill Other Other Any refl refl
          (keeps_then write ok (g.selected inner) (g.selected inner) _ _ now (λ z. filled_selected z now) fill Other Any Any (selected now)
          (λ columns columns' between p any columns_are. keeps_seq write ok k.From _ _ between fill p Other Any refl refl
          (keeps_behind write ok grammar.name _ _ between fill Other Ends Any (quiet_name write ok Other)
          (λ table q ends. keeps_behind write ok grammar.correlation_name _ _ between fill q Any Any (quiet_correlation_name write ok q)
          (λ other r any. selected_rows columns columns' table other now between r columns_are)))))

      statement : (now : Constants) → Keeps write ok (g.statement inner) (g.statement inner) now (λ z. filled_statement z now) Other Any
      unfolding g.statement
      statement now =
          let fill = λ (z : Statement). filled_statement z now in
          keeps_or write ok _ _ _ _ now fill Other Any (keeps_or write ok _ _ _ _ now fill Other Any (keeps_or write ok _ _ _ _ now fill Other Any (keeps_or write ok _ _ _ _ now fill Other Any (keeps_or write ok _ _ _ _ now fill Other Any
          (keeps_map write ok s.Insert s.Insert g.insert g.insert now (λ z. filled_insert z now) fill Other Any (insert now) (λ x y rest is. ap (then_made s.Insert) is))
          (update now)) (delete now))
          (keeps_map write ok s.Select s.Select (g.select inner) (g.select inner) now (λ z. filled_select z now) fill Other Any (select now) (λ x y rest is. ap (then_made s.Select) is)))
          (set_constraints now)) (verdict now)

      one_event : (now : Constants) → Keeps write ok (g.one_event inner) (g.one_event inner) now (λ z. filled_event z now) Other Any
      unfolding g.one_event
      one_event now =
          let fill = λ (z : Event). filled_event z now in
          keeps_or write ok _ _ _ _ now fill Other Any (keeps_or write ok _ _ _ _ now fill Other Any (keeps_or write ok _ _ _ _ now fill Other Any
          (keeps_seq write ok k.Begin g.access g.access now fill Other Other Any refl refl (access now))
          (keeps_seq write ok k.Commit _ _ now fill Other Other Any refl refl (keeps_quiet write ok (λ _. event.Commit) (lang.optional (lang.token k.Work)) filled_event Other Any (λ x now. refl) (quiet_work Other) now)))
          (keeps_seq write ok k.Rollback _ _ now fill Other Other Any refl refl (keeps_quiet write ok (λ _. event.Rollback) (lang.optional (lang.token k.Work)) filled_event Other Any (λ x now. refl) (quiet_work Other) now)))
          (keeps_map write ok event.Run event.Run (g.statement inner) (g.statement inner) now (λ z. filled_statement z now) fill Other Any (statement now) (λ x y rest is. ap (then_made event.Run) is))

    pub events : (strict : (value : Value) → ok value → IsConstant value) (n : ℕ) (now : Constants) → Keeps write ok (g.events n) (g.events n) now (λ z. filled_event z now) Other Any
    events strict n = one_event (grammar.nested n) (nested write ok writes strict n)
