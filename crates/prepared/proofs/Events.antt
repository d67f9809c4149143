-- Each rule of statements and events keeps the numbers of its text.
use Rattle.std.proofs.Common.{◌≡◌, ℕ, Bool, true, false, List, [], ◌∷◌, ◌++◌, map, Option, Some, None, refl, sym, ap, ◌∙◌, append_assoc}
use Rattle.token.specs.declared.kinds.Kind.TheVariants as k
use Rattle.value.specs.declared.values.Value.TheVariants as v
use Rattle.syntax.specs.Grammar as grammar
use Rattle.syntax.specs.declared.statements.UpdateSource.TheVariants as to
use Rattle.syntax.specs.declared.statements.DerivedColumn.{DerivedColumn}
use Rattle.syntax.specs.declared.statements.Which.TheVariants as which
use Rattle.syntax.specs.declared.statements.Mode.TheVariants as mode
use Rattle.syntax.specs.declared.statements.Statement.TheVariants as s
use Rattle.syntax.specs.declared.statements.Event.{Event}
use Rattle.syntax.specs.declared.statements.Event.TheVariants as event
use Rattle.syntax.specs.StatementGrammar as g
use Rattle.syntax.specs.declared.wants.PartInParentheses.{PartInParentheses}
use Rattle.syntax.specs.Language.{Lexeme, Lexemes, Language}
use Rattle.syntax.specs.Language as lang
use Rattle.prepared.specs.Numerals.{Numerals, numerals, numerals_of_parts, condition_numerals, expression_numerals, value_numerals, row_numerals, insert_numerals, assigned_numerals, assignment_numerals, filter_numerals, derived_column_numerals, selected_numerals, select_numerals, statement_numerals, event_numerals}
use Rattle.prepared.proofs.Yields.{Yields, Adds, Silent, yields_token, yields_number, yields_map, yields_then, yields_seq, yields_list, silent_pure, silent_or, silent_seq, silent_map, silent_optional, silent_parens, silent_list, adds_pure, adds_or, adds_seq, adds_parens, adds_map, adds_none, adds_behind}
use Rattle.prepared.proofs.Rules.{abs_signed, silent_name, silent_column, silent_correlation_name, found_numerals, inner_expr, inner_cond, nested}

-- ---- parts without a number

silent_columns : Silent g.columns
unfolding g.columns
silent_columns = silent_optional _ (silent_parens _ (silent_list grammar.name silent_name))

silent_check_time : Silent g.check_time
unfolding g.check_time
silent_check_time = silent_or _ _ (silent_seq k.Deferred _ refl (silent_pure mode.Deferred)) (silent_seq k.Immediate _ refl (silent_pure mode.Immediate))

silent_constraints : Silent g.constraints
unfolding g.constraints
silent_constraints = silent_or _ _ (silent_seq k.All _ refl (silent_pure which.All)) (silent_map which.Names (lang.list grammar.name) (silent_list grammar.name silent_name))

silent_group_by : Silent g.group_by
unfolding g.group_by
silent_group_by = silent_optional _ (silent_seq k.Group _ refl (silent_seq k.By _ refl (silent_list grammar.column silent_column)))

silent_work : Silent (lang.optional (lang.token k.Work))
silent_work = silent_optional (lang.token k.Work) (λ before. yields_token k.Work before refl)

adds_set_constraints : Adds g.set_constraints statement_numerals
unfolding g.set_constraints
adds_set_constraints =
    adds_seq k.Set _ statement_numerals refl (adds_seq k.Constraints _ statement_numerals refl
    (adds_behind g.constraints _ statement_numerals silent_constraints (λ which. adds_none (s.SetConstraints which) g.check_time statement_numerals (λ mode. refl) silent_check_time)))

adds_verdict : Adds g.verdict statement_numerals
unfolding g.verdict
adds_verdict = adds_seq k.Verdict _ statement_numerals refl (adds_none s.Verdict grammar.name statement_numerals (λ name. refl) silent_name)

begins : (only : Option Lexeme) → event_numerals (g.begin_of only) ≡ []
begins None = refl
begins (Some x) = refl

adds_access : Adds g.access event_numerals
unfolding g.access
adds_access = adds_none g.begin_of _ event_numerals begins (silent_optional _ (silent_seq k.Read (lang.token k.Only) refl (λ before. yields_token k.Only before refl)))

-- ---- INSERT

adds_int : (is_negative : Bool) → Adds (lang.◌<$>◌ (g.number_of is_negative) (lang.token k.Number)) value_numerals
adds_int is_negative before =
    yields_map (g.number_of is_negative) (lang.token k.Number) before (λ x. before ++ grammar.digits_value x ∷ []) (λ x. before ++ value_numerals x) (yields_number before)
    (λ x. ap (λ n. before ++ n ∷ []) (abs_signed is_negative (grammar.digits_value x)))

adds_constant : Adds g.constant value_numerals
unfolding g.constant
adds_constant =
    adds_or _ _ value_numerals (adds_or _ _ value_numerals (adds_or _ _ value_numerals (adds_or _ _ value_numerals
    (adds_seq k.Null _ value_numerals refl (adds_pure v.Null value_numerals refl))
    (adds_none g.text_of (lang.token k.Text) value_numerals (λ x. refl) (λ before. yields_token k.Text before refl)))
    (adds_int false))
    (adds_seq k.Plus _ value_numerals refl (adds_int false)))
    (adds_seq k.Minus _ value_numerals refl (adds_int true))

adds_row : Adds g.row_value row_numerals
unfolding g.row_value
adds_row = adds_parens (lang.list g.constant) row_numerals (yields_list g.constant value_numerals adds_constant)

adds_insert : Adds g.insert insert_numerals
unfolding g.insert
adds_insert =
    adds_seq k.Insert _ insert_numerals refl (adds_seq k.Into _ insert_numerals refl
    (adds_behind grammar.name _ insert_numerals silent_name (λ table. adds_behind g.columns _ insert_numerals silent_columns
    (λ columns. adds_seq k.Values _ insert_numerals refl
    (adds_map (g.insert_of table columns) (lang.list g.row_value) (λ rows. numerals_of_parts (map row_numerals rows)) insert_numerals (λ rows. refl)
    (yields_list g.row_value row_numerals adds_row))))))

-- ---- what may have parentheses in it

module _ (inner : Language PartInParentheses) (adds : Adds inner found_numerals) where
  where_clause : Adds (g.where_clause inner) filter_numerals
  unfolding g.where_clause
  where_clause =
      adds_or _ _ filter_numerals (adds_pure None filter_numerals refl)
      (adds_map Some _ condition_numerals filter_numerals (λ c. refl) (adds_seq k.Where _ condition_numerals refl (inner_cond inner adds)))

  assigned : Adds (g.assigned inner) assigned_numerals
  unfolding g.assigned
  assigned =
      adds_or _ _ assigned_numerals (adds_seq k.Null _ assigned_numerals refl (adds_pure to.Null assigned_numerals refl))
      (adds_map to.To (grammar.inner_expr inner) expression_numerals assigned_numerals (λ x. refl) (inner_expr inner adds))

  assignment : Adds (g.assignment inner) assignment_numerals
  unfolding g.assignment
  assignment =
      adds_behind grammar.name _ assignment_numerals silent_name (λ column. adds_seq k.Equal _ assignment_numerals refl
      (adds_map (g.assignment_of column) (g.assigned inner) assigned_numerals assignment_numerals (λ x. refl) assigned))

  update : Adds (g.update inner) statement_numerals
  unfolding g.update
  update =
      adds_seq k.Update _ statement_numerals refl (adds_behind grammar.name _ statement_numerals silent_name
      (λ table. adds_seq k.Set _ statement_numerals refl (λ before.
      yields_then (lang.list (g.assignment inner)) _ before (λ sets. before ++ numerals_of_parts (map assignment_numerals sets)) (λ x. before ++ statement_numerals x)
      (yields_list (g.assignment inner) assignment_numerals assignment before)
      (λ sets. yields_map (s.Update table sets) (g.where_clause inner) (before ++ numerals_of_parts (map assignment_numerals sets)) (λ keeps. (before ++ numerals_of_parts (map assignment_numerals sets)) ++ filter_numerals keeps) (λ x. before ++ statement_numerals x)
      (where_clause (before ++ numerals_of_parts (map assignment_numerals sets)))
      (λ keeps. sym (append_assoc before (numerals_of_parts (map assignment_numerals sets)) (filter_numerals keeps)))))))

  delete : Adds (g.delete inner) statement_numerals
  unfolding g.delete
  delete =
      adds_seq k.Delete _ statement_numerals refl (adds_seq k.From _ statement_numerals refl (adds_behind grammar.name _ statement_numerals silent_name
      (λ table. adds_map (s.Delete table) (g.where_clause inner) filter_numerals statement_numerals (λ keeps. refl) where_clause)))

  derived_column : Adds (g.derived_column inner) derived_column_numerals
  unfolding g.derived_column
  derived_column before =
      yields_then (grammar.inner_expr inner) _ before (λ value. before ++ expression_numerals value) (λ x. before ++ derived_column_numerals x) (inner_expr inner adds before)
      (λ value. yields_map (g.derived_column_of value) grammar.correlation_name (before ++ expression_numerals value) (λ _. before ++ expression_numerals value) (λ x. before ++ derived_column_numerals x)
      (silent_correlation_name (before ++ expression_numerals value)) (λ name. refl))

  selected : Adds (g.selected inner) selected_numerals
  unfolding g.selected
  selected =
      adds_or _ _ selected_numerals (adds_seq k.Star _ selected_numerals refl (adds_pure None selected_numerals refl))
      (adds_map Some (lang.list (g.derived_column inner)) (λ columns. numerals_of_parts (map derived_column_numerals columns)) selected_numerals (λ columns. refl)
      (yields_list (g.derived_column inner) derived_column_numerals derived_column))

  having : Adds (g.having inner) filter_numerals
  unfolding g.having
  having =
      adds_or _ _ filter_numerals (adds_pure None filter_numerals refl)
      (adds_map Some _ condition_numerals filter_numerals (λ c. refl) (adds_seq k.Having _ condition_numerals refl (inner_cond inner adds)))

  selected_rows : (columns : Option (List DerivedColumn)) (table : List ℕ) (other : Option (List ℕ)) (before : Numerals)
      → Yields (g.selected_rows inner columns table other) (before ++ selected_numerals columns) (λ x. before ++ select_numerals x)
  unfolding g.selected_rows
  selected_rows columns table other before =
      let behind : Numerals = before ++ selected_numerals columns in
      yields_then (g.where_clause inner) _ behind (λ keeps. behind ++ filter_numerals keeps) (λ x. before ++ select_numerals x) (where_clause behind)
      (λ keeps. let kept : Numerals = behind ++ filter_numerals keeps in
      yields_then g.group_by _ kept (λ _. kept) (λ x. before ++ select_numerals x) (silent_group_by kept)
      (λ group. yields_map (g.select_of columns table other keeps group) (g.having inner) kept (λ having. kept ++ filter_numerals having) (λ x. before ++ select_numerals x) (having kept)
      (λ having. sym (append_assoc before (selected_numerals columns) (filter_numerals keeps ++ filter_numerals having))
      ∙ sym (append_assoc behind (filter_numerals keeps) (filter_numerals having)))))

  select : Adds (g.select inner) select_numerals
  unfolding g.select
  select =
      adds_seq k.Select _ select_numerals refl (λ before.
      yields_then (g.selected inner) _ before (λ columns. before ++ selected_numerals columns) (λ x. before ++ select_numerals x) (selected before)
      (λ columns. let behind = before ++ selected_numerals columns in
      yields_seq k.From _ behind (λ x. before ++ select_numerals x) refl
      (yields_then grammar.name _ behind (λ _. behind) (λ x. before ++ select_numerals x) (silent_name behind)
      (λ table. yields_then grammar.correlation_name _ behind (λ _. behind) (λ x. before ++ select_numerals x) (silent_correlation_name behind)
      (λ other. selected_rows columns table other before)))))

  statement : Adds (g.statement inner) statement_numerals
  unfolding g.statement
  statement =
      adds_or _ _ statement_numerals (adds_or _ _ statement_numerals (adds_or _ _ statement_numerals (adds_or _ _ statement_numerals (adds_or _ _ statement_numerals
      (adds_map s.Insert g.insert insert_numerals statement_numerals (λ x. refl) adds_insert) update) delete)
      (adds_map s.Select (g.select inner) select_numerals statement_numerals (λ x. refl) select)) adds_set_constraints) adds_verdict

  one_event : Adds (g.one_event inner) event_numerals
  unfolding g.one_event
  one_event =
      adds_or _ _ event_numerals (adds_or _ _ event_numerals (adds_or _ _ event_numerals
      (adds_seq k.Begin _ event_numerals refl adds_access)
      (adds_seq k.Commit _ event_numerals refl (adds_none (λ _. event.Commit) _ event_numerals (λ x. refl) silent_work)))
      (adds_seq k.Rollback _ event_numerals refl (adds_none (λ _. event.Rollback) _ event_numerals (λ x. refl) silent_work)))
      (adds_map event.Run (g.statement inner) statement_numerals event_numerals (λ x. refl) statement)

-- the numbers of an event are those of its text
pub event_numbers : (ts : Lexemes) (x : Event) → g.IsEvent ts x → event_numerals x ≡ numerals ts
event_numbers ts x h = (one_event (grammar.nested h.0) (nested h.0) []).gives ts x h.1
