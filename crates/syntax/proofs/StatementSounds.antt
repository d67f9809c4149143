-- Each reader of statements is sound for its part of the grammar.
use Rattle.std.proofs.Common.{ℕ, ◌+◌, ◌<◌, true, false, List, Option, Some, None, refl, inl, inr}
use Rattle.token.specs.declared.kinds.Kind.{Kind}
use Rattle.token.specs.declared.kinds.Kind.TheVariants as k
use Rattle.value.specs.declared.values.Value.TheVariants as c
use Rattle.syntax.specs.declared.statements.DerivedColumn.{DerivedColumn}
use Rattle.syntax.specs.declared.statements.UpdateSource.TheVariants as to
use Rattle.syntax.specs.declared.statements.Which.TheVariants as which
use Rattle.syntax.specs.declared.statements.Mode.TheVariants as mode
use Rattle.syntax.specs.declared.statements.Statement.TheVariants as s
use Rattle.syntax.specs.declared.statements.Event.TheVariants as event
use Rattle.syntax.specs.Language as lang
use Rattle.syntax.specs.Grammar as g
use Rattle.syntax.specs.Readers as q
use Rattle.syntax.specs.StatementGrammar as st
use Rattle.syntax.specs.StatementReaders as r
use Rattle.syntax.specs.Reading.{list}
use Rattle.syntax.proofs.WordLaws.{Sound, sound_pure, sound_refuse, sound_by_kind}
use Rattle.syntax.proofs.Loops.{sound_parens}
use Rattle.syntax.proofs.Short.{then_s, map_s, tok_s, seq_s, weak}
use Rattle.syntax.proofs.Parts.{optional_s, list_s, some_list}
use Rattle.syntax.proofs.Sounds.{name_s, correlation_name_s, column_s, cond_at_s, expr_at_s}

null_s : (n : ℕ) → Sound n n st.constant (r.constant_by k.Null)
unfolding st.constant
null_s n = weak (λ w a h. inl (inl (inl (inl h)))) (seq_s k.Null refl (sound_pure n c.Null))

constant_by_s : (n : ℕ) (kind : Kind) → Sound n n st.constant (r.constant_by kind)
unfolding st.constant
constant_by_s n k.Null = null_s n
constant_by_s n k.Text = weak (λ w a h. inl (inl (inl (inr h)))) (map_s st.text_of (tok_s k.Text refl))
constant_by_s n k.Number = weak (λ w a h. inl (inl (inr h))) (map_s (st.number_of false) (tok_s k.Number refl))
constant_by_s n k.Plus = weak (λ w a h. inl (inr h)) (seq_s k.Plus refl (map_s (st.number_of false) (tok_s k.Number refl)))
constant_by_s n k.Minus = weak (λ w a h. inr h) (seq_s k.Minus refl (map_s (st.number_of true) (tok_s k.Number refl)))
constant_by_s n _ = sound_refuse n n st.constant (null_s n).begins

constant_s : (n : ℕ) → Sound n n st.constant r.constant
unfolding r.constant
constant_s n = sound_by_kind n n st.constant r.constant_by (constant_by_s n)

deferred_s : (n : ℕ) → Sound n n st.check_time (r.check_time_by k.Deferred)
unfolding st.check_time
deferred_s n = weak (λ w a h. inl h) (seq_s k.Deferred refl (sound_pure n mode.Deferred))

when_by_s : (n : ℕ) (kind : Kind) → Sound n n st.check_time (r.check_time_by kind)
unfolding st.check_time
when_by_s n k.Deferred = deferred_s n
when_by_s n k.Immediate = weak (λ w a h. inr h) (seq_s k.Immediate refl (sound_pure n mode.Immediate))
when_by_s n _ = sound_refuse n n st.check_time (deferred_s n).begins

pub when_s : (n : ℕ) → Sound n n st.check_time r.check_time
unfolding r.check_time
when_s n = sound_by_kind n n st.check_time r.check_time_by (when_by_s n)

named_constraints : (n : ℕ) → Sound n n st.constraints (r.constraints_by k.End)
unfolding st.constraints
named_constraints n = weak (λ w a h. inr h) (map_s which.Names (list_s (name_s n)))

constraints_by_s : (n : ℕ) (kind : Kind) → Sound n n st.constraints (r.constraints_by kind)
unfolding st.constraints
constraints_by_s n k.All = weak (λ w a h. inl h) (seq_s k.All refl (sound_pure n which.All))
constraints_by_s n _ = named_constraints n

constraints_s : (n : ℕ) → Sound n n st.constraints r.constraints
unfolding r.constraints
constraints_s n = sound_by_kind n n st.constraints r.constraints_by (constraints_by_s n)

columns_s : (n : ℕ) → Sound n n st.columns (r.columns n)
unfolding st.columns r.columns
columns_s n = optional_s k.Open (sound_parens n (lang.list g.name) (list q.name) (some_list g.name (name_s 0).begins) (λ m is. list_s (name_s m)))

row_value_s : (n : ℕ) → Sound n n st.row_value (r.row_value n)
unfolding st.row_value r.row_value
row_value_s n = sound_parens n (lang.list st.constant) (list r.constant) (some_list st.constant (constant_s 0).begins) (λ m is. list_s (constant_s m))

pub insert_s : (n : ℕ) → Sound n n st.insert (r.insert n)
unfolding st.insert r.insert
insert_s n =
    seq_s k.Insert refl (seq_s k.Into refl (then_s (name_s n) (λ w table h. then_s (columns_s n) (λ w columns h. seq_s k.Values refl
    (map_s (st.insert_of table columns) (list_s (row_value_s n)))))))

set_constraints_s : (n : ℕ) → Sound n n st.set_constraints r.set_constraints
unfolding st.set_constraints r.set_constraints
set_constraints_s n = seq_s k.Set refl (seq_s k.Constraints refl (then_s (constraints_s n) (λ w which h. map_s (s.SetConstraints which) (when_s n))))

verdict_s : (n : ℕ) → Sound n n st.verdict r.verdict
unfolding st.verdict r.verdict
verdict_s n = seq_s k.Verdict refl (map_s s.Verdict (name_s n))

access_s : (n : ℕ) → Sound n n st.access r.access
unfolding st.access r.access
access_s n = map_s st.begin_of (optional_s k.Read (seq_s k.Read refl (tok_s k.Only refl)))

group_by_s : (n : ℕ) → Sound n n st.group_by r.group_by
unfolding st.group_by r.group_by
group_by_s n = optional_s k.Group (seq_s k.Group refl (seq_s k.By refl (list_s (column_s n))))

module _ (n l : ℕ) (below : n + 1 < l) where
  where_s : Sound n n (st.where_clause (g.nested l)) (r.where_clause n)
  unfolding st.where_clause r.where_clause
  where_s = optional_s k.Where (seq_s k.Where refl (cond_at_s n l below))

  assigned_expr : Sound n n (st.assigned (g.nested l)) (r.assigned_by n k.End)
  unfolding st.assigned
  assigned_expr = weak (λ w a h. inr h) (map_s to.To (expr_at_s n l below))

  assigned_by_s : (kind : Kind) → Sound n n (st.assigned (g.nested l)) (r.assigned_by n kind)
  unfolding st.assigned
  assigned_by_s k.Null = weak (λ w a h. inl h) (seq_s k.Null refl (sound_pure n to.Null))
  assigned_by_s _ = assigned_expr

  assignment_s : Sound n n (st.assignment (g.nested l)) (r.assignment n)
  unfolding st.assignment r.assignment r.assigned
  assignment_s = then_s (name_s n) (λ w column h. seq_s k.Equal refl (map_s (st.assignment_of column) (sound_by_kind n n (st.assigned (g.nested l)) (r.assigned_by n) assigned_by_s)))

  update_s : Sound n n (st.update (g.nested l)) (r.update n)
  unfolding st.update r.update
  update_s = seq_s k.Update refl (then_s (name_s n) (λ w table h. seq_s k.Set refl (then_s (list_s assignment_s) (λ w sets h. map_s (s.Update table sets) where_s))))

  delete_s : Sound n n (st.delete (g.nested l)) (r.delete n)
  unfolding st.delete r.delete
  delete_s = seq_s k.Delete refl (seq_s k.From refl (then_s (name_s n) (λ w table h. map_s (s.Delete table) where_s)))

  derived_column_s : Sound n n (st.derived_column (g.nested l)) (r.derived_column n)
  unfolding st.derived_column r.derived_column
  derived_column_s = then_s (expr_at_s n l below) (λ w value h. map_s (st.derived_column_of value) (correlation_name_s n))

  derived_columns : Sound n n (st.selected (g.nested l)) (r.selected_by n k.End)
  unfolding st.selected
  derived_columns = weak (λ w a h. inr h) (map_s Some (list_s derived_column_s))

  selected_by_s : (kind : Kind) → Sound n n (st.selected (g.nested l)) (r.selected_by n kind)
  unfolding st.selected
  selected_by_s k.Star = weak (λ w a h. inl h) (seq_s k.Star refl (sound_pure n None))
  selected_by_s _ = derived_columns

  having_s : Sound n n (st.having (g.nested l)) (r.having n)
  unfolding st.having r.having
  having_s = optional_s k.Having (seq_s k.Having refl (cond_at_s n l below))

  selected_rows_s : (columns : Option (List DerivedColumn)) (table : List ℕ) (other : Option (List ℕ)) → Sound n n (st.selected_rows (g.nested l) columns table other) (r.selected_rows n columns table other)
  unfolding st.selected_rows r.selected_rows
  selected_rows_s columns table other = then_s where_s (λ w keeps h. then_s (group_by_s n) (λ w group h. map_s (st.select_of columns table other keeps group) having_s))

  select_s : Sound n n (st.select (g.nested l)) (r.select n)
  unfolding st.select r.select r.selected
  select_s =
      seq_s k.Select refl (then_s (sound_by_kind n n (st.selected (g.nested l)) (r.selected_by n) selected_by_s) (λ w columns h.
      seq_s k.From refl (then_s (name_s n) (λ w table h. then_s (correlation_name_s n) (λ w other h. selected_rows_s columns table other)))))

  insertion_s : Sound n n (st.statement (g.nested l)) (r.statement_by n k.Insert)
  unfolding st.statement
  insertion_s = weak (λ w a h. inl (inl (inl (inl (inl h))))) (map_s s.Insert (insert_s n))

  stmt_by_s : (kind : Kind) → Sound n n (st.statement (g.nested l)) (r.statement_by n kind)
  unfolding st.statement
  stmt_by_s k.Insert = insertion_s
  stmt_by_s k.Update = weak (λ w a h. inl (inl (inl (inl (inr h))))) update_s
  stmt_by_s k.Delete = weak (λ w a h. inl (inl (inl (inr h)))) delete_s
  stmt_by_s k.Select = weak (λ w a h. inl (inl (inr h))) (map_s s.Select select_s)
  stmt_by_s k.Set = weak (λ w a h. inl (inr h)) (set_constraints_s n)
  stmt_by_s k.Verdict = weak (λ w a h. inr h) (verdict_s n)
  stmt_by_s _ = sound_refuse n n (st.statement (g.nested l)) insertion_s.begins

  stmt_s : Sound n n (st.statement (g.nested l)) (r.statement n)
  unfolding r.statement
  stmt_s = sound_by_kind n n (st.statement (g.nested l)) (r.statement_by n) stmt_by_s

  run_s : Sound n n (st.one_event (g.nested l)) (r.event_by n k.End)
  unfolding st.one_event
  run_s = weak (λ w a h. inr h) (map_s event.Run stmt_s)

  event_by_s : (kind : Kind) → Sound n n (st.one_event (g.nested l)) (r.event_by n kind)
  unfolding st.one_event
  event_by_s k.Begin = weak (λ w a h. inl (inl (inl h))) (seq_s k.Begin refl (access_s n))
  event_by_s k.Commit = weak (λ w a h. inl (inl (inr h))) (seq_s k.Commit refl (map_s (λ _. event.Commit) (optional_s k.Work (tok_s k.Work refl))))
  event_by_s k.Rollback = weak (λ w a h. inl (inr h)) (seq_s k.Rollback refl (map_s (λ _. event.Rollback) (optional_s k.Work (tok_s k.Work refl))))
  event_by_s _ = run_s

  pub event_s : Sound n n (st.one_event (g.nested l)) (r.one_event n)
  unfolding r.one_event
  event_s = sound_by_kind n n (st.one_event (g.nested l)) (r.event_by n) event_by_s
