-- Each reader of statements finds the texts of its part of the grammar.
use Rattle.std.proofs.Common.{◌≡◌, ℕ, ◌+◌, ◌≤◌, true, false, List, ◌++◌, Option, Some, None, refl, inl, inr, arith}
use Rattle.token.specs.declared.kinds.Kind.{Kind}
use Rattle.token.specs.declared.kinds.Kind.TheVariants as k
use Rattle.value.specs.declared.values.Value.{Value}
use Rattle.value.specs.declared.values.Value.TheVariants as c
use Rattle.syntax.specs.declared.trees.Condition.{Condition}
use Rattle.syntax.specs.declared.statements.UpdateSource.{UpdateSource}
use Rattle.syntax.specs.declared.statements.UpdateSource.TheVariants as to
use Rattle.syntax.specs.declared.statements.DerivedColumn.{DerivedColumn}
use Rattle.syntax.specs.declared.statements.Which.{Which}
use Rattle.syntax.specs.declared.statements.Which.TheVariants as which
use Rattle.syntax.specs.declared.statements.Mode.{Mode}
use Rattle.syntax.specs.declared.statements.Mode.TheVariants as mode
use Rattle.syntax.specs.declared.statements.Statement.{Statement}
use Rattle.syntax.specs.declared.statements.Statement.TheVariants as s
use Rattle.syntax.specs.declared.statements.Event.{Event}
use Rattle.syntax.specs.declared.statements.Event.TheVariants as event
use Rattle.syntax.specs.Language.{Lexemes, kind_at, Language, Then}
use Rattle.syntax.specs.Language as lang
use Rattle.syntax.specs.Grammar as g
use Rattle.syntax.specs.Readers as q
use Rattle.syntax.specs.StatementGrammar as st
use Rattle.syntax.specs.StatementReaders as r
use Rattle.syntax.specs.Reading.{Reader, by_kind, list}
use Rattle.syntax.specs.Reading as rd
use Rattle.syntax.proofs.WordLaws.{Finds, Accepts, finds_pure, finds_then}
use Rattle.syntax.proofs.Loops.{finds_parens, finds_expect}
use Rattle.syntax.proofs.Follow.{rank, Opens, opens_then, opens_token, opens_either, Follows, follows_opens, follows_then, follows_map, then_f, map_f, seq_f, lower, pick, Goes, route}
use Rattle.syntax.proofs.Parts.{optional_f, optional_follows, list_f}
use Rattle.syntax.proofs.Whole.{Exact}
use Rattle.syntax.proofs.Finders.{name_f, free_name, opens_kind, column_f, correlation_name_f, correlation_name_follows, cond_at_f, expr_at_f, expressions_opens}
use Rattle.syntax.proofs.StatementSounds.{event_s}

-- a name, and something behind it
pub named : {B : Type 0} {M : List ℕ → Language B} {f : List ℕ → Reader B} (m : ℕ) → ((a : List ℕ) → Finds rank m (M a) (f a)) → Finds rank m (Then g.name M) (rd.◌>>=◌ q.name f)
named {M = M} {f = f} m ff = finds_then (λ _. 0) rank 0 m g.name M q.name f free_name (λ w a h. ff a) (λ x v rest b h small. omega arith)

names_opens : (P : Kind → Type 0) → P k.Name → Opens (lang.list g.name) P
names_opens P name = opens_then P (opens_token P k.Name name)

constant_f : (m : ℕ) → Finds rank m st.constant r.constant
unfolding st.constant r.constant
constant_f m = record { finds = go m }
  where
    go : (m : ℕ) (w rest : Lexemes) (x : Value)
        → lang.◌∪◌ (lang.◌∪◌ (lang.◌∪◌ (lang.◌∪◌ (lang.◌>>◌ (lang.token k.Null) (lang.pure c.Null)) (lang.◌<$>◌ st.text_of (lang.token k.Text))) (lang.◌<$>◌ (st.number_of false) (lang.token k.Number)))
        (lang.◌>>◌ (lang.token k.Plus) (lang.◌<$>◌ (st.number_of false) (lang.token k.Number)))) (lang.◌>>◌ (lang.token k.Minus) (lang.◌<$>◌ (st.number_of true) (lang.token k.Number))) w x
        → rank (kind_at rest) ≤ m → Accepts (by_kind r.constant_by (w ++ rest)) x rest
    go m w rest x (inl (inl (inl (inl h)))) small = pick r.constant_by k.Null m refl (seq_f m k.Null (finds_pure rank m c.Null)) w rest x h small
    go m w rest x (inl (inl (inl (inr h)))) small = pick r.constant_by k.Text m refl (map_f m st.text_of (finds_expect rank m k.Text)) w rest x h small
    go m w rest x (inl (inl (inr h))) small = pick r.constant_by k.Number m refl (map_f m (st.number_of false) (finds_expect rank m k.Number)) w rest x h small
    go m w rest x (inl (inr h)) small = pick r.constant_by k.Plus m refl (seq_f m k.Plus (map_f m (st.number_of false) (finds_expect rank m k.Number))) w rest x h small
    go m w rest x (inr h) small = pick r.constant_by k.Minus m refl (seq_f m k.Minus (map_f m (st.number_of true) (finds_expect rank m k.Number))) w rest x h small

pub when_f : (m : ℕ) → Finds rank m st.check_time r.check_time
unfolding st.check_time r.check_time
when_f m = record { finds = go m }
  where
    go : (m : ℕ) (w rest : Lexemes) (x : Mode) → lang.◌∪◌ (lang.◌>>◌ (lang.token k.Deferred) (lang.pure mode.Deferred)) (lang.◌>>◌ (lang.token k.Immediate) (lang.pure mode.Immediate)) w x → rank (kind_at rest) ≤ m → Accepts (by_kind r.check_time_by (w ++ rest)) x rest
    go m w rest x (inl h) small = pick r.check_time_by k.Deferred m refl (seq_f m k.Deferred (finds_pure rank m mode.Deferred)) w rest x h small
    go m w rest x (inr h) small = pick r.check_time_by k.Immediate m refl (seq_f m k.Immediate (finds_pure rank m mode.Immediate)) w rest x h small

when_opens : (P : Kind → Type 0) → P k.Deferred → P k.Immediate → Opens st.check_time P
unfolding st.check_time
when_opens P deferred immediate = opens_either P (opens_token P k.Deferred deferred) (opens_token P k.Immediate immediate)

constraints_f : Finds rank 3 st.constraints r.constraints
unfolding st.constraints r.constraints
constraints_f = record { finds = go }
  where
    go : (w rest : Lexemes) (x : Which) → lang.◌∪◌ (lang.◌>>◌ (lang.token k.All) (lang.pure which.All)) (lang.◌<$>◌ which.Names (lang.list g.name)) w x → rank (kind_at rest) ≤ 3 → Accepts (by_kind r.constraints_by (w ++ rest)) x rest
    go w rest x (inl h) small = pick r.constraints_by k.All 3 refl (seq_f 3 k.All (finds_pure rank 3 which.All)) w rest x h small
    go w rest x (inr h) small =
        let P : Kind → Type 0 = Goes r.constraints_by (rd.◌<$>◌ which.Names (list q.name)) in
        route r.constraints_by 3 (map_f 3 which.Names (list_f (name_f 4))) (opens_then P (names_opens P refl)) w rest x h small

columns_f : (n : ℕ) → Finds rank 0 st.columns (r.columns n)
unfolding st.columns r.columns
columns_f n = optional_f 0 k.Open (omega arith) (opens_token (λ next. next ≡ k.Open) k.Open refl) (finds_parens rank 0 n (lang.list g.name) (list q.name) (omega arith) (λ i is. lower 0 3 (omega arith) (list_f (name_f 4))))

row_value_f : (n : ℕ) → Finds rank 4 st.row_value (r.row_value n)
unfolding st.row_value r.row_value
row_value_f n = finds_parens rank 4 n (lang.list st.constant) (list r.constant) (omega arith) (λ i is. lower 0 3 (omega arith) (list_f (constant_f 4)))

pub insert_f : (n : ℕ) → Finds rank 0 st.insert (r.insert n)
unfolding st.insert r.insert
insert_f n =
    seq_f 0 k.Insert (seq_f 0 k.Into (named 0 (λ table. then_f 0 0 (columns_f n)
    (λ w columns h. seq_f 0 k.Values (map_f 0 (st.insert_of table columns) (lower 0 3 (omega arith) (list_f (row_value_f n)))))
    (λ columns. follows_opens 0 0 (opens_token (λ kind. rank kind ≤ 0) k.Values (omega arith))))))

pub insert_opens : (P : Kind → Type 0) → P k.Insert → Opens st.insert P
unfolding st.insert
insert_opens P insert = opens_token P k.Insert insert

set_constraints_f : Finds rank 0 st.set_constraints r.set_constraints
unfolding st.set_constraints r.set_constraints
set_constraints_f = seq_f 0 k.Set (seq_f 0 k.Constraints (then_f 0 0 (lower 0 3 (omega arith) constraints_f) (λ w which h. map_f 0 (s.SetConstraints which) (when_f 0))
    (λ which. follows_map 0 0 (s.SetConstraints which) (follows_opens 0 0 (when_opens (λ kind. rank kind ≤ 0) (omega arith) (omega arith))))))

verdict_f : Finds rank 0 st.verdict r.verdict
unfolding st.verdict r.verdict
verdict_f = seq_f 0 k.Verdict (map_f 0 s.Verdict (name_f 0))

group_by_f : Finds rank 1 st.group_by r.group_by
unfolding st.group_by r.group_by
group_by_f = optional_f 1 k.Group (omega arith) (opens_token (λ next. next ≡ k.Group) k.Group refl) (seq_f 1 k.Group (seq_f 1 k.By (lower 1 3 (omega arith) (list_f (lower 4 9 (omega arith) column_f)))))

group_by_follows : Follows 2 1 st.group_by
unfolding st.group_by
group_by_follows = optional_follows 2 1 k.Group (omega arith) (omega arith) (opens_token (λ next. next ≡ k.Group) k.Group refl)

module _ (n l : ℕ) where
  where_f : Finds rank 2 (st.where_clause (g.nested l)) (r.where_clause n)
  unfolding st.where_clause r.where_clause
  where_f = optional_f 2 k.Where (omega arith) (opens_token (λ next. next ≡ k.Where) k.Where refl) (seq_f 2 k.Where (lower 2 4 (omega arith) (cond_at_f n l)))

  where_follows : Follows 3 2 (st.where_clause (g.nested l))
  unfolding st.where_clause
  where_follows = optional_follows 3 2 k.Where (omega arith) (omega arith) (opens_token (λ next. next ≡ k.Where) k.Where refl)

  -- where nothing may come behind the WHERE
  last_where_f : Finds rank 0 (st.where_clause (g.nested l)) (r.where_clause n)
  last_where_f = lower 0 2 (omega arith) where_f

  last_where_follows : Follows 3 0 (st.where_clause (g.nested l))
  last_where_follows w rest keeps h small = where_follows w rest keeps h (omega arith)

  assigned_f : Finds rank 4 (st.assigned (g.nested l)) (r.assigned n)
  unfolding st.assigned r.assigned
  assigned_f = record { finds = go }
    where
      go : (w rest : Lexemes) (x : UpdateSource) → lang.◌∪◌ (lang.◌>>◌ (lang.token k.Null) (lang.pure to.Null)) (lang.◌<$>◌ to.To (g.expressions l)) w x → rank (kind_at rest) ≤ 4 → Accepts (by_kind (r.assigned_by n) (w ++ rest)) x rest
      go w rest x (inl h) small = pick (r.assigned_by n) k.Null 4 refl (seq_f 4 k.Null (finds_pure rank 4 to.Null)) w rest x h small
      go w rest x (inr h) small =
          let P : Kind → Type 0 = Goes (r.assigned_by n) (rd.◌<$>◌ to.To (q.expr_at n)) in
          route (r.assigned_by n) 4 (map_f 4 to.To (lower 4 7 (omega arith) (expr_at_f n l)))
          (opens_then P (expressions_opens l P (record { other = (record { text = refl; name = refl; open_ = refl; count = refl; sum = refl; min = refl; max = refl }); number = refl; plus = refl; minus = refl }))) w rest x h small

  assignment_f : Finds rank 4 (st.assignment (g.nested l)) (r.assignment n)
  unfolding st.assignment r.assignment
  assignment_f = named 4 (λ column. seq_f 4 k.Equal (map_f 4 (st.assignment_of column) assigned_f))

  update_f : Finds rank 0 (st.update (g.nested l)) (r.update n)
  unfolding st.update r.update
  update_f = seq_f 0 k.Update (named 0 (λ table. seq_f 0 k.Set (then_f 3 0 (list_f assignment_f) (λ w sets h. map_f 0 (s.Update table sets) last_where_f) (λ sets. follows_map 3 0 (s.Update table sets) last_where_follows))))

  delete_f : Finds rank 0 (st.delete (g.nested l)) (r.delete n)
  unfolding st.delete r.delete
  delete_f = seq_f 0 k.Delete (seq_f 0 k.From (named 0 (λ table. map_f 0 (s.Delete table) last_where_f)))

  derived_column_f : Finds rank 4 (st.derived_column (g.nested l)) (r.derived_column n)
  unfolding st.derived_column r.derived_column
  derived_column_f =
      then_f 5 4 (lower 5 7 (omega arith) (expr_at_f n l)) (λ w value h. map_f 4 (st.derived_column_of value) correlation_name_f)
      (λ value. follows_map 5 4 (st.derived_column_of value) correlation_name_follows)

  derived_opens : (P : Kind → Type 0) → Opens (g.expressions l) P → Opens (st.derived_column (g.nested l)) P
  unfolding st.derived_column
  derived_opens P opens = opens_then P opens

  selected_f : Finds rank 3 (st.selected (g.nested l)) (r.selected n)
  unfolding st.selected r.selected
  selected_f = record { finds = go }
    where
      go : (w rest : Lexemes) (x : Option (List DerivedColumn))
          → lang.◌∪◌ (lang.◌>>◌ (lang.token k.Star) (lang.pure None)) (lang.◌<$>◌ Some (lang.list (st.derived_column (g.nested l)))) w x → rank (kind_at rest) ≤ 3 → Accepts (by_kind (r.selected_by n) (w ++ rest)) x rest
      go w rest x (inl h) small = pick (r.selected_by n) k.Star 3 refl (seq_f 3 k.Star (finds_pure rank 3 None)) w rest x h small
      go w rest x (inr h) small =
          let P : Kind → Type 0 = Goes (r.selected_by n) (rd.◌<$>◌ Some (list (r.derived_column n))) in
          route (r.selected_by n) 3 (map_f 3 Some (list_f derived_column_f)) (opens_then P (opens_then P (derived_opens P
          (expressions_opens l P (record { other = (record { text = refl; name = refl; open_ = refl; count = refl; sum = refl; min = refl; max = refl }); number = refl; plus = refl; minus = refl }))))) w rest x h small

  having_f : Finds rank 0 (st.having (g.nested l)) (r.having n)
  unfolding st.having r.having
  having_f = optional_f 0 k.Having (omega arith) (opens_token (λ next. next ≡ k.Having) k.Having refl) (seq_f 0 k.Having (lower 0 4 (omega arith) (cond_at_f n l)))

  having_follows : Follows 1 0 (st.having (g.nested l))
  unfolding st.having
  having_follows = optional_follows 1 0 k.Having (omega arith) (omega arith) (opens_token (λ next. next ≡ k.Having) k.Having refl)

  module _ (columns : Option (List DerivedColumn)) (table : List ℕ) (other : Option (List ℕ)) where
    grouped_follows : (keeps : Option Condition) → Follows 2 0 (lang.◌>>=◌ st.group_by (λ group. lang.◌<$>◌ (st.select_of columns table other keeps group) (st.having (g.nested l))))
    grouped_follows keeps = follows_then 2 1 0 group_by_follows (λ group. follows_map 1 0 (st.select_of columns table other keeps group) having_follows)

    selected_rows_f : Finds rank 0 (st.selected_rows (g.nested l) columns table other) (r.selected_rows n columns table other)
    unfolding st.selected_rows r.selected_rows
    selected_rows_f =
        then_f 2 0 where_f
        (λ w keeps h. then_f 1 0 group_by_f (λ w group h. map_f 0 (st.select_of columns table other keeps group) having_f) (λ group. follows_map 1 0 (st.select_of columns table other keeps group) having_follows))
        grouped_follows

    selected_rows_follows : Follows 3 0 (st.selected_rows (g.nested l) columns table other)
    unfolding st.selected_rows
    selected_rows_follows = follows_then 3 2 0 where_follows grouped_follows

  select_f : Finds rank 0 (st.select (g.nested l)) (r.select n)
  unfolding st.select r.select
  select_f =
      seq_f 0 k.Select (then_f 0 0 (lower 0 3 (omega arith) selected_f) (λ w columns h. seq_f 0 k.From (named 0 (λ table.
      then_f 3 0 (lower 3 4 (omega arith) correlation_name_f) (λ w other h. selected_rows_f columns table other)
      (λ other. selected_rows_follows columns table other))))
      (λ columns. follows_opens 0 0 (opens_token (λ kind. rank kind ≤ 0) k.From (omega arith))))

  select_opens : (P : Kind → Type 0) → P k.Select → Opens (st.select (g.nested l)) P
  unfolding st.select
  select_opens P select = opens_token P k.Select select

  stmt_f : Finds rank 0 (st.statement (g.nested l)) (r.statement n)
  unfolding st.statement r.statement st.update st.delete st.set_constraints st.verdict
  stmt_f = record { finds = go }
    where
      go : (w rest : Lexemes) (x : Statement)
          → lang.◌∪◌ (lang.◌∪◌ (lang.◌∪◌ (lang.◌∪◌ (lang.◌∪◌ (lang.◌<$>◌ s.Insert st.insert) (st.update (g.nested l))) (st.delete (g.nested l))) (lang.◌<$>◌ s.Select (st.select (g.nested l)))) st.set_constraints) st.verdict w x
          → rank (kind_at rest) ≤ 0 → Accepts (by_kind (r.statement_by n) (w ++ rest)) x rest
      go w rest x (inl (inl (inl (inl (inl h))))) small =
          let P : Kind → Type 0 = Goes (r.statement_by n) (rd.◌<$>◌ s.Insert (r.insert n)) in
          route (r.statement_by n) 0 (map_f 0 s.Insert (insert_f n)) (opens_then P (insert_opens P refl)) w rest x h small
      go w rest x (inl (inl (inl (inl (inr h))))) small = pick (r.statement_by n) k.Update 0 refl update_f w rest x h small
      go w rest x (inl (inl (inl (inr h)))) small = pick (r.statement_by n) k.Delete 0 refl delete_f w rest x h small
      go w rest x (inl (inl (inr h))) small = route (r.statement_by n) 0 (map_f 0 s.Select select_f) (opens_then (Goes (r.statement_by n) (rd.◌<$>◌ s.Select (r.select n))) (select_opens (Goes (r.statement_by n) (rd.◌<$>◌ s.Select (r.select n))) refl)) w rest x h small
      go w rest x (inl (inr h)) small = pick (r.statement_by n) k.Set 0 refl set_constraints_f w rest x h small
      go w rest x (inr h) small = pick (r.statement_by n) k.Verdict 0 refl verdict_f w rest x h small

  stmt_opens : (P : Kind → Type 0) → P k.Insert → P k.Update → P k.Delete → P k.Select → P k.Set → P k.Verdict → Opens (st.statement (g.nested l)) P
  unfolding st.statement st.update st.delete st.set_constraints st.verdict
  stmt_opens P insert update delete select set verdict =
      opens_either P (opens_either P (opens_either P (opens_either P (opens_either P (opens_then P (insert_opens P insert)) (opens_token P k.Update update)) (opens_token P k.Delete delete)) (opens_then P (select_opens P select))) (opens_token P k.Set set)) (opens_token P k.Verdict verdict)

  work_f : Finds rank 0 (lang.optional (lang.token k.Work)) (rd.optional k.Work (rd.expect k.Work))
  work_f = optional_f 0 k.Work (omega arith) (opens_kind (λ next. next ≡ k.Work) k.Work refl) (finds_expect rank 0 k.Work)

  access_f : Finds rank 0 st.access r.access
  unfolding st.access r.access
  access_f = map_f 0 st.begin_of (optional_f 0 k.Read (omega arith) (opens_token (λ next. next ≡ k.Read) k.Read refl) (seq_f 0 k.Read (finds_expect rank 0 k.Only)))

  pub event_f : Finds rank 0 (st.one_event (g.nested l)) (r.one_event n)
  unfolding st.one_event r.one_event
  event_f = record { finds = go }
    where
      go : (w rest : Lexemes) (x : Event)
          → lang.◌∪◌ (lang.◌∪◌ (lang.◌∪◌ (lang.◌>>◌ (lang.token k.Begin) st.access) (lang.◌>>◌ (lang.token k.Commit) (lang.◌<$>◌ (λ _. event.Commit) (lang.optional (lang.token k.Work)))))
          (lang.◌>>◌ (lang.token k.Rollback) (lang.◌<$>◌ (λ _. event.Rollback) (lang.optional (lang.token k.Work))))) (lang.◌<$>◌ event.Run (st.statement (g.nested l))) w x
          → rank (kind_at rest) ≤ 0 → Accepts (by_kind (r.event_by n) (w ++ rest)) x rest
      go w rest x (inl (inl (inl h))) small = pick (r.event_by n) k.Begin 0 refl (seq_f 0 k.Begin access_f) w rest x h small
      go w rest x (inl (inl (inr h))) small = pick (r.event_by n) k.Commit 0 refl (seq_f 0 k.Commit (map_f 0 (λ _. event.Commit) work_f)) w rest x h small
      go w rest x (inl (inr h)) small = pick (r.event_by n) k.Rollback 0 refl (seq_f 0 k.Rollback (map_f 0 (λ _. event.Rollback) work_f)) w rest x h small
      go w rest x (inr h) small =
          let P : Kind → Type 0 = Goes (r.event_by n) (rd.◌<$>◌ event.Run (r.statement n)) in
          route (r.event_by n) 0 (map_f 0 event.Run stmt_f) (opens_then P (stmt_opens P refl refl refl refl refl refl)) w rest x h small

-- the public call's reader
pub exact_events : Exact st.events r.one_event
exact_events = record { sound = λ n. event_s n (n + 2) (omega arith); finds = λ n l. event_f n l }
