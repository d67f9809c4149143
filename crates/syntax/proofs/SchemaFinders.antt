-- Each reader of definitions and scripts finds the texts of its part of the grammar.
use Rattle.std.proofs.Common.{◌≡◌, ℕ, ◌+◌, ◌-◌, ◌≤◌, Bool, true, false, List, [], ◌∷◌, ◌++◌, Option, Some, None, refl, sym, subst, inl, inr, arith, ap, ◌∙◌, append_assoc}
use Rattle.token.specs.declared.kinds.Kind.{Kind}
use Rattle.token.specs.declared.kinds.Kind.TheVariants as k
use Rattle.value.specs.declared.values.ColType.{ColType}
use Rattle.value.specs.declared.values.ColType.TheVariants as kind_of
use Rattle.syntax.specs.declared.definitions.Attributes.{Attributes}
use Rattle.syntax.specs.declared.definitions.ColumnConstraint.{ColumnConstraint}
use Rattle.syntax.specs.declared.definitions.ColumnConstraint.TheVariants as on_column
use Rattle.syntax.specs.declared.definitions.Constraint.{Constraint}
use Rattle.syntax.specs.declared.definitions.Constraint.TheVariants.{Unique}
use Rattle.syntax.specs.declared.definitions.TableConstraint.{TableConstraint}
use Rattle.syntax.specs.declared.definitions.TableElement.{TableElement}
use Rattle.syntax.specs.declared.definitions.TableElement.TheVariants as element
use Rattle.syntax.specs.declared.definitions.Definition.{Definition}
use Rattle.syntax.specs.declared.definitions.Definition.TheVariants as d
use Rattle.syntax.specs.Language.{Lexemes, kind_at, Language, Then}
use Rattle.syntax.specs.Language as lang
use Rattle.syntax.specs.Grammar as g
use Rattle.syntax.specs.Readers as q
use Rattle.syntax.specs.StatementGrammar as st
use Rattle.syntax.specs.StatementReaders as sr
use Rattle.syntax.specs.SchemaGrammar as dg
use Rattle.syntax.specs.SchemaReaders as r
use Rattle.syntax.specs.Reading.{by_kind, list, expect_where}
use Rattle.syntax.specs.Reading as rd
use Rattle.syntax.proofs.WordLaws.{Finds, Accepts, finds_pure}
use Rattle.syntax.proofs.Loops.{finds_parens, finds_where, Opening, Loops}
use Rattle.syntax.proofs.Finders.{name_f}
use Rattle.syntax.proofs.Follow.{rank, Opens, opens_then, opens_token, opens_where, opens_either, Follows, follows_opens, follows_pure, follows_either, follows_map, follows_behind, token_opening, then_f, map_f, seq_f, lower, all_f, pick, Goes, route}
use Rattle.syntax.proofs.Parts.{optional_f, optional_follows, list_f}
use Rattle.syntax.proofs.Loops.{finds_expect}
use Rattle.syntax.proofs.Whole.{Exact}
use Rattle.syntax.proofs.Finders.{cond_at_f}
use Rattle.syntax.proofs.StatementFinders.{named, insert_f, insert_opens, when_f, event_f}
use Rattle.syntax.proofs.SchemaSounds.{defs_s, script_s, table_in, assertion_in, index_in, references_in, unique_in, foreign_in}

type_f : (m n : ℕ) → Finds rank m dg.column_type (r.column_type n)
unfolding dg.column_type r.column_type
type_f m n = record { finds = go m n }
  where
    go : (m n : ℕ) (w rest : Lexemes) (x : ColType)
        → lang.◌∪◌ (lang.◌∪◌ (lang.◌>>◌ (lang.token k.Integer) (lang.pure kind_of.Integer)) (lang.◌>>◌ (lang.token k.Int) (lang.pure kind_of.Integer))) (lang.◌>>◌ (lang.token k.Varchar) (lang.parens (lang.◌<$>◌ dg.varchar_of (lang.token_where k.Number dg.is_width)))) w x
        → rank (kind_at rest) ≤ m → Accepts (by_kind (r.type_by n) (w ++ rest)) x rest
    go m n w rest x (inl (inl h)) small = pick (r.type_by n) k.Integer m refl (seq_f m k.Integer (finds_pure rank m kind_of.Integer)) w rest x h small
    go m n w rest x (inl (inr h)) small = pick (r.type_by n) k.Int m refl (seq_f m k.Int (finds_pure rank m kind_of.Integer)) w rest x h small
    go m n w rest x (inr h) small =
        pick (r.type_by n) k.Varchar m refl (seq_f m k.Varchar (finds_parens rank m n (lang.◌<$>◌ dg.varchar_of (lang.token_where k.Number dg.is_width)) (rd.◌<$>◌ dg.varchar_of (expect_where k.Number dg.is_width)) (omega arith) (λ i is. map_f 0 dg.varchar_of (finds_where rank 0 k.Number dg.is_width)))) w rest x h small

-- two words, whatever follows
two_f : (m : ℕ) (one two : Kind) → Finds rank m (lang.◌>>◌ (lang.token one) (lang.token two)) (rd.◌>>◌ (rd.expect one) (rd.expect two))
two_f m one two = seq_f m one (finds_expect rank m two)

two_opens : (one two : Kind) → Opens (lang.◌>>◌ (lang.token one) (lang.token two)) (λ next. next ≡ one)
two_opens one two = opens_token (λ next. next ≡ one) one refl

initially_f : (m : ℕ) → Finds rank m dg.initially r.initially
unfolding dg.initially r.initially
initially_f m = seq_f m k.Initially (when_f m)

initially_opens : (P : Kind → Type 0) → P k.Initially → Opens dg.initially P
unfolding dg.initially
initially_opens P initially = opens_token P k.Initially initially

deferrable_f : (m : ℕ) → Finds rank m dg.deferrable r.deferrable
unfolding dg.deferrable r.deferrable
deferrable_f m = record { finds = go m }
  where
    go : (m : ℕ) (w rest : Lexemes) (x : Bool) → lang.◌∪◌ (lang.◌>>◌ (lang.token k.Deferrable) (lang.pure true)) (lang.◌>>◌ (lang.token k.Not) (lang.◌>>◌ (lang.token k.Deferrable) (lang.pure false))) w x → rank (kind_at rest) ≤ m → Accepts (by_kind r.deferrable_by (w ++ rest)) x rest
    go m w rest x (inl h) small = pick r.deferrable_by k.Deferrable m refl (seq_f m k.Deferrable (finds_pure rank m true)) w rest x h small
    go m w rest x (inr h) small = pick r.deferrable_by k.Not m refl (seq_f m k.Not (seq_f m k.Deferrable (finds_pure rank m false))) w rest x h small

deferrable_opens : (P : Kind → Type 0) → P k.Deferrable → P k.Not → Opens dg.deferrable P
unfolding dg.deferrable
deferrable_opens P deferrable negated = opens_either P (opens_token P k.Deferrable deferrable) (opens_token P k.Not negated)

no_defer : (kind : Kind) → rank kind ≤ 4 → r.may_defer_by kind ≡ rd.pure None
no_defer k.Deferrable small = absurd (omega arith)
no_defer k.Not small = absurd (omega arith)
no_defer _ small = refl

may_defer_f : Finds rank 4 (lang.optional dg.deferrable) r.may_defer
unfolding r.may_defer
may_defer_f = record { finds = go }
  where
    go : (w rest : Lexemes) (x : Option Bool) → lang.optional dg.deferrable w x → rank (kind_at rest) ≤ 4 → Accepts (by_kind r.may_defer_by (w ++ rest)) x rest
    go w rest x (inl h) small =
        subst (λ t. Accepts (by_kind r.may_defer_by (t ++ rest)) x rest) (sym h.0)
        (subst (λ p. Accepts (p rest) x rest) (sym (no_defer (kind_at rest) small)) ((finds_pure rank 4 None).finds [] rest x (refl, h.1) small))
    go w rest x (inr h) small =
        let P : Kind → Type 0 = Goes r.may_defer_by (rd.◌<$>◌ Some r.deferrable) in
        route r.may_defer_by 4 (map_f 4 Some (deferrable_f 4)) (opens_then P (deferrable_opens P refl refl)) w rest x h small

may_defer_follows : Follows 8 4 (lang.optional dg.deferrable)
may_defer_follows = follows_either 8 4 (follows_pure 8 4 None (omega arith)) (follows_opens 8 4 (opens_then (λ kind. rank kind ≤ 8) (deferrable_opens (λ kind. rank kind ≤ 8) (omega arith) (omega arith))))

no_attrs : (kind : Kind) → rank kind ≤ 4 → r.attributes_by kind ≡ rd.pure (dg.attributes_of None None)
no_attrs k.Initially small = absurd (omega arith)
no_attrs k.Deferrable small = absurd (omega arith)
no_attrs k.Not small = absurd (omega arith)
no_attrs _ small = refl

initially_first_f : Finds rank 4 (lang.◌>>=◌ dg.initially (λ mode. lang.◌<$>◌ (dg.attributes_of (Some mode)) (lang.optional dg.deferrable))) r.initially_first
unfolding r.initially_first
initially_first_f = then_f 8 4 (initially_f 8) (λ w mode h. map_f 4 (dg.attributes_of (Some mode)) may_defer_f) (λ mode. follows_map 8 4 (dg.attributes_of (Some mode)) may_defer_follows)

deferrable_first_f : Finds rank 4 (lang.◌>>=◌ dg.deferrable (λ may. lang.◌<$>◌ (λ mode. dg.attributes_of mode (Some may)) (lang.optional dg.initially))) r.deferrable_first
unfolding r.deferrable_first
deferrable_first_f =
    then_f 8 4 (deferrable_f 8) (λ w may h. map_f 4 (λ mode. dg.attributes_of mode (Some may)) (optional_f 4 k.Initially (omega arith) (initially_opens (λ next. next ≡ k.Initially) refl) (initially_f 4)))
    (λ may. follows_map 8 4 (λ mode. dg.attributes_of mode (Some may)) (optional_follows 8 4 k.Initially (omega arith) (omega arith) (initially_opens (λ next. next ≡ k.Initially) refl)))

attrs_f : Finds rank 4 dg.attributes r.attributes
unfolding dg.attributes r.attributes
attrs_f = record { finds = go }
  where
    go : (w rest : Lexemes) (x : Attributes)
        → lang.◌∪◌ (lang.◌∪◌ (lang.pure (dg.attributes_of None None)) (lang.◌>>=◌ dg.initially (λ mode. lang.◌<$>◌ (dg.attributes_of (Some mode)) (lang.optional dg.deferrable)))) (lang.◌>>=◌ dg.deferrable (λ may. lang.◌<$>◌ (λ mode. dg.attributes_of mode (Some may)) (lang.optional dg.initially))) w x
        → rank (kind_at rest) ≤ 4 → Accepts (by_kind r.attributes_by (w ++ rest)) x rest
    go w rest x (inl (inl h)) small =
        subst (λ t. Accepts (by_kind r.attributes_by (t ++ rest)) x rest) (sym h.0)
        (subst (λ p. Accepts (p rest) x rest) (sym (no_attrs (kind_at rest) small)) ((finds_pure rank 4 (dg.attributes_of None None)).finds [] rest x (refl, h.1) small))
    go w rest x (inl (inr h)) small = route r.attributes_by 4 initially_first_f (opens_then (Goes r.attributes_by r.initially_first) (initially_opens (Goes r.attributes_by r.initially_first) refl)) w rest x h small
    go w rest x (inr h) small = route r.attributes_by 4 deferrable_first_f (opens_then (Goes r.attributes_by r.deferrable_first) (deferrable_opens (Goes r.attributes_by r.deferrable_first) refl refl)) w rest x h small

attrs_follows : Follows 8 4 dg.attributes
unfolding dg.attributes
attrs_follows = follows_either 8 4 (follows_either 8 4 (follows_pure 8 4 (dg.attributes_of None None) (omega arith)) (follows_opens 8 4 (opens_then (λ kind. rank kind ≤ 8) (initially_opens (λ kind. rank kind ≤ 8) (omega arith)))))
    (follows_opens 8 4 (opens_then (λ kind. rank kind ≤ 8) (deferrable_opens (λ kind. rank kind ≤ 8) (omega arith) (omega arith))))

-- the attributes of a constraint behind a column, before what binds no more tightly than NOT
no_column_attrs : (kind : Kind) → rank kind ≤ 7 → r.column_attributes_by kind ≡ rd.pure (dg.attributes_of None None)
no_column_attrs k.Initially small = absurd (omega arith)
no_column_attrs k.Deferrable small = absurd (omega arith)
no_column_attrs _ small = refl

plain_opens : Opens (lang.◌>>◌ (lang.token k.Deferrable) (lang.pure true)) (λ next. next ≡ k.Deferrable)
plain_opens = opens_token (λ next. next ≡ k.Deferrable) k.Deferrable refl

column_initially_first_f : Finds rank 7 (lang.◌>>=◌ dg.initially (λ mode. lang.◌<$>◌ (dg.attributes_of (Some mode)) (lang.optional (lang.◌>>◌ (lang.token k.Deferrable) (lang.pure true))))) r.column_initially_first
unfolding r.column_initially_first
column_initially_first_f =
    then_f 8 7 (initially_f 8) (λ w mode h. map_f 7 (dg.attributes_of (Some mode)) (optional_f 7 k.Deferrable (omega arith) plain_opens (seq_f 7 k.Deferrable (finds_pure rank 7 true))))
    (λ mode. follows_map 8 7 (dg.attributes_of (Some mode)) (optional_follows 8 7 k.Deferrable (omega arith) (omega arith) plain_opens))

column_deferrable_first_f : Finds rank 7 (lang.◌>>◌ (lang.token k.Deferrable) (lang.◌<$>◌ (λ mode. dg.attributes_of mode (Some true)) (lang.optional dg.initially))) r.column_deferrable_first
unfolding r.column_deferrable_first
column_deferrable_first_f =
    seq_f 7 k.Deferrable (map_f 7 (λ mode. dg.attributes_of mode (Some true)) (optional_f 7 k.Initially (omega arith) (initially_opens (λ next. next ≡ k.Initially) refl) (initially_f 7)))

column_attrs_f : Finds rank 7 dg.column_attributes r.column_attributes
unfolding dg.column_attributes r.column_attributes
column_attrs_f = record { finds = go }
  where
    go : (w rest : Lexemes) (x : Attributes)
        → lang.◌∪◌ (lang.◌∪◌ (lang.pure (dg.attributes_of None None)) (lang.◌>>=◌ dg.initially (λ mode. lang.◌<$>◌ (dg.attributes_of (Some mode)) (lang.optional (lang.◌>>◌ (lang.token k.Deferrable) (lang.pure true)))))) (lang.◌>>◌ (lang.token k.Deferrable) (lang.◌<$>◌ (λ mode. dg.attributes_of mode (Some true)) (lang.optional dg.initially))) w x
        → rank (kind_at rest) ≤ 7 → Accepts (by_kind r.column_attributes_by (w ++ rest)) x rest
    go w rest x (inl (inl h)) small =
        subst (λ t. Accepts (by_kind r.column_attributes_by (t ++ rest)) x rest) (sym h.0)
        (subst (λ p. Accepts (p rest) x rest) (sym (no_column_attrs (kind_at rest) small)) ((finds_pure rank 7 (dg.attributes_of None None)).finds [] rest x (refl, h.1) small))
    go w rest x (inl (inr h)) small = route r.column_attributes_by 7 column_initially_first_f (opens_then (Goes r.column_attributes_by r.column_initially_first) (initially_opens (Goes r.column_attributes_by r.column_initially_first) refl)) w rest x h small
    go w rest x (inr h) small = pick r.column_attributes_by k.Deferrable 7 refl column_deferrable_first_f w rest x h small

column_attrs_follows : Follows 8 7 dg.column_attributes
unfolding dg.column_attributes
column_attrs_follows = follows_either 8 7 (follows_either 8 7 (follows_pure 8 7 (dg.attributes_of None None) (omega arith)) (follows_opens 8 7 (opens_then (λ kind. rank kind ≤ 8) (initially_opens (λ kind. rank kind ≤ 8) (omega arith)))))
    (follows_opens 8 7 (opens_token (λ kind. rank kind ≤ 8) k.Deferrable (omega arith)))

names_f : (m n : ℕ) → Finds rank m dg.names (r.names n)
unfolding r.names
names_f m n = finds_parens rank m n (lang.list g.name) (list q.name) (omega arith) (λ i is. lower 0 3 (omega arith) (list_f (name_f 4)))

names_open : Opens dg.names (λ next. next ≡ k.Open)
names_open = opens_token (λ next. next ≡ k.Open) k.Open refl

-- [ CONSTRAINT name ], before the first word of what a constraint says
constraint_name_f : Finds rank 5 (lang.optional (lang.◌>>◌ (lang.token k.Constraint) g.name)) r.constraint_name
unfolding r.constraint_name
constraint_name_f = optional_f 5 k.Constraint (omega arith) (opens_token (λ next. next ≡ k.Constraint) k.Constraint refl) (seq_f 5 k.Constraint (name_f 5))

-- a constraint with its name and its attributes
constrained_f : {L : Language Constraint} {A : Language Attributes} {p : rd.Reader Constraint} {q : rd.Reader Attributes} (m : ℕ) → Finds rank 8 L p → Opens L (λ kind. rank kind ≤ 5) → Finds rank m A q → Follows 8 m A → Finds rank m (dg.constrained L A) (r.constrained p q)
constrained_f {L = L} {A = A} m rule opens attributes follows =
    then_f 5 m constraint_name_f (λ w name h. then_f 8 m rule (λ w c h. map_f m (dg.constraint_of name c) attributes) (λ c. follows_map 8 m (dg.constraint_of name c) follows))
    (λ name. follows_opens 5 m (opens_then (λ kind. rank kind ≤ 5) opens))

references_f : (n : ℕ) (column : List ℕ) → Finds rank 8 (references_in column) (r.references n column)
unfolding r.references
references_f n column =
    seq_f 8 k.References (named 8 (λ other. map_f 8 (dg.foreign_key (column ∷ []) other) (optional_f 8 k.Open (omega arith) (opens_then (λ next. next ≡ k.Open) (opens_token (λ next. next ≡ k.Open) k.Open refl)) (map_f 8 (λ x. x ∷ []) (finds_parens rank 8 n g.name q.name (omega arith) (λ i is. name_f 0))))))

unique_f : (n : ℕ) → Finds rank 8 unique_in (r.unique n)
unfolding r.unique
unique_f n = seq_f 8 k.Unique (map_f 8 Unique (names_f 8 n))

foreign_f : (n : ℕ) → Finds rank 8 foreign_in (r.foreign n)
unfolding r.foreign
foreign_f n =
    seq_f 8 k.Foreign (seq_f 8 k.Key (then_f 8 8 (names_f 8 n) (λ w columns h. seq_f 8 k.References (named 8 (λ other. map_f 8 (dg.foreign_key columns other) (optional_f 8 k.Open (omega arith) names_open (names_f 8 n)))))
    (λ columns. follows_opens 8 8 (opens_token (λ kind. rank kind ≤ 8) k.References (omega arith)))))

-- what begins with a name
name_opens : {B : Type 0} {M : List ℕ → Language B} (P : Kind → Type 0) → P k.Name → Opens (Then g.name M) P
name_opens {B = B} {M = M} P p = opens_then {A = List ℕ} {B = B} {K = g.name} {M = M} P (opens_token {B = List ℕ} {M = λ x. lang.pure (g.name_of x)} P k.Name p)

index_f : (n : ℕ) → Finds rank 0 index_in (r.index n)
unfolding r.index
index_f n = then_f 7 0 (finds_where rank 7 k.Name dg.is_index)
    (λ w x h. named 0 (λ index. seq_f 0 k.On (named 0 (λ table. map_f 0 (d.Index index table) (finds_parens rank 0 n g.name q.name (omega arith) (λ i is. name_f 0))))))
    (λ x. follows_opens 7 0 (name_opens (λ kind. rank kind ≤ 7) (omega arith)))

-- an opening of the first part opens the whole
opening_then : {A B : Type 0} (test : Kind → Bool) (K : Language A) (M : A → Language B) → ((w : Lexemes) (a : A) → K w a → Opening test K w) → (w : Lexemes) (b : B) → Then K M w b → Opening test (Then K M) w
opening_then test K M o w b h =
    let s = h.split in
    let p = o s.front h.tree s.first in
    record { token = p.token; more = p.more ++ s.back; is = s.cut ∙ ap (λ t. t ++ s.back) p.is; passes = p.passes }

-- an opening of what stands behind an optional part, or of that part
opening_optional : {A B : Type 0} (test : Kind → Bool) (K : Language A) (M : Option A → Language B)
    → ((w : Lexemes) (a : A) → K w a → Opening test K w) → ((a : Option A) (w : Lexemes) (b : B) → M a w b → Opening test (M a) w)
    → (w : Lexemes) (b : B) → Then (lang.optional K) M w b → Opening test (Then (lang.optional K) M) w
opening_optional test K M first second w b h = go h.split.first
  where
    s : lang.Split (λ v. lang.optional K v h.tree) (λ v. M h.tree v b) w
    s = h.split

    go : lang.optional K s.front h.tree → Opening test (Then (lang.optional K) M) w
    go (inl none) =
        let p = second h.tree s.back b s.second in
        record { token = p.token; more = p.more; is = s.cut ∙ ap (λ t. t ++ s.back) none.0 ∙ p.is; passes = p.passes }
    go (inr one) =
        let p = opening_then test K (λ a. lang.pure (Some a)) first s.front h.tree one in
        record { token = p.token; more = p.more ++ s.back; is = s.cut ∙ ap (λ t. t ++ s.back) p.is; passes = p.passes }

module _ (n l : ℕ) where
  check_f : (table : List ℕ) (column : Option (List ℕ)) → Finds rank 8 (dg.check (g.nested l) table column) (r.check n table column)
  unfolding dg.check r.check
  check_f table column = seq_f 8 k.Check (map_f 8 (dg.check_of table column) (finds_parens rank 8 n (g.conditions l) (q.cond_at (n - 1)) (omega arith) (λ i is. lower 0 4 (omega arith) (cond_at_f (n - 1) l))))

  check_opens : (P : Kind → Type 0) (table : List ℕ) (column : Option (List ℕ)) → P k.Check → Opens (dg.check (g.nested l) table column) P
  unfolding dg.check
  check_opens P table column p = opens_token P k.Check p

  column_rule_f : (table column : List ℕ) → Finds rank 8 (dg.column_rule (g.nested l) table column) (r.column_rule n table column)
  unfolding dg.column_rule r.column_rule
  column_rule_f table column = record { finds = go }
    where
      branch : Kind → rd.Reader Constraint
      branch = r.column_rule_by n table column

      go : (w rest : Lexemes) (x : Constraint)
          → lang.◌∪◌ (lang.◌∪◌ (lang.◌>>◌ (lang.token k.Unique) (lang.pure (Unique (column ∷ [])))) (dg.check (g.nested l) table (Some column))) (references_in column) w x
          → rank (kind_at rest) ≤ 8 → Accepts (by_kind branch (w ++ rest)) x rest
      go w rest x (inl (inl h)) small = pick branch k.Unique 8 refl (seq_f 8 k.Unique (finds_pure rank 8 (Unique (column ∷ [])))) w rest x h small
      go w rest x (inl (inr h)) small = route branch 8 (check_f table (Some column)) (check_opens (Goes branch (r.check n table (Some column))) table (Some column) refl) w rest x h small
      go w rest x (inr h) small = pick branch k.References 8 refl (references_f n column) w rest x h small

  column_rule_opens : (P : Kind → Type 0) (table column : List ℕ) → P k.Unique → P k.Check → P k.References → Opens (dg.column_rule (g.nested l) table column) P
  unfolding dg.column_rule
  column_rule_opens P table column unique check references =
      opens_either P (opens_either P (opens_token P k.Unique unique) (check_opens P table (Some column) check)) (opens_token P k.References references)

  -- a constraint behind a column begins with CONSTRAINT, or with the first word of what it says
  constrained_opens : (P : Kind → Type 0) {L : Language Constraint} {A : Language Attributes} → P k.Constraint → Opens L P → Opens (dg.constrained L A) P
  constrained_opens P {L = L} {A = A} named opens w rest x h = go h.split.first
    where
      s : lang.Split (λ v. lang.optional (lang.◌>>◌ (lang.token k.Constraint) g.name) v h.tree) (λ v. lang.◌>>=◌ L (λ c. lang.◌<$>◌ (dg.constraint_of h.tree c) A) v x) w
      s = h.split

      go : lang.optional (lang.◌>>◌ (lang.token k.Constraint) g.name) s.front h.tree → P (kind_at (w ++ rest))
      go (inl none) =
          subst (λ t. P (kind_at (t ++ rest))) (sym (s.cut ∙ ap (λ t. t ++ s.back) none.0))
          (opens_then P opens s.back rest x s.second)
      go (inr one) =
          subst (λ t. P (kind_at t)) (sym (ap (λ t. t ++ rest) s.cut ∙ append_assoc s.front s.back rest))
          (opens_then P (opens_token P k.Constraint named) s.front (s.back ++ rest) h.tree one)

  column_constraint_f : (table column : List ℕ) → Finds rank 7 (dg.column_constraint (g.nested l) table column) (r.column_constraint n table column)
  unfolding dg.column_constraint r.column_constraint
  column_constraint_f table column = record { finds = go }
    where
      branch : Kind → rd.Reader ColumnConstraint
      branch = r.column_constraint_by n table column

      rule : Language TableConstraint
      rule = dg.constrained (dg.column_rule (g.nested l) table column) dg.column_attributes

      rule_reader : rd.Reader ColumnConstraint
      rule_reader = rd.◌<$>◌ on_column.Constraint (r.constrained (r.column_rule n table column) r.column_attributes)

      null_f : Finds rank 7 (lang.◌>>◌ dg.not_null (lang.pure on_column.NotNull)) (branch k.Not)
      null_f = then_f 7 7 (two_f 7 k.Not k.Null) (λ w x h. finds_pure rank 7 on_column.NotNull) (λ x. follows_pure 7 7 on_column.NotNull (omega arith))

      key_f : Finds rank 7 (lang.◌>>◌ dg.primary_key (lang.pure on_column.PrimaryKey)) (branch k.Primary)
      key_f = then_f 7 7 (two_f 7 k.Primary k.Key) (λ w x h. finds_pure rank 7 on_column.PrimaryKey) (λ x. follows_pure 7 7 on_column.PrimaryKey (omega arith))

      rule_f : Finds rank 7 (lang.◌<$>◌ on_column.Constraint rule) rule_reader
      rule_f = map_f 7 on_column.Constraint (constrained_f 7 (column_rule_f table column) (column_rule_opens (λ kind. rank kind ≤ 5) table column (omega arith) (omega arith) (omega arith)) column_attrs_f column_attrs_follows)

      go : (w rest : Lexemes) (x : ColumnConstraint)
          → lang.◌∪◌ (lang.◌∪◌ (lang.◌>>◌ dg.not_null (lang.pure on_column.NotNull)) (lang.◌>>◌ dg.primary_key (lang.pure on_column.PrimaryKey))) (lang.◌<$>◌ on_column.Constraint rule) w x
          → rank (kind_at rest) ≤ 7 → Accepts (by_kind branch (w ++ rest)) x rest
      go w rest x (inl (inl h)) small = route branch 7 null_f (opens_then (Goes branch (branch k.Not)) (opens_token (Goes branch (branch k.Not)) k.Not refl)) w rest x h small
      go w rest x (inl (inr h)) small = route branch 7 key_f (opens_then (Goes branch (branch k.Primary)) (opens_token (Goes branch (branch k.Primary)) k.Primary refl)) w rest x h small
      go w rest x (inr h) small =
          let P : Kind → Type 0 = Goes branch rule_reader in
          route branch 7 rule_f (opens_then P (constrained_opens P refl (column_rule_opens P table column refl refl refl))) w rest x h small

  column_rule_opening : (table column : List ℕ) (w : Lexemes) (x : Constraint) → dg.column_rule (g.nested l) table column w x → Opening r.starts_column_constraint (dg.column_rule (g.nested l) table column) w
  unfolding dg.column_rule dg.check
  column_rule_opening table column w x (inl (inl h)) = let o = token_opening r.starts_column_constraint k.Unique _ refl w x h in record { token = o.token; more = o.more; is = o.is; passes = o.passes }
  column_rule_opening table column w x (inl (inr h)) = let o = token_opening r.starts_column_constraint k.Check _ refl w x h in record { token = o.token; more = o.more; is = o.is; passes = o.passes }
  column_rule_opening table column w x (inr h) = let o = token_opening r.starts_column_constraint k.References _ refl w x h in record { token = o.token; more = o.more; is = o.is; passes = o.passes }

  column_constraint_opening : (table column : List ℕ) (w : Lexemes) (x : ColumnConstraint) → dg.column_constraint (g.nested l) table column w x → Opening r.starts_column_constraint (dg.column_constraint (g.nested l) table column) w
  unfolding dg.column_constraint
  column_constraint_opening table column w x (inl (inl h)) =
      let o = opening_then r.starts_column_constraint dg.not_null (λ _. lang.pure on_column.NotNull) (λ v a t. token_opening r.starts_column_constraint k.Not _ refl v a t) w x h in record { token = o.token; more = o.more; is = o.is; passes = o.passes }
  column_constraint_opening table column w x (inl (inr h)) =
      let o = opening_then r.starts_column_constraint dg.primary_key (λ _. lang.pure on_column.PrimaryKey) (λ v a t. token_opening r.starts_column_constraint k.Primary _ refl v a t) w x h in record { token = o.token; more = o.more; is = o.is; passes = o.passes }
  column_constraint_opening table column w x (inr h) =
      let o = opening_then r.starts_column_constraint (dg.constrained (dg.column_rule (g.nested l) table column) dg.column_attributes) (λ c. lang.pure (on_column.Constraint c))
      (opening_optional r.starts_column_constraint (lang.◌>>◌ (lang.token k.Constraint) g.name) (λ name. lang.◌>>=◌ (dg.column_rule (g.nested l) table column) (λ c. lang.◌<$>◌ (dg.constraint_of name c) dg.column_attributes))
      (λ v a t. token_opening r.starts_column_constraint k.Constraint _ refl v a t)
      (λ name v b t. opening_then r.starts_column_constraint (dg.column_rule (g.nested l) table column) (λ c. lang.◌<$>◌ (dg.constraint_of name c) dg.column_attributes) (column_rule_opening table column) v b t)) w x h in
      record { token = o.token; more = o.more; is = o.is; passes = o.passes }

  column_constraint_loop : (table column : List ℕ) → Loops rank 7 4 r.starts_column_constraint (dg.column_constraint (g.nested l) table column)
  column_constraint_loop table column = record { opening = column_constraint_opening table column; binds = binds; stops = stops; below = omega arith }
    where
      binds : (kind : Kind) → r.starts_column_constraint kind ≡ true → rank kind ≤ 7
      binds k.Not is = omega arith
      binds k.Primary is = omega arith
      binds k.Constraint is = omega arith
      binds k.Unique is = omega arith
      binds k.Check is = omega arith
      binds k.References is = omega arith
      binds _ is = absurd (cc)

      stops : (kind : Kind) → rank kind ≤ 4 → r.starts_column_constraint kind ≡ false
      stops k.Not small = absurd (omega arith)
      stops k.Primary small = absurd (omega arith)
      stops k.Constraint small = absurd (omega arith)
      stops k.Unique small = absurd (omega arith)
      stops k.Check small = absurd (omega arith)
      stops k.References small = absurd (omega arith)
      stops _ small = refl

  column_f : (table : List ℕ) → Finds rank 4 (dg.column (g.nested l) table) (r.column n table)
  unfolding dg.column r.column
  column_f table = named 4 (λ name. then_f 7 4 (type_f 7 n) (λ w kind h. map_f 4 (element.Column name kind) (all_f 7 4 r.starts_column_constraint (column_constraint_loop table name) (column_constraint_f table name) []))
      (λ kind. follows_map 7 4 (element.Column name kind) (follows_behind [] (column_constraint_loop table name))))

  column_opens : (P : Kind → Type 0) (table : List ℕ) → P k.Name → Opens (dg.column (g.nested l) table) P
  unfolding dg.column
  column_opens P table p = name_opens P p

  table_rule_f : (table : List ℕ) → Finds rank 8 (dg.table_rule (g.nested l) table) (r.table_rule n table)
  unfolding dg.table_rule r.table_rule
  table_rule_f table = record { finds = go }
    where
      branch : Kind → rd.Reader Constraint
      branch = r.table_rule_by n table

      go : (w rest : Lexemes) (x : Constraint)
          → lang.◌∪◌ (lang.◌∪◌ unique_in (dg.check (g.nested l) table None)) foreign_in w x
          → rank (kind_at rest) ≤ 8 → Accepts (by_kind branch (w ++ rest)) x rest
      go w rest x (inl (inl h)) small = pick branch k.Unique 8 refl (unique_f n) w rest x h small
      go w rest x (inl (inr h)) small = route branch 8 (check_f table None) (check_opens (Goes branch (r.check n table None)) table None refl) w rest x h small
      go w rest x (inr h) small = pick branch k.Foreign 8 refl (foreign_f n) w rest x h small

  table_rule_opens : (P : Kind → Type 0) (table : List ℕ) → P k.Unique → P k.Check → P k.Foreign → Opens (dg.table_rule (g.nested l) table) P
  unfolding dg.table_rule
  table_rule_opens P table unique check foreign =
      opens_either P (opens_either P (opens_token P k.Unique unique) (check_opens P table None check)) (opens_token P k.Foreign foreign)

  table_element_f : (table : List ℕ) → Finds rank 4 (dg.table_element (g.nested l) table) (r.table_element n table)
  unfolding dg.table_element r.table_element
  table_element_f table = record { finds = go }
    where
      branch : Kind → rd.Reader TableElement
      branch = r.table_element_by n table

      rule : Language TableConstraint
      rule = dg.constrained (dg.table_rule (g.nested l) table) dg.attributes

      rule_reader : rd.Reader TableElement
      rule_reader = rd.◌<$>◌ element.Constraint (r.constrained (r.table_rule n table) r.attributes)

      key_f : Finds rank 4 (lang.◌>>◌ dg.primary_key (lang.◌<$>◌ element.PrimaryKey dg.names)) (branch k.Primary)
      key_f = then_f 9 4 (two_f 9 k.Primary k.Key) (λ w x h. map_f 4 element.PrimaryKey (names_f 4 n)) (λ x. follows_map 9 4 element.PrimaryKey (follows_opens 9 4 (opens_token (λ kind. rank kind ≤ 9) k.Open (omega arith))))

      rule_f : Finds rank 4 (lang.◌<$>◌ element.Constraint rule) rule_reader
      rule_f = map_f 4 element.Constraint (constrained_f 4 (table_rule_f table) (table_rule_opens (λ kind. rank kind ≤ 5) table (omega arith) (omega arith) (omega arith)) attrs_f attrs_follows)

      go : (w rest : Lexemes) (x : TableElement)
          → lang.◌∪◌ (lang.◌∪◌ (dg.column (g.nested l) table) (lang.◌>>◌ dg.primary_key (lang.◌<$>◌ element.PrimaryKey dg.names))) (lang.◌<$>◌ element.Constraint rule) w x
          → rank (kind_at rest) ≤ 4 → Accepts (by_kind branch (w ++ rest)) x rest
      go w rest x (inl (inl h)) small = route branch 4 (column_f table) (column_opens (Goes branch (r.column n table)) table refl) w rest x h small
      go w rest x (inl (inr h)) small = route branch 4 key_f (opens_then (Goes branch (branch k.Primary)) (opens_token (Goes branch (branch k.Primary)) k.Primary refl)) w rest x h small
      go w rest x (inr h) small =
          let P : Kind → Type 0 = Goes branch rule_reader in
          route branch 4 rule_f (opens_then P (constrained_opens P refl (table_rule_opens P table refl refl refl))) w rest x h small

module _ (n l : ℕ) where
  table_f : Finds rank 0 (table_in (g.nested l)) (r.table n)
  unfolding r.table
  table_f = seq_f 0 k.Table (named 0 (λ name. map_f 0 (dg.table_of name) (finds_parens rank 0 n (lang.list (dg.table_element (g.nested l) name)) (list (r.table_element (n - 1) name)) (omega arith) (λ i is. lower 0 3 (omega arith) (list_f (table_element_f (n - 1) l name))))))

  assertion_f : Finds rank 0 (assertion_in (g.nested l)) (r.assertion n)
  unfolding r.assertion
  assertion_f = seq_f 0 k.Assertion (named 0 (λ name. seq_f 0 k.Check (lower 0 4 (omega arith) (then_f 8 4 (finds_parens rank 8 n (g.conditions l) (q.cond_at (n - 1)) (omega arith) (λ i is. lower 0 4 (omega arith) (cond_at_f (n - 1) l)))
      (λ w c h. map_f 4 (d.Assertion name c) attrs_f) (λ c. follows_map 8 4 (d.Assertion name c) attrs_follows)))))

  created_table : Finds rank 0 (table_in (g.nested l)) (r.created n)
  unfolding r.created
  created_table = record { finds = λ w rest x h small. pick (r.created_by n) k.Table 0 refl table_f w rest x h small }

  created_assertion : Finds rank 0 (assertion_in (g.nested l)) (r.created n)
  unfolding r.created
  created_assertion = record { finds = λ w rest x h small. pick (r.created_by n) k.Assertion 0 refl assertion_f w rest x h small }

  created_index : Finds rank 0 index_in (r.created n)
  unfolding r.created
  created_index = record { finds = λ w rest x h small. route (r.created_by n) 0 (index_f n) (opens_then (Goes (r.created_by n) (r.index n)) (opens_where (Goes (r.created_by n) (r.index n)) k.Name dg.is_index refl)) w rest x h small }

  def_f : Finds rank 0 (dg.definition (g.nested l)) (r.definition n)
  unfolding dg.definition dg.table dg.assertion dg.index r.definition
  def_f = record { finds = go }
    where
      go : (w rest : Lexemes) (x : Definition)
          → lang.◌∪◌ (lang.◌∪◌ (lang.◌∪◌ (lang.◌>>◌ (lang.token k.Create) (table_in (g.nested l))) (lang.◌>>◌ (lang.token k.Create) (assertion_in (g.nested l)))) (lang.◌>>◌ (lang.token k.Create) index_in)) (lang.◌<$>◌ d.Insert st.insert) w x
          → rank (kind_at rest) ≤ 0 → Accepts (by_kind (r.definition_by n) (w ++ rest)) x rest
      go w rest x (inl (inl (inl h))) small = pick (r.definition_by n) k.Create 0 refl (seq_f 0 k.Create created_table) w rest x h small
      go w rest x (inl (inl (inr h))) small = pick (r.definition_by n) k.Create 0 refl (seq_f 0 k.Create created_assertion) w rest x h small
      go w rest x (inl (inr h)) small = pick (r.definition_by n) k.Create 0 refl (seq_f 0 k.Create created_index) w rest x h small
      go w rest x (inr h) small =
          let P : Kind → Type 0 = Goes (r.definition_by n) (rd.◌<$>◌ d.Insert (sr.insert n)) in
          route (r.definition_by n) 0 (map_f 0 d.Insert (insert_f n)) (opens_then P (insert_opens P refl)) w rest x h small

  ended_def_f : Finds rank 1 (dg.ended_definition (g.nested l)) (r.ended_definition n)
  unfolding dg.ended_definition r.ended_definition
  ended_def_f = then_f 0 1 def_f (λ w x h. seq_f 1 k.Semicolon (finds_pure rank 1 x)) (λ x. follows_opens 0 1 (opens_token (λ kind. rank kind ≤ 0) k.Semicolon (omega arith)))

  insert_opening : (w : Lexemes) (x : Rattle.syntax.specs.declared.statements.Insert.Insert) → st.insert w x → Opening r.starts_definition st.insert w
  unfolding st.insert
  insert_opening w x h = token_opening r.starts_definition k.Insert _ refl w x h

  def_opening : (w : Lexemes) (x : Definition) → dg.definition (g.nested l) w x → Opening r.starts_definition (dg.definition (g.nested l)) w
  unfolding dg.definition dg.table dg.assertion dg.index
  def_opening w x (inl (inl (inl h))) = let o = token_opening r.starts_definition k.Create (λ _. table_in (g.nested l)) refl w x h in record { token = o.token; more = o.more; is = o.is; passes = o.passes }
  def_opening w x (inl (inl (inr h))) = let o = token_opening r.starts_definition k.Create (λ _. assertion_in (g.nested l)) refl w x h in record { token = o.token; more = o.more; is = o.is; passes = o.passes }
  def_opening w x (inl (inr h)) = let o = token_opening r.starts_definition k.Create (λ _. index_in) refl w x h in record { token = o.token; more = o.more; is = o.is; passes = o.passes }
  def_opening w x (inr h) = let o = opening_then r.starts_definition st.insert (λ a. lang.pure (d.Insert a)) insert_opening w x h in record { token = o.token; more = o.more; is = o.is; passes = o.passes }

  def_loop : Loops rank 1 0 r.starts_definition (dg.ended_definition (g.nested l))
  unfolding dg.ended_definition
  def_loop = record { opening = opening_then r.starts_definition (dg.definition (g.nested l)) _ def_opening; binds = binds; stops = stops; below = omega arith }
    where
      binds : (kind : Kind) → r.starts_definition kind ≡ true → rank kind ≤ 1
      binds k.Create is = omega arith
      binds k.Insert is = omega arith
      binds _ is = absurd (cc)

      stops : (kind : Kind) → rank kind ≤ 0 → r.starts_definition kind ≡ false
      stops k.Create small = absurd (omega arith)
      stops k.Insert small = absurd (omega arith)
      stops _ small = refl

  defs_f : Finds rank 0 (dg.definitions (g.nested l)) (r.definitions n)
  unfolding dg.definitions r.definitions
  defs_f = all_f 1 0 r.starts_definition def_loop ended_def_f []

  script_line_f : Finds rank 5 (dg.script_line (g.nested l)) (r.script_line n)
  unfolding dg.script_line r.script_line
  script_line_f = named 5 (λ session. seq_f 5 k.Colon (then_f 0 5 (event_f n l) (λ w event h. seq_f 5 k.Semicolon (finds_pure rank 5 (dg.script_line_of session event))) (λ event. follows_opens 0 5 (opens_token (λ kind. rank kind ≤ 0) k.Semicolon (omega arith)))))

  name_opening : (w : Lexemes) (x : List ℕ) → g.name w x → Opening r.starts_script_line g.name w
  name_opening w x h = token_opening r.starts_script_line k.Name _ refl w x h

  script_line_loop : Loops rank 5 0 r.starts_script_line (dg.script_line (g.nested l))
  unfolding dg.script_line
  script_line_loop = record { opening = opening_then r.starts_script_line g.name _ name_opening; binds = binds; stops = stops; below = omega arith }
    where
      binds : (kind : Kind) → r.starts_script_line kind ≡ true → rank kind ≤ 5
      binds k.Name is = omega arith
      binds _ is = absurd (cc)

      stops : (kind : Kind) → rank kind ≤ 0 → r.starts_script_line kind ≡ false
      stops k.Name small = absurd (omega arith)
      stops _ small = refl

  script_f : Finds rank 0 (dg.script (g.nested l)) (r.script n)
  unfolding dg.script r.script
  script_f = all_f 5 0 r.starts_script_line script_line_loop script_line_f []

-- the public calls' readers
pub exact_schemas : Exact dg.schemas r.definitions
exact_schemas = record { sound = λ n. defs_s n (n + 2) (omega arith); finds = λ n l. defs_f n l }

pub exact_scripts : Exact dg.scripts r.script
exact_scripts = record { sound = λ n. script_s n (n + 2) (omega arith); finds = λ n l. script_f n l }
