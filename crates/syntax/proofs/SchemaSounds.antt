-- Each reader of definitions and scripts is sound for its part of the grammar.
use Rattle.std.specs.Prelude.{codes}
use Rattle.std.proofs.Common.{◌≡◌, ℕ, suc, ◌+◌, ◌-◌, ◌≤◌, ◌<◌, true, false, List, [], ◌∷◌, length, Option, Some, None, refl, subst, inl, inr, arith, ap, length-append}
use Rattle.token.specs.declared.kinds.Kind.{Kind}
use Rattle.token.specs.declared.kinds.Kind.TheVariants as k
use Rattle.token.specs.Lexer.{number_value}
use Rattle.token.specs.Spellings.{decimal}
use Rattle.value.specs.declared.values.ColType.TheVariants as kind_of
use Rattle.syntax.specs.declared.definitions.Attributes.{Attributes}
use Rattle.syntax.specs.declared.definitions.ColumnConstraint.{ColumnConstraint}
use Rattle.syntax.specs.declared.definitions.ColumnConstraint.TheVariants as on_column
use Rattle.syntax.specs.declared.definitions.Constraint.{Constraint}
use Rattle.syntax.specs.declared.definitions.Constraint.TheVariants.{Unique}
use Rattle.syntax.specs.declared.definitions.TableElement.TheVariants as element
use Rattle.syntax.specs.declared.definitions.Definition.{Definition}
use Rattle.syntax.specs.declared.definitions.Definition.TheVariants as d
use Rattle.syntax.specs.declared.statements.ScriptLine.{ScriptLine}
use Rattle.syntax.specs.Language.{Lexeme, Lexemes, Language, Then, Begins}
use Rattle.syntax.specs.Language as lang
use Rattle.syntax.specs.declared.wants.PartInParentheses.{PartInParentheses}
use Rattle.syntax.specs.Grammar as g
use Rattle.syntax.specs.Readers as q
use Rattle.syntax.specs.StatementGrammar as st
use Rattle.syntax.specs.SchemaGrammar as dg
use Rattle.syntax.specs.SchemaReaders as r
use Rattle.syntax.specs.Reading as rd
use Rattle.syntax.specs.Reading.{Reader, list, expect_where}
use Rattle.syntax.proofs.WordLaws.{Sound, sound_pure, sound_refuse, sound_by_kind, sound_where}
use Rattle.syntax.proofs.Loops.{sound_parens}
use Rattle.syntax.proofs.Short.{then_s, map_s, tok_s, seq_s, weak, all_s, token_some, token_either}
use Rattle.syntax.proofs.Parts.{optional_s, list_s, some_list}
use Rattle.syntax.proofs.Sounds.{name_s, cond_at_s}
use Rattle.syntax.proofs.StatementSounds.{insert_s, when_s, event_s}

some_width : Begins (lang.token_where k.Number dg.is_width) []
unfolding g.digits_value number_value decimal
some_width = let x : Lexeme = record { kind = k.Number; spelling = 49 ∷ []; at = 0 } in (x ∷ [], x, (refl, refl, refl))

width_s : (n : ℕ) → Sound n n (lang.token_where k.Number dg.is_width) (expect_where k.Number dg.is_width)
width_s n = sound_where n n k.Number dg.is_width refl some_width

varchar_s : (n : ℕ) → Sound n n (lang.◌<$>◌ dg.varchar_of (lang.token_where k.Number dg.is_width)) (rd.◌<$>◌ dg.varchar_of (expect_where k.Number dg.is_width))
varchar_s n = map_s dg.varchar_of (width_s n)

integer_s : (n : ℕ) → Sound n n dg.column_type (r.type_by n k.Integer)
unfolding dg.column_type
integer_s n = weak (λ w a h. inl (inl h)) (seq_s k.Integer refl (sound_pure n kind_of.Integer))

type_by_s : (n : ℕ) (kind : Kind) → Sound n n dg.column_type (r.type_by n kind)
unfolding dg.column_type
type_by_s n k.Integer = integer_s n
type_by_s n k.Int = weak (λ w a h. inl (inr h)) (seq_s k.Int refl (sound_pure n kind_of.Integer))
type_by_s n k.Varchar = weak (λ w a h. inr h) (seq_s k.Varchar refl (sound_parens n (lang.◌<$>◌ dg.varchar_of (lang.token_where k.Number dg.is_width)) (rd.◌<$>◌ dg.varchar_of (expect_where k.Number dg.is_width)) (varchar_s 0).begins (λ m is. varchar_s m)))
type_by_s n _ = sound_refuse n n dg.column_type (integer_s n).begins

type_s : (n : ℕ) → Sound n n dg.column_type (r.column_type n)
unfolding r.column_type
type_s n = sound_by_kind n n dg.column_type (r.type_by n) (type_by_s n)

not_null_s : (n : ℕ) → Sound n n dg.not_null r.not_null
not_null_s n = seq_s k.Not refl (tok_s k.Null refl)

primary_key_s : (n : ℕ) → Sound n n dg.primary_key r.primary_key
primary_key_s n = seq_s k.Primary refl (tok_s k.Key refl)

initially_s : (n : ℕ) → Sound n n dg.initially r.initially
unfolding dg.initially r.initially
initially_s n = seq_s k.Initially refl (when_s n)

plain_deferrable : (n : ℕ) → Sound n n dg.deferrable (r.deferrable_by k.Deferrable)
unfolding dg.deferrable
plain_deferrable n = weak (λ w a h. inl h) (seq_s k.Deferrable refl (sound_pure n true))

deferrable_by_s : (n : ℕ) (kind : Kind) → Sound n n dg.deferrable (r.deferrable_by kind)
unfolding dg.deferrable
deferrable_by_s n k.Deferrable = plain_deferrable n
deferrable_by_s n k.Not = weak (λ w a h. inr h) (seq_s k.Not refl (seq_s k.Deferrable refl (sound_pure n false)))
deferrable_by_s n _ = sound_refuse n n dg.deferrable (plain_deferrable n).begins

deferrable_s : (n : ℕ) → Sound n n dg.deferrable r.deferrable
unfolding r.deferrable
deferrable_s n = sound_by_kind n n dg.deferrable r.deferrable_by (deferrable_by_s n)

may_defer_by_s : (n : ℕ) (kind : Kind) → Sound n n (lang.optional dg.deferrable) (r.may_defer_by kind)
may_defer_by_s n k.Deferrable = weak (λ w a h. inr h) (map_s Some (deferrable_s n))
may_defer_by_s n k.Not = weak (λ w a h. inr h) (map_s Some (deferrable_s n))
may_defer_by_s n _ = weak (λ w a h. inl h) (sound_pure n None)

may_defer_s : (n : ℕ) → Sound n n (lang.optional dg.deferrable) r.may_defer
unfolding r.may_defer
may_defer_s n = sound_by_kind n n (lang.optional dg.deferrable) r.may_defer_by (may_defer_by_s n)

no_attrs : (n : ℕ) → Sound n n dg.attributes (r.attributes_by k.End)
unfolding dg.attributes
no_attrs n = weak (λ w a h. inl (inl h)) (sound_pure n (dg.attributes_of None None))

deferrable_first_s : (n : ℕ) → Sound n n dg.attributes r.deferrable_first
unfolding dg.attributes r.deferrable_first
deferrable_first_s n = weak (λ w a h. inr h) (then_s (deferrable_s n) (λ w may h. map_s (λ mode. dg.attributes_of mode (Some may)) (optional_s k.Initially (initially_s n))))

attrs_by_s : (n : ℕ) (kind : Kind) → Sound n n dg.attributes (r.attributes_by kind)
unfolding dg.attributes r.initially_first
attrs_by_s n k.Initially = weak (λ w a h. inl (inr h)) (then_s (initially_s n) (λ w mode h. map_s (dg.attributes_of (Some mode)) (may_defer_s n)))
attrs_by_s n k.Deferrable = deferrable_first_s n
attrs_by_s n k.Not = deferrable_first_s n
attrs_by_s n _ = no_attrs n

attrs_s : (n : ℕ) → Sound n n dg.attributes r.attributes
unfolding r.attributes
attrs_s n = sound_by_kind n n dg.attributes r.attributes_by (attrs_by_s n)

-- REFERENCES behind a column, UNIQUE and FOREIGN KEY on a line of their own
abbrev pub references_in : List ℕ → Language Constraint
references_in column = Then (lang.token k.References) (λ _. lang.◌>>=◌ g.name (λ other. lang.◌<$>◌ (dg.foreign_key (column ∷ []) other) (lang.optional (lang.◌<$>◌ (λ x. x ∷ []) (lang.parens g.name)))))

abbrev pub unique_in : Language Constraint
unique_in = Then (lang.token k.Unique) (λ _. lang.◌<$>◌ Unique dg.names)

abbrev pub foreign_in : Language Constraint
foreign_in = Then (lang.token k.Foreign) (λ _. lang.◌>>◌ (lang.token k.Key) (lang.◌>>=◌ dg.names (λ columns. lang.◌>>◌ (lang.token k.References) (lang.◌>>=◌ g.name (λ other. lang.◌<$>◌ (dg.foreign_key columns other) (lang.optional dg.names))))))

column_initially_first_s : (n : ℕ) → Sound n n dg.column_attributes r.column_initially_first
unfolding dg.column_attributes r.column_initially_first
column_initially_first_s n = weak (λ w a h. inl (inr h)) (then_s (initially_s n) (λ w mode h. map_s (dg.attributes_of (Some mode)) (optional_s k.Deferrable (seq_s k.Deferrable refl (sound_pure n true)))))

column_deferrable_first_s : (n : ℕ) → Sound n n dg.column_attributes r.column_deferrable_first
unfolding dg.column_attributes r.column_deferrable_first
column_deferrable_first_s n = weak (λ w a h. inr h) (seq_s k.Deferrable refl (map_s (λ mode. dg.attributes_of mode (Some true)) (optional_s k.Initially (initially_s n))))

column_attrs_by_s : (n : ℕ) (kind : Kind) → Sound n n dg.column_attributes (r.column_attributes_by kind)
unfolding dg.column_attributes
column_attrs_by_s n k.Initially = column_initially_first_s n
column_attrs_by_s n k.Deferrable = column_deferrable_first_s n
column_attrs_by_s n _ = weak (λ w a h. inl (inl h)) (sound_pure n (dg.attributes_of None None))

column_attrs_s : (n : ℕ) → Sound n n dg.column_attributes r.column_attributes
unfolding r.column_attributes
column_attrs_s n = sound_by_kind n n dg.column_attributes r.column_attributes_by (column_attrs_by_s n)

names_s : (n : ℕ) → Sound n n dg.names (r.names n)
unfolding r.names
names_s n = sound_parens n (lang.list g.name) (list q.name) (some_list g.name (name_s 0).begins) (λ m is. list_s (name_s m))

constraint_name_s : (n : ℕ) → Sound n n (lang.optional (lang.◌>>◌ (lang.token k.Constraint) g.name)) r.constraint_name
unfolding r.constraint_name
constraint_name_s n = optional_s k.Constraint (seq_s k.Constraint refl (name_s n))

-- a constraint with its name and its attributes
constrained_s : {n : ℕ} {L : Language Constraint} {A : Language Attributes} {p : Reader Constraint} {q : Reader Attributes} → Sound n n L p → Sound n n A q → Sound n n (dg.constrained L A) (r.constrained p q)
constrained_s {n = n} rule attributes = then_s (constraint_name_s n) (λ w name h. then_s rule (λ w c h. map_s (dg.constraint_of name c) attributes))

references_s : (n : ℕ) (column : List ℕ) → Sound n n (references_in column) (r.references n column)
unfolding r.references
references_s n column = seq_s k.References refl (then_s (name_s n) (λ w other h. map_s (dg.foreign_key (column ∷ []) other) (optional_s k.Open (map_s (λ x. x ∷ []) (sound_parens n g.name q.name (name_s 0).begins (λ m is. name_s m))))))

unique_s : (n : ℕ) → Sound n n unique_in (r.unique n)
unfolding r.unique
unique_s n = seq_s k.Unique refl (map_s Unique (names_s n))

foreign_s : (n : ℕ) → Sound n n foreign_in (r.foreign n)
unfolding r.foreign
foreign_s n = seq_s k.Foreign refl (seq_s k.Key refl (then_s (names_s n) (λ w columns h. seq_s k.References refl (then_s (name_s n) (λ w other h. map_s (dg.foreign_key columns other) (optional_s k.Open (names_s n)))))))

-- a text is not empty where its first part is not, or its second
first_some : {A B : Type 0} (K : Language A) (M : A → Language B) → ((w : Lexemes) (a : A) → K w a → 1 ≤ length w) → (w : Lexemes) (b : B) → Then K M w b → 1 ≤ length w
first_some K M some w b h =
    let s = h.split in
    let front = some s.front h.tree s.first in
    let e = ap length s.cut in
    omega (arith, e, length-append s.front s.back)

later_some : {A B : Type 0} (K : Language A) (M : A → Language B) → ((a : A) (w : Lexemes) (b : B) → M a w b → 1 ≤ length w) → (w : Lexemes) (b : B) → Then K M w b → 1 ≤ length w
later_some K M some w b h =
    let s = h.split in
    let back = some h.tree s.back b s.second in
    let e = ap length s.cut in
    omega (arith, e, length-append s.front s.back)

abbrev pub table_in : Language PartInParentheses → Language Definition
table_in inner = Then (lang.token k.Table) (λ _. lang.◌>>=◌ g.name (λ name. lang.◌<$>◌ (dg.table_of name) (lang.parens (lang.list (dg.table_element inner name)))))

abbrev pub assertion_in : Language PartInParentheses → Language Definition
assertion_in inner = Then (lang.token k.Assertion) (λ _. lang.◌>>=◌ g.name (λ name. lang.◌>>◌ (lang.token k.Check) (lang.◌>>=◌ (lang.parens (g.inner_cond inner)) (λ c. lang.◌<$>◌ (d.Assertion name c) dg.attributes))))

abbrev pub index_in : Language Definition
index_in = Then (lang.token_where k.Name dg.is_index) (λ _. lang.◌>>=◌ g.name (λ index. lang.◌>>◌ (lang.token k.On) (lang.◌>>=◌ g.name (λ table. lang.◌<$>◌ (d.Index index table) (lang.parens g.name)))))

-- INDEX itself
some_index : Begins (lang.token_where k.Name dg.is_index) []
unfolding g.name_of
some_index = let x : Lexeme = record { kind = k.Name; spelling = codes "INDEX"; at = 0 } in (x ∷ [], x, (refl, refl, refl))

index_s : (n : ℕ) → Sound n n index_in (r.index n)
unfolding r.index
index_s n = then_s (sound_where n n k.Name dg.is_index refl some_index) (λ w x h. then_s (name_s n) (λ w index h. seq_s k.On refl (then_s (name_s n) (λ w table h. map_s (d.Index index table) (sound_parens n g.name q.name (name_s 0).begins (λ m is. name_s m))))))

module _ (n l : ℕ) (below : n + 1 < l) where
  cond_inside : (m : ℕ) → n ≡ suc m → Sound m m (g.conditions l) (q.cond_at (n - 1))
  cond_inside m is = let less : m ≡ n - 1 = omega arith in subst (λ i. Sound m m (g.conditions l) (q.cond_at i)) less (cond_at_s m l (omega arith))

  some_c : Begins (g.conditions l) []
  some_c = (cond_at_s n l below).begins

  check_s : (table : List ℕ) (column : Option (List ℕ)) → Sound n n (dg.check (g.nested l) table column) (r.check n table column)
  unfolding dg.check r.check
  check_s table column = seq_s k.Check refl (map_s (dg.check_of table column) (sound_parens n (g.conditions l) (q.cond_at (n - 1)) some_c cond_inside))

  column_rule_by_s : (table column : List ℕ) (kind : Kind) → Sound n n (dg.column_rule (g.nested l) table column) (r.column_rule_by n table column kind)
  unfolding dg.column_rule
  column_rule_by_s table column k.Unique = weak (λ w a h. inl (inl h)) (seq_s k.Unique refl (sound_pure n (Unique (column ∷ []))))
  column_rule_by_s table column k.Check = weak (λ w a h. inl (inr h)) (check_s table (Some column))
  column_rule_by_s table column _ = weak (λ w a h. inr h) (references_s n column)

  column_rule_s : (table column : List ℕ) → Sound n n (dg.column_rule (g.nested l) table column) (r.column_rule n table column)
  unfolding r.column_rule
  column_rule_s table column = sound_by_kind n n (dg.column_rule (g.nested l) table column) (r.column_rule_by n table column) (column_rule_by_s table column)

  column_constraint_by_s : (table column : List ℕ) (kind : Kind) → Sound n n (dg.column_constraint (g.nested l) table column) (r.column_constraint_by n table column kind)
  unfolding dg.column_constraint
  column_constraint_by_s table column k.Not = weak (λ w a h. inl (inl h)) (then_s (not_null_s n) (λ w x h. sound_pure n on_column.NotNull))
  column_constraint_by_s table column k.Primary = weak (λ w a h. inl (inr h)) (then_s (primary_key_s n) (λ w x h. sound_pure n on_column.PrimaryKey))
  column_constraint_by_s table column _ = weak (λ w a h. inr h) (map_s on_column.Constraint (constrained_s (column_rule_s table column) (column_attrs_s n)))

  column_constraint_s : (table column : List ℕ) → Sound n n (dg.column_constraint (g.nested l) table column) (r.column_constraint n table column)
  unfolding r.column_constraint
  column_constraint_s table column = sound_by_kind n n (dg.column_constraint (g.nested l) table column) (r.column_constraint_by n table column) (column_constraint_by_s table column)

  column_rule_some : (table column : List ℕ) (w : Lexemes) (x : Constraint) → dg.column_rule (g.nested l) table column w x → 1 ≤ length w
  unfolding dg.column_rule dg.check
  column_rule_some table column w x (inl (inl h)) = token_some k.Unique (λ _. lang.pure (Unique (column ∷ []))) w x h
  column_rule_some table column w x (inl (inr h)) = token_some k.Check (λ _. lang.◌<$>◌ (dg.check_of table (Some column)) (lang.parens (g.conditions l))) w x h
  column_rule_some table column w x (inr h) = token_some k.References (λ _. lang.◌>>=◌ g.name (λ other. lang.◌<$>◌ (dg.foreign_key (column ∷ []) other) (lang.optional (lang.◌<$>◌ (λ x. x ∷ []) (lang.parens g.name))))) w x h

  column_constraint_some : (table column : List ℕ) (w : Lexemes) (x : ColumnConstraint) → dg.column_constraint (g.nested l) table column w x → 1 ≤ length w
  unfolding dg.column_constraint
  column_constraint_some table column w x (inl (inl h)) = first_some dg.not_null (λ _. lang.pure on_column.NotNull) (λ v a t. token_some k.Not (λ _. lang.token k.Null) v a t) w x h
  column_constraint_some table column w x (inl (inr h)) = first_some dg.primary_key (λ _. lang.pure on_column.PrimaryKey) (λ v a t. token_some k.Primary (λ _. lang.token k.Key) v a t) w x h
  column_constraint_some table column w x (inr h) =
      first_some (dg.constrained (dg.column_rule (g.nested l) table column) dg.column_attributes) (λ c. lang.pure (on_column.Constraint c))
      (later_some (lang.optional (lang.◌>>◌ (lang.token k.Constraint) g.name)) (λ name. lang.◌>>=◌ (dg.column_rule (g.nested l) table column) (λ c. lang.◌<$>◌ (dg.constraint_of name c) dg.column_attributes))
      (λ name v b t. first_some (dg.column_rule (g.nested l) table column) (λ c. lang.◌<$>◌ (dg.constraint_of name c) dg.column_attributes) (column_rule_some table column) v b t)) w x h

  column_s : (table : List ℕ) → Sound n n (dg.column (g.nested l) table) (r.column n table)
  unfolding dg.column r.column
  column_s table = then_s (name_s n) (λ w name h. then_s (type_s n) (λ w kind h. map_s (element.Column name kind) (all_s r.starts_column_constraint (column_constraint_s table name) (column_constraint_some table name) refl [])))

  table_rule_by_s : (table : List ℕ) (kind : Kind) → Sound n n (dg.table_rule (g.nested l) table) (r.table_rule_by n table kind)
  unfolding dg.table_rule
  table_rule_by_s table k.Unique = weak (λ w a h. inl (inl h)) (unique_s n)
  table_rule_by_s table k.Check = weak (λ w a h. inl (inr h)) (check_s table None)
  table_rule_by_s table _ = weak (λ w a h. inr h) (foreign_s n)

  table_rule_s : (table : List ℕ) → Sound n n (dg.table_rule (g.nested l) table) (r.table_rule n table)
  unfolding r.table_rule
  table_rule_s table = sound_by_kind n n (dg.table_rule (g.nested l) table) (r.table_rule_by n table) (table_rule_by_s table)

  table_element_by_s : (table : List ℕ) (kind : Kind) → Sound n n (dg.table_element (g.nested l) table) (r.table_element_by n table kind)
  unfolding dg.table_element
  table_element_by_s table k.Name = weak (λ w a h. inl (inl h)) (column_s table)
  table_element_by_s table k.Primary = weak (λ w a h. inl (inr h)) (then_s (primary_key_s n) (λ w x h. map_s element.PrimaryKey (names_s n)))
  table_element_by_s table _ = weak (λ w a h. inr h) (map_s element.Constraint (constrained_s (table_rule_s table) (attrs_s n)))

  table_element_s : (table : List ℕ) → Sound n n (dg.table_element (g.nested l) table) (r.table_element n table)
  unfolding r.table_element
  table_element_s table = sound_by_kind n n (dg.table_element (g.nested l) table) (r.table_element_by n table) (table_element_by_s table)

element_inside : (n l : ℕ) → n + 1 < l → (table : List ℕ) (m : ℕ) → n ≡ suc m → Sound m m (dg.table_element (g.nested l) table) (r.table_element (n - 1) table)
element_inside n l below table m is = let less : m ≡ n - 1 = omega arith in subst (λ i. Sound m m (dg.table_element (g.nested l) table) (r.table_element i table)) less (table_element_s m l (omega arith) table)

module _ (n l : ℕ) (below : n + 1 < l) where
  table_s : Sound n n (table_in (g.nested l)) (r.table n)
  unfolding r.table
  table_s = seq_s k.Table refl (then_s (name_s n) (λ w name h. map_s (dg.table_of name) (sound_parens n (lang.list (dg.table_element (g.nested l) name)) (list (r.table_element (n - 1) name)) (some_list (dg.table_element (g.nested l) name) (table_element_s n l below name).begins) (element_inside_list name))))
    where
      element_inside_list : (name : List ℕ) (m : ℕ) → n ≡ suc m → Sound m m (lang.list (dg.table_element (g.nested l) name)) (list (r.table_element (n - 1) name))
      element_inside_list name m is = list_s (element_inside n l below name m is)

  assertion_s : Sound n n (assertion_in (g.nested l)) (r.assertion n)
  unfolding r.assertion
  assertion_s = seq_s k.Assertion refl (then_s (name_s n) (λ w name h. seq_s k.Check refl (then_s (sound_parens n (g.conditions l) (q.cond_at (n - 1)) (some_c n l below) (cond_inside n l below)) (λ w c h. map_s (d.Assertion name c) (attrs_s n)))))

  abbrev created_in : Language Definition
  created_in = lang.◌∪◌ (lang.◌∪◌ (table_in (g.nested l)) (assertion_in (g.nested l))) index_in

  created_by_s : (kind : Kind) → Sound n n created_in (r.created_by n kind)
  created_by_s k.Table = weak (λ w a h. inl (inl h)) table_s
  created_by_s k.Assertion = weak (λ w a h. inl (inr h)) assertion_s
  created_by_s k.Name = weak (λ w a h. inr h) (index_s n)
  created_by_s _ = sound_refuse n n created_in (weak {L = created_in} (λ w a h. inl (inl h)) table_s).begins

  create_into : (w : Lexemes) (x : Definition) → Then (lang.token k.Create) (λ _. created_in) w x → dg.definition (g.nested l) w x
  unfolding dg.definition dg.table dg.assertion dg.index
  create_into =
      token_either k.Create (lang.◌∪◌ (table_in (g.nested l)) (assertion_in (g.nested l))) index_in (dg.definition (g.nested l))
      (token_either k.Create (table_in (g.nested l)) (assertion_in (g.nested l)) (dg.definition (g.nested l)) (λ w x h. inl (inl (inl h))) (λ w x h. inl (inl (inr h))))
      (λ w x h. inl (inr h))

  insertion_s : Sound n n (dg.definition (g.nested l)) (r.definition_by n k.Insert)
  unfolding dg.definition
  insertion_s = weak (λ w a h. inr h) (map_s d.Insert (insert_s n))

  def_by_s : (kind : Kind) → Sound n n (dg.definition (g.nested l)) (r.definition_by n kind)
  unfolding r.created
  def_by_s k.Create = weak create_into (seq_s k.Create refl (sound_by_kind n n created_in (r.created_by n) created_by_s))
  def_by_s _ = insertion_s

  ended_def_s : Sound n n (dg.ended_definition (g.nested l)) (r.ended_definition n)
  unfolding dg.ended_definition r.ended_definition r.definition
  ended_def_s = then_s (sound_by_kind n n (dg.definition (g.nested l)) (r.definition_by n) def_by_s) (λ w x h. seq_s k.Semicolon refl (sound_pure n x))

  second_some : {A B : Type 0} (K : Language A) (kind : Kind) (M : A → Language B) (w : Lexemes) (b : B) → Then K (λ a. Then (lang.token kind) (λ _. M a)) w b → 1 ≤ length w
  second_some K kind M w b h =
      let s = h.split in
      let some = token_some kind (λ _. M h.tree) s.back b s.second in
      let e = ap length s.cut in
      omega (arith, e, length-append s.front s.back)

  def_some : (w : Lexemes) (x : Definition) → dg.ended_definition (g.nested l) w x → 1 ≤ length w
  unfolding dg.ended_definition
  def_some w x h = second_some (dg.definition (g.nested l)) k.Semicolon (λ y. lang.pure y) w x h

  pub defs_s : Sound n n (dg.definitions (g.nested l)) (r.definitions n)
  unfolding dg.definitions r.definitions
  defs_s = all_s r.starts_definition ended_def_s def_some refl []

  script_line_s : Sound n n (dg.script_line (g.nested l)) (r.script_line n)
  unfolding dg.script_line r.script_line
  script_line_s = then_s (name_s n) (λ w session h. seq_s k.Colon refl (then_s (event_s n l below) (λ w event h. seq_s k.Semicolon refl (sound_pure n (dg.script_line_of session event)))))

  script_line_some : (w : Lexemes) (x : ScriptLine) → dg.script_line (g.nested l) w x → 1 ≤ length w
  unfolding dg.script_line
  script_line_some w x h = second_some g.name k.Colon (λ session. lang.◌>>=◌ (st.one_event (g.nested l)) (λ event. lang.◌>>◌ (lang.token k.Semicolon) (lang.pure (dg.script_line_of session event)))) w x h

  pub script_s : Sound n n (dg.script (g.nested l)) (r.script n)
  unfolding dg.script r.script
  script_s = all_s r.starts_script_line script_line_s script_line_some refl []
