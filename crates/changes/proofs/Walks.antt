-- A walk through rows of each of which something is made.
use Rattle.std.proofs.Common.{◌≡◌, false, cond, List, [], ◌∷◌, ◌++◌, Option, map, sym, ◌∙◌, ap, subst, append_assoc, append-nil}
use Rattle.std.specs.Prelude.{All}
use Rattle.std.proofs.lemmas.List.Elements.{All-nil, All-cons, All-head, All-tail, All-append}
use Rattle.std.specs.Option.{option_or}
use Rattle.value.specs.declared.refusals.Refusal.{Refusal}
use Rattle.table.specs.declared.schemas.Column.{Column}
use Rattle.table.specs.Rows.{RowValues}
use Rattle.table.specs.declared.conds.Cond.{Cond}
use Rattle.table.specs.Eval.{keeps}
use Rattle.assertion.specs.Meaning.{filtered_rows}
use Rattle.assertcheck.specs.declared.updates.Setting.{Setting}
use Rattle.alone.specs.Statements.{settings_fault, update_fault}

-- a row that isn't restriction is none of those that are left
pub not_filtered : (restriction : Cond) (row : RowValues) (rest : List RowValues) → keeps row [] restriction ≡ false → filtered_rows restriction (row ∷ rest) ≡ filtered_rows restriction rest
not_filtered restriction row rest h = ap (λ b. cond b (row ∷ filtered_rows restriction rest) (filtered_rows restriction rest)) h

-- what was made so far of rows, and what is still to be made of those that are left, is what is to be made of all
abbrev pub IsMade : {X : Type 0} → (RowValues → X) → List RowValues → List X → List RowValues → Type 0
IsMade make all made left = made ++ map make left ≡ map make all

pub made_more : {X : Type 0} (make : RowValues → X) (all : List RowValues) (made : List X) (left : List RowValues) (row : RowValues) (rest : List RowValues) → left ≡ row ∷ rest → IsMade make all made left
    → (x : X) (more : List X) → more ≡ made ++ x ∷ [] → x ≡ make row → IsMade make all more rest
made_more {X = X} make all made left row rest step is x more m e =
    ap (λ (xs : List X). xs ++ map make rest) (m ∙ ap (λ (y : X). made ++ y ∷ []) e)
    ∙ append_assoc made (make row ∷ []) (map make rest)
    ∙ sym (ap (λ (rows : List RowValues). made ++ map make rows) step)
    ∙ is

-- when no row is left, all is made
pub all_done : {X : Type 0} (make : RowValues → X) (all : List RowValues) (made : List X) (left : List RowValues) → left ≡ [] → IsMade make all made left → made ≡ map make all
all_done make all made left e is = sym (append-nil made) ∙ sym (ap (λ (rows : List RowValues). made ++ map make rows) e) ∙ is

-- what holds of all rows that are left holds of the next and of the others
pub next_has : (P : RowValues → Type 0) (left : List RowValues) (row : RowValues) (rest : List RowValues) → left ≡ row ∷ rest → All P left → P row
next_has P left row rest e h = All-head P row rest (subst (λ (rows : List RowValues). All P rows) e h)

pub rest_has : (P : RowValues → Type 0) (left : List RowValues) (row : RowValues) (rest : List RowValues) → left ≡ row ∷ rest → All P left → All P rest
rest_has P left row rest e h = All-tail P row rest (subst (λ (rows : List RowValues). All P rows) e h)

-- one more item that has the property
pub all_more : {X : Type 0} (P : X → Type 0) (xs more : List X) (x : X) → more ≡ xs ++ x ∷ [] → All P xs → P x → All P more
all_more P xs more x e h one = subst (All P) (sym e) (All-append P xs (x ∷ []) h (All-cons P x [] one (All-nil P)))

-- what is made of rows has a property that each such item has
pub all_made : {X : Type 0} (P : X → Type 0) (make : RowValues → X) → ((row : RowValues) → P (make row)) → (rows : List RowValues) → All P (map make rows)
all_made P make h [] = All-nil P
all_made P make h (row ∷ rows) = All-cons P (make row) (map make rows) (h row) (all_made P make h rows)

-- the first fault of an UPDATE, by what is left
pub fault_left : (columns : List Column) (sets : List Setting) (left : List RowValues) (row : RowValues) (rest : List RowValues) → left ≡ row ∷ rest
    → (o : Option Refusal) → settings_fault columns sets row ≡ o → update_fault columns sets left ≡ option_or o (update_fault columns sets rest)
fault_left columns sets left row rest step o e =
    ap (λ (rows : List RowValues). update_fault columns sets rows) step
    ∙ ap (λ f. option_or f (update_fault columns sets rest)) e
