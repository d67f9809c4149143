-- The premises of the replay theorem can be met: every transaction whose COMMIT is accepted alone on a sound start makes a log of
-- one commit, and empty tables without assertions are a sound start.
use Rattle.std.proofs.Common.{◌≡◌, ℕ, zero, suc, false, List, [], ◌∷◌, None, map, length, refl, sym, ap, ◌∙◌, subst, arith, inl, inr}
use Rattle.std.specs.Prelude.{Contains}
use Rattle.value.specs.ValueOrder.{value_cmp}
use Rattle.value.specs.Ordered.{IsAscending}
use Rattle.table.specs.Rows.{Layout, Tables, value_in, layouts_of, key_of}
use Rattle.assertion.specs.Meaning.{State, rows_of}
use Rattle.assertion.specs.Declarations.{Declared}
use Rattle.alone.specs.declared.statements.ResolvedStatement.{ResolvedStatement}
use Rattle.alone.specs.Alone.{transaction, transaction_keys, IsSound}
use Rattle.siread.proofs.Members.{in_cases, not_in_nil}
use Rattle.alone.proofs.KeyLists.{among_from}
use Rattle.alone.specs.declared.records.Record.{Record}
use Rattle.alone.specs.Epoch.{IsEpoch}
use Rattle.alone.proofs.Arranged.{conflict_overlaps}

only : {X : Type 0} (x y : X) → Contains (x ∷ []) y → x ≡ y
only x y m = elim (in_cases x [] y m) [ inl same ↦ same | inr there ↦ absurd (not_in_nil y there) ]

abbrev first_commit : Declared → List ℕ → List ResolvedStatement → State → Record
first_commit declared session trace start = record {
  number = 1;
  snapshot = 0;
  read_only = false;
  session = session;
  trace = trace;
  reads = transaction_keys declared trace start;
  changes = (transaction declared trace start).changes;
}

pub one_commit : (declared : Declared) (start : State) → IsSound declared start → (session : List ℕ) (trace : List ResolvedStatement) → (transaction declared trace start).refused ≡ None
    → IsEpoch declared start (first_commit declared session trace start ∷ [])
one_commit declared start sound session trace accepted = record {
  admitted = sound;
  accepted = (
    record {
      numbered = refl;
      after_snapshot = omega arith;
      no_write_conflict = λ other m w. not_in_nil other m;
      changes_nothing = λ e. cc;
      no_danger = λ x p y mx mp my d. (conflict_overlaps x p d.first).differ (ap (λ (r : Record). r.number) (sym (only (first_commit declared session trace start) x mx) ∙ only (first_commit declared session trace start) p mp));
    },
    tt,
  );
  history = (
    record {
      accepted = accepted;
      changes = refl;
      reads = among_from (transaction_keys declared trace start) (transaction_keys declared trace start) (λ key m. m);
      reads_no_more = among_from (transaction_keys declared trace start) (transaction_keys declared trace start) (λ key m. m);
    },
    tt,
  );
}

-- tables without rows
abbrev pub bare : List Layout → State
bare layouts = map (λ layout. []) layouts

bare_has_none : (layouts : List Layout) (t : ℕ) → rows_of t (bare layouts) ≡ []
bare_has_none [] t = refl
bare_has_none (l ∷ rest) zero = refl
bare_has_none (l ∷ rest) (suc t) = bare_has_none rest t

long : (layouts : List Layout) → length (bare layouts) ≡ length layouts
long [] = refl
long (l ∷ rest) = ap suc (long rest)

pub empty_start : (tables : Tables) → IsSound (record { tables = tables; assertions = [] }) (bare (layouts_of tables))
empty_start tables = record {
  fit = record { long = long (layouts_of tables); ordered = λ t. subst (IsAscending value_cmp (value_in (key_of t (layouts_of tables)))) (sym (bare_has_none (layouts_of tables) t)) tt };
  good = refl;
}
