-- Single conditions.
use Rattle.std.proofs.Common.{◌≡◌, ℕ, Some, Ok, List, [], map, sym, ◌∙◌, append-nil}
use Rattle.table.specs.declared.conds.Cond.{Cond}
use Rattle.assertion.specs.declared.forms.Form.{Form}
use Rattle.assertion.specs.declared.forms.Form.TheVariants.{Single}
use Rattle.assertion.specs.declared.queries.Query.{Query as Subquery}
use Rattle.assertion.specs.declared.queries.Whole.{Whole}
use Rattle.assertion.specs.Meaning.{State, plain_answer, single_truth}
use Rattle.table.specs.Rows.{RowValues, Tables, value_in}
use Rattle.syntax.specs.declared.trees.ColumnName.{ColumnName}
use Rattle.syntax.specs.declared.trees.Condition.{Condition}
use Rattle.form_check.specs.Columns.{no_column, at_place}
use Rattle.form_check.specs.Forms.{single, plain}
use Rattle.meaning.specs.Meaning.{References, column_values, first_value, written_truth}
use Rattle.meaning.proofs.Made.{single_made}
use Rattle.meaning.proofs.Numbering.{leaf_value, condition_faithful, at_place_means}
use Rattle.meaning.proofs.Queries.{plain_leaf, each_gives}

pub no_column_means : (scopes : References) (row : RowValues) (column : ColumnName) (c : ℕ) → no_column column ≡ Some c → first_value (column_values column scopes) ≡ value_in c row
no_column_means scopes row column c e = cc

-- what a single condition becomes, and that it has its truth
pub single_is : (tables : Tables) (condition : Condition) (form : Form) → single tables condition ≡ Ok form
    → (made : Cond) × ((queries : List (Subquery Whole)) × ((Single made queries ≡ form) × ((state : State) → written_truth tables state condition ≡ single_truth state made queries)))
single_is tables condition form e =
    let m = single_made tables condition form e in
    let none : References = [] in
    let row : RowValues = [] in (
      m.made,
      (
        m.queries,
        (
          m.is,
          λ state.
              let slots = map (plain_answer state) m.queries in
              let fits = each_gives (plain tables) (leaf_value tables state none) (plain_answer state) (plain_leaf tables state none) m.leaves m.queries m.are ∙ sym (append-nil (map (leaf_value tables state none) m.leaves)) in
              (condition_faithful tables state none row slots (at_place no_column) (at_place_means tables state none row slots no_column (no_column_means none row)) condition [] m.made m.leaves m.numbers ([], fits)).0,
        ),
      ),
    )
