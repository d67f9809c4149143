-- The image of tables, and what a journal begins with.
use Rattle.std.specs.Prelude.{ℕ, suc, List, [], ◌∷◌, ◌++◌, map, Some, None}
use Rattle.table.specs.declared.rows.Change.{Change}
use Rattle.table.specs.Rows.{Layout, RowValues, key_of, value_in}
use Rattle.assertion.specs.Declarations.{layouts_in}
use Rattle.assertion.specs.Meaning.{State}
use Rattle.delta.specs.Views.{ViewState}
use Rattle.journal.specs.Headers.{header_line}
use Rattle.journal.specs.Spelling.{line, sum}

-- a row is put into a table with this key column
abbrev pub insertion_of : (table key : ℕ) → RowValues → Change
insertion_of table key row = record { table = table; key = value_in key row; old = None; new = Some row }

-- each row of the tables from this place on is put in
abbrev pub image_from : List Layout → (table : ℕ) → State → List Change
image_from layouts table [] = []
image_from layouts table (rows ∷ state) =
    map (insertion_of table (key_of table layouts)) rows ++ image_from layouts (suc table) state

-- the first bytes of a journal of these definitions, in which the commit of this number left these tables: the header,
-- and between two line feeds the image
abbrev pub image_file : (definitions : List ℕ) → (number : ℕ) → ViewState → List ℕ
image_file definitions number view =
    ((header_line (record { first = number; declared = sum definitions }) ++ 10 ∷ [])
    ++ line (record {
      number = number;
      durable = number;
      changes = image_from (layouts_in view.declared) 0 view.state;
    })) ++ 10 ∷ []
