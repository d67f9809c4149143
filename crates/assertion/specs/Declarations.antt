-- What is declared before transactions begin. It never changes while they run.
use Rattle.std.specs.Prelude.{List}
use Rattle.table.specs.Rows.{Layout, Tables, layouts_of}
use Rattle.assertion.specs.declared.assertions.Assertion.{Assertion}

-- the tables, and the assertions, both in the order of their creation
pub record Declared : Type 0 where
  pub tables : Tables
  pub assertions : List Assertion

-- what each table that is declared shows of its columns
abbrev pub layouts_in : Declared → List Layout
layouts_in declared = layouts_of declared.tables
