-- What is noted of the rows in which two states differ.
use Rattle.std.specs.Prelude.{◌≡◌, ◌⊎◌, IsSome, List, [], ◌∷◌, Option, Some, None, Contains, map, unwrap_or, if◌then◌else◌}
use Rattle.std.specs.BTreeMap.{is_at}
use Rattle.std.specs.Map.{lookup}
use Rattle.table.specs.declared.rows.Change.{Change}
use Rattle.table.specs.Rows.{Layout, RowValues}
use Rattle.assertion.specs.Meaning.{State}
use Rattle.siread.specs.declared.keys.Place.{Place}
use Rattle.siread.specs.contracts.keys.PlaceOrd.TheImpl.{cmp-value as place_order}
use Rattle.siread.specs.Keys.{place_of, same_place}
use Rattle.alone.specs.States.{row_in, is_real, change_between}
use Rattle.changes.specs.declared.touched.RowsThere.{RowsThere}

-- changes between two states: each has what they hold at its place, and at any other place they hold the same
pub record AreChangesBetween (layouts : List Layout) (before after : State) (changes : List Change) : Type 0 where
  pub exact : (change : Change) → Contains changes change
      → change ≡ change_between layouts before after (place_of change)
  pub elsewhere : (place : Place)
      → (row_in layouts before place ≡ row_in layouts after place) ⊎ Contains (map place_of changes) place

-- for some places the rows there, where any are noted
abbrev pub Noted : Type 0
Noted = List (Place × Option RowsThere)

-- what stands under a place
abbrev pub entry_at : Noted → Place → Option (Option RowsThere)
entry_at noted place = lookup (is_at (place_order.it place)) noted

-- what is noted of a place
abbrev pub noted_at : Noted → Place → Option RowsThere
noted_at noted place = unwrap_or (entry_at noted place) None

-- what is noted of a place is what two states hold there; where nothing is, they hold the same
abbrev pub IsNoted : Option RowsThere → Option RowValues → Option RowValues → Type 0
IsNoted None old new = old ≡ new
IsNoted (Some rows) old new = (rows.old ≡ old) × (rows.new ≡ new)

-- so it is of each place
pub record AreNoted (layouts : List Layout) (before after : State) (noted : Noted) : Type 0 where
  pub each : (place : Place) → IsNoted (noted_at noted place) (row_in layouts before place) (row_in layouts after place)

-- there is room for the rows of a place
abbrev pub HasPlace : Noted → Place → Type 0
HasPlace noted place = IsSome (entry_at noted place)

-- there is room for changes
abbrev pub HasPlaces : Noted → List Change → Type 0
HasPlaces noted changes = (place : Place) → Contains (map place_of changes) place → HasPlace noted place

-- the rows after one change more: what was there first stays
abbrev pub rows_after : Option RowValues → Option RowValues → Option RowsThere → RowsThere
rows_after old new None = record { old = old; new = new }
rows_after old new (Some rows) = record rows { new = new }

-- what is noted of a place after a change, of this place or another
abbrev pub noted_after : Change → Place → Option RowsThere → Option RowsThere
noted_after change place rows =
    if same_place (place_of change) place then Some (rows_after change.old change.new rows) else rows

-- what is noted of a place as a change, if it is one
abbrev pub change_noted : Place × Option RowsThere → List Change
change_noted (place, None) = []
change_noted (place, Some rows) =
    if is_real (record { table = place.table; key = place.key; old = rows.old; new = rows.new })
    then record { table = place.table; key = place.key; old = rows.old; new = rows.new } ∷ [] else []
