-- Totals: of the values of one group's rows, and of all groups; and the groups before and after a row goes or comes.
use Rattle.std.specs.Prelude.{◌≡◌, ◌≤◌, ◌<◌, ◌^◌, Bool, true, false, ◌&&◌, ◌||◌, if◌then◌else◌, List, [], ◌∷◌, ◌++◌, length, count_by, All, Option, Some, None}
use Rattle.std.specs.Option.{option_map}
use Rattle.std.specs.Ordering.{eq_by_cmp}
use Rattle.value.specs.declared.values.Value.{Value}
use Rattle.value.specs.ValueOrder.{value_cmp}
use Rattle.value.specs.Ordered as ordered
use Rattle.table.specs.declared.aggregates.Aggregate.{Aggregate}
use Rattle.table.specs.declared.aggregates.Aggregate.TheVariants.{CountRows, Count as CountOf, CountDistinct, Sum, SumDistinct, Min, Max}
use Rattle.table.specs.Aggregates.{is_there, distinct, sum_of}
use Rattle.table.specs.Slots.{magnitude}
use Rattle.groups.specs.declared.members.Member.{Member}
use Rattle.groups.specs.Counts.{Count, value_of, count_at}
use Rattle.groups.specs.Figures.{Figures}

-- how often each value that is not NULL stands in a list
pub record AreCountsOf (vs : List Value) (counts : List Count) : Type 0 where
  pub in_order : ordered.IsAscending value_cmp value_of counts
  pub positive : All (λ (c : Count). 0 < c.count) counts
  pub right : (v : Value) → count_at v counts ≡ count_by (λ w. is_there w && eq_by_cmp value_cmp v w) vs

-- whether a set function gives one of the values, the least or the greatest; the others give a number
abbrev pub is_extreme : Aggregate → Bool
is_extreme CountRows = false
is_extreme (CountOf column) = false
is_extreme (CountDistinct column) = false
is_extreme (Sum column) = false
is_extreme (SumDistinct column) = false
is_extreme (Min column) = true
is_extreme (Max column) = true

-- whether a set function takes each value once
abbrev pub is_distinct : Aggregate → Bool
is_distinct CountRows = false
is_distinct (CountOf column) = false
is_distinct (CountDistinct column) = true
is_distinct (Sum column) = false
is_distinct (SumDistinct column) = true
is_distinct (Min column) = false
is_distinct (Max column) = false

-- the values that a set function takes
abbrev pub taken : Aggregate → List Value → List Value
taken asked vs = if is_distinct asked then distinct vs else vs

-- whether it is kept how often each value stands: where a row goes, numbers and a sum do not tell what is left
abbrev pub keeps_values : Aggregate → Bool
keeps_values asked = is_extreme asked || is_distinct asked

-- the values are counted, each for itself, where they are kept
abbrev pub AreCountsIf : Bool → List Value → List Count → Type 0
AreCountsIf false vs counts = Unit {0}
AreCountsIf true vs counts = AreCountsOf vs counts

-- the total of a list of values, one for each row, for a set function: how many rows; of the values that it takes how
-- many are not NULL and their sum; and, where the values are kept, how often each stands
pub record IsTotalOf (asked : Aggregate) (vs : List Value) (t : Figures) : Type 0 where
  pub rows : t.rows ≡ length vs
  pub there : t.there ≡ count_by is_there (taken asked vs)
  pub sum : t.sum ≡ sum_of (taken asked vs)
  pub values : AreCountsIf (keeps_values asked) vs t.values

-- a group and its total
pub record Entry : Type 0 where
  pub group : Value
  pub total : Figures

-- a group and its total
abbrev pub entry_from : Value × Figures → Entry
entry_from entry = record { group = entry.0; total = entry.1 }

-- the totals of groups, in the order of the groups
abbrev pub Entries : Type 0
Entries = List Entry

-- the group of an entry
abbrev pub group_in : Entry → Value
group_in entry = entry.group

-- the entry of a group, if there is one
abbrev pub entry_at : Value → Entries → Option Entry
entry_at = ordered.at value_cmp group_in

-- the total that stands for a group
abbrev pub total_at : Value → Entries → Option Figures
total_at group entries = option_map (λ (entry : Entry). entry.total) (entry_at group entries)

-- each group by its value, with a value for each of its rows
abbrev pub Members : Type 0
Members = Value → List Value

-- what stands for a group is the total of its rows, and nothing stands for a group without rows
abbrev pub IsEntryOf : Aggregate → List Value → Option Figures → Type 0
IsEntryOf asked vs None = vs ≡ []
IsEntryOf asked vs (Some t) = IsTotalOf asked vs t × (0 < length vs)

-- the entries are the totals of these groups that a set function asks for
pub record AreTotalsOf (asked : Aggregate) (members : Members) (entries : Entries) : Type 0 where
  pub in_order : ordered.IsAscending value_cmp group_in entries
  pub right : (v : Value) → IsEntryOf asked (members v) (total_at v entries)

-- a list has an item once more than another, somewhere
pub record IsOneMore {X : Type 0} (x : X) (fewer more : List X) : Type 0 where
  pub front : List X
  pub back : List X
  pub without : fewer ≡ front ++ back
  pub with_it : more ≡ front ++ x ∷ back

-- a group has one row more, with this value, and the others are as they are
pub record IsOneMoreAt (group x : Value) (fewer more : Members) : Type 0 where
  pub here : IsOneMore x (fewer group) (more group)
  pub elsewhere : (v : Value) → eq_by_cmp value_cmp v group ≡ false → more v ≡ fewer v

-- the groups have one row more, if there is one, and are else the same
abbrev pub HaveOneMore : Option Member → Members → Members → Type 0
HaveOneMore None fewer more = (v : Value) → more v ≡ fewer v
HaveOneMore (Some m) fewer more = IsOneMoreAt m.group m.value fewer more

-- the groups before and after one row goes and then one comes
pub record IsChange (add remove : Option Member) (before after : Members) : Type 0 where
  pub between : Members
  pub gone : HaveOneMore remove between before
  pub come : HaveOneMore add between after

-- no number of the list is larger than a column's
abbrev pub AreSmall : List Value → Type 0
AreSmall vs = All (λ (v : Value). magnitude v ≤ 10 ^ 15) vs

-- the rows of a group are no more than a table can have, and their numbers no larger than a column's
pub record IsWithin (vs : List Value) : Type 0 where
  pub short : length vs < 2 ^ 63
  pub small : AreSmall vs

-- each group is within what a table and its columns can have
abbrev pub AreWithin : Members → Type 0
AreWithin members = (v : Value) → IsWithin (members v)
