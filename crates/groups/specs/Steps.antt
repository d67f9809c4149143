-- How totals are carried on as one row comes or goes. Numbers stop at the largest of their width.
use Rattle.std.specs.Prelude.{ℕ, Bool, true, ◌==◌, ◌+◌, ◌-◌, ◌^◌, min, ℤ, pos, ◌+ℤ◌, ◌-ℤ◌, List, [], Option, Some, None, if◌then◌else◌, unwrap_or}
use Rattle.std.specs.Int.{w128, saturate_signed}
use Rattle.value.specs.declared.values.Value.{Value}
use Rattle.value.specs.declared.values.Value.TheVariants.{Null, Int, Text}
use Rattle.value.specs.ValueOrder.{value_cmp}
use Rattle.value.specs.Ordered as ordered
use Rattle.table.specs.Aggregates.{number_of}
use Rattle.table.specs.declared.aggregates.Aggregate.{Aggregate}
use Rattle.groups.specs.declared.members.Member.{Member}
use Rattle.groups.specs.Counts.{Count, count_of, one_up, counts_with}
use Rattle.groups.specs.Figures.{Figures}
use Rattle.groups.specs.Totals.{Entry, Entries, group_in, is_distinct, keeps_values, total_at}

-- the total of no rows
abbrev pub no_figures : Figures
no_figures = record { rows = 0; there = 0; sum = pos 0; values = [] }

-- how many values that are not NULL a value is
abbrev pub there_of : Value → ℕ
there_of Null = 0
there_of (Int n) = 1
there_of (Text t) = 1

-- how often a value stands, where the values are kept
abbrev pub stands : Aggregate → Value → List Count → ℕ
stands asked v counts = if keeps_values asked then count_of v counts else 0

-- the counts with a value so often, where the values are kept
abbrev pub values_with : Aggregate → Value → ℕ → List Count → List Count
values_with asked v count counts = if keeps_values asked then counts_with v count counts else counts

-- whether a set function takes a value that so many other rows have: with DISTINCT only where none of them has it
abbrev pub is_taken : Aggregate → ℕ → Bool
is_taken asked others = if is_distinct asked then others == 0 else true

-- by how much the number of values that are not NULL changes with a value, which is taken or not
abbrev pub there_if : Bool → Value → ℕ
there_if taken v = if taken then there_of v else 0

-- by how much the sum changes
abbrev pub number_if : Bool → Value → ℤ
number_if taken v = if taken then number_of v else pos 0

-- the total with one row more, or one less, by its value
abbrev pub one_more : Aggregate → Value → Figures → Figures
one_more asked v t = record {
  rows = one_up t.rows;
  there = min (t.there + there_if (is_taken asked (stands asked v t.values)) v) (2 ^ 64 - 1);
  sum = saturate_signed w128 (t.sum +ℤ number_if (is_taken asked (stands asked v t.values)) v);
  values = values_with asked v (one_up (stands asked v t.values)) t.values;
}

-- the total with one row less, by its value
abbrev pub one_less : Aggregate → Value → Figures → Figures
one_less asked v t = record {
  rows = t.rows - 1;
  there = t.there - there_if (is_taken asked (stands asked v t.values - 1)) v;
  sum = saturate_signed w128 (t.sum -ℤ number_if (is_taken asked (stands asked v t.values - 1)) v);
  values = values_with asked v (stands asked v t.values - 1) t.values;
}

-- the entries with this one for a group, or none
abbrev pub put_entry : Value → Option Entry → Entries → Entries
put_entry = ordered.put value_cmp group_in

-- a group's entry; none where it has no row
abbrev pub total_entry : Value → Figures → Option Entry
total_entry group t = if t.rows == 0 then None else Some (record { group = group; total = t })

-- the total of a group, where none stands for it that of no rows
abbrev pub figures_at : Value → Entries → Figures
figures_at group entries = unwrap_or (total_at group entries) no_figures

-- the entries with one row more, or one less
abbrev pub entries_more : Aggregate → Member → Entries → Entries
entries_more asked m entries =
    put_entry m.group (total_entry m.group (one_more asked m.value (figures_at m.group entries))) entries

-- the entries with one row less
abbrev pub entries_less : Aggregate → Member → Entries → Entries
entries_less asked m entries =
    put_entry m.group (total_entry m.group (one_less asked m.value (figures_at m.group entries))) entries

-- the entries with one value for another in a group
abbrev pub entries_moved : Aggregate → Value → Value → Value → Entries → Entries
entries_moved asked group old new entries =
    put_entry group (total_entry group (one_more asked new (one_less asked old (figures_at group entries)))) entries
