-- What the parts of a view show, and that they agree.
use Rattle.std.specs.Prelude.{map}
use Rattle.std.specs.Arc.{arc_value}
use Rattle.delta.specs.declared.views.Parts.{Parts}
use Rattle.delta.specs.Maintained.{IsMaintained}
use Rattle.delta.specs.Views.{ViewState}

-- what contracts see of them
abbrev pub view_of : Parts → ViewState
view_of p = record {
  declared = record {
    tables = (arc_value p.declarations).catalog;
    assertions = (arc_value p.declarations).assertions.items;
  };
  state = p.tables.items;
}

-- what is maintained is right on the tables, and the schemas are those of the catalog
abbrev pub AreAgreed : Parts → Type 0
AreAgreed p = IsMaintained (arc_value p.declarations).catalog (arc_value p.declarations).schemas.items
    (arc_value p.declarations).assertions.items p.tables.items (map arc_value p.watches.items)
