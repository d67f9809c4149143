use Rattle.std.proofs.Common.{map, length, subst, sym, Global}
use Rattle.std.specs.Arc.{arc_value}
use Rattle.std.specs.declared.sync.Arc.{Arc}
use Rattle.assertion.specs.Meaning.{State}
use Rattle.delta.specs.declared.declarations.Declarations.{Declarations}
use Rattle.delta.specs.Maintained.{AreWatched, IsGood, IsMaintained}
use Rattle.delta.proofs.WatchLemmas.{watched_alike}
use Rattle.delta.proofs.views.View.settle.Goals as goal

pub invariant_of-self : goal.invariant_of-self
invariant_of-self c =
    let old = arc_value c.self.inside.parts in
    let new = arc_value c.settle_parts.new.parts in
    let layouts = (arc_value old.declarations).schemas.items in
    let forms = (arc_value old.declarations).assertions.items in
    let watches = map arc_value old.watches.items in
    subst (λ (d : Arc Declarations Global). IsMaintained (arc_value d).catalog (arc_value d).schemas.items (arc_value d).assertions.items new.tables.items (map arc_value new.watches.items))
    (sym c.settle_parts.ensures.declarations) (record {
      lays = c.self.invariant.lays;
      bounded = c.self.invariant.bounded;
      good = subst (IsGood layouts) (sym c.settle_parts.ensures.tables) c.self.invariant.good;
      watched =
          watched_alike layouts new.tables.items forms (length forms) (map arc_value new.watches.items) watches c.settle_parts.ensures.watches
          (subst (λ (state : State). AreWatched layouts state forms (length forms) watches) (sym c.settle_parts.ensures.tables) c.self.invariant.watched);
    })
