use Rattle.std.proofs.Common.{map}
use Rattle.std.specs.Arc.{arc_value}
use Rattle.std.proofs.lemmas.List.Elements.{All-push}
use Rattle.assertion.specs.Bounded.{IsBounded}
use Rattle.assertion.specs.declared.assertions.Assertion.{Assertion}
use Rattle.delta.specs.Maintained.{IsWatched}
use Rattle.delta.proofs.Declaring.{watched_more}
use Rattle.delta.proofs.WatchLemmas.{shared_more}
use Rattle.delta.proofs.views.View.with_assertion.Goals as goal

pub redeclare-requires-clause-bounded : goal.redeclare-requires-clause-bounded
redeclare-requires-clause-bounded c =
    rw (c.in_ok-push-2.ensures.items, c.in_ok-assertions.ensures, c.deref-8.ensures.value, c.deref-7.ensures, c.deref-parts.ensures)
    (All-push (λ (a : Assertion). IsBounded a.form) _ c.args.assertion c.self.invariant.bounded c.requires.bounded)

pub redeclare-requires-clause-watched : goal.redeclare-requires-clause-watched
redeclare-requires-clause-watched c =
    let new : IsWatched _ _ c.args.assertion.form (arc_value c.in_ok-new.field-0) = rw c.in_ok-new.ensures.ok (rw (c.deref-4.ensures.value, c.deref.ensures, c.deref-5.ensures.value, c.in_ok-tables.ensures.equal, c.deref-3.ensures.value) at c.in_ok-watch.ensures) in
    let old = rw (← c.deref-parts.ensures, ← c.deref-6.ensures.value, ← c.in_ok-watches.ensures) at c.self.invariant.watched in
    rw (← c.self.view_is, ← c.self.invariant.lays, ← c.deref-parts.ensures, c.in_ok-push-2.ensures.items, c.in_ok-assertions.ensures, c.deref-8.ensures.value, c.deref-7.ensures)
    (watched_more _ _ _ c.args.assertion (map arc_value c.in_ok-watches.watches.items) (map arc_value c.push.new.self.items) (arc_value c.in_ok-new.field-0)
    (shared_more c.in_ok-watches.watches.items c.push.new.self.items c.in_ok-new.field-0 c.in_ok-push.ensures.items) new old)

pub returns : goal.returns
returns c =
    rw (← c.self.view_is) (rw (c.in_ok-push-2.ensures.items, c.in_ok-assertions.ensures, c.deref-8.ensures.value, c.deref-7.ensures, c.deref-parts.ensures, ← c.self.view_is) at c.redeclare.ensures)
