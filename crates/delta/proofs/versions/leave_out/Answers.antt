use Rattle.std.proofs.Common.{◌∙◌, Bool, length, map, not, sym, subst, arith}
use Rattle.std.specs.Arc.{arc_value}
use Rattle.std.specs.Str.{bytes_eq}
use Rattle.assertion.specs.declared.assertions.Assertion.{Assertion}
use Rattle.delta.specs.Maintained.{IsWatched}
use Rattle.delta.proofs.Declaring.{goes, stays, watched_more}
use Rattle.delta.proofs.WatchLemmas.{shared_more, watched_here}
use Rattle.delta.proofs.versions.leave_out.Goals as goal
use Rattle.delta.proofs.versions.leave_out.Goals.{then-ne+in_ok-copy+in_ok-push+in_ok-try_clone+in_ok-push-2, else-ne}

pub loop-index-preserved : goal.loop-index-preserved
loop-index-preserved c =
    let keep : Assertion → Bool = λ a. not (bytes_eq a.name c.args.name.now) in
    let item : Assertion = c.index-assertions-index.result in
    elim c.if-ne.branch [
      | then-ne+in_ok-copy+in_ok-push+in_ok-try_clone+in_ok-push-2 w ↦
          let watch = w.in_ok-try_clone.field-0 in
          let right : IsWatched c.args._schemas.now c.args._tables.now item.form (arc_value watch) =
          subst (λ (a : Assertion). IsWatched c.args._schemas.now c.args._tables.now a.form (arc_value watch)) (sym c.index-assertions-index.is)
          (watched_here c.args._schemas.now c.args._tables.now c.args.assertions.now (length c.args.assertions.now) c.args.watches.now c.loop-index.index w.index-watches-index.result (arc_value watch) c.requires.watched (omega arith) w.index-watches-index.is w.in_ok-try_clone.ensures item) in
          record {
            stay = rw (w.left-is, w.in_ok-push.ensures.items, c.loop-index.invariant.stay, w.in_ok-copy.ensures) (sym (stays keep c.args.assertions.now c.loop-index.index item (omega arith) c.index-assertions-index.is (sym c.ne.ensures ∙ w.if-ne.true)));
            watched = rw (w.left-is, w.shared-is, w.in_ok-push.ensures.items, w.in_ok-copy.ensures)
                (watched_more c.args._schemas.now c.args._tables.now c.loop-index.left.items item (map arc_value c.loop-index.shared.items) (map arc_value w.push-then-ne.new.self.items) (arc_value watch)
                (shared_more c.loop-index.shared.items w.push-then-ne.new.self.items watch w.in_ok-push-2.ensures.items) right c.loop-index.invariant.watched);
          }
      | else-ne w ↦ record {
        stay = rw (w.left-is, c.loop-index.invariant.stay) (sym (goes keep c.args.assertions.now c.loop-index.index item (omega arith) c.index-assertions-index.is (sym c.ne.ensures ∙ w.if-ne.false)));
        watched = rw (w.left-is, w.shared-is) c.loop-index.invariant.watched;
      }
    ]
