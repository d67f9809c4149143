use Rattle.std.proofs.Common.{◌≤◌, ◌+◌, ◌∙◌, length, ap, sym, subst}
use Rattle.std.proofs.lemmas.List.{length-append}
use Rattle.session.specs.Books.{IsFresh, SessionState}
use Rattle.threads.proofs.Chains.{begins, ends, goes_on_at}
use Rattle.threads.proofs.runs.run_lines.Goals as goal

pub loop-line-init : goal.loop-line-init
loop-line-init g c = record {
  counted = ap length c.requires.none;
  marked = ap length c.requires.unmarked;
  room = c.requires.room;
  marks = c.requires.marks;
  told = begins (IsFresh (g.N.Named.shelf c.args.stage.now.manager.now.id) c.args.stage.now.manager.now.id c.args.stage.now.manager.now.epoch) c.args.lines.now c.args.room.now.answers.items c.args.session.now.seen c.requires.none c.requires.new;
}

pub loop-line-preserved : goal.loop-line-preserved
loop-line-preserved g c = record {
  counted = ap length c.push_reserved.ensures.items ∙ (length-append c.loop-line.room.answers.items _ ∙ ap (λ n. n + 1) c.loop-line.invariant.counted);
  marked = ap length c.push_reserved-in-loop-line.ensures.items ∙ (length-append c.loop-line.room.unkept.items _ ∙ ap (λ n. n + 1) c.loop-line.invariant.marked);
  room = subst (λ n. length c.args.lines.now ≤ n) (sym c.push_reserved.ensures.capacity) c.loop-line.invariant.room;
  marks = subst (λ n. length c.args.lines.now ≤ n) (sym c.push_reserved-in-loop-line.ensures.capacity) c.loop-line.invariant.marks;
  told = goes_on_at (IsFresh (g.N.Named.shelf c.args.stage.now.manager.now.id) c.args.stage.now.manager.now.id c.args.stage.now.manager.now.epoch) c.args.lines.now c.loop-line.line-index c.line-item.result c.loop-line.session.seen _ c.loop-line.open _ c.loop-line.room.answers.items _ _
      c.loop-line-test.true c.line-item.is c.loop-line.invariant.told c.run_event-outcome.ensures.told (ap (λ (s : SessionState). s.seen) c.run_event-outcome.ensures.seen) c.push_reserved.ensures.items;
}

pub returns : goal.returns
returns g c =
    ends (IsFresh (g.N.Named.shelf c.args.stage.now.manager.now.id) c.args.stage.now.manager.now.id c.args.stage.now.manager.now.epoch) c.args.lines.now c.loop-line.line-index c.loop-line.session.seen c.loop-line.open c.loop-line.room.answers.items c.loop-line-test.false c.loop-line.invariant.told
