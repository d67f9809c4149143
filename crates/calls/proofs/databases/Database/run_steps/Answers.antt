use Rattle.std.proofs.Common.{◌∙◌, List, refl, subst, sym, arith}
use Rattle.value.specs.declared.values.Value.{Value}
use Rattle.calls.specs.Calls.{RunsStatement}
use Rattle.calls.proofs.Stepping.{all_run, long_then, so_far_more, so_far_none, stops}
use Rattle.calls.proofs.databases.Database.run_steps.Goals as goal

pub loop-step-init : goal.loop-step-init
loop-step-init c = record {
  run = so_far_none c.args.session c.args.steps.now c.args.self.now c.args.responses.now.items;
  few = omega arith;
  room = refl;
}

pub loop-step-preserved : goal.loop-step-preserved
loop-step-preserved c =
    let step = c.step-item.result in let r = c.run_statement-response.result in
    let runs = subst (λ (vs : List Value). RunsStatement (record { session = c.args.session; statement = step.statement; values = vs }) c.loop-step.self c.run_statement-response.new.self r) c.as_slice.ensures c.run_statement-response.ensures in
    record {
      run = so_far_more c.args.session c.args.steps.now c.loop-step.step-index c.args.self.now c.loop-step.self c.run_statement-response.new.self c.args.responses.now.items c.loop-step.responses.items c.push_reserved.new.self.items step r
          c.loop-step-test.true c.step-item.is c.loop-step.invariant.run runs c.push_reserved.ensures.items (sym c.is_done-is_done.ensures ∙ c.if-not-is_done.false);
      few = long_then c.args.session c.args.steps.now c.loop-step.step-index c.args.self.now c.loop-step.self c.run_statement-response.new.self c.args.responses.now.items c.loop-step.responses.items c.push_reserved.new.self.items step r
          c.loop-step-test.true c.step-item.is c.loop-step.invariant.run runs c.push_reserved.ensures.items;
      room = c.push_reserved.ensures.capacity ∙ c.loop-step.invariant.room;
    }

pub returns-clause-run : goal.returns-clause-run
returns-clause-run c =
    all_run c.args.session c.args.steps.now c.loop-step.step-index c.args.self.now c.loop-step.self c.args.responses.now.items c.loop-step.responses.items c.loop-step-test.false c.loop-step.invariant.run

pub returns-then-not-is_done-clause-run : goal.returns-then-not-is_done-clause-run
returns-then-not-is_done-clause-run c =
    let step = c.step-item.result in let r = c.run_statement-response.result in
    let runs = subst (λ (vs : List Value). RunsStatement (record { session = c.args.session; statement = step.statement; values = vs }) c.loop-step.self c.run_statement-response.new.self r) c.as_slice.ensures c.run_statement-response.ensures in
    stops c.args.session c.args.steps.now c.loop-step.step-index c.args.self.now c.loop-step.self c.run_statement-response.new.self c.args.responses.now.items c.loop-step.responses.items c.push_reserved.new.self.items step r
    c.loop-step-test.true c.step-item.is c.loop-step.invariant.run runs c.push_reserved.ensures.items (sym c.is_done-is_done.ensures ∙ c.if-not-is_done.true)
