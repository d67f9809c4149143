use Rattle.std.proofs.Common.{Bool, sym, subst}
use Rattle.commit.specs.declared.epochs.Epochs.{Epochs}
use Rattle.commit.specs.Epochs.{AreOutcomes, IsEnd, IsOneMore}
use Rattle.commit.proofs.Continuing.{one_more, passed_more, refused_next}
use Rattle.commit.proofs.epochs.run_epochs.Goals as goal

pub loop-epoch-preserved : goal.loop-epoch-preserved
loop-epoch-preserved c =
    passed_more c.args.limit c.args.loaded.now c.args.epochs.now c.loop-epoch.epoch-index c.loop-epoch.outcomes.items c.run_next.new.outcomes.items c.epoch-item.result
    c.loop-epoch-test.true c.epoch-item.is c.loop-epoch.invariant
    (subst (λ (whole : Bool). IsOneMore c.args.limit c.args.loaded.now c.epoch-item.result c.loop-epoch.outcomes.items c.run_next.new.outcomes.items whole) c.in-Ok-true.field-0-test c.in-Ok-true.ensures.more)

pub returns-in-Ok-false-clause-outcomes : goal.returns-in-Ok-false-clause-outcomes
returns-in-Ok-false-clause-outcomes c =
    subst (λ (all : Epochs). AreOutcomes c.args.limit c.args.loaded.now c.args.epochs.now all.outcomes.items) (sym c.end_early.ensures)
    (one_more c.args.limit c.args.loaded.now c.args.epochs.now c.loop-epoch.epoch-index c.loop-epoch.outcomes.items c.run_next.new.outcomes.items c.epoch-item.result c.in-Ok-false.field-0
    c.loop-epoch-test.true c.epoch-item.is c.loop-epoch.invariant c.in-Ok-false.ensures.more)

pub returns-in-Err-clause-end : goal.returns-in-Err-clause-end
returns-in-Err-clause-end c =
    subst (λ (all : Epochs). IsEnd c.args.loaded.now c.args.epochs.now all.outcomes.items all.refused) (sym c.end_early-in-Err.ensures)
    (refused_next c.args.limit c.args.loaded.now c.args.epochs.now c.loop-epoch.epoch-index c.loop-epoch.outcomes.items c.run_next.new.outcomes.items c.epoch-item.result c.in-Err.refusal
    c.loop-epoch-test.true c.epoch-item.is c.loop-epoch.invariant c.in-Err.ensures.same c.in-Err.ensures.refused)
