use Rattle.std.proofs.Common.{◌≡◌, false, sym, ◌∙◌, ap}
use Rattle.commit.specs.Epochs.{is_any_open}
use Rattle.commit.proofs.Continuing.{live_after}
use Rattle.commit.proofs.engine.Engine.checkpoint.Goals as goal

pub invariant_of-self : goal.invariant_of-self
invariant_of-self c =
    let closed : is_any_open c.self.inside.seats.items ≡ false = ap is_any_open (sym c.as_slice.ensures.value) ∙ sym c.is_any_open.ensures ∙ c.if-is_any_open.false in
    live_after c.args.dropped.now c.args.created.now c.self.inside.core c.checkpoint.new.self c.self.inside.seats.items c.checkpoint.result closed c.self.invariant c.checkpoint.ensures.after c.checkpoint.ensures.same
