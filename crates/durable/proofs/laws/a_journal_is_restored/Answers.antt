use Rattle.std.proofs.Common.{refl}
use Rattle.assertion.specs.Declarations.{layouts_in}
use Rattle.alone.specs.Epoch.{state_of}
use Rattle.commit.proofs.Fitting.{state_fits}
use Rattle.durable.specs.Opening.{blank_state}
use Rattle.durable.proofs.Kept.{from_image}
use Rattle.durable.proofs.laws.a_journal_is_restored.Goals as goal

pub returns : goal.returns
returns c = λ declared start log epoch loaded entries pairs before more image is.
    from_image (layouts_in declared) image entries (blank_state declared) start (state_of declared start log before) before more (state_of declared start log)
    (c.an_image_is_restored.ensures declared (state_of declared start log before) (c.replay_answers_again.ensures.sound declared start log epoch before).fit
    (state_fits declared start loaded log epoch.history before) image is)
    (c.what_was_kept_is_restored.ensures declared start log epoch loaded entries pairs) refl
