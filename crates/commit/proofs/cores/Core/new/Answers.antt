use Rattle.std.proofs.Common.{◌≡◌, ◌∙◌, [], arith, sym}
use Rattle.conflict.specs.Live.{none_live}
use Rattle.commit.specs.Cores.{reads_kept}
use Rattle.commit.specs.Kept.{idle_core}
use Rattle.commit.proofs.Keeping.{empty_kept, same_core}
use Rattle.commit.proofs.cores.Core.new.Goals as goal

pub invariant_of-result : goal.invariant_of-result
invariant_of-result c =
    let empty = idle_core c.args.limit c.args.loaded [] [] none_live in
    let made : empty ≡ idle_core c.args.limit c.args.loaded c.new.result.items c.new-5.result.items c.new-6.result
    = λ i. idle_core c.args.limit c.args.loaded (sym c.new.ensures.items i) (sym c.new-5.ensures.items i) (sym c.new-6.ensures i) in (
      same_core empty _ c.args.loaded _ [] _ [] _ [] _ made (sym c.in_ok-copy.ensures) (sym c.new-2.ensures.items) (sym c.new-3.ensures.items) (sym c.new-4.ensures.items)
          (empty_kept c.args.limit c.args.loaded c.requires.sound (omega (arith, c.ranges.limit.fits))),
      tt,
      c.new-7.ensures.empty ∙ (λ i. reads_kept (made i)),
      tt,
    )
