use Rattle.std.proofs.Common.{ap, arith, length}
use Rattle.pages.specs.Reach.{entry_of}
use Rattle.pages.specs.Levels.{Tree}
use Rattle.pages.proofs.Changes.{length_put}
use Rattle.pages.proofs.pages.put_below.Goals as goal

pub returns-in_ok-put-in-Some-clause-short : goal.returns-in_ok-put-in-Some-clause-short
returns-in_ok-put-in-Some-clause-short g c =
    omega (
      arith,
      ap length c.in_ok-put-in-Some.ensures.changed,
      length_put c.args.key.now (entry_of c.args.key.now c.args.value) c.in-Some.node.now.1,
      ap (λ (s : Tree g.row.V.Denot). length s.1) c.in-Some.ensures.value,
      ap length c.make_ready.ensures.same,
      c.count.ensures.count,
      ap (λ (s : Tree g.row.V.Denot). length s.1) c.deref.ensures,
      c.if-count-ge-TOO_MANY.false,
    )
