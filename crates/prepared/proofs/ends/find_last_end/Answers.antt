use Rattle.std.proofs.Common.{length, sym, ◌+◌, ◌-◌, ◌∙◌, arith}
use Rattle.prepared.specs.Ends.{end_within, last_end}
use Rattle.prepared.proofs.LastEnds.{end_found, end_passed}
use Rattle.prepared.proofs.ends.find_last_end.Goals as goal

pub returns-in_default : goal.returns-in_default
unfolding last_end
returns-in_default c =
    let text = c.args.text.now in
    end_found (length text - c.loop-turn._turn) text c.loop-turn.end (end_within (length text) text 0) c.loop-turn.invariant (omega arith)
    (sym c.find_next.ensures.value ∙ c.in_default.is)

pub loop-turn-preserved : goal.loop-turn-preserved
loop-turn-preserved c =
    let text = c.args.text.now in
    end_passed (length text - c.loop-turn._turn) (length text - (c.loop-turn._turn + 1)) text c.loop-turn.end c.end_of-end.result c.in-Some.next (end_within (length text) text 0)
    c.loop-turn.invariant (omega arith) (sym c.in-Some.ensures.value) c.end_of-end.ensures
