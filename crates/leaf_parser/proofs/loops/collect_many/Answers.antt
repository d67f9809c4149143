use Rattle.std.proofs.Common.{◌≡◌, true, false, arith, rules}
use Rattle.syntax.specs.Language.{kind_at}
use Rattle.leaf_parser.proofs.Turns.{leads_nowhere, leads_on, leads_over, leads_stops}
use Rattle.leaf_parser.proofs.loops.collect_many.Goals as goal

pub loop-turn-preserved : goal.loop-turn-preserved
loop-turn-preserved g c = λ before made.
    let goes : g.P.RepeatedPart.begins (kind_at c.loop-turn.cursor) ≡ true = search rules in
    leads_on _ _ _ _ _ _ _ _ _ _ _ (c.loop-turn.invariant before made) goes (omega arith) c.in-Ok.ensures c.in_ok-all-in-Ok.ensures

pub returns-then-not-begins : goal.returns-then-not-begins
returns-then-not-begins g c = λ before made.
    let over : g.P.RepeatedPart.begins (kind_at c.loop-turn.cursor) ≡ false = search rules in
    leads_stops _ _ _ _ _ _ _ (c.loop-turn.invariant before made) over

pub returns-in-Err : goal.returns-in-Err
returns-in-Err g c = λ before made.
    let goes : g.P.RepeatedPart.begins (kind_at c.loop-turn.cursor) ≡ true = search rules in
    leads_nowhere _ _ _ _ _ _ _ _ _ _ c.drop_and_stop.ensures (c.loop-turn.invariant before made) goes (omega arith) c.in-Err.ensures

pub returns : goal.returns
returns g c = λ before made. leads_over _ _ _ _ _ _ _ (c.loop-turn.invariant before made) (omega arith)
