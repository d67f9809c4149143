use Rattle.std.proofs.Common.{◌-◌}
use Rattle.syntax.specs.Reading.{all}
use Rattle.leaf_parser.proofs.Turns.{Leads}
use Rattle.leaf_parser.proofs.loops.collect_many.Given as goal

abbrev pub invariant-loop-turn : goal.invariant-loop-turn
invariant-loop-turn g l = (before : _) → g.C.Collection.made_of l.fn.found before
    → Leads g.C.Collection.made_of g.P.RepeatedPart.begins (g.P.Part.reader l.fn.part) (all g.P.RepeatedPart.begins (g.P.Part.reader l.fn.part) before l.fn.cursor) (l._turn-end - l._turn) l.all l.cursor
