-- What the marks of assertions say: of each whether it is immediate.
use Rattle.std.specs.Prelude.{replicate}
use Rattle.alone.specs.declared.modes.Marks.{Marks}
use Rattle.alone.specs.declared.modes.Marks.TheVariants.{Each, Same}
use Rattle.alone.specs.Modes.{Immediates}

abbrev pub immediates_in : Marks → Immediates
immediates_in (Each marks) = marks.items
immediates_in (Same immediate count) = replicate count immediate
