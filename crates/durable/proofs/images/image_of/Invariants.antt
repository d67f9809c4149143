use Rattle.std.proofs.Common.{◌≡◌, ◌++◌, drop}
use Rattle.assertion.specs.Declarations.{layouts_in}
use Rattle.durable.specs.Images.{image_from}
use Rattle.durable.proofs.images.image_of.Given as goal

-- the tables so far, and those that are left, are all
abbrev pub invariant-loop-table : goal.invariant-loop-table
invariant-loop-table l =
    let layouts = layouts_in l.view.declared in
    l.image.items ++ image_from layouts l.table (drop l.table l.view.state) ≡ image_from layouts 0 l.view.state
