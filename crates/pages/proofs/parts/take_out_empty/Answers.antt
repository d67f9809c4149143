use Rattle.std.proofs.Common.{◌∙◌, map, ap, arith}
use Rattle.std.proofs.lemmas.List.{length-map}
use Rattle.std.specs.Arc.{arc_value}
use Rattle.pages.proofs.Shifts.{out_without, map_remove}
use Rattle.pages.proofs.parts.take_out_empty.Goals as goal

pub returns : goal.returns
returns g c =
    out_without c.args.at (arc_value c.args.seps.now).items (arc_value c.args.left).items (map arc_value c.args.nodes.now.items) (map arc_value c.remove.new.self.items)
    (omega (arith, c.requires.within, length-map c.args.nodes.now.items arc_value)) c.requires.none c.requires.left (ap (map arc_value) c.remove.ensures.items ∙ map_remove arc_value c.args.nodes.now.items c.args.at) c.requires.below c.requires.filled
