-- Each node below is lower than the node.
use Rattle.std.specs.Prelude.{ℕ, ◌+◌, ◌≤◌, max, List, [], ◌∷◌, map}
use Rattle.std.proofs.Common.{arith, Global}
use Rattle.std.specs.Arc.{arc_value}
use Rattle.std.specs.declared.sync.Arc.{Arc}
use denote.Param.Weighed.{most}
use Rattle.pages.specs.declared.nodes.Shape.{Shape}
use Rattle.pages.specs.declared.nodes.Shape.TheVariants.{Leaf, Inner}
use Rattle.pages.specs.declared.nodes.Node.TheDeep.{deep-Shape}
use Rattle.pages.specs.declared.nodes.Node.TheShapes.{weighed-Shape-Inner-2-at-1}
use Rattle.pages.specs.Levels.{Tree, highest}
use Rattle.pages.specs.Shapes.{tree_of}

module _ {V : Type 0} where
  most_le-highest : (weight : Arc (Tree V) Global → ℕ)
      → ((node : Arc (Tree V) Global) → weight node ≤ (arc_value node).0.0 + 1) → (nodes : List (Arc (Tree V) Global))
      → most weight nodes ≤ highest (map arc_value nodes) + 1
  most_le-highest weight low [] = omega arith
  most_le-highest weight low (node ∷ nodes) = omega (arith, low node, most_le-highest weight low nodes)

  -- the depth that the code counts of a node is at most the height of what it shows
  pub deep_le-height : (shape : Shape V) → max (deep-Shape V shape) 0 ≤ (tree_of shape).0.0
  deep_le-height (Leaf page) = omega arith
  deep_le-height (Inner count seps nodes) =
      omega (
        arith,
        most_le-highest ((weighed-Shape-Inner-2-at-1 V).weight (Tree V) (λ below. below.0.0 + 1))
            (λ node. omega arith) nodes.items,
      )
