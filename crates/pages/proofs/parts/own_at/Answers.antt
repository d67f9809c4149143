use Rattle.pages.proofs.Changes.{own_same}
use Rattle.pages.proofs.parts.own_at.Goals as goal

pub returns : goal.returns
returns g c = own_same c.args.nodes.now.items c.args.at c.index_mut.result.now c.own.new.node c.index_mut.ensures.value c.own.ensures
