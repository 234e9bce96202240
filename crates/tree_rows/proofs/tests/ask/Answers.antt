use Rattle.std.proofs.Common.{[]}
use Rattle.tree_rows.proofs.Planting.{planted-none}
use Rattle.tree_rows.proofs.tests.ask.Goals as goal

pub grow-grown-requires : goal.grow-grown-requires
grow-grown-requires c =
    let g = c.requires.owns in
    let kept = c.new-tree.ensures.tree c.args.seat.now.view in
    record { stand = (g.0, [], planted-none c.args.rows.now c.args.seat.now c.args.chain.now c.new-tree.result g.0 g.1 g.2 kept) }
