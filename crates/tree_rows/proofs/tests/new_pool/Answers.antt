use Rattle.tree_rows.proofs.Planting.{owns-fresh}
use Rattle.row_pool.specs.SeatView.{SeatView}
use Rattle.std.proofs.Common.{ap}
use Rattle.tree_rows.proofs.tests.new_pool.Goals as goal

pub returns-clause-owns : goal.returns-clause-owns
returns-clause-owns c =
    let pool = c.in_ok-rows.ensures.pool in
    let ch = c.in_ok-rows.ensures.chain in
    (ch.0, owns-fresh c.in_ok-rows.rows c.in_ok-rows.seat c.in_ok-rows.chain c.args.n ch.0 pool.0 pool.1 ch.1 ch.3, ap (λ (v : SeatView). v.refs) pool.1)
