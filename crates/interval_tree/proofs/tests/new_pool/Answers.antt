use Rattle.std.proofs.Common.{ap}
use Rattle.row_pool.specs.SeatView.{SeatView}
use Rattle.row_pool.proofs.TestSeats.{stand-fresh}
use Rattle.interval_tree.proofs.TestGrowing.{growing-fresh}
use Rattle.interval_tree.proofs.tests.new_pool.Goals as goal

pub returns : goal.returns
returns c =
    let pool = c.in_ok-rows.ensures.pool in let ch = c.in_ok-rows.ensures.chain in
    record {
      growing = growing-fresh c.in_ok-rows.rows c.in_ok-rows.seat c.in_ok-rows.chain c.args.tree.now ch.0 (c.requires.empty c.in_ok-rows.seat.view)
          c.requires.root
          (ap (λ (z : SeatView). z.number) pool.1) (ap (λ (z : SeatView). z.out) pool.1)
          (stand-fresh c.in_ok-rows.rows c.in_ok-rows.seat c.in_ok-rows.chain 5000 ch.0 pool.0 pool.1 ch.1 ch.3);
    }
