use Rattle.row_pool.proofs.TestSeats.{stand-fresh}
use Rattle.latch_shots.proofs.tests.new_pool.Goals as goal

pub returns-clause-stand : goal.returns-clause-stand
returns-clause-stand c =
    let pool = c.in_ok-rows.ensures.pool in
    let ch = c.in_ok-rows.ensures.chain in
    (ch.0, stand-fresh c.in_ok-rows.rows c.in_ok-rows.seat c.in_ok-rows.chain 1 ch.0 pool.0 pool.1 ch.1 ch.3)
