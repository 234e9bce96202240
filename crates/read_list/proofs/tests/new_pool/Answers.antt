use Rattle.read_list.proofs.TestLists.{stock-fresh}
use Rattle.read_list.proofs.tests.new_pool.Goals as goal

pub returns-clause-stock : goal.returns-clause-stock
returns-clause-stock c =
    let pool = c.in_ok-rows.ensures.pool in
    let ch = c.in_ok-rows.ensures.chain in
    (ch.0, stock-fresh c.in_ok-rows.rows c.in_ok-rows.seat c.in_ok-rows.chain c.args.n ch.0 pool.0 pool.1 ch.1 ch.3, ch.2)
