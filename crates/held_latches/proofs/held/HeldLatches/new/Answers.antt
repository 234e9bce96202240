use Rattle.held_latches.specs.declared.held.HeldLatches.{HeldLatches}
use Rattle.held_latches.proofs.Beginning.{fresh-holds}
use Rattle.held_latches.proofs.held.HeldLatches.new.Goals as goal

pub returns-clause-held : goal.returns-clause-held
returns-clause-held c =
    let h : HeldLatches = record {
      pool = record { seat = c.in_ok-rows.seat; chain = c.in_ok-rows.chain };
      global = c.new-2.result;
      local = c.new-3.result;
      rows = c.in_ok-table.table;
    } in
    let pool = c.in_ok-rows.ensures.pool in let (rs, on, many, all) = c.in_ok-rows.ensures.chain in
    (pool.0, fresh-holds h c.args.count rs pool.1 on all c.new-2.ensures.empty c.new-3.ensures.empty)
