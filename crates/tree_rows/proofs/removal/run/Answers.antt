use Rattle.std.proofs.Common.{◌+◌}
use Rattle.tree_rows.proofs.Shrinking.{same-then}
use Rattle.tree_rows.proofs.removal.run.Goals as goal

pub loop-k-preserved : goal.loop-k-preserved
loop-k-preserved c =
    let listed = c.is_just-listed.ensures.stays c.change-changed.new.chain in
    let v = c.args.seat.now.view in let w = c.change-changed.new.seat.view in
    record {
      stand = listed.stand (c.loop-k.k + 1) c.change-changed.ensures.stand;
      same_seat = same-then v w c.is_just-listed.new.seat.view
          (same-then v c.loop-k.seat.view w c.loop-k.invariant.same_seat c.change-changed.ensures.same_seat) listed.same_seat;
    }
