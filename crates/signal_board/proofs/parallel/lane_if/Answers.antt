use Rattle.std.proofs.Common.{refl}
use Rattle.signal_board.proofs.parallel.lane_if.Goals as goal

pub returns-then-begun-id : goal.returns-then-begun-id
returns-then-begun-id c =
    let x = c.in-Begun in
    (record { id = x.begun; lane = x.lane; who = x.who; mode = x.mode; request = x.request }, x.is, c.if-begun-id.true, refl)
