use Rattle.std.proofs.Common.{sym, subst}
use Rattle.signal_board.specs.Says.{LaneSays}
use Rattle.signal_board.specs.Waits.{WaitsFor}
use Rattle.signal_board.proofs.Waiting.{waits_caused}
use Rattle.signal_board.proofs.parallel.one_request.Goals as goal

pub wait-front-requires-clause-waits : goal.wait-front-requires-clause-waits
wait-front-requires-clause-waits g c =
    subst (λ (x : LaneSays). WaitsFor x.r c.open-seat.result.1) (sym c.may_poison.ensures)
    (waits_caused c.open-seat.result.0.r c.may_poison.new.seat.r.cause c.open-seat.result.1 c.open-seat.ensures.waits)
