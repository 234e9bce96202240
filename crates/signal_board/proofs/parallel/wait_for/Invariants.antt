use Rattle.signal_board.specs.Waits.{SameRequest}
use Rattle.signal_board.proofs.parallel.wait_for.Given as goal

abbrev pub invariant-loop-round : goal.invariant-loop-round
invariant-loop-round l = SameRequest l.fn.seat l.seat
