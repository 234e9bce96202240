use Rattle.std.proofs.Common.{subst}
use Rattle.signal_board.specs.Waits.{WaitsFor}
use Rattle.signal_board.proofs.parallel.wait.Goals as goal

pub stamp-requires-clause-ready : goal.stamp-requires-clause-ready
stamp-requires-clause-ready c p lane asks = absurd (subst (WaitsFor c.args.seat.now.r) c.in-None.is c.requires.waits p lane asks)

pub wait_for-requires-clause-waits : goal.wait_for-requires-clause-waits
wait_for-requires-clause-waits c = (c.requires.policy, (subst (WaitsFor c.args.seat.now.r) c.in-Some.is c.requires.waits).0)

pub wait_for-requires-clause-only : goal.wait_for-requires-clause-only
wait_for-requires-clause-only c = (subst (WaitsFor c.args.seat.now.r) c.in-Some.is c.requires.waits).1
