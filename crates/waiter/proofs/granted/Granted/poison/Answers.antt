use Rattle.latch_model.specs.declared.history.Cause.TheVariants.{Called}
use Rattle.signal_board.specs.Says.{first_cause}
use Rattle.waiter.proofs.Keeping.{granted_caused}
use Rattle.waiter.proofs.granted.Granted.poison.Goals as goal

pub invariant_of-self : goal.invariant_of-self
invariant_of-self c =
    let w = c.self.inside in
    granted_caused w.who w.mode w.request w.grant w.returned w.seat c.poison.new.seat (first_cause w.seat.r.cause Called) c.poison.ensures c.self.invariant
