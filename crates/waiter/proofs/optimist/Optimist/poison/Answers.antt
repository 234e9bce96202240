use Rattle.latch_model.specs.declared.history.Cause.TheVariants.{Called}
use Rattle.signal_board.specs.Says.{first_cause}
use Rattle.waiter.proofs.Keeping.{optimist_knows}
use Rattle.waiter.proofs.optimist.Optimist.poison.Goals as goal

pub invariant_of-self : goal.invariant_of-self
invariant_of-self c =
    let w = c.self.inside in
    optimist_knows w.who w.request w.shots w.passed w.seat c.poison.new.seat w.seat.r.poisoned (first_cause w.seat.r.cause Called) c.poison.ensures
    c.self.invariant
