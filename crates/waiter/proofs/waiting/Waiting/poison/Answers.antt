use Rattle.latch_model.specs.declared.history.Cause.TheVariants.{Called}
use Rattle.signal_board.specs.Says.{first_cause}
use Rattle.waiter.specs.Met.{held_of, last_of}
use Rattle.waiter.proofs.Keeping.{caused}
use Rattle.waiter.proofs.waiting.Waiting.poison.Goals as goal

pub invariant_of-self : goal.invariant_of-self
invariant_of-self c =
    let w = c.self.inside in
    caused w.who w.mode w.request w.shots w.turns (last_of w.stage (held_of w.met)) w.order.items w.place w.seat c.poison.new.seat
    (first_cause w.seat.r.cause Called) c.poison.ensures c.self.invariant
