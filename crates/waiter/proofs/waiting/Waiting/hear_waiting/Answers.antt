use Rattle.signal_board.specs.Steps.{if_caused}
use Rattle.waiter.specs.Met.{held_of, last_of}
use Rattle.waiter.proofs.Keeping.{heard_of}
use Rattle.waiter.proofs.waiting.Waiting.hear_waiting.Goals as goal

pub invariant_of-self : goal.invariant_of-self
invariant_of-self c =
    let w = c.self.inside in
    let other = c.other.inside.seat.r in
    heard_of w.who w.mode w.request w.shots w.turns (last_of w.stage (held_of w.met)) w.order.items w.place w.seat c.hear.new.seat
    (if_caused other.id other.cause) c.hear.ensures.seat c.self.invariant

pub invariant_of-other : goal.invariant_of-other
invariant_of-other c =
    let w = c.other.inside in
    heard_of w.who w.mode w.request w.shots w.turns (last_of w.stage (held_of w.met)) w.order.items w.place w.seat
    c.hear.new.other c.self.inside.seat.r.poisoned c.hear.ensures.other c.other.invariant
