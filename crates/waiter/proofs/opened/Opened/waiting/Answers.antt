use Rattle.std.proofs.Common.{◌∙◌}
use Rattle.waiter.proofs.Keeping.{walk_starts}
use Rattle.waiter.proofs.opened.Opened.waiting.Goals as goal

pub invariant_of-result : goal.invariant_of-result
invariant_of-result c =
    let w = c.self.inside in
    let g = c.self.invariant in
    record {
      who_is = g.who_is;
      mode_is = g.mode_is;
      request_is = g.request_is;
      given = tt;
      walk = walk_starts w.seat.r w.request w.shots c.list.result.now c.order_of-order.result.items c.start.result
          (c.list.ensures.list ∙ c.latches.ensures) g.request_is
          c.order_of-order.ensures g.shows c.start.ensures;
    }
