use Rattle.std.proofs.Common.{◌∷◌, [], ap, length, length-append, arith}
use Rattle.script.specs.Generated.{drawn_latches}
use Rattle.script.proofs.Unrolled.{draws_on}
use Rattle.script.proofs.make.drawn_latches.Goals as goal

pub loop-k-preserved : goal.loop-k-preserved
loop-k-preserved c =
    let l = c.loop-k in
    let next = draws_on l.list.items l.last c.args.n l._k (drawn_latches c.args.n c.args.first) c.loop-k-test.true l.invariant.draws in
    record {
      draws = rw (
        c.in_ok-push.ensures.items,
        c.in_ok-drawn_latch.ensures,
        c.draw-last.ensures.drawn,
        c.draw-reach.ensures.drawn,
        c.draw-place.ensures.drawn,
        c.draw-kind.ensures.drawn,
      ) next;
      many = omega (arith, ap length c.in_ok-push.ensures.items, length-append l.list.items (c.in_ok-drawn_latch.field-0 ∷ []), l.invariant.many);
      low = c.draw-last.ensures.low;
    }
