use Rattle.std.proofs.Common.{◌+◌, ◌∙◌, arith}
use Rattle.tree_rows.proofs.tests.grow.Goals as goal

pub add-added-requires : goal.add-added-requires
add-added-requires c = let s = c.loop-i.invariant.stand in record { stand = (s.0, s.1, s.2, s.3, (let a = s.4 in omega arith)) }

pub loop-i-preserved : goal.loop-i-preserved
loop-i-preserved c =
    let s = c.loop-i.invariant.stand in
    let o = c.add-added.ensures.stand s.0 s.1 s.2 s.3 (let a = s.4 in omega arith) in
    let a = c.add-added.ensures.same_seat in
    let d = c.loop-i.invariant.same_seat in
    record {
      stand = (o.0, o.1, c.loop-i.i + 1, o.2, omega arith);
      same_seat = record { number = a.number ∙ d.number; out = a.out ∙ d.out; size = a.size ∙ d.size };
    }
