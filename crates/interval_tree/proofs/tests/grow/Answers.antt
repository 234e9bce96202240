use Rattle.std.proofs.Common.{◌∙◌}
use Rattle.interval_tree.proofs.tests.grow.Goals as goal

pub loop-k-preserved : goal.loop-k-preserved
loop-k-preserved c = λ roots g few.
    let (grown, stand) = c.loop-k.invariant roots g few in
    (c.add_next.ensures.growing roots grown few, λ root m. c.add_next.ensures.others roots grown few root m ∙ stand root m)
