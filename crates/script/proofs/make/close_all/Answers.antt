use Rattle.std.proofs.Common.{◌++◌}
use Rattle.script.specs.Generated.{closings_from}
use Rattle.script.proofs.Unrolled.{closings_on}
use Rattle.script.proofs.make.close_all.Goals as goal

pub loop-k-preserved : goal.loop-k-preserved
loop-k-preserved c =
    rw c.in_ok-close.ensures (closings_on c.loop-k.out.items (c.args.out.now.items ++ closings_from c.args.n c.args.first) c.args.n c.args.first c.loop-k.k
    c.loop-k-test.true c.loop-k.invariant)
