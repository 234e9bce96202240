use Rattle.std.proofs.Common.{◌++◌}
use Rattle.script.specs.Generated.{openings_from}
use Rattle.script.proofs.Unrolled.{openings_on}
use Rattle.script.proofs.make.open_all.Goals as goal

pub loop-i-preserved : goal.loop-i-preserved
loop-i-preserved c =
    let l = c.loop-i in
    record {
      commands = rw (c.in_ok-last.ensures.commands, c.in_ok-last.ensures.drawn) (openings_on l.out.items (c.args.out.now.items
          ++ openings_from c.args.n 0 c.args.n) c.args.n l.i l.last c.loop-i-test.true l.invariant.commands);
      low = c.in_ok-last.ensures.low;
    }
