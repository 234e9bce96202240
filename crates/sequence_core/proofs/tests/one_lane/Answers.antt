use Rattle.std.proofs.Common.{ap, sym}
use Rattle.sequence_core.specs.Says.{DeskState}
use Rattle.sequence_core.proofs.Passes.{has_fresh}
use Rattle.sequence_core.proofs.tests.one_lane.Goals as goal

pub close-history-requires-clause-passes : goal.close-history-requires-clause-passes
close-history-requires-clause-passes g c =
    let made = c.in-Ok.ensures in
    has_fresh c.in-Ok.made.1 c.in-Ok.made.0.board.table 1 c.in-Ok.made.2.items made.passes (sym (ap (λ (d : DeskState). d.core.signals) made.desk))
    (sym (ap (λ (d : DeskState). d.given) made.desk))
