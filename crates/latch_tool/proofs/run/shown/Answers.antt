use Rattle.std.proofs.Common.{subst}
use Rattle.latch_tool.proofs.Runs.{shows_run}
use Rattle.latch_tool.proofs.run.shown.Goals as goal

pub returns-clause-shows : goal.returns-clause-shows
returns-clause-shows g c =
    let h = c.in_ok-history.history in
    let run = c.in_ok-history.ensures in
    shows_run c.args.layout c.args.script h.entries h.sizes c.in_ok-report.field-0.items run.sizes run.legal run.closed run.follows c.in_ok-report.ensures
