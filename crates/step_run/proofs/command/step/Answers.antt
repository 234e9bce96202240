use Rattle.std.proofs.Common.{sym, subst}
use Rattle.script.specs.declared.command.Command.{Command}
use Rattle.step_run.specs.Allowing.{Allowed}
use Rattle.step_run.specs.Runs.{Makes}
use Rattle.step_run.specs.Seen.{seen_run}
use Rattle.step_run.specs.Steps.{one}
use Rattle.step_run.proofs.Opening.{metrics_makes}
use Rattle.step_run.proofs.command.step.Goals as goal

pub returns-in_ok-wait-in-Wait-clause-step : goal.returns-in_ok-wait-in-Wait-clause-step
returns-in_ok-wait-in-Wait-clause-step c = λ s h line.
    subst (λ (k : Command). Makes (one s k) (seen_run c.wait.new.run) c.args.out.now.items c.wait.new.out.items) (sym c.in-Wait.is)
    (c.in_ok-wait-in-Wait.ensures.step s h)

pub returns-in_ok-check-in-Check-clause-step : goal.returns-in_ok-check-in-Check-clause-step
returns-in_ok-check-in-Check-clause-step c = λ s h line.
    subst (λ (k : Command). Makes (one s k) (seen_run c.check.new.run) c.args.out.now.items c.check.new.out.items) (sym c.in-Check.is)
    (c.in_ok-check-in-Check.ensures.step s h)

pub returns-in_ok-poison_name-in-Poison-clause-step : goal.returns-in_ok-poison_name-in-Poison-clause-step
returns-in_ok-poison_name-in-Poison-clause-step c = λ s h line.
    subst (λ (k : Command). Makes (one s k) (seen_run c.poison_name.new.run) c.args.out.now.items c.poison_name.new.out.items) (sym c.in-Poison.is)
    (c.in_ok-poison_name-in-Poison.ensures.step s h)

pub returns-in_ok-release-in-Release-clause-step : goal.returns-in_ok-release-in-Release-clause-step
returns-in_ok-release-in-Release-clause-step c = λ s h line.
    subst (λ (k : Command). Makes (one s k) (seen_run c.release.new.run) c.args.out.now.items c.release.new.out.items) (sym c.in-Release.is)
    (c.in_ok-release-in-Release.ensures.step s h)

pub returns-in_ok-metrics_line-in-Metrics-clause-step : goal.returns-in_ok-metrics_line-in-Metrics-clause-step
returns-in_ok-metrics_line-in-Metrics-clause-step c = λ s h line.
    subst (λ (k : Command). Makes (one s k) (seen_run c.args.run.now) c.args.out.now.items c.metrics_line.new.out.items) (sym c.in-Metrics.is)
    (metrics_makes s (seen_run c.args.run.now) c.metrics.result c.args.run.now.desk.free c.args.out.now.items c.metrics_line.new.out.items
    c.metrics.ensures.counts h c.in_ok-metrics_line-in-Metrics.ensures)

pub check-requires-clause-optimistic : goal.check-requires-clause-optimistic
check-requires-clause-optimistic c = subst (λ (k : Command). Allowed k (seen_run c.args.run.now).lives) c.in-Check.is c.requires.allowed
