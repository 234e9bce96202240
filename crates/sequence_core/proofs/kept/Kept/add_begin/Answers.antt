use Rattle.std.proofs.Common.{◌+◌, sym, subst, ℕ}
use Rattle.history_latches.specs.Logs.{IsBeginOf}
use Rattle.sequence_core.proofs.kept.Kept.add_begin.Goals as goal

pub returns-clause-holds : goal.returns-clause-holds
returns-clause-holds c log sizes b may is =
    c.begin.ensures.holds log sizes b may
    (subst (λ (n : ℕ). IsBeginOf b (c.args.self.now.begun + 1) n c.args.latches.now c.args.mode) (sym c.least-lane.ensures) is)

pub returns-clause-shots : goal.returns-clause-shots
returns-clause-shots c log sizes b may is =
    c.begin.ensures.shots log sizes b may
    (subst (λ (n : ℕ). IsBeginOf b (c.args.self.now.begun + 1) n c.args.latches.now c.args.mode) (sym c.least-lane.ensures) is)
