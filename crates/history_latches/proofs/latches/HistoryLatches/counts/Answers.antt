use Rattle.history_latches.proofs.Counts.{counts_are}
use Rattle.history_latches.proofs.latches.HistoryLatches.counts.Goals as goal

pub returns : goal.returns
returns c = λ log sizes keeps legal.
    counts_are c.args.self.now log sizes c.args.scope c.counts.result keeps legal (c.counts.ensures.read _ _ keeps.holds)
    (c.counts.ensures.pending _ _ keeps.holds) (c.counts.ensures.write _ _ keeps.holds)
