use Rattle.held_latches.proofs.Keeping.{none-spare}
use Rattle.held_latches.proofs.held.HeldLatches.flush.Goals as goal

pub flush_local-requires-clause-holds : goal.flush_local-requires-clause-holds
flush_local-requires-clause-holds c =
    let (s, n, o, low) = c.requires.holds in (s, n, (c.flush_global.ensures.holds s n 0 (none-spare c.args.self.now s n o) low).holds, low)

pub returns-clause-holds : goal.returns-clause-holds
returns-clause-holds c = λ s n k o low. c.flush_local.ensures.holds s n k (c.flush_global.ensures.holds s n k o low) low
