use Rattle.std.proofs.Common.{◌≡◌}
use Rattle.sequence_core.proofs.parallel.poll_on.Given as goal

abbrev pub invariant-polls : goal.invariant-polls
invariant-polls l = (l.waiting.core ≡ l.fn.waiting.core) × (l.waiting.r.who ≡ l.fn.waiting.r.who)
