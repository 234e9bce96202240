use Rattle.std.proofs.Common.{◌≡◌}
use Rattle.sequence_core.proofs.polls.is_blocked.Given as goal

abbrev pub invariant-twice : goal.invariant-twice
invariant-twice g l = (l.waiting.core ≡ l.fn.waiting.core) × (l.waiting.r.who ≡ l.fn.waiting.r.who)
