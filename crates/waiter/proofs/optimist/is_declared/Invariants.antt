use Rattle.std.proofs.Common.{◌≡◌, drop}
use Rattle.latch_model.specs.Checks.{is_declared}
use Rattle.waiter.proofs.optimist.is_declared.Given as goal

abbrev pub invariant-loop-other : goal.invariant-loop-other
invariant-loop-other l = is_declared (drop l.other-index l.declared) l.latch ≡ is_declared l.declared l.latch
