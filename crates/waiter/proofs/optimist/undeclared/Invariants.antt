use Rattle.std.proofs.Common.{◌≡◌, ℕ, ◌<◌, false, get_or, not}
use Rattle.std.specs.List.{Any}
use Rattle.latch_model.specs.Checks.{is_declared}
use Rattle.latch_model.specs.Latches.{LiesInLatch}
use Rattle.latch_model.specs.declared.latch.Latch.{Latch}
use Rattle.waiter.proofs.optimist.undeclared.Given as goal

abbrev pub invariant-loop-k : goal.invariant-loop-k
invariant-loop-k l = record {
  first : (j : ℕ) (d : Latch) → j < l.k → not (is_declared l.declared (get_or l.asked j d)) ≡ false;
  lie : (j : ℕ) (d : Latch) → j < l.k → Any (LiesInLatch (get_or l.asked j d)) l.declared;
}
