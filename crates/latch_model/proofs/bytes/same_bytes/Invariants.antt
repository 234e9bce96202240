use Rattle.std.proofs.Common.{◌≡◌, ◌≤◌, drop, length}
use Rattle.latch_model.proofs.bytes.same_bytes.Given as goal

-- what stands from this place on is the same
abbrev pub invariant-loop-left : goal.invariant-loop-left
invariant-loop-left l = record {
  within : l.left ≤ length l.a;
  same : drop l.left l.a ≡ drop l.left l.b;
}

abbrev pub decreases-loop-left : goal.decreases-loop-left
decreases-loop-left l = l.left
