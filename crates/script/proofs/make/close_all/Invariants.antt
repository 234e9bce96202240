use Rattle.std.proofs.Common.{◌≡◌, ◌+◌, ◌-◌, ◌++◌}
use Rattle.script.specs.Generated.{closings_from}
use Rattle.script.proofs.make.close_all.Given as goal

abbrev pub invariant-loop-k : goal.invariant-loop-k
invariant-loop-k l = l.out.items ++ closings_from (l.n - l.k) (l.first + l.k) ≡ l.initial.out.items ++ closings_from l.n l.first
