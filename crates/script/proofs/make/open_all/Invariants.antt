use Rattle.std.proofs.Common.{◌≡◌, ◌-◌, ◌<◌, ◌++◌}
use Rattle.script.specs.Generated.{openings_from}
use Rattle.script.proofs.make.open_all.Given as goal

abbrev pub invariant-loop-i : goal.invariant-loop-i
invariant-loop-i l = record {
  commands : l.out.items ++ openings_from (l.n - l.i) l.i l.last ≡ l.initial.out.items ++ openings_from l.n 0 l.n;
  low : l.last < 65537;
}
