use Rattle.std.proofs.Common.{◌≡◌, ◌<◌, ◌-◌, length}
use Rattle.script.specs.Generated.{drawn_latches}
use Rattle.script.proofs.Unrolled.{Draws}
use Rattle.script.proofs.make.drawn_latches.Given as goal

abbrev pub invariant-loop-k : goal.invariant-loop-k
invariant-loop-k l = record {
  draws : Draws l.list.items l.last (l.n - l._k) (drawn_latches l.n l.first);
  many : length l.list.items ≡ l._k;
  low : l.last < 65537;
}
