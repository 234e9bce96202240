use Rattle.std.proofs.Common.{◌≡◌, ◌++◌, map, take}
use Rattle.script.specs.Spaced.{spaced}
use Rattle.script.specs.Texts.{latch_text}
use Rattle.script.proofs.text.put_latches.Given as goal

abbrev pub invariant-loop-latch : goal.invariant-loop-latch
invariant-loop-latch l = l.out.items ≡ l.initial.out.items ++ spaced (map latch_text (take l.latch-index l.latches))
