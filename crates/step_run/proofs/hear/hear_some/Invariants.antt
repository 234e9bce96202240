use Rattle.std.proofs.Common.{◌≡◌, ℕ, List, map}
use Rattle.signal_board.specs.Steps.{warned}
use Rattle.step_run.specs.Lives.{seen_live}
use Rattle.step_run.proofs.Lives.{HeardTo, WarnedTo}
use Rattle.step_run.proofs.hear.hear_some.Given as goal

abbrev pub invariant-loop-i : goal.invariant-loop-i
invariant-loop-i l = record {
  lives : WarnedTo l.i (map seen_live l.initial.lives.items) (map seen_live l.lives.items);
  waiting : (ps : List ℕ) × (l.waiting ≡ record l.initial.waiting { r = warned ps l.initial.waiting.r });
  heard : HeardTo l.i l.by l.initial.waiting.r l.waiting.r (map seen_live l.initial.lives.items);
}
