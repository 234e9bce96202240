use Rattle.std.proofs.Common.{◌≡◌, ◌≤◌, length}
use Rattle.replay.specs.Running.{NoneBetween}
use Rattle.replay.proofs.session.next_of.Given as goal

-- None of the session stands in front of this place.
abbrev pub invariant-loop-place : goal.invariant-loop-place
invariant-loop-place l = (l.from ≤ l.place) × (l.place-end ≡ length l.sessions) × NoneBetween l.sessions l.who l.from l.place
