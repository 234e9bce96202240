use Rattle.std.proofs.Common.{◌-◌, ◌≤◌, length}
use Rattle.replay.specs.Running.{IsAt, Keeps}
use Rattle.replay.proofs.session.run_commands.Given as goal

-- The session stands in front of the command from which its next one is sought.
abbrev pub invariant-loop-own : goal.invariant-loop-own
invariant-loop-own g l =
    (l.from ≤ length l.initial.commands)
    × IsAt l.initial.commands g.N.Making.made.core l.initial.pass.p.who l.from l.pass l.live l.hand
    × Keeps l.initial.pass l.pass

abbrev pub decreases-loop-own : goal.decreases-loop-own
decreases-loop-own g l = length l.initial.commands - l.from
