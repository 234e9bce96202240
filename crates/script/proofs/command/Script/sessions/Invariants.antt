use Rattle.std.proofs.Common.{◌≡◌, length, take}
use Rattle.script.specs.Sessions.{EachSession, KnowsOwners, kept}
use Rattle.script.proofs.command.Script.sessions.Given as goal

abbrev pub invariant-loop-command : goal.invariant-loop-command
invariant-loop-command l = record {
  size : length l.sessions.items ≡ l.command-index;
  each : EachSession l.commands l.sessions.items;
  owners : KnowsOwners (kept l.live) (take l.command-index l.commands);
}
