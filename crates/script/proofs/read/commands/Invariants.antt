use Rattle.std.proofs.Common.{◌≡◌, ◌+◌, ◌≤◌, [], length}
use Rattle.script.specs.Names.{Keeps}
use Rattle.script.specs.Reading.{commands_at, lines}
use Rattle.script.proofs.read.commands.Given as goal

-- what is left, read behind the commands so far, is what all bytes spell
abbrev pub invariant-loop-text : goal.invariant-loop-text
invariant-loop-text l = record {
  kept : Keeps l.draft;
  reads : commands_at l.draft.commands.items l.line (lines l.rest) ≡ commands_at [] 2 (lines l.fn.bytes);
  count : l.line + length l.rest ≤ 2 + length l.fn.bytes;
}

abbrev pub decreases-loop-text : goal.decreases-loop-text
decreases-loop-text l = length l.rest
