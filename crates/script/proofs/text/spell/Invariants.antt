use Rattle.std.proofs.Common.{◌≡◌, ◌++◌, codes, take}
use Rattle.std.specs.List.{flat_map}
use Rattle.script.specs.Commands.{fields_of, line_of}
use Rattle.script.proofs.text.spell.Given as goal

abbrev pub invariant-loop-command : goal.invariant-loop-command
invariant-loop-command l = l.out.items ≡ codes "latch script 1\n" ++ flat_map (λ c. line_of (fields_of c)) (take l.command-index l.commands)
