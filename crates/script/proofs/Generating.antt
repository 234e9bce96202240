-- A generated script is a script.
use Rattle.std.proofs.Common.{◌≤◌, ℕ, [], arith}
use Rattle.std.proofs.lemmas.List.Elements.{All-from_recursion}
use Rattle.script.specs.Generated.{generated}
use Rattle.script.specs.Scripts.{IsCommand, IsScript}
use Rattle.script.proofs.Laws.Scripts.{follow_at}
use Rattle.script.proofs.Measured.{generated_commands}
use Rattle.script.proofs.Numbered.{generated_released, generated_rules}

pub generated_script : (n : ℕ) → n ≤ 20000 → IsScript (generated n)
generated_script n low = record {
  commands = All-from_recursion IsCommand (generated n) (generated_commands n low);
  rules = follow_at [] (generated n) (generated_rules n (omega arith));
  released = generated_released n (omega arith);
}
