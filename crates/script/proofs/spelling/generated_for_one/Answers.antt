use Rattle.std.proofs.Common.{ap, List, ◌∷◌, ℕ, arith}
use Rattle.std.proofs.lemmas.Fmt.{decimal_digit}
use Rattle.script.specs.Worked.{first_latch, second_latch}
use Rattle.latch_model.specs.declared.latch.Mode.TheVariants.{Acquire}
use Rattle.latch_model.specs.declared.latch.Policy.TheVariants.{Wait as policy_wait}
use Rattle.script.specs.declared.command.Command.TheVariants.{Begin, Wait, Release}
use Rattle.std.specs.Prelude.{[], None}
use Rattle.script.proofs.spelling.generated_for_one.Goals as goal

-- the generated name, whose number is spelled by its one digit
pub returns : goal.returns
returns c = ap (λ (d : List ℕ). Begin 1 (113 ∷ d) Acquire policy_wait None (first_latch ∷ second_latch ∷ []) ∷ Wait (113 ∷ d) ∷ Release (113 ∷ d) ∷ [])
    (decimal_digit 0 (omega arith))
