-- Worked examples of definitions.
use Rattle.std.specs.Prelude.{List, [], ◌∷◌, None, codes}
use Rattle.latch_model.specs.declared.latch.Access.TheVariants.{Read}
use Rattle.latch_model.specs.declared.latch.Latch.{Latch}
use Rattle.latch_model.specs.declared.latch.Mode.TheVariants.{Acquire}
use Rattle.latch_model.specs.declared.latch.Policy.TheVariants.{Wait as policy_wait}
use Rattle.script.specs.declared.command.Command.{Command}
use Rattle.script.specs.declared.command.Command.TheVariants.{Begin, Wait, Release}

-- r:610fd9@284 and r:61075f
abbrev pub first_latch : Latch
first_latch = record { access = Read; span = (97 ∷ 15 ∷ 217 ∷ [], []); stamp = record { wall = 284; logical = 0 } }

abbrev pub second_latch : Latch
second_latch = record { access = Read; span = (97 ∷ 7 ∷ 95 ∷ [], []); stamp = record { wall = 0; logical = 0 } }

-- The generated script of one request: acquire 1 q0 wait r:610fd9@284 r:61075f, wait q0, release q0.
abbrev pub first_generated : List Command
first_generated = Begin 1 (codes "q0") Acquire policy_wait None (first_latch ∷ second_latch ∷ []) ∷ Wait (codes "q0") ∷ Release (codes "q0") ∷ []
