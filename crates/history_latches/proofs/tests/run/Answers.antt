use Rattle.std.proofs.Common.{◌≤◌, ℕ, [], refl, sym, ◌∙◌, subst, arith}
use Rattle.history_latches.specs.Example.{three_sizes}
use Rattle.history_latches.proofs.tests.run.Goals as goal

pub begin_three-three-requires-clause-room : goal.begin_three-three-requires-clause-room
begin_three-three-requires-clause-room c =
    let free = c.free-free_before.ensures in
    subst (λ (n : ℕ). 26 ≤ n) (sym (free.all [] three_sizes c.in_ok-rows.ensures.holds refl) ∙ free.free) enough
  where
    enough : 26 ≤ 208
    enough = omega arith
