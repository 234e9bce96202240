use Rattle.std.proofs.Common.{◌∙◌, ℕ, subst}
use Rattle.held_latches.specs.Holding.{HasSpare}
use Rattle.held_latches.specs.Lists.{no_lists}
use Rattle.held_latches.proofs.tests.one_latch.Goals as goal

pub begin-shots-requires-clause-fresh : goal.begin-shots-requires-clause-fresh
begin-shots-requires-clause-fresh c =
    let h = c.in_ok-rows.ensures.held.1 in
    let free = c.free-free_before.ensures in
    subst (λ (k : ℕ). HasSpare c.in_ok-rows.held no_lists 0 k) (free.all h ∙ c.in_ok-rows.ensures.sizes.0) (free.spare no_lists 0 h)
