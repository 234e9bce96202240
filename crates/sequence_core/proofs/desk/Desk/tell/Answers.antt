use Rattle.std.proofs.Common.{◌≡◌, ℕ, true, subst}
use Rattle.std.specs.List.{Contains}
use Rattle.latch_model.specs.Histories.{has_ended}
use Rattle.sequence_core.specs.Says.{DeskState}
use Rattle.sequence_core.proofs.desk.Desk.tell.Goals as goal

pub returns-clause-ended : goal.returns-clause-ended
returns-clause-ended c =
    subst (λ (d : DeskState). (p : ℕ) → Contains c.args.waiting.now.r.ended p → has_ended d.log p ≡ true) c.self.view_is c.tell.ensures.ended
