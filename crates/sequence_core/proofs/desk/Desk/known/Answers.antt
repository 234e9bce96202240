use Rattle.std.proofs.Common.{subst}
use Rattle.latch_model.specs.Legal.{IsLegal}
use Rattle.sequence_core.specs.Says.{DeskState}
use Rattle.sequence_core.proofs.desk.Desk.known.Goals as goal

pub returns-clause-legal : goal.returns-clause-legal
returns-clause-legal c = subst (λ (d : DeskState). IsLegal d.log d.sizes) c.self.view_is c.self.invariant.legal
