use Rattle.std.proofs.Common.{ap, ◌∙◌}
use Rattle.latch_model.specs.Histories.{HeldLatch}
use Rattle.latch_shots.proofs.met.MetLatch.span.Goals as goal

pub returns-clause-span : goal.returns-clause-span
returns-clause-span c = λ x m. c.item_span.ensures.span m.item m.here ∙ ap (λ (h : HeldLatch). h.latch.span) m.says
