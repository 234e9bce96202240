use Rattle.std.proofs.Common.{◌≡◌, ◌∙◌, List, ap, subst}
use Rattle.std.specs.List.{All, Any}
use Rattle.latch_model.specs.Declaration.{Declaration}
use Rattle.latch_model.specs.Latches.{LiesInLatch}
use Rattle.latch_model.specs.declared.latch.Latch.{Latch}
use Rattle.waiter.specs.Says.{OptimistSays}
use Rattle.waiter.proofs.optimist.Optimist.check.Goals as goal

pub meet-requires-clause-lie : goal.meet-requires-clause-lie
meet-requires-clause-lie c =
    let declared : c.list.result.now ≡ c.args.self.now.r.request.latches =
    c.list.ensures.list ∙ (c.latches.ensures ∙ (ap (λ (d : Declaration). d.latches) c.self.invariant.request_is
    ∙ ap (λ (o : OptimistSays). o.r.request.latches) c.self.view_is)) in
    subst (λ (y : List Latch × List Latch). All (λ l. Any (LiesInLatch l) y.0) y.1) (λ i. (declared i, c.list-2.ensures.list i))
    (c.undeclared.ensures.lie c.in-None.is)
