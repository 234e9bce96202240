use Rattle.std.proofs.Common.{◌∷◌, [], ◌++◌, sym, subst}
use Rattle.std.proofs.lemmas.Result.{IfOk-weaker}
use Rattle.std.specs.Prelude.{IfErr}
use Rattle.latch_model.specs.Declaration.{Declaration}
use Rattle.latch_model.specs.declared.latch.Mode.{Mode}
use Rattle.latch_model.specs.declared.latch.Mode.TheVariants.{Acquire, Look, Optimistic}
use Rattle.sequence_core.specs.Says.{LacksRows}
use Rattle.step_run.specs.Faults.{StopsBy}
use Rattle.replay.specs.Blocks.{new_block}
use Rattle.replay.specs.Sessions.{Standing}
use Rattle.replay.proofs.session.begin.Goals as goal

pub returns-in-Acquire-clause-stands : goal.returns-in-Acquire-clause-stands
returns-in-Acquire-clause-stands g c =
    IfOk-weaker c.acquire.result _ _ (λ next f bs s.
    subst
    (λ (m : Mode). Standing g.N.Making.made.core c.acquire.new.pass.p
    (bs ++ new_block c.args.line m c.args.policy c.args.turns c.args.latches.now ∷ []) next)
    (sym c.in-Acquire.is) (f bs c.args.line c.args.policy c.args.latches.now c.in_ok-request.ensures s)) c.acquire.ensures.stands

pub returns-in-Optimistic-clause-stands : goal.returns-in-Optimistic-clause-stands
returns-in-Optimistic-clause-stands g c =
    IfOk-weaker c.optimistic.result _ _ (λ next f bs s.
    subst
    (λ (m : Mode). Standing g.N.Making.made.core c.optimistic.new.pass.p
    (bs ++ new_block c.args.line m c.args.policy c.args.turns c.args.latches.now ∷ []) next)
    (sym c.in-Optimistic.is) (f bs c.args.line c.args.policy c.args.turns c.args.latches.now c.in_ok-request.ensures s)) c.optimistic.ensures.stands

pub returns-in-Look-clause-stands : goal.returns-in-Look-clause-stands
returns-in-Look-clause-stands g c =
    IfOk-weaker c.look.result _ _ (λ next f bs s.
    subst
    (λ (m : Mode). Standing g.N.Making.made.core c.look.new.pass.p
    (bs ++ new_block c.args.line m c.args.policy c.args.turns c.args.latches.now ∷ []) next)
    (sym c.in-Look.is) (f bs c.args.line c.args.policy c.args.latches.now c.in_ok-request.ensures s)) c.look.ensures.stands

pub returns-in-Acquire-clause-stops : goal.returns-in-Acquire-clause-stops
returns-in-Acquire-clause-stops g c =
    subst (λ (m : Mode). IfErr c.acquire.result (StopsBy (LacksRows m c.args.latches.now))) (sym c.in-Acquire.is)
    (subst (λ (r : Declaration). IfErr c.acquire.result (StopsBy (LacksRows Acquire r.latches))) c.in_ok-request.ensures c.acquire.ensures.stops)

pub returns-in-Optimistic-clause-stops : goal.returns-in-Optimistic-clause-stops
returns-in-Optimistic-clause-stops g c =
    subst (λ (m : Mode). IfErr c.optimistic.result (StopsBy (LacksRows m c.args.latches.now))) (sym c.in-Optimistic.is)
    (subst (λ (r : Declaration). IfErr c.optimistic.result (StopsBy (LacksRows Optimistic r.latches))) c.in_ok-request.ensures c.optimistic.ensures.stops)

pub returns-in-Look-clause-stops : goal.returns-in-Look-clause-stops
returns-in-Look-clause-stops g c =
    subst (λ (m : Mode). IfErr c.look.result (StopsBy (LacksRows m c.args.latches.now))) (sym c.in-Look.is)
    (subst (λ (r : Declaration). IfErr c.look.result (StopsBy (LacksRows Look r.latches))) c.in_ok-request.ensures c.look.ensures.stops)
