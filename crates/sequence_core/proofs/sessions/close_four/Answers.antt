use Rattle.std.proofs.Common.{ap, sym, ◌∙◌, subst}
use Rattle.latch_model.specs.Legal.{IsLegal}
use Rattle.latch_model.specs.Recorded.{Recorded}
use Rattle.waiter.specs.Says.{CoreId}
use Rattle.sequence_core.specs.Says.{HasEachPass}
use Rattle.sequence_core.proofs.Passes.{has_four}
use Rattle.sequence_core.proofs.sessions.close_four.Goals as goal

pub close-requires-clause-passes : goal.close-requires-clause-passes
close-requires-clause-passes g c =
    let r = c.requires in
    let table = ap (λ (d : CoreId). d.signals) (sym r.desk.0) in
    subst (HasEachPass c.args.desk) (sym c.in_a_list-passes.ensures)
    (has_four c.args.desk c.args.one c.args.two c.args.three c.args.four r.desk.1
    (record { same = r.one.0 ∙ table; number = r.one.1; idle = r.one.2 })
    (record { same = r.two.0 ∙ table; number = r.two.1; idle = r.two.2 })
    (record { same = r.three.0 ∙ table; number = r.three.1; idle = r.three.2 })
    (record { same = r.four.0 ∙ table; number = r.four.1; idle = r.four.2 }))

pub returns : goal.returns
returns g c = subst (λ (h : Recorded). IsLegal h.entries h.sizes) (sym c.close.ensures.history) c.close.ensures.legal
