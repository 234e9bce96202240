use Rattle.std.proofs.Common.{◌≡◌, ◌∙◌, [], ap}
use Rattle.latch_model.specs.Histories.{open_begins}
use Rattle.sequence_core.specs.Counted.{metrics_of}
use Rattle.sequence_core.specs.Says.{DeskState}
use Rattle.sequence_core.specs.declared.metrics.Metrics.{Metrics}
use Rattle.sequence_core.proofs.desk.Desk.metrics.Goals as goal

pub returns-clause-counts : goal.returns-clause-counts
returns-clause-counts c =
    let log = c.self.inside.seat.log in
    let sizes = c.self.inside.sizes in
    let rests = c.self.invariant in
    let global = c.counts.ensures log sizes rests.kept.holds rests.legal in
    let local = c.counts-2.ensures log sizes rests.kept.holds rests.legal in
    let made : ◌≡◌ {A = Metrics} (record { global = c.counts.result; local = c.counts-2.result; free = c.free.result }) (metrics_of log c.free.result) =
    λ i. record { global = global i; local = local i; free = c.free.result } in
    made ∙ (ap (metrics_of log) c.free.ensures.free ∙ ap (λ (d : DeskState). metrics_of d.log d.free) c.self.view_is)

pub returns-clause-all : goal.returns-clause-all
returns-clause-all c none =
    let idle : open_begins c.self.inside.seat.log ≡ [] = ap (λ (d : DeskState). open_begins d.log) c.self.view_is ∙ none in
    c.free.ensures.all c.self.inside.seat.log c.self.inside.sizes c.self.invariant.kept.holds idle ∙ ap (λ (d : DeskState). d.sizes.rows) c.self.view_is
