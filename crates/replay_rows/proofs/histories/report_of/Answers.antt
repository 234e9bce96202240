use Rattle.std.proofs.Common.{List, subst}
use Rattle.latch_model.specs.Legal.{IsLegal}
use Rattle.latch_model.specs.Recorded.{Recorded}
use Rattle.latch_model.specs.declared.history.Entry.{Entry}
use Rattle.replay_rows.proofs.histories.report_of.Goals as goal

pub render-requires : goal.render-requires
render-requires g c =
    let legal = c.legal_so_far.ensures.0 c.if-not-legal_so_far.false in
    subst (λ (h : Recorded). IsLegal h.entries h.sizes) c.history.view_is
    (subst (λ (es : List Entry). IsLegal es c.history.inside.sizes) c.as_slice.ensures.value legal)
