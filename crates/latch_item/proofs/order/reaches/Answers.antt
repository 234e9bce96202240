use Rattle.std.proofs.Common.{sym, ap, ◌∙◌}
use Rattle.std.specs.Ordering.{is_ge, is_gt}
use Rattle.span_key.specs.Spans.{key_cmp}
use Rattle.latch_item.proofs.Rows.{kept}
use Rattle.latch_item.proofs.Comparing.{reach-point, reach-range}
use Rattle.latch_item.proofs.order.reaches.Goals as goal

pub returns-then-is_point-clause-test : goal.returns-then-is_point-clause-test
returns-then-is_point-clause-test c = λ x b.
    let o = c.part_cmp.ensures.order x (kept c.args.seat.now c.is_point.new.seat c.args.a x c.is_point.ensures.same b) in
    c.is_ge.ensures ∙ ap is_ge (o ∙ ap (key_cmp x.span.0) (c.bytes-key.ensures.bytes ∙ c.key.ensures.key))
    ∙ reach-point x.span c.args.span.now.0 (sym c.if-is_point.true ∙ c.is_point.ensures.point x b)

pub returns-else-is_point-clause-test : goal.returns-else-is_point-clause-test
returns-else-is_point-clause-test c = λ x b.
    let o = c.part_cmp-else-is_point.ensures.order x (kept c.args.seat.now c.is_point.new.seat c.args.a x c.is_point.ensures.same b) in
    c.is_gt.ensures ∙ ap is_gt (o ∙ ap (key_cmp x.span.1) (c.bytes-key.ensures.bytes ∙ c.key.ensures.key))
    ∙ reach-range x.span c.args.span.now.0 (sym c.if-is_point.false ∙ c.is_point.ensures.point x b)
