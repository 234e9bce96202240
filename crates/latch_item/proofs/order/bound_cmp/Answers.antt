use Rattle.std.proofs.Common.{not, ap, ◌∙◌}
use Rattle.std.specs.Ordering.{ordering_then, bool_cmp}
use Rattle.span_key.specs.Spans.{key_cmp}
use Rattle.latch_item.specs.Items.{part}
use Rattle.latch_item.proofs.Rows.{kept}
use Rattle.latch_item.proofs.Comparing.{bound-part}
use Rattle.latch_item.proofs.order.bound_cmp.Goals as goal

pub returns-clause-order : goal.returns-clause-order
returns-clause-order c = λ x y b d.
    let v = c.args.seat.now in
    let two = c.is_point-a_point.ensures.same in let three = c.is_point-b_point.ensures.same ∙ two in
    let p = c.is_point-a_point.ensures.point x b in
    let q = c.is_point-b_point.ensures.point y (kept v c.is_point-a_point.new.seat c.args.b y two d) in
    let o = c.parts_cmp-by_bytes.ensures.order x y (kept v c.is_point-b_point.new.seat c.args.a x three b)
    (kept v c.is_point-b_point.new.seat c.args.b y three d) in
    let s = ap (λ z. part (not z) x.span) p ∙ bound-part x.span in
    let t = ap (λ z. part (not z) y.span) q ∙ bound-part y.span in
    c.then.ensures ∙ (λ i. ordering_then (o i) (c.cmp.ensures i)) ∙ (λ i. ordering_then (key_cmp (s i) (t i)) (bool_cmp (p i) (q i)))
