use Rattle.std.proofs.Common.{sym, ap, ◌∙◌}
use Rattle.std.specs.Ordering.{is_lt, is_gt}
use Rattle.span_key.specs.Spans.{key_cmp}
use Rattle.latch_item.proofs.Rows.{kept, valid-of}
use Rattle.latch_item.proofs.Sides.{less-point, less-ends, less-meets, equal-meets, greater-point, greater-past, greater-meets}
use Rattle.latch_item.proofs.order.side_of.Goals as goal

pub returns-then-is_point-clause-side : goal.returns-then-is_point-clause-side
returns-then-is_point-clause-side c = λ x b.
    let e = sym (c.part_cmp_by.ensures.order x b ∙ ap (key_cmp x.span.0) (c.bytes-key.ensures.bytes ∙ c.key.ensures.key)) ∙ c.in-Less.is in
    let p = c.is_point.ensures.point x (kept c.args.seat.now c.part_cmp_by.new.seat c.args.a x c.part_cmp_by.ensures.same b) in
    less-point x.span c.args.span.now e (sym c.if-is_point.true ∙ p)

pub returns-then-is_gt-clause-side : goal.returns-then-is_gt-clause-side
returns-then-is_gt-clause-side c = λ x b.
    let k = c.bytes-key.ensures.bytes ∙ c.key.ensures.key in
    let e = sym (c.part_cmp_by.ensures.order x b ∙ ap (key_cmp x.span.0) k) ∙ c.in-Less.is in
    let p = c.is_point.ensures.point x (kept c.args.seat.now c.part_cmp_by.new.seat c.args.a x c.part_cmp_by.ensures.same b) in
    let same = c.is_point.ensures.same ∙ c.part_cmp_by.ensures.same in
    let o = c.part_cmp_by-else-is_point.ensures.order x (kept c.args.seat.now c.is_point.new.seat c.args.a x same b) in
    less-meets x.span c.args.span.now c.key.ensures.valid e (sym c.if-is_point.false ∙ p)
    (sym (ap is_gt (o ∙ ap (key_cmp x.span.1) k)) ∙ sym c.is_gt.ensures ∙ c.if-is_gt.true)

pub returns-else-is_gt-clause-side : goal.returns-else-is_gt-clause-side
returns-else-is_gt-clause-side c = λ x b.
    let k = c.bytes-key.ensures.bytes ∙ c.key.ensures.key in
    let p = c.is_point.ensures.point x (kept c.args.seat.now c.part_cmp_by.new.seat c.args.a x c.part_cmp_by.ensures.same b) in
    let same = c.is_point.ensures.same ∙ c.part_cmp_by.ensures.same in
    let o = c.part_cmp_by-else-is_point.ensures.order x (kept c.args.seat.now c.is_point.new.seat c.args.a x same b) in
    less-ends x.span c.args.span.now (sym c.if-is_point.false ∙ p) (sym (ap is_gt (o ∙ ap (key_cmp x.span.1) k)) ∙ sym c.is_gt.ensures ∙ c.if-is_gt.false)

pub returns-in-Equal-clause-side : goal.returns-in-Equal-clause-side
returns-in-Equal-clause-side c = λ x b.
    let e = sym (c.part_cmp_by.ensures.order x b ∙ ap (key_cmp x.span.0) (c.bytes-key.ensures.bytes ∙ c.key.ensures.key)) ∙ c.in-Equal.is in
    equal-meets x.span c.args.span.now (valid-of c.args.seat.now.view c.args.a x b).span c.key.ensures.valid e

pub returns-then-is_lt-clause-side : goal.returns-then-is_lt-clause-side
returns-then-is_lt-clause-side c = λ x b.
    let e = sym (c.part_cmp_by.ensures.order x b ∙ ap (key_cmp x.span.0) (c.bytes-key.ensures.bytes ∙ c.key.ensures.key)) ∙ c.in-Greater.is in
    let o = c.part_cmp.ensures.order x (kept c.args.seat.now c.part_cmp_by.new.seat c.args.a x c.part_cmp_by.ensures.same b)
    ∙ ap (key_cmp x.span.0) (c.bytes.ensures.bytes ∙ c.in-Some.ensures.end.0) in
    greater-meets x.span c.args.span.now (valid-of c.args.seat.now.view c.args.a x b).span e c.in-Some.ensures.end.1
    (sym (ap is_lt o) ∙ sym c.is_lt.ensures ∙ c.if-is_lt.true)

pub returns-else-is_lt-clause-side : goal.returns-else-is_lt-clause-side
returns-else-is_lt-clause-side c = λ x b.
    let e = sym (c.part_cmp_by.ensures.order x b ∙ ap (key_cmp x.span.0) (c.bytes-key.ensures.bytes ∙ c.key.ensures.key)) ∙ c.in-Greater.is in
    let o = c.part_cmp.ensures.order x (kept c.args.seat.now c.part_cmp_by.new.seat c.args.a x c.part_cmp_by.ensures.same b)
    ∙ ap (key_cmp x.span.0) (c.bytes.ensures.bytes ∙ c.in-Some.ensures.end.0) in
    greater-past x.span c.args.span.now (valid-of c.args.seat.now.view c.args.a x b).span e c.in-Some.ensures.end.1
    (sym (ap is_lt o) ∙ sym c.is_lt.ensures ∙ c.if-is_lt.false)

pub returns-in-None-clause-side : goal.returns-in-None-clause-side
returns-in-None-clause-side c = λ x b.
    let e = sym (c.part_cmp_by.ensures.order x b ∙ ap (key_cmp x.span.0) (c.bytes-key.ensures.bytes ∙ c.key.ensures.key)) ∙ c.in-Greater.is in
    greater-point x.span c.args.span.now (valid-of c.args.seat.now.view c.args.a x b).span e c.in-None.ensures.end
