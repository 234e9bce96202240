use Rattle.std.proofs.Common.{◌&&◌, sym, ap, ◌∙◌}
use Rattle.span_key.specs.Spans.{key_lt, past}
use Rattle.span_key.proofs.SpanLaws.{overlap_answer}
use Rattle.latch_item.proofs.Rows.{kept, valid-of}
use Rattle.latch_item.proofs.order.item_overlaps.Goals as goal

pub returns-then-begins_before-clause-test : goal.returns-then-begins_before-clause-test
returns-then-begins_before-clause-test c = λ x b.
    let r = c.reaches.ensures.test x (kept c.args.seat.now c.begins_before.new.seat c.args.a x c.begins_before.ensures.same b) in
    r ∙ ap (λ z. z && key_lt c.args.span.now.0 (past x.span)) (sym c.if-begins_before.true ∙ c.begins_before.ensures.test x b)

pub returns-then-begins_before-clause-points : goal.returns-then-begins_before-clause-points
returns-then-begins_before-clause-points c = λ x b. overlap_answer c.reaches.result x.span c.args.span.now
    (valid-of c.args.seat.now.view c.args.a x b).span c.key-key.ensures.valid (returns-then-begins_before-clause-test c x b)

pub returns-else-begins_before-clause-test : goal.returns-else-begins_before-clause-test
returns-else-begins_before-clause-test c = λ x b. c.if-begins_before.false
    ∙ ap (λ z. z && key_lt c.args.span.now.0 (past x.span)) (sym c.if-begins_before.false ∙ c.begins_before.ensures.test x b)

pub returns-else-begins_before-clause-points : goal.returns-else-begins_before-clause-points
returns-else-begins_before-clause-points c = λ x b. overlap_answer c.begins_before.result x.span c.args.span.now
    (valid-of c.args.seat.now.view c.args.a x b).span c.key-key.ensures.valid (returns-else-begins_before-clause-test c x b)
