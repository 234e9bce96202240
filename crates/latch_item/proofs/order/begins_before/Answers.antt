use Rattle.std.proofs.Common.{ap, ◌∙◌}
use Rattle.std.specs.Ordering.{is_lt, is_le}
use Rattle.span_key.specs.Spans.{key_cmp}
use Rattle.latch_item.proofs.Comparing.{before-range, before-point}
use Rattle.latch_item.proofs.order.begins_before.Goals as goal

pub returns-in-Some-clause-test : goal.returns-in-Some-clause-test
returns-in-Some-clause-test c = λ x b. c.is_lt.ensures ∙ ap is_lt (c.part_cmp.ensures.order x b
    ∙ ap (key_cmp x.span.0) (c.bytes.ensures.bytes ∙ c.in-Some.ensures.end.0)) ∙ before-range x.span c.args.span.now c.in-Some.ensures.end.1

pub returns-in-None-clause-test : goal.returns-in-None-clause-test
returns-in-None-clause-test c = λ x b. c.is_le.ensures ∙ ap is_le (c.part_cmp-in-None.ensures.order x b
    ∙ ap (key_cmp x.span.0) (c.bytes-in-None.ensures.bytes ∙ c.key.ensures.key)) ∙ before-point x.span c.args.span.now c.in-None.ensures.end
