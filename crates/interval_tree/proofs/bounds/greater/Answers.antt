use Rattle.std.proofs.Common.{ap, sym, ◌∙◌}
use Rattle.std.specs.Ordering.{is_lt}
use Rattle.latch_item.specs.Items.{item_of}
use Rattle.span_key.specs.Spans.{bound_cmp}
use Rattle.interval_tree.proofs.Greatest.{is-less, not-less, has-item, item-at, best-other, best-one}
use Rattle.interval_tree.proofs.bounds.greater.Goals as goal

pub bound_cmp-requires-clause-one : goal.bound_cmp-requires-clause-one
bound_cmp-requires-clause-one c = let (s, t, a, b) = c.requires.items in has-item c.args.seat.now.view s c.args.one a

pub bound_cmp-requires-clause-other : goal.bound_cmp-requires-clause-other
bound_cmp-requires-clause-other c = let (s, t, a, b) = c.requires.items in has-item c.args.seat.now.view t c.args.other b

pub returns-then-is_lt-clause-best : goal.returns-then-is_lt-clause-best
returns-then-is_lt-clause-best c = λ s t a b.
    let v = c.args.seat.now.view in
    let k = c.bound_cmp.ensures.order (item_of s) (item_of t) (item-at v s c.args.one a) (item-at v t c.args.other b) in
    best-other v s t c.args.other (is-less (bound_cmp (item_of s).span (item_of t).span) (ap is_lt (sym k) ∙ sym c.is_lt.ensures ∙ c.if-is_lt.true)) b

pub returns-else-is_lt-clause-best : goal.returns-else-is_lt-clause-best
returns-else-is_lt-clause-best c = λ s t a b.
    let v = c.args.seat.now.view in
    let k = c.bound_cmp.ensures.order (item_of s) (item_of t) (item-at v s c.args.one a) (item-at v t c.args.other b) in
    best-one v s t c.args.one (not-less (bound_cmp (item_of s).span (item_of t).span) (ap is_lt (sym k) ∙ sym c.is_lt.ensures ∙ c.if-is_lt.false)) a
