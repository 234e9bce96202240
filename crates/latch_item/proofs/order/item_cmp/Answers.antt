use Rattle.std.proofs.Common.{◌≡◌, true, false, sym, ap, ◌∙◌}
use Rattle.std.specs.Ordering.{nat_cmp, ordering_then, is_ne}
use Rattle.span_key.specs.Spans.{key_cmp}
use Rattle.latch_item.proofs.Rows.{kept}
use Rattle.latch_item.proofs.Comparing.{then-ne, then-eq}
use Rattle.latch_item.proofs.order.item_cmp.Goals as goal

pub returns-then-is_ne-clause-order : goal.returns-then-is_ne-clause-order
returns-then-is_ne-clause-order c = λ x y b d.
    let k = c.parts_cmp-by_key.ensures.order x y b d in
    let n : is_ne (key_cmp x.span.0 y.span.0) ≡ true = ap is_ne (sym k) ∙ sym c.is_ne.ensures ∙ c.if-is_ne.true in
    k ∙ then-ne (key_cmp x.span.0 y.span.0) (ordering_then (key_cmp x.span.1 y.span.1) (ordering_then (nat_cmp x.id y.id) (nat_cmp x.place y.place))) n

pub returns-then-is_ne-2-clause-order : goal.returns-then-is_ne-2-clause-order
returns-then-is_ne-2-clause-order c = λ x y b d.
    let v = c.args.seat.now in let two = c.parts_cmp-by_key.ensures.same in
    let k = c.parts_cmp-by_key.ensures.order x y b d in
    let e = c.parts_cmp-by_end.ensures.order x y (kept v c.parts_cmp-by_key.new.seat c.args.a x two b) (kept v c.parts_cmp-by_key.new.seat c.args.b y two d) in
    let n : is_ne (key_cmp x.span.0 y.span.0) ≡ false = ap is_ne (sym k) ∙ sym c.is_ne.ensures ∙ c.if-is_ne.false in
    let m : is_ne (key_cmp x.span.1 y.span.1) ≡ true = ap is_ne (sym e) ∙ sym c.is_ne-2.ensures ∙ c.if-is_ne-2.true in
    e ∙ then-ne (key_cmp x.span.1 y.span.1) (ordering_then (nat_cmp x.id y.id) (nat_cmp x.place y.place)) m
    ∙ then-eq (key_cmp x.span.0 y.span.0) (ordering_then (key_cmp x.span.1 y.span.1) (ordering_then (nat_cmp x.id y.id) (nat_cmp x.place y.place))) n

pub returns-clause-order : goal.returns-clause-order
returns-clause-order c = λ x y b d.
    let v = c.args.seat.now in let two = c.parts_cmp-by_key.ensures.same in let three = c.parts_cmp-by_end.ensures.same ∙ two in
    let k = c.parts_cmp-by_key.ensures.order x y b d in
    let e = c.parts_cmp-by_end.ensures.order x y (kept v c.parts_cmp-by_key.new.seat c.args.a x two b) (kept v c.parts_cmp-by_key.new.seat c.args.b y two d) in
    let o = c.ids_cmp.ensures.order x y (kept v c.parts_cmp-by_end.new.seat c.args.a x three b) (kept v c.parts_cmp-by_end.new.seat c.args.b y three d) in
    let n : is_ne (key_cmp x.span.0 y.span.0) ≡ false = ap is_ne (sym k) ∙ sym c.is_ne.ensures ∙ c.if-is_ne.false in
    let m : is_ne (key_cmp x.span.1 y.span.1) ≡ false = ap is_ne (sym e) ∙ sym c.is_ne-2.ensures ∙ c.if-is_ne-2.false in
    o ∙ then-eq (key_cmp x.span.1 y.span.1) (ordering_then (nat_cmp x.id y.id) (nat_cmp x.place y.place)) m
    ∙ then-eq (key_cmp x.span.0 y.span.0) (ordering_then (key_cmp x.span.1 y.span.1) (ordering_then (nat_cmp x.id y.id) (nat_cmp x.place y.place))) n
