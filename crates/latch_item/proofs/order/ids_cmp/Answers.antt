use Rattle.std.proofs.Common.{sym, ◌∙◌}
use Rattle.std.specs.Ordering.{nat_cmp}
use Rattle.latch_item.proofs.Rows.{kept}
use Rattle.latch_item.proofs.Comparing.{ids-apart, ids-same}
use Rattle.latch_item.proofs.order.ids_cmp.Goals as goal

pub returns-then-id-other_id-clause-order : goal.returns-then-id-other_id-clause-order
returns-then-id-other_id-clause-order c = λ x y b d.
    let p = c.read_word-id.ensures.word x b in
    let q = c.read_word-other_id.ensures.word y (kept c.args.seat.now c.read_word-id.new.seat c.args.b y c.read_word-id.ensures.same d) in
    c.cmp.ensures ∙ (λ i. nat_cmp (p i) (q i)) ∙ ids-apart x.id y.id x.place y.place (λ e. c.if-id-other_id.true (p ∙ e ∙ sym q))

pub returns-clause-order : goal.returns-clause-order
returns-clause-order c = λ x y b d.
    let v = c.args.seat.now in
    let two = c.read_word-id.ensures.same in let three = c.read_word-other_id.ensures.same ∙ two in let four = c.read_word-place.ensures.same ∙ three in
    let p = c.read_word-id.ensures.word x b in
    let q = c.read_word-other_id.ensures.word y (kept v c.read_word-id.new.seat c.args.b y two d) in
    let m = c.read_word-place.ensures.word x (kept v c.read_word-other_id.new.seat c.args.a x three b) in
    let n = c.read_word-other_place.ensures.word y (kept v c.read_word-place.new.seat c.args.b y four d) in
    c.cmp-2.ensures ∙ (λ i. nat_cmp (m i) (n i)) ∙ ids-same x.id y.id x.place y.place (sym p ∙ c.if-id-other_id.false ∙ q)
