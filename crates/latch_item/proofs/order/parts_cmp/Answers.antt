use Rattle.std.proofs.Common.{sym, ◌∙◌, arith}
use Rattle.std.specs.Ordering.{nat_cmp}
use Rattle.latch_item.specs.Items.{part}
use Rattle.latch_item.proofs.Rows.{kept, kept-back, valid-of}
use Rattle.latch_item.proofs.Comparing.{part-fits, agree-none, agree-more, differ-at}
use Rattle.latch_item.proofs.order.parts_cmp.Goals as goal

pub returns-then-word-other-clause-order : goal.returns-then-word-other-clause-order
returns-then-word-other-clause-order c = λ x y b d.
    let v = c.args.seat.now in
    let p = part c.args.a_end x.span in let q = part c.args.b_end y.span in
    let m = c.read_part-word.ensures.word x b in
    let n = c.read_part-other.ensures.word y (kept v c.read_part-word.new.seat c.args.b y c.read_part-word.ensures.same d) in
    c.cmp.ensures ∙ (λ j. nat_cmp (m j) (n j))
    ∙ sym (differ-at p q 0 (part-fits c.args.a_end x.span (valid-of v.view c.args.a x b).span)
    (part-fits c.args.b_end y.span (valid-of v.view c.args.b y d).span) (omega arith) (agree-none p q) (λ e. c.if-word-other.true (m ∙ e ∙ sym n)))

pub second_parts_cmp-requires-clause-first : goal.second_parts_cmp-requires-clause-first
second_parts_cmp-requires-clause-first c = λ x y b' d'.
    let v = c.args.seat.now in
    let same = c.read_part-other.ensures.same ∙ c.read_part-word.ensures.same in
    let b = kept-back v c.read_part-other.new.seat c.args.a x same b' in
    let d = kept-back v c.read_part-other.new.seat c.args.b y same d' in
    let p = part c.args.a_end x.span in let q = part c.args.b_end y.span in
    let m = c.read_part-word.ensures.word x b in
    let n = c.read_part-other.ensures.word y (kept v c.read_part-word.new.seat c.args.b y c.read_part-word.ensures.same d) in
    agree-more p q 0 (agree-none p q) (sym m ∙ c.if-word-other.false ∙ n)

pub returns-else-word-other-clause-order : goal.returns-else-word-other-clause-order
returns-else-word-other-clause-order c = λ x y b d.
    let v = c.args.seat.now in
    let same = c.read_part-other.ensures.same ∙ c.read_part-word.ensures.same in
    c.second_parts_cmp.ensures.order x y (kept v c.read_part-other.new.seat c.args.a x same b) (kept v c.read_part-other.new.seat c.args.b y same d)
