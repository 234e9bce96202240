use Rattle.std.proofs.Common.{sym, ◌∙◌, arith}
use Rattle.std.specs.Ordering.{nat_cmp}
use Rattle.latch_item.specs.Items.{part}
use Rattle.latch_item.proofs.Rows.{kept, some-kept, valid-of}
use Rattle.latch_item.proofs.Comparing.{part-fits, agree-more, differ-at, same-words}
use Rattle.latch_item.proofs.order.later_parts_cmp.Goals as goal

pub loop-i-init : goal.loop-i-init
loop-i-init c = record { same = c.read_len-other_len.ensures.same ∙ c.read_len-len.ensures.same; alike = c.requires.two }

pub read_part-word-requires-clause-item : goal.read_part-word-requires-clause-item
read_part-word-requires-clause-item c = some-kept c.args.seat.now c.loop-i.seat c.args.a c.loop-i.invariant.same c.requires.one

pub read_part-other-requires-clause-item : goal.read_part-other-requires-clause-item
read_part-other-requires-clause-item c = some-kept c.args.seat.now c.read_part-word.new.seat c.args.b (c.read_part-word.ensures.same
    ∙ c.loop-i.invariant.same) c.requires.other

pub returns-then-word-other-clause-order : goal.returns-then-word-other-clause-order
returns-then-word-other-clause-order c = λ x y b d.
    let v = c.args.seat.now in let i = c.loop-i.i in
    let p = part c.args.a_end x.span in let q = part c.args.b_end y.span in
    let m = c.read_part-word.ensures.word x (kept v c.loop-i.seat c.args.a x c.loop-i.invariant.same b) in
    let n = c.read_part-other.ensures.word y (kept v c.read_part-word.new.seat c.args.b y (c.read_part-word.ensures.same ∙ c.loop-i.invariant.same) d) in
    c.cmp.ensures ∙ (λ j. nat_cmp (m j) (n j))
    ∙ sym (differ-at p q i (part-fits c.args.a_end x.span (valid-of v.view c.args.a x b).span)
    (part-fits c.args.b_end y.span (valid-of v.view c.args.b y d).span) (let t = c.loop-i-test.true in let w = c.words_to-i-end.ensures.low in omega arith)
    (c.loop-i.invariant.alike x y b d) (λ e. c.if-word-other.true (m ∙ e ∙ sym n)))

pub loop-i-preserved : goal.loop-i-preserved
loop-i-preserved c = record {
  same = c.read_part-other.ensures.same ∙ c.read_part-word.ensures.same ∙ c.loop-i.invariant.same;
  alike = λ x y b d.
      let v = c.args.seat.now in
      let m = c.read_part-word.ensures.word x (kept v c.loop-i.seat c.args.a x c.loop-i.invariant.same b) in
      let n = c.read_part-other.ensures.word y (kept v c.read_part-word.new.seat c.args.b y (c.read_part-word.ensures.same ∙ c.loop-i.invariant.same) d) in
      agree-more (part c.args.a_end x.span) (part c.args.b_end y.span) c.loop-i.i (c.loop-i.invariant.alike x y b d) (sym m ∙ c.if-word-other.false ∙ n);
}

pub returns-clause-order : goal.returns-clause-order
returns-clause-order c = λ x y b d.
    let v = c.args.seat.now in
    let p = part c.args.a_end x.span in let q = part c.args.b_end y.span in
    let m = c.read_len-len.ensures.len x b in
    let n = c.read_len-other_len.ensures.len y (kept v c.read_len-len.new.seat c.args.b y c.read_len-len.ensures.same d) in
    let least = c.min.ensures in
    c.cmp-2.ensures ∙ (λ j. nat_cmp (m j) (n j))
    ∙ sym (same-words p q c.loop-i.i c.min.result (part-fits c.args.a_end x.span (valid-of v.view c.args.a x b).span)
    (part-fits c.args.b_end y.span (valid-of v.view c.args.b y d).span) (c.loop-i.invariant.alike x y b d)
    (let t = c.loop-i-test.false in let w = c.words_to-i-end.ensures.enough in omega arith) (λ k low high. omega arith))
