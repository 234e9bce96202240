use Rattle.std.proofs.Common.{◌≡◌, length, sym, ◌∙◌, arith}
use Rattle.std.specs.Ordering.{nat_cmp}
use Rattle.latch_item.specs.Items.{part}
use Rattle.latch_item.proofs.Rows.{kept, some-kept, valid-of}
use Rattle.latch_item.proofs.Comparing.{part-fits, agree-more, differ-at, same-words}
use Rattle.latch_item.proofs.order.later_part_cmp.Goals as goal

pub loop-i-init : goal.loop-i-init
loop-i-init c = record { same = c.read_len-len.ensures.same; alike = c.requires.two }

pub read_part-word-requires-clause-item : goal.read_part-word-requires-clause-item
read_part-word-requires-clause-item c = some-kept c.args.seat.now c.loop-i.seat c.args.a c.loop-i.invariant.same c.requires.item

pub returns-then-word-other-clause-order : goal.returns-then-word-other-clause-order
returns-then-word-other-clause-order c = λ x b.
    let i = c.loop-i.i in
    let p = part c.args.end x.span in
    let m = c.read_part-word.ensures.word x (kept c.args.seat.now c.loop-i.seat c.args.a x c.loop-i.invariant.same b) in
    c.cmp.ensures ∙ (λ j. nat_cmp (m j) (c.key_word-other.ensures j))
    ∙ sym (differ-at p c.args.bytes.now i (part-fits c.args.end x.span (valid-of c.args.seat.now.view c.args.a x b).span) c.requires.key
    (let t = c.loop-i-test.true in let w = c.words_to-i-end.ensures.low in omega arith)
    (c.loop-i.invariant.alike x b) (λ e. c.if-word-other.true (m ∙ e ∙ sym c.key_word-other.ensures)))

pub loop-i-preserved : goal.loop-i-preserved
loop-i-preserved c = record {
  same = c.read_part-word.ensures.same ∙ c.loop-i.invariant.same;
  alike = λ x b.
      let m = c.read_part-word.ensures.word x (kept c.args.seat.now c.loop-i.seat c.args.a x c.loop-i.invariant.same b) in
      agree-more (part c.args.end x.span) c.args.bytes.now c.loop-i.i (c.loop-i.invariant.alike x b) (sym m ∙ c.if-word-other.false
      ∙ c.key_word-other.ensures);
}

pub returns-clause-order : goal.returns-clause-order
returns-clause-order c = λ x b.
    let p = part c.args.end x.span in
    let m : c.read_len-len.result ≡ length p = c.read_len-len.ensures.len x b in
    let least = c.min.ensures in
    c.cmp-2.ensures ∙ (λ j. nat_cmp (m j) (length c.args.bytes.now))
    ∙ sym (same-words p c.args.bytes.now c.loop-i.i c.min.result (part-fits c.args.end x.span (valid-of c.args.seat.now.view c.args.a x b).span)
    c.requires.key (c.loop-i.invariant.alike x b) (let t = c.loop-i-test.false in let w = c.words_to-i-end.ensures.enough in omega arith)
    (λ k low high. omega arith))
