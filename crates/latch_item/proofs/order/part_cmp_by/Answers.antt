use Rattle.std.proofs.Common.{sym, ◌∙◌, arith}
use Rattle.std.specs.Ordering.{nat_cmp}
use Rattle.latch_item.specs.Items.{part}
use Rattle.latch_item.proofs.Rows.{kept, kept-back, valid-of}
use Rattle.latch_item.proofs.Comparing.{part-fits, agree-none, agree-more, differ-at}
use Rattle.latch_item.proofs.order.part_cmp_by.Goals as goal

pub returns-then-word-first-clause-order : goal.returns-then-word-first-clause-order
returns-then-word-first-clause-order c = λ x b.
    let p = part c.args.end x.span in
    let m = c.read_part-word.ensures.word x b in
    c.cmp.ensures ∙ (λ j. nat_cmp (m j) (c.requires.first j))
    ∙ sym (differ-at p c.args.bytes.now 0 (part-fits c.args.end x.span (valid-of c.args.seat.now.view c.args.a x b).span) c.requires.key (omega arith)
    (agree-none p c.args.bytes.now) (λ e. c.if-word-first.true (m ∙ e ∙ sym c.requires.first)))

pub second_part_cmp-requires-clause-first : goal.second_part_cmp-requires-clause-first
second_part_cmp-requires-clause-first c = λ x b'.
    let b = kept-back c.args.seat.now c.read_part-word.new.seat c.args.a x c.read_part-word.ensures.same b' in
    let p = part c.args.end x.span in
    agree-more p c.args.bytes.now 0 (agree-none p c.args.bytes.now) (sym (c.read_part-word.ensures.word x b) ∙ c.if-word-first.false
    ∙ c.requires.first)

pub returns-else-word-first-clause-order : goal.returns-else-word-first-clause-order
returns-else-word-first-clause-order c = λ x b.
    c.second_part_cmp.ensures.order x (kept c.args.seat.now c.read_part-word.new.seat c.args.a x c.read_part-word.ensures.same b)
