use Rattle.std.proofs.Common.{sym, ◌∙◌, arith}
use Rattle.std.specs.Ordering.{nat_cmp}
use Rattle.latch_item.specs.Items.{part}
use Rattle.latch_item.proofs.Rows.{kept, kept-back, valid-of}
use Rattle.latch_item.proofs.Comparing.{part-fits, agree-more, differ-at}
use Rattle.latch_item.proofs.order.second_part_cmp.Goals as goal

pub returns-then-word-second-clause-order : goal.returns-then-word-second-clause-order
returns-then-word-second-clause-order c = λ x b.
    let p = part c.args.end x.span in
    let m = c.read_part-word.ensures.word x b in
    c.cmp.ensures ∙ (λ j. nat_cmp (m j) (c.requires.second j))
    ∙ sym (differ-at p c.args.bytes.now 1 (part-fits c.args.end x.span (valid-of c.args.seat.now.view c.args.a x b).span) c.requires.key (omega arith)
    (c.requires.first x b) (λ e. c.if-word-second.true (m ∙ e ∙ sym c.requires.second)))

pub later_part_cmp-requires-clause-two : goal.later_part_cmp-requires-clause-two
later_part_cmp-requires-clause-two c = λ x b'.
    let b = kept-back c.args.seat.now c.read_part-word.new.seat c.args.a x c.read_part-word.ensures.same b' in
    let p = part c.args.end x.span in
    agree-more p c.args.bytes.now 1 (c.requires.first x b) (sym (c.read_part-word.ensures.word x b) ∙ c.if-word-second.false
    ∙ c.requires.second)

pub returns-else-word-second-clause-order : goal.returns-else-word-second-clause-order
returns-else-word-second-clause-order c = λ x b.
    c.later_part_cmp.ensures.order x (kept c.args.seat.now c.read_part-word.new.seat c.args.a x c.read_part-word.ensures.same b)
