use Rattle.std.proofs.Common.{◌≡◌, ◌+◌, ◌-◌, refl, ◌∙◌, subst, arith}
use Rattle.latch_item.specs.Puts.{Puts}
use Rattle.latch_item.proofs.Filling.{puts-start, puts-next}
use Rattle.latch_item.proofs.write.put_zeros.Goals as goal

pub loop-word-init : goal.loop-word-init
loop-word-init c = record {
  table = refl;
  follows = refl;
  puts = puts-start c.args.seat.now.view c.args.row c.args.from (c.args.from - c.args.from) (λ i. 0) (omega arith);
}

pub loop-word-preserved : goal.loop-word-preserved
loop-word-preserved c = record {
  table = c.put_word.ensures.same.0 ∙ c.loop-word.invariant.table;
  follows = c.put_word.ensures.same.1 ∙ c.loop-word.invariant.follows;
  puts = puts-next c.args.seat.now.view c.loop-word.seat.view c.put_word.new.seat.view c.args.row c.args.from c.loop-word.word
      (c.loop-word.word - c.args.from) (c.loop-word.word + 1 - c.args.from) 0 (λ i. 0) (omega arith) (omega arith) refl c.loop-word.invariant.puts
      c.put_word.ensures.put;
}

pub returns-clause-put : goal.returns-clause-put
returns-clause-put c = subst (λ n. Puts c.args.seat.now.view c.loop-word.seat.view c.args.row c.args.from (n - c.args.from) (λ i. 0))
    (let t = c.loop-word-test.false in let e : c.loop-word.word ≡ c.args.to = omega arith in e) c.loop-word.invariant.puts
