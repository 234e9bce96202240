use Rattle.std.proofs.Common.{◌≡◌, ◌+◌, ◌*◌, sym, ap, ◌∙◌, arith}
use Rattle.latch_item.specs.Bytes.{byte, number, skip}
use Rattle.latch_item.proofs.Bytes.{skip-add, number-more, power-low, power-more}
use Rattle.latch_item.proofs.words.short_word.Goals as goal

pub overflow_mul-word : goal.overflow_mul-word
overflow_mul-word c = let a = c.loop-k.invariant.low in let b = power-low c.loop-k.k (let t = c.loop-k-test.true in omega arith) in omega arith

pub overflow_add-word : goal.overflow_add-word
overflow_add-word c =
    let a = c.loop-k.invariant.low in let b = power-low c.loop-k.k (let t = c.loop-k-test.true in omega arith) in let d = c.byte_at.ensures.low in omega arith

pub loop-k-preserved : goal.loop-k-preserved
loop-k-preserved c =
    let k = c.loop-k.k in let bs = c.args.bytes.now in
    let b : c.byte_at.result ≡ byte (skip k (skip c.args.at bs)) = c.byte_at.ensures.byte ∙ ap byte (sym (skip-add c.args.at k bs)) in
    record {
      is = (λ j. c.loop-k.invariant.is j * 256 + b j) ∙ sym (number-more k (skip c.args.at bs));
      low = power-more k c.loop-k.word c.byte_at.result c.loop-k.invariant.low c.byte_at.ensures.low;
    }

pub returns : goal.returns
returns c = c.loop-k.invariant.is ∙ ap (λ n. number n (skip c.args.at c.args.bytes.now)) (let a = c.loop-k-test.false in
    let e : c.loop-k.k ≡ 8 = omega arith in e)
