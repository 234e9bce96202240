use Rattle.std.proofs.Common.{◌≡◌, ◌+◌, ◌-◌, refl, ◌∙◌, arith}
use Rattle.latch_item.specs.Bytes.{key_word}
use Rattle.latch_item.proofs.Filling.{puts-start, puts-next, puts-key}
use Rattle.latch_item.proofs.write.put_bytes.Goals as goal

pub loop-i-init : goal.loop-i-init
loop-i-init c = record { table = refl; follows = refl; puts = puts-start c.args.seat.now.view c.args.row c.args.from 0 (key_word c.args.bytes.now) refl }

pub loop-i-preserved : goal.loop-i-preserved
loop-i-preserved c = record {
  table = c.put_word.ensures.same.0 ∙ c.loop-i.invariant.table;
  follows = c.put_word.ensures.same.1 ∙ c.loop-i.invariant.follows;
  puts = puts-next c.args.seat.now.view c.loop-i.seat.view c.put_word.new.seat.view c.args.row c.args.from (c.args.from + c.loop-i.i) c.loop-i.i
      (c.loop-i.i + 1) c.key_word-value.result (key_word c.args.bytes.now) refl refl c.key_word-value.ensures c.loop-i.invariant.puts
      c.put_word.ensures.put;
}

pub returns-clause-put : goal.returns-clause-put
returns-clause-put c =
    let i = c.loop-i.i in
    let all : i ≡ c.words_to-words.result = let t = c.loop-i-test.false in omega arith in
    let b = c.args.from + c.words_to-words.result in
    puts-key c.args.seat.now.view c.loop-i.seat.view c.put_zeros.new.seat.view c.args.row c.args.from i b (c.args.from + 32 - b) c.args.bytes.now
    (omega arith) (let h = c.words_to-words.ensures.low in omega arith) (let h = c.words_to-words.ensures.enough in omega arith) c.loop-i.invariant.puts
    c.put_zeros.ensures.put
