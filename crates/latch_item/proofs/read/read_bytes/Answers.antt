use Rattle.std.proofs.Common.{◌∙◌, arith}
use Rattle.latch_item.specs.Items.{part}
use Rattle.latch_item.proofs.Bytes.{bytes-from, put-more, all-put}
use Rattle.latch_item.proofs.Rows.{kept, valid-of}
use Rattle.latch_item.proofs.Comparing.{part-fits}
use Rattle.latch_item.proofs.read.read_bytes.Goals as goal

pub loop-i-preserved : goal.loop-i-preserved
loop-i-preserved c = record {
  same = c.read_part-word.ensures.same ∙ c.loop-i.invariant.same;
  room = c.copy_word.ensures.len ∙ c.loop-i.invariant.room;
  done = λ x b.
      put-more (part c.args.end x.span) c.loop-i.bytes c.copy_word.new.bytes c.loop-i.i c.read_part-word.result
      (bytes-from (part c.args.end x.span) (part-fits c.args.end x.span (valid-of c.args.seat.now.view c.args.a x b).span).bytes)
      (c.loop-i.invariant.done x b) c.copy_word.ensures.put
      (c.read_part-word.ensures.word x (kept c.args.seat.now c.loop-i.seat c.args.a x c.loop-i.invariant.same b));
}

pub returns-clause-bytes : goal.returns-clause-bytes
returns-clause-bytes c = λ x b.
    let n = c.read_len-len.ensures.len x b in (
      n,
      all-put (part c.args.end x.span) c.loop-i.bytes c.loop-i.i c.read_len-len.result (c.loop-i.invariant.done x b) n
          (let t = c.loop-i-test.false in omega arith),
    )
