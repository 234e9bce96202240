use Rattle.std.proofs.Common.{◌+◌, slice_index, refl, ◌∙◌}
use Rattle.latch_item.proofs.Filling.{puts-start, puts-next}
use Rattle.latch_item.proofs.write.put_head.Goals as goal

pub loop-i-init : goal.loop-i-init
loop-i-init c = record { table = refl; follows = refl; puts = puts-start c.args.seat.now.view c.args.row 2 0 (slice_index c.args.head.now) refl }

pub loop-i-preserved : goal.loop-i-preserved
loop-i-preserved c = record {
  table = c.put_word.ensures.same.0 ∙ c.loop-i.invariant.table;
  follows = c.put_word.ensures.same.1 ∙ c.loop-i.invariant.follows;
  puts = puts-next c.args.seat.now.view c.loop-i.seat.view c.put_word.new.seat.view c.args.row 2 (2 + c.loop-i.i) c.loop-i.i (c.loop-i.i + 1)
      (slice_index c.args.head.now c.loop-i.i) (slice_index c.args.head.now) refl refl refl c.loop-i.invariant.puts c.put_word.ensures.put;
}
