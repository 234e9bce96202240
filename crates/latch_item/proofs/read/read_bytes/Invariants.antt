use Rattle.std.proofs.Common.{◌≡◌, ◌*◌, length, take}
use Rattle.latch_item.specs.Items.{Item, HasItem, part}
use Rattle.latch_item.proofs.Packing.{padded}
use Rattle.latch_item.proofs.read.read_bytes.Given as goal

abbrev pub invariant-loop-i : goal.invariant-loop-i
invariant-loop-i l = record {
  same : l.seat ≡ l.fn.seat;
  room : length l.bytes ≡ 256;
  done : (x : Item) → HasItem l.fn.seat.view l.a x → take (l.i * 8) l.bytes ≡ padded (l.i * 8) (part l.end x.span);
}
