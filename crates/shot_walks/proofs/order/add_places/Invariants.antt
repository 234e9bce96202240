use Rattle.std.proofs.Common.{◌≡◌, ◌<◌, ◌++◌, ◌+◌, length, map, take}
use Rattle.std.specs.List.{All}
use Rattle.latch_model.specs.Histories.{those_of}
use Rattle.shot_walks.specs.Orders.{latch_at}
use Rattle.shot_walks.proofs.order.add_places.Given as goal

abbrev pub invariant-loop-k : goal.invariant-loop-k
invariant-loop-k l = record {
  added : map (latch_at l.latches) l.order.items ≡ map (latch_at l.latches) l.fn.order.items ++ those_of l.scope l.access (take l.k l.latches);
  count : length l.order.items ≡ length l.fn.order.items + length (those_of l.scope l.access (take l.k l.latches));
  inside : All (λ k. k < length l.latches) l.order.items;
}
