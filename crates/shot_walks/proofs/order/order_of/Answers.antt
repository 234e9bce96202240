use Rattle.std.proofs.Common.{length, ap, arith}
use Rattle.shot_walks.proofs.Orders.{order_counts}
use Rattle.shot_walks.proofs.order.order_of.Goals as goal

pub add_places-requires-clause-room : goal.add_places-requires-clause-room
add_places-requires-clause-room c =
    let all = order_counts c.args.latches.now in
    let few = c.requires.few in
    let none = ap length c.new-order.ensures in
    omega arith

pub add_places-requires-2-clause-room : goal.add_places-requires-2-clause-room
add_places-requires-2-clause-room c =
    let all = order_counts c.args.latches.now in
    let few = c.requires.few in
    let none = ap length c.new-order.ensures in
    let first = c.add_places.ensures.count in
    omega arith

pub add_places-requires-3-clause-room : goal.add_places-requires-3-clause-room
add_places-requires-3-clause-room c =
    let all = order_counts c.args.latches.now in
    let few = c.requires.few in
    let none = ap length c.new-order.ensures in
    let first = c.add_places.ensures.count in
    let second = c.add_places-2.ensures.count in
    omega arith

pub add_places-requires-4-clause-room : goal.add_places-requires-4-clause-room
add_places-requires-4-clause-room c =
    let all = order_counts c.args.latches.now in
    let few = c.requires.few in
    let none = ap length c.new-order.ensures in
    let first = c.add_places.ensures.count in
    let second = c.add_places-2.ensures.count in
    let third = c.add_places-3.ensures.count in
    omega arith
