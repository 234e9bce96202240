use Rattle.std.proofs.Common.{arith}
use Rattle.interval_tree.proofs.Copying.{plan, plan-most, plan-first, plan-second, plan-leaf, plan-inner}
use Rattle.interval_tree.proofs.nodes.copy_node.Goals as goal

pub overflow_add-n : goal.overflow_add-n
overflow_add-n c =
    let (h, xs, ref, node, k, m, o, few) = c.requires.node in let low = plan-most c.args.seat.now.view c.args.row c.args.n h xs node m in omega arith

pub copy_links-requires-clause-links : goal.copy_links-requires-clause-links
copy_links-requires-clause-links c =
    let (h, xs, ref, node, k, m, o, few) = c.requires.node in
    let v = c.args.seat.now.view in let row = c.args.row in let copy = c.args.copy in
    plan-first v row copy c.args.kind c.args.n (plan v row copy c.args.kind c.args.n h xs ref node k m o few)

pub overflow_add-n-then-kind-eq3 : goal.overflow_add-n-then-kind-eq3
overflow_add-n-then-kind-eq3 c =
    let (h, xs, ref, node, k, m, o, few) = c.requires.node in let low = plan-most c.args.seat.now.view c.args.row c.args.n h xs node m in omega arith

pub copy_links-requires-then-kind-eq3-clause-links : goal.copy_links-requires-then-kind-eq3-clause-links
copy_links-requires-then-kind-eq3-clause-links c =
    let (h, xs, ref, node, k, m, o, few) = c.requires.node in
    let v = c.args.seat.now.view in let row = c.args.row in let copy = c.args.copy in
    plan-second v c.copy_links.new.seat.view row copy c.args.kind c.args.n (plan v row copy c.args.kind c.args.n h xs ref node k m o few) c.if-kind-eq3.true
    c.copy_links.ensures.node c.copy_links.ensures.same.1

pub returns-then-kind-eq3-clause-node : goal.returns-then-kind-eq3-clause-node
returns-then-kind-eq3-clause-node c =
    let (h, xs, ref, node, k, m, o, few) = c.requires.node in
    let v = c.args.seat.now.view in let row = c.args.row in let copy = c.args.copy in
    plan-inner v c.copy_links.new.seat.view c.copy_links-then-kind-eq3.new.seat.view row copy c.args.kind c.args.n
    (plan v row copy c.args.kind c.args.n h xs ref node k m o few) c.if-kind-eq3.true c.copy_links.ensures.node c.copy_links.ensures.same.1
    c.copy_links-then-kind-eq3.ensures.node

pub returns-else-kind-eq3-clause-node : goal.returns-else-kind-eq3-clause-node
returns-else-kind-eq3-clause-node c =
    let (h, xs, ref, node, k, m, o, few) = c.requires.node in
    let v = c.args.seat.now.view in let row = c.args.row in let copy = c.args.copy in
    plan-leaf v c.copy_links.new.seat.view row copy c.args.kind c.args.n (plan v row copy c.args.kind c.args.n h xs ref node k m o few) c.if-kind-eq3.false
    c.copy_links.ensures.node
