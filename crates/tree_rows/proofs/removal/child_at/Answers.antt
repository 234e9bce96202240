use Rattle.std.proofs.Common.{◌+◌, inl, sym, subst, arith}
use Rattle.row_pool.specs.Changes.{tree_of}
use Rattle.row_pool.specs.Layout.{IsContent}
use Rattle.row_pool.specs.SeatState.{OwnsOrReachesAs, kind_of}
use Rattle.row_pool.specs.Trees.{tree_word}
use Rattle.row_pool.specs.Views.{below}
use Rattle.interval_tree.proofs.Growing.{root-reached}
use Rattle.interval_tree.proofs.Rows.{there}
use Rattle.tree_rows.proofs.Shrinking.{child-link, child-there, child-word, content-count, root-held, tree-kind}
use Rattle.tree_rows.proofs.removal.child_at.Goals as goal

pub follow-requires-clause-reachable : goal.follow-requires-clause-reachable
follow-requires-clause-reachable c =
    let (chain, n, g) = c.requires.stand in
    let v = c.args.seat.now.view in let root = c.in_ok-root.root in let t = tree_of root v.refs in
    let o = root-held v c.args.tree.now g.1 root g.2.keeps (sym c.in_ok-root.ensures) in
    let k = tree-kind t c.args.tree.now.height g.1 o.1 in
    inl (t, root-reached v root o.0, o.0, child-link (kind_of t) c.args.i k.0 k.1 c.requires.low)

pub read-requires-clause-reachable : goal.read-requires-clause-reachable
read-requires-clause-reachable c =
    let (chain, n, g) = c.requires.stand in
    let v = c.args.seat.now.view in let root = c.in_ok-root.root in let t = tree_of root v.refs in
    let o = root-held v c.args.tree.now g.1 root g.2.keeps (sym c.in_ok-root.ensures) in
    let k = tree-kind t c.args.tree.now.height g.1 o.1 in
    let up = root-reached v root o.0 in
    let (u, at) = child-there v t c.args.i c.known.ensures up k.0 k.1 (let a = o.0 in omega arith) c.requires.low in
    let here = there (tree_word u) c.in_ok-child.child
    (c.in_ok-child.ensures.tree t u (32 + c.args.i) up o.0 (child-word (kind_of t) c.args.i k.0 k.1) at) in
    subst (λ w. OwnsOrReachesAs (λ kind. IsContent kind 2) w c.in_ok-child.child) (sym c.follow.ensures.same.1)
    (inl (u, below (32 + c.args.i) up at, here, content-count (kind_of u)))
