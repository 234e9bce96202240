use Rattle.std.proofs.Common.{◌≡◌, ◌+◌, inl, sym, ap, ◌∙◌, arith}
use Rattle.row_pool.specs.Trees.{tree_word}
use Rattle.row_pool.specs.SeatState.{kind_of}
use Rattle.row_pool.proofs.NewNodes.{fan-node}
use Rattle.interval_tree.proofs.Rows.{node-link, there, nowhere}
use Rattle.interval_tree.proofs.listing.live_row_at.Goals as goal

pub follow-requires-clause-reachable : goal.follow-requires-clause-reachable
follow-requires-clause-reachable c =
    let (t, u, up, here, low, high, less, at, some_row) = c.requires.link in inl (t, up, here, node-link (kind_of t) c.args.k low high less)

pub unreachable-requires : goal.unreachable-requires
unreachable-requires c =
    let (t, u, up, here, low, high, less, at, some_row) = c.requires.link in
    let e : tree_word u ≡ 0 = nowhere (tree_word u) (sym (sym (c.follow.ensures.tree t u c.args.k up here
    (ap (λ b. b + c.args.k) (sym ((fan-node (kind_of t) low high).1))) at) ∙ c.in_default.is)) in
    absurd (omega arith)

pub returns-clause-row : goal.returns-clause-row
returns-clause-row c = λ t u up here low high at.
    there (tree_word u) c.in-Some.next (sym c.in-Some.is ∙ c.follow.ensures.tree t u c.args.k up here
    (ap (λ b. b + c.args.k) (sym ((fan-node (kind_of t) low high).1))) at)
