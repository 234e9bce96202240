use Rattle.std.proofs.Common.{sym, ◌∙◌, ◌≡◌, arith}
use Rattle.row_pool.specs.Trees.{to, tree_word}
use Rattle.interval_tree.proofs.Rows.{link-part, there, nowhere}
use Rattle.interval_tree.proofs.nodes.row_at.Goals as goal

pub unreachable-requires : goal.unreachable-requires
unreachable-requires c =
    let (kind, n, us, vs, u, o, len, low, some_row) = c.requires.link in
    let e : tree_word u ≡ 0 = nowhere (tree_word u) (sym (sym (c.follow.ensures.owned o.entry (to u) c.args.k
    (link-part c.args.seat.now.view c.args.row kind n us vs u c.args.k o len)) ∙ c.in_default.is)) in
    absurd (omega arith)

pub returns-clause-row : goal.returns-clause-row
returns-clause-row c = λ kind n us vs u o len.
    there (tree_word u) c.in-Some.next (sym c.in-Some.is ∙ c.follow.ensures.owned o.entry (to u) c.args.k
    (link-part c.args.seat.now.view c.args.row kind n us vs u c.args.k o len))
