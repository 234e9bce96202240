use Rattle.std.proofs.Common.{ap, sym, ◌∙◌}
use Rattle.interval_tree.specs.Trees.{beside}
use Rattle.tree_rows.proofs.Planting.{owns-grows}
use Rattle.tree_rows.proofs.removal.let_go.Goals as goal

pub returns-in-Some-clause-owns : goal.returns-in-Some-clause-owns
returns-in-Some-clause-owns c =
    let (n, g) = c.requires.stand in
    let o = owns-grows c.args.rows.now c.args.seat.now c.drop_ref.new.seat c.args.chain.now c.drop_ref.new.chain g.0 g.2.owns c.drop_ref.ensures.same.0
    c.drop_ref.ensures.chain in
    (o.0, o.1, c.drop_ref.ensures.refs ∙ ap (λ k. beside k c.args.seat.now.view.refs) (sym (sym c.root.ensures ∙ c.in-Some.is)) ∙ g.2.refs)
