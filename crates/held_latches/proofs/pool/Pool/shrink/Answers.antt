use Rattle.std.proofs.Common.{[], ◌∷◌, ◌++◌, refl, arith}
use Rattle.held_latches.proofs.pool.Pool.shrink.Goals as goal
use Rattle.held_latches.specs.Stock.{tree_root}
use Rattle.held_latches.proofs.Stocks.{fits-kept, refs-few, roots-changed, stock-after, tree-kept}

pub remove-requires-clause-tree : goal.remove-requires-clause-tree
remove-requires-clause-tree c =
    let (front, back, items, it, loose, g) = c.requires.shrinks in
    (items, it, tree-kept c.args.self.now.seat.view c.args.tree.now items front back c.known.ensures g.fits g.stock.refs, g.among, g.here)

pub remove-requires-clause-few : goal.remove-requires-clause-few
remove-requires-clause-few c =
    let (front, back, items, it, loose, g) = c.requires.shrinks in
    let a = refs-few c.args.self.now.seat.view (tree_root c.args.tree.now items) front back g.stock.refs g.few in omega arith

pub remove-requires-clause-room : goal.remove-requires-clause-room
remove-requires-clause-room c =
    let (front, back, items, it, loose, g) = c.requires.shrinks in
    (g.stock.free, g.stock.chained, (let a = g.stock.chained.long in let b = c.requires.room in omega arith))

pub returns-clause-shrunk : goal.returns-clause-shrunk
returns-clause-shrunk c = λ front back items it loose g.
    let v = c.args.self.now.seat.view in let w = c.remove.new.seat.view in
    let keeps = tree-kept v c.args.tree.now items front back c.known.ensures g.fits g.stock.refs in
    let (less, removed, kept) = c.remove.ensures.tree items it keeps g.among g.here in
    let o = stock-after 5 v w c.args.self.now.chain c.remove.new.chain [] g.stock.free (front ++ tree_root c.remove.new.tree less ∷ back)
    loose g.stock.first g.stock.chained g.stock.all g.stock.items g.stock.apart (λ q m. refl)
    (roots-changed v w c.args.tree.now c.remove.new.tree items less front back c.known.ensures c.known-2.ensures g.stock.refs kept c.remove.ensures.references)
    (c.remove.ensures.spends g.stock.free g.stock.chained) in
    record { less = less; removed = removed; fits = fits-kept w c.remove.new.tree less kept; stock = o.stock; stay = o.stay; spent = o.spent }
