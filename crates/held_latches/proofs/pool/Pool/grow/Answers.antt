use Rattle.std.proofs.Common.{[], ◌∷◌, ◌++◌, arith}
use Rattle.held_latches.proofs.pool.Pool.grow.Goals as goal
use Rattle.latch_item.proofs.Rows.{item-is}
use Rattle.read_list.proofs.Rows.{distinct-tail}
use Rattle.held_latches.specs.Stock.{rows_of, tree_root}
use Rattle.held_latches.proofs.Stocks.{apart-one, fits-kept, refs-few, roots-changed, stock-after, tree-kept}

pub insert-requires-clause-tree : goal.insert-requires-clause-tree
insert-requires-clause-tree c =
    let (front, back, items, x, loose, g) = c.requires.grows in
    let v = c.args.self.now.seat.view in (
      items,
      x,
      tree-kept v c.args.tree.now items front back c.known.ensures g.fits g.stock.refs,
      record { owns = g.stock.items.0.owns; unlinked = g.stock.items.0.unlinked; differs = g.differs },
      g.many,
    )

pub insert-requires-clause-few : goal.insert-requires-clause-few
insert-requires-clause-few c =
    let (front, back, items, x, loose, g) = c.requires.grows in
    let a = refs-few c.args.self.now.seat.view (tree_root c.args.tree.now items) front back g.stock.refs g.few in omega arith

pub insert-requires-clause-room : goal.insert-requires-clause-room
insert-requires-clause-room c =
    let (front, back, items, x, loose, g) = c.requires.grows in
    (g.stock.free, g.stock.chained, (let a = g.stock.chained.long in let b = c.requires.room in omega arith))

pub returns-clause-grown : goal.returns-clause-grown
returns-clause-grown c = λ front back items x loose g.
    let v = c.args.self.now.seat.view in let w = c.insert.new.seat.view in
    let keeps = tree-kept v c.args.tree.now items front back c.known.ensures g.fits g.stock.refs in
    let (it, more, here, of, inserted, kept) = c.insert.ensures.tree items x keeps
    (record { owns = g.stock.items.0.owns; unlinked = g.stock.items.0.unlinked; differs = g.differs }) g.many in
    let o = stock-after 7 v w c.args.self.now.chain c.insert.new.chain (c.args.item ∷ []) g.stock.free (front ++ tree_root c.insert.new.self more ∷ back)
    loose g.stock.first g.stock.chained g.stock.all g.stock.items.1 (distinct-tail c.args.item (rows_of loose) g.stock.apart)
    (apart-one c.args.item (rows_of loose) g.stock.apart)
    (roots-changed v w c.args.tree.now c.insert.new.self items more front back c.known.ensures c.known-2.ensures g.stock.refs kept c.insert.ensures.references)
    (c.insert.ensures.spends g.stock.free g.stock.chained) in
    record {
      it = it;
      more = more;
      here = here;
      is = item-is it x of;
      inserted = inserted;
      fits = fits-kept w c.insert.new.self more kept;
      stock = o.stock;
      stay = o.stay;
      spent = o.spent;
    }
