use Rattle.std.proofs.Common.{◌∷◌, ◌++◌, refl, ◌∙◌, arith}
use Rattle.interval_tree.specs.Trees.{height_of, root_of}
use Rattle.held_latches.specs.Stock.{tree_root}
use Rattle.held_latches.proofs.References.{one-refs, pick}
use Rattle.held_latches.proofs.Stocks.{refs-few, seat-held, shot-roots, stock-refs, tree-kept}
use Rattle.held_latches.proofs.pool.Pool.shot.Goals as goal

pub snapshot-shot-requires-clause-tree : goal.snapshot-shot-requires-clause-tree
snapshot-shot-requires-clause-tree c =
    let (front, back, items, loose, g) = c.requires.shows in
    (items, tree-kept c.args.self.now.seat.view c.args.tree.now items front back c.known.ensures g.fits g.stock.refs)

pub snapshot-shot-requires-clause-few : goal.snapshot-shot-requires-clause-few
snapshot-shot-requires-clause-few c =
    let (front, back, items, loose, g) = c.requires.shows in
    let a = refs-few c.args.self.now.seat.view (tree_root c.args.tree.now items) front back g.stock.refs g.few in omega arith

pub returns-clause-same : goal.returns-clause-same
returns-clause-same c =
    let (front, back, items, loose, g) = c.requires.shows in
    let v = c.args.self.now.seat.view in let w = c.snapshot-shot.new.seat.view in
    let is = c.snapshot-shot.ensures.root in
    let o = seat-held v w (root_of c.args.tree.now) (λ r e. c.snapshot-shot.ensures.reference r (is ∙ e)) (λ e. c.snapshot-shot.ensures.empty (is ∙ e)) in
    ((c.snapshot-shot.ensures.table, o.0), (refl, o.1))

pub returns-clause-root : goal.returns-clause-root
returns-clause-root c =
    let (front, back, items, loose, g) = c.requires.shows in (
      c.snapshot-shot.ensures.root,
      (c.snapshot-shot.ensures.shot items
          (tree-kept c.args.self.now.seat.view c.args.tree.now items front back c.known.ensures g.fits g.stock.refs)).1,
    )

pub returns-clause-shown : goal.returns-clause-shown
returns-clause-shown c = λ front back items loose g.
    let v = c.args.self.now.seat.view in let w = c.snapshot-shot.new.seat.view in
    let is = c.snapshot-shot.ensures.root in
    let o = shot-roots v w (root_of c.args.tree.now) (height_of c.args.tree.now) items (front ++ tree_root c.args.tree.now items ∷ back)
    (pick front (tree_root c.args.tree.now items) back v.refs (one-refs v c.known.ensures) g.stock.refs).refers g.stock.refs
    (λ r e. c.snapshot-shot.ensures.reference r (is ∙ e)) (λ e. c.snapshot-shot.ensures.empty (is ∙ e)) in
    stock-refs v w c.args.self.now.chain (front ++ tree_root c.args.tree.now items ∷ back)
    (tree_root c.args.tree.now items ∷ (front ++ tree_root c.args.tree.now items ∷ back)) loose o.2 o.1 o.0 g.stock
