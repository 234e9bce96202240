use Rattle.std.proofs.Common.{List, ap, arith, length, replicate, subst, suc, sym, ℕ, ◌++◌, ◌-◌, ◌∙◌, ◌∷◌, ◌≡◌}
use Rattle.row_pool.specs.SeatState.{SeatState}
use Rattle.row_pool.specs.Trees.{Tree, nil}
use Rattle.latch_item.specs.Shape.{Node, Sorted}
use Rattle.interval_tree.proofs.Frames.{others-same}
use Rattle.interval_tree.proofs.Fresh.{node-most}
use Rattle.interval_tree.specs.Held.{OthersStand, OwnsNode}
use Rattle.tree_shrink.proofs.Finding.{removed-sorted}
use Rattle.tree_shrink.proofs.Lending.{chain-after, read-node, spends-after}
use Rattle.tree_shrink.proofs.Lowering.{LeafOut, leaf-out}
use Rattle.tree_shrink.specs.Slots.{seam_links}
use Rattle.tree_shrink.specs.Stages.{Lowers}
use Rattle.tree_shrink.proofs.descent.remove_in_leaf.Goals as goal
use Rattle.tree_shrink.proofs.descent.remove_in_leaf.Goals.{After-count_of-n, After-cut_item-item}

pub overflow_cast-n : goal.overflow_cast-n
overflow_cast-n c =
    let (kind, n, us, is, js, it, o, nd, at, two, sorted) = c.requires.leaf in
    let a = c.count_of-n.ensures.count kind n us o in let b = node-most 0 kind n us (is ++ it ∷ js) nd in omega arith

module _ {kind n : ℕ} {us is js : List Tree} {it : Tree} where
  out : (c : After-count_of-n) → OwnsNode c.args.seat.now.view c.args.row kind n us → Node 0 kind n us (is ++ it ∷ js) → length is ≡ c.args.i
      → (q : LeafOut kind c.count_of-n.result us is js it c.args.i)
      × OwnsNode c.count_of-n.new.seat.view c.args.row kind c.count_of-n.result (seam_links q.seam q.top it q.x nil)
  out c o nd at =
      let z = read-node 0 (is ++ it ∷ js) c.count_of-n.ensures.same (c.count_of-n.ensures.count kind n us o) o nd in
      let q = leaf-out kind c.count_of-n.result us is js it c.args.i z.1 at in
      (q, subst (OwnsNode c.count_of-n.new.seat.view c.args.row kind c.count_of-n.result) q.links z.0)

module _ {kind : ℕ} {us is js : List Tree} {it : Tree} where
  -- the item is out
  lowers : (c : After-cut_item-item) → (q : LeafOut kind c.count_of-n.result us is js it c.args.i)
      → OwnsNode c.count_of-n.new.seat.view c.args.row kind c.count_of-n.result (seam_links q.seam q.top it q.x nil)
      → Sorted (is ++ it ∷ js) → Lowers 0 c.cut_item-item.new.seat.view c.args.row kind (c.count_of-n.result - 1) (is ++ it ∷ js) q.ys it c.cut_item-item.result
      × (c.cut_item-item.new.seat.view.refs ≡ it ∷ c.args.seat.now.view.refs)
  lowers c q o sorted =
      let z = c.cut_item-item.ensures.seam 0 kind q.ps q.qs q.seam q.top it q.x q.kind_is o (let a = q.item.here in omega arith) in (
        record {
          top = q.top;
          tail = ((q.seam.is ++ q.seam.js) ++ replicate (suc q.seam.free) nil) ++ ((q.seam.cs ++ q.x ∷ q.seam.ds) ++ replicate (suc q.seam.free) nil);
          owns = z.1;
          body = q.body;
          greatest = q.greatest;
          fits = q.fits;
          sorted = removed-sorted it (is ++ it ∷ js) q.ys q.gone sorted;
          gone = q.gone;
          item_is = sym z.0;
        },
        z.2 ∙ ap (λ ts. it ∷ ts) (ap (λ (s : SeatState). s.view.refs) c.count_of-n.ensures.same),
      )

pub cut_item-item-requires-clause-seam : goal.cut_item-item-requires-clause-seam
cut_item-item-requires-clause-seam c =
    let (kind, n, us, is, js, it, o, nd, at, two, sorted) = c.requires.leaf in
    let (q, owns) = out (goal.at.cut_item-item-requires-clause-seam c).After-count_of-n o nd at in (
      0,
      kind,
      q.ps,
      q.qs,
      q.seam,
      q.top,
      it,
      q.x,
      q.kind_is,
      owns,
      (let a = q.item.here in omega arith),
      (let a = ap length (ap (λ (s : SeatState). s.view.refs) c.count_of-n.ensures.same) in let b = c.requires.few in omega arith),
    )

pub lower_top-requires-clause-node : goal.lower_top-requires-clause-node
lower_top-requires-clause-node c =
    let (kind, n, us, is, js, it, o, nd, at, two, sorted) = c.requires.leaf in
    let here = goal.at.lower_top-requires-clause-node c in
    let (q, owns) = out here.After-count_of-n o nd at in
    (0, kind, c.count_of-n.result - 1, is ++ it ∷ js, q.ys, it, (lowers here.After-cut_item-item q owns sorted).0)

pub lower_top-requires-clause-few : goal.lower_top-requires-clause-few
lower_top-requires-clause-few c =
    let (kind, n, us, is, js, it, o, nd, at, two, sorted) = c.requires.leaf in
    let here = goal.at.lower_top-requires-clause-few c in
    let (q, owns) = out here.After-count_of-n o nd at in
    let a = ap length (lowers here.After-cut_item-item q owns sorted).1 in let b = c.requires.few in omega arith

-- only the leaf changed until the item was out
others : (c : After-cut_item-item) → OthersStand c.args.row c.args.seat.now.view c.cut_item-item.new.seat.view
others c = others-same c.args.seat.now.view c.count_of-n.new.seat.view c.cut_item-item.new.seat.view c.args.row
    (ap (λ (s : SeatState). s.view) c.count_of-n.ensures.same) c.cut_item-item.ensures.others

pub lower_top-requires-clause-chain : goal.lower_top-requires-clause-chain
lower_top-requires-clause-chain c =
    let (kind, n, us, is, js, it, o, nd, at, two, sorted) = c.requires.leaf in
    chain-after o (others (goal.at.lower_top-requires-clause-chain c).After-cut_item-item) c.requires.chain

pub returns-clause-shrunk : goal.returns-clause-shrunk
returns-clause-shrunk c = λ kind n us is js it o nd at two sorted.
    let here = goal.at.returns-clause-shrunk c in
    let (q, owns) = out here.After-count_of-n o nd at in
    let (l, refs) = lowers here.After-cut_item-item q owns sorted in
    record {
      many = c.count_of-n.result - 1;
      ys = q.ys;
      stood = c.lower_top.ensures.node 0 kind (c.count_of-n.result - 1) (is ++ it ∷ js) q.ys it l;
      gone = q.gone;
      least = (let a = c.count_of-n.ensures.count kind n us o in omega arith);
      fits = q.item;
      item_is = l.item_is;
      refs = c.lower_top.ensures.same.1 ∙ refs;
    }

pub returns-clause-spends : goal.returns-clause-spends
returns-clause-spends c =
    let (kind, n, us, is, js, it, o, nd, at, two, sorted) = c.requires.leaf in
    spends-after o (others (goal.at.returns-clause-spends c).After-cut_item-item) c.lower_top.ensures.spends
