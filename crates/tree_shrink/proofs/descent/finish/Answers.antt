use Rattle.std.proofs.Common.{List, [], ap, arith, length, refl, replicate, subst, suc, sym, ℕ, ◌++◌, ◌∙◌, ◌∷◌, ◌≡◌}
use Rattle.row_pool.specs.Trees.{Tree, nil}
use Rattle.interval_tree.proofs.Frames.{spends-join}
use Rattle.interval_tree.proofs.Linking.{kid-row-of, shallow}
use Rattle.interval_tree.specs.Held.{OwnsNode}
use Rattle.tree_shrink.proofs.Finding.{removed-sorted}
use Rattle.tree_shrink.proofs.Seams.{body-of, filled, slot-links, slot-place, slot_back, slot_front}
use Rattle.tree_shrink.specs.Slots.{slot_links}
use Rattle.tree_shrink.specs.Stages.{Finishing, Lowers}
use Rattle.tree_shrink.proofs.descent.finish.Goals as goal
use Rattle.tree_shrink.proofs.descent.finish.Goals.{After-link_node}

pub link_node-requires-clause-link : goal.link_node-requires-clause-link
link_node-requires-clause-link c =
    let (h, n, xs, ps, zs, qs, it, low, f) = c.requires.state in (
      3,
      n,
      slot_front f.slot f.top,
      slot_back f.slot,
      f.sort,
      f.count,
      f.below,
      subst (OwnsNode c.args.seat.now.view c.args.row 3 n) (slot-links (suc h) n f.top nil ps qs c.args.j f.slot) f.owns,
      slot-place (suc h) n f.top ps qs c.args.j f.slot,
      (let a = c.requires.low in omega arith),
      f.owns_child,
      shallow h 3 f.sort f.count f.below zs (omega arith) f.node,
      f.apart,
      (let a = c.requires.few in omega arith),
    )

-- the node with its child
lowers : (c : After-link_node) → (h n : ℕ) (xs ps zs qs : List Tree) (it : Tree)
    → Finishing h c.args.seat.now.view c.args.row n c.args.child c.args.j xs ps zs qs it c.args.item
    → Lowers (suc h) c.link_node.new.seat.view c.args.row 3 n xs (ps ++ (zs ++ qs)) it c.args.item
    × (c.link_node.new.seat.view.refs ≡ c.args.seat.now.view.refs)
lowers c h n xs ps zs qs it f =
    let l = c.link_node.ensures.linked 3 n (slot_front f.slot f.top) (slot_back f.slot) f.sort f.count f.below
    (subst (OwnsNode c.args.seat.now.view c.args.row 3 n) (slot-links (suc h) n f.top nil ps qs c.args.j f.slot) f.owns)
    (slot-place (suc h) n f.top ps qs c.args.j f.slot) f.owns_child f.apart in
    let kid = kid-row-of h l.tree c.args.child f.sort f.count f.below zs l.is f.least f.node in (
      record {
        top = f.top;
        tail = ((f.slot.is ++ f.slot.js) ++ replicate f.slot.free nil) ++ ((f.slot.cs ++ l.tree ∷ f.slot.ds) ++ replicate f.slot.free nil);
        owns = subst (OwnsNode c.link_node.new.seat.view c.args.row 3 n) (sym (slot-links (suc h) n f.top l.tree ps qs c.args.j f.slot)) l.owns;
        body = body-of (suc h) 3 n (slot_links f.slot f.top l.tree) (ps ++ (zs ++ qs)) (filled (suc h) 3 n f.top ps qs c.args.j f.slot l.tree zs refl kid);
        greatest = f.greatest;
        fits = f.fits;
        sorted = removed-sorted it xs (ps ++ (zs ++ qs)) f.gone f.sorted;
        gone = f.gone;
        item_is = f.item_is;
      },
      l.refs,
    )

pub lower_top-requires-clause-node : goal.lower_top-requires-clause-node
lower_top-requires-clause-node c =
    let (h, n, xs, ps, zs, qs, it, low, f) = c.requires.state in
    (suc h, 3, n, xs, ps ++ (zs ++ qs), it, (lowers (goal.at.lower_top-requires-clause-node c).After-link_node h n xs ps zs qs it f).0)

pub lower_top-requires-clause-few : goal.lower_top-requires-clause-few
lower_top-requires-clause-few c =
    let (h, n, xs, ps, zs, qs, it, low, f) = c.requires.state in
    let a = ap length (lowers (goal.at.lower_top-requires-clause-few c).After-link_node h n xs ps zs qs it f).1 in let b = c.requires.few in omega arith

pub lower_top-requires-clause-chain : goal.lower_top-requires-clause-chain
lower_top-requires-clause-chain c = let (rs, g) = c.requires.chain in let s = c.link_node.ensures.spends rs c.args.chain.now g in (s.left, s.chain)

pub returns-clause-same : goal.returns-clause-same
returns-clause-same c =
    let (h, n, xs, ps, zs, qs, it, low, f) = c.requires.state in (
      c.lower_top.ensures.same.0 ∙ c.link_node.ensures.table,
      c.lower_top.ensures.same.1 ∙ (lowers (goal.at.returns-clause-same c).After-link_node h n xs ps zs qs it f).1,
    )

pub returns-clause-stood : goal.returns-clause-stood
returns-clause-stood c = λ h n xs ps zs qs it low f.
    c.lower_top.ensures.node (suc h) 3 n xs (ps ++ (zs ++ qs)) it (lowers (goal.at.returns-clause-stood c).After-link_node h n xs ps zs qs it f).0

pub returns-clause-spends : goal.returns-clause-spends
returns-clause-spends c = λ rs g.
    let s = c.link_node.ensures.spends rs c.args.chain.now g in
    spends-join 0 0 (c.args.row ∷ c.args.child ∷ []) (c.args.row ∷ []) (c.args.row ∷ []) rs c.args.seat.now.view c.link_node.new.seat.view
    c.lower_top.new.seat.view c.args.chain.now c.lower_top.new.chain s (c.lower_top.ensures.spends s.left s.chain)
