use Rattle.std.proofs.Common.{List, ap, arith, length, subst, sym, ℕ, ◌++◌, ◌-◌, ◌<◌, ◌∙◌, ◌∷◌, ◌≡◌}
use Rattle.row_pool.specs.Trees.{Tree, nil, tree_word}
use Rattle.interval_tree.proofs.Rows.{back-cons}
use Rattle.interval_tree.specs.Held.{OwnsNode}
use Rattle.interval_tree.specs.Nodes.{kind_at}
use Rattle.tree_shrink.proofs.Seams.{closed-items, closed-kids, closed-place, closed_front, item_front, items_behind, kid_back, seam-item}
use Rattle.tree_shrink.specs.Slots.{Seam, cut_links, seam_links}
use Rattle.tree_shrink.proofs.links.cut_item.Goals as goal
use Rattle.tree_shrink.proofs.links.cut_item.Goals.{After-draw_link-item, After-close_children}

pub draw_link-item-requires-clause-links : goal.draw_link-item-requires-clause-links
draw_link-item-requires-clause-links c =
    let (h, kind, ps, qs, o, top, s, x, is, owns, low, few) = c.requires.seam in (
      kind,
      c.args.n,
      item_front o top,
      o.js,
      items_behind o x,
      s,
      subst (OwnsNode c.args.seat.now.view c.args.row kind c.args.n) (seam-item h c.args.n top s x nil ps qs c.args.i o) owns,
      (let p = o.place in omega arith),
      (let p = o.count in omega arith),
      (let p = o.count in let q = o.full in omega arith),
      omega arith,
    )

module _ (h kind : ℕ) (ps qs : List Tree) (top s x : Tree) where
  -- the item is out, and the items behind it moved
  out : (c : After-draw_link-item) → (o : Seam h c.args.n ps qs c.args.i)
      → OwnsNode c.args.seat.now.view c.args.row kind c.args.n (seam_links o top s x nil) → 0 < tree_word s
      → (c.draw_link-item.result ≡ tree_word s)
      × OwnsNode c.draw_link-item.new.seat.view c.args.row kind c.args.n (closed_front o top x ++ nil ∷ kid_back o)
      × (c.draw_link-item.new.seat.view.refs ≡ s ∷ c.args.seat.now.view.refs)
  out c o owns low =
      let v = c.args.seat.now.view in
      let z = c.draw_link-item.ensures.drawn kind c.args.n (item_front o top) o.js (items_behind o x) s
      (subst (OwnsNode v c.args.row kind c.args.n) (seam-item h c.args.n top s x nil ps qs c.args.i o) owns) (let p = o.place in omega arith)
      (let p = o.count in omega arith) in (
        z.0,
        subst (OwnsNode c.draw_link-item.new.seat.view c.args.row kind c.args.n) (closed-items h c.args.n top x ps qs c.args.i o) z.1,
        z.2 ∙ sym (back-cons s v.refs (tree_word s - 1) (omega arith)),
      )

  -- and the children
  both-closed : (c : After-close_children) → kind ≡ kind_at h → (o : Seam h c.args.n ps qs c.args.i)
      → OwnsNode c.draw_link-item.new.seat.view c.args.row kind c.args.n (closed_front o top x ++ nil ∷ kid_back o)
      → OwnsNode c.close_children.new.seat.view c.args.row kind c.args.n (cut_links o top x)
  both-closed c is o owns = subst (OwnsNode c.close_children.new.seat.view c.args.row kind c.args.n) (closed-kids h c.args.n top x ps qs c.args.i o)
      (c.close_children.ensures.closed h kind (closed_front o top x) o.ds o.zss o.free is o.kids_right owns (closed-place h c.args.n top x ps qs c.args.i o)
      (let p = o.count in let q = o.right in omega arith))

pub close_children-requires-clause-gap : goal.close_children-requires-clause-gap
close_children-requires-clause-gap c =
    let (h, kind, ps, qs, o, top, s, x, is, owns, low, few) = c.requires.seam in
    let z = out h kind ps qs top s x (goal.at.close_children-requires-clause-gap c).After-draw_link-item o owns low in (
      h,
      kind,
      closed_front o top x,
      o.ds,
      o.zss,
      o.free,
      is,
      o.kids_right,
      z.1,
      closed-place h c.args.n top x ps qs c.args.i o,
      (let p = o.count in let q = o.right in omega arith),
      (let p = o.count in omega arith),
      (let q = o.full in omega arith),
      (let l = ap length z.2 in omega arith),
    )

pub set_count-requires-clause-node : goal.set_count-requires-clause-node
set_count-requires-clause-node c =
    let (h, kind, ps, qs, o, top, s, x, is, owns, low, few) = c.requires.seam in
    let z = out h kind ps qs top s x (goal.at.set_count-requires-clause-node c).After-draw_link-item o owns low in (
      kind,
      c.args.n,
      cut_links o top x,
      both-closed h kind ps qs top s x (goal.at.set_count-requires-clause-node c).After-close_children is o z.1,
    )

pub returns-clause-seam : goal.returns-clause-seam
returns-clause-seam c = λ h kind ps qs o top s x is owns low.
    let z = out h kind ps qs top s x (goal.at.returns-clause-seam c).After-draw_link-item o owns low in (
      z.0,
      c.set_count.ensures.node kind c.args.n (cut_links o top x) (both-closed h kind ps qs top s x (goal.at.returns-clause-seam c).After-close_children is o z.1),
      c.set_count.ensures.same.1 ∙ c.close_children.ensures.same.1 ∙ z.2,
    )
