use Rattle.std.proofs.Common.{List, [], ap, append_assoc, arith, length, refl, replicate, subst, suc, sym, ℕ, ◌++◌, ◌∙◌, ◌∷◌, ◌≡◌}
use Rattle.row_pool.proofs.NewestRef.{tree_of-first, without_tree-first}
use Rattle.row_pool.specs.Chains.{IsChain}
use Rattle.row_pool.specs.Changes.{tree_of, without_tree}
use Rattle.row_pool.specs.Trees.{Tree, nil, tree_word}
use Rattle.latch_item.specs.Shape.{IsTop}
use Rattle.interval_tree.proofs.Frames.{spends-leaves}
use Rattle.interval_tree.proofs.Rows.{back-cons}
use Rattle.interval_tree.specs.Held.{OwnsNode}
use Rattle.tree_shrink.proofs.Bench.{Bench, bench-call, bench-chain, bench-grows, bench-links, bench-more, bench-start, bench-step, bench-turn, node_at}
use Rattle.tree_shrink.proofs.Bench.{two-apart}
use Rattle.tree_shrink.proofs.Borders.{top-joined, top-one}
use Rattle.tree_shrink.proofs.Joining.{Fifteen, bare-low, both-joined, fifteen, fore, fore-long, left-one, left-two, place-one, right-one, tail_of, two-long}
use Rattle.tree_shrink.specs.Stages.{Joins}
use Rattle.tree_shrink.proofs.join.join_nodes.Goals as goal
use Rattle.tree_shrink.proofs.join.join_nodes.Goals.{After-cover, After-swap, After-move_links, After-move_children, After-set_count, After-publish_node}

pub cover-requires-clause-nodes : goal.cover-requires-clause-nodes
cover-requires-clause-nodes c =
    let (h, kind, sort, us, vs, ls, rs, m, R, p) = c.requires.nodes in
    let a = fifteen h kind us ls p.left_node in let b = fifteen h sort vs rs p.right_node in let v = c.args.seat.now.view in (
      kind,
      15,
      sort,
      15,
      tail_of a,
      tail_of b,
      a.top,
      b.top,
      m,
      R,
      subst (OwnsNode v c.args.left kind 15) a.links p.left_owns,
      subst (OwnsNode v c.args.right sort 15) b.links p.right_owns,
      a.fits,
      b.fits,
      p.fits,
      p.here,
      p.refs,
      p.apart,
      p.few,
    )

module _ {h kind sort : ℕ} {us vs ls rs : List Tree} (m : Tree) {R : List Tree} (a : Fifteen h kind us ls) (b : Fifteen h sort vs rs) (qs : List ℕ) where
  -- the left node's first link has the greatest bound
  covered : (c : After-cover) → (p : Joins h c.args.seat.now.view c.args.left c.args.right c.args.item kind sort us vs ls rs m R)
      → IsChain c.args.seat.now.view c.args.chain.now qs
      → (t : Tree) × IsTop t (ls ++ m ∷ rs)
      × Bench c.args.seat.now.view (c.args.left ∷ c.args.right ∷ []) qs 0 c.cover.new.seat.view c.cover.new.chain
      (node_at c.args.left kind 15 ((t ∷ a.its) ++ nil ∷ (replicate 15 nil ++ (a.ks ++ replicate 16 nil)))
      ∷ node_at c.args.right sort 15 (b.top ∷ tail_of b) ∷ []) (m ∷ R)
  covered c p g =
      let v = c.args.seat.now.view in let left = c.args.left in let right = c.args.right in
      let ol = subst (OwnsNode v left kind 15) a.links p.left_owns in let rl = subst (OwnsNode v right sort 15) b.links p.right_owns in
      let (s, t, one, two, owns) = c.cover.ensures.nodes kind 15 sort 15 (tail_of a) (tail_of b) a.top b.top m R ol rl a.fits b.fits p.fits p.here p.refs
      p.apart in
      let start = bench-start v c.args.chain.now qs (node_at left kind 15 (a.top ∷ tail_of a) ∷ node_at right sort 15 (b.top ∷ tail_of b) ∷ []) (m ∷ R) g
      (ol, (rl, tt)) (two-apart left right p.apart) p.refs in
      let z = bench-call (node_at left kind 15 (a.top ∷ tail_of a) ∷ []) (node_at left kind 15 (t ∷ tail_of a) ∷ []) (node_at right sort 15 (b.top ∷ tail_of
      b) ∷ [])
      start c.cover.ensures.spends (owns, tt) (refl, tt) (c.cover.ensures.same.1 ∙ p.refs) in (
        t,
        subst (IsTop t) (append_assoc ls (m ∷ []) rs) (top-joined s b.top t (ls ++ m ∷ []) rs (top-joined a.top m s ls (m ∷ []) a.greatest (top-one m) one)
            b.greatest two),
        bench-links (place-one h kind us ls t a) z,
      )

  -- the item is in
  item-in : (c : After-swap) → (p : Joins h c.args.seat.now.view c.args.left c.args.right c.args.item kind sort us vs ls rs m R) → (t : Tree)
      → Bench c.args.seat.now.view (c.args.left ∷ c.args.right ∷ []) qs 0 c.cover.new.seat.view c.cover.new.chain
      (node_at c.args.left kind 15 ((t ∷ a.its) ++ nil ∷ (replicate 15 nil ++ (a.ks ++ replicate 16 nil)))
      ∷ node_at c.args.right sort 15 (b.top ∷ tail_of b) ∷ []) (m ∷ R)
      → Bench c.args.seat.now.view (c.args.left ∷ c.args.right ∷ []) qs 0 c.swap.new.seat.view c.cover.new.chain
      (node_at c.args.right sort 15 ((b.top ∷ []) ++ (b.its ++ (replicate 16 nil ++ (b.ks ++ replicate 16 nil))))
      ∷ node_at c.args.left kind 15 (fore a t m ++ (replicate 15 nil ++ (a.ks ++ replicate 16 nil))) ∷ []) R
  item-in c p t z =
      let y = c.swap.ensures.node kind 15 (t ∷ a.its) (replicate 15 nil ++ (a.ks ++ replicate 16 nil)) nil m R z.owns.0 (let q = a.count in omega arith)
      (z.refs ∙ back-cons m R p.fits.row p.fits.here) p.here in
      bench-links (right-one h sort vs rs b) (bench-turn (bench-links (left-one h kind us ls t m a) (bench-step z c.swap.ensures.others y.1 y.2)))

  -- the items of the right node are in
  items-in : (c : After-move_links) → (p : Joins h c.args.seat.now.view c.args.left c.args.right c.args.item kind sort us vs ls rs m R) → (t : Tree)
      → Bench c.args.seat.now.view (c.args.left ∷ c.args.right ∷ []) qs 0 c.swap.new.seat.view c.cover.new.chain
      (node_at c.args.right sort 15 ((b.top ∷ []) ++ (b.its ++ (replicate 16 nil ++ (b.ks ++ replicate 16 nil))))
      ∷ node_at c.args.left kind 15 (fore a t m ++ (replicate 15 nil ++ (a.ks ++ replicate 16 nil))) ∷ []) R
      → Bench c.args.seat.now.view (c.args.left ∷ c.args.right ∷ []) qs 0 c.move_links.new.seat.view c.cover.new.chain
      (node_at c.args.right sort 15 ((b.top ∷ replicate 31 nil) ++ (b.ks ++ replicate 16 nil))
      ∷ node_at c.args.left kind 15 ((fore a t m ++ (b.its ++ a.ks)) ++ (replicate 16 nil ++ [])) ∷ []) R
  items-in c p t z =
      let y = c.move_links.ensures.moved sort 15 kind 15 (b.top ∷ []) b.its (replicate 16 nil ++ (b.ks ++ replicate 16 nil)) (fore a t m)
      (a.ks ++ replicate 16 nil) z.owns.0 refl b.count z.owns.1.0 (fore-long h kind us ls t m a) (λ e. p.apart (sym e)) in
      let right = c.args.right in let left = c.args.left in
      let x = bench-call (node_at right sort 15 ((b.top ∷ []) ++ (b.its ++ (replicate 16 nil ++ (b.ks ++ replicate 16 nil))))
      ∷ node_at left kind 15 (fore a t m ++ (replicate 15 nil ++ (a.ks ++ replicate 16 nil))) ∷ [])
      (node_at right sort 15 ((b.top ∷ replicate 31 nil) ++ (b.ks ++ replicate 16 nil))
      ∷ node_at left kind 15 (fore a t m ++ (b.its ++ (a.ks ++ replicate 16 nil))) ∷ []) [] z
      (λ ss g. c.move_links.ensures.spends ss c.cover.new.chain g) (y.0, (y.1, tt)) (two-apart right left (λ e. p.apart (sym e)))
      (c.move_links.ensures.same.1 ∙ z.refs) in
      bench-turn (bench-links (left-two t m a.its b.its a.ks) (bench-turn (bench-more 0 (omega arith) x)))

  -- and its children
  children-in : (c : After-move_children) → (p : Joins h c.args.seat.now.view c.args.left c.args.right c.args.item kind sort us vs ls rs m R) → (t : Tree)
      → Bench c.args.seat.now.view (c.args.left ∷ c.args.right ∷ []) qs 0 c.move_links.new.seat.view c.cover.new.chain
      (node_at c.args.right sort 15 ((b.top ∷ replicate 31 nil) ++ (b.ks ++ replicate 16 nil))
      ∷ node_at c.args.left kind 15 ((fore a t m ++ (b.its ++ a.ks)) ++ (replicate 16 nil ++ [])) ∷ []) R
      → Bench c.args.seat.now.view (c.args.left ∷ c.args.right ∷ []) qs 0 c.move_children.new.seat.view c.cover.new.chain
      (node_at c.args.left kind 15 ((fore a t m ++ (b.its ++ a.ks)) ++ (b.ks ++ [])) ∷ node_at c.args.right sort 15 (b.top ∷ replicate 63 nil) ∷ []) R
  children-in c p t z =
      let y = c.move_children.ensures.moved h sort 15 kind 15 (b.top ∷ replicate 31 nil) b.ks (replicate 16 nil) (fore a t m ++ (b.its ++ a.ks)) [] b.yss
      b.is b.below z.owns.0 refl b.many z.owns.1.0 (two-long t m a.its b.its a.ks a.count b.count a.many) (λ e. p.apart (sym e)) in
      let right = c.args.right in let left = c.args.left in
      bench-turn (bench-more 0 (omega arith) (bench-call (node_at right sort 15 ((b.top ∷ replicate 31 nil) ++ (b.ks ++ replicate 16 nil))
      ∷ node_at left kind 15 ((fore a t m ++ (b.its ++ a.ks)) ++ (replicate 16 nil ++ [])) ∷ [])
      (node_at right sort 15 (b.top ∷ replicate 63 nil) ∷ node_at left kind 15 ((fore a t m ++ (b.its ++ a.ks)) ++ (b.ks ++ [])) ∷ []) [] z
      (λ ss g. c.move_children.ensures.spends ss c.cover.new.chain g) (y.0, (y.1, tt)) (two-apart right left (λ e. p.apart (sym e)))
      (c.move_children.ensures.same.1 ∙ z.refs)))

  -- the number of items is written
  counted : (c : After-set_count) → (t : Tree)
      → Bench c.args.seat.now.view (c.args.left ∷ c.args.right ∷ []) qs 0 c.move_children.new.seat.view c.cover.new.chain
      (node_at c.args.left kind 15 ((fore a t m ++ (b.its ++ a.ks)) ++ (b.ks ++ [])) ∷ node_at c.args.right sort 15 (b.top ∷ replicate 63 nil) ∷ []) R
      → Bench c.args.seat.now.view (c.args.left ∷ c.args.right ∷ []) qs 0 c.set_count.new.seat.view c.cover.new.chain
      (node_at c.args.right sort 15 (b.top ∷ replicate 63 nil) ∷ node_at c.args.left kind 31 ((fore a t m ++ (b.its ++ a.ks)) ++ (b.ks ++ [])) ∷ []) R
  counted c t z = bench-turn (bench-step z c.set_count.ensures.others
      (c.set_count.ensures.node kind 15 ((fore a t m ++ (b.its ++ a.ks)) ++ (b.ks ++ [])) z.owns.0) (c.set_count.ensures.same.1 ∙ z.refs))

  -- the right node is live
  gone : (c : After-publish_node) → (t : Tree)
      → Bench c.args.seat.now.view (c.args.left ∷ c.args.right ∷ []) qs 0 c.set_count.new.seat.view c.cover.new.chain
      (node_at c.args.right sort 15 (b.top ∷ replicate 63 nil) ∷ node_at c.args.left kind 31 ((fore a t m ++ (b.its ++ a.ks)) ++ (b.ks ++ [])) ∷ []) R
      → (u : Tree) × (tree_word u ≡ suc c.args.right)
      × Bench c.args.seat.now.view (c.args.left ∷ c.args.right ∷ []) qs 0 c.publish_node.new.seat.view c.cover.new.chain
      (node_at c.args.left kind 31 ((fore a t m ++ (b.its ++ a.ks)) ++ (b.ks ++ [])) ∷ []) (u ∷ R)
  gone c t z =
      let links : List Tree = b.top ∷ replicate 63 nil in
      let w = c.publish_node.ensures.node sort 15 links z.owns.0 in (
        w.tree,
        w.is.here,
        bench-more 0 (omega arith) (bench-call (node_at c.args.right sort 15 links ∷ []) []
            (node_at c.args.left kind 31 ((fore a t m ++ (b.its ++ a.ks)) ++ (b.ks ++ [])) ∷ []) z
            (λ ss g. spends-leaves c.set_count.new.seat.view c.publish_node.new.seat.view c.args.right sort 15 links c.cover.new.chain [] ss z.owns.0
            w.others w.gone g)
            tt tt (w.refs ∙ ap (λ ts. w.tree ∷ ts) z.refs)),
      )

pub swap-requires-clause-link : goal.swap-requires-clause-link
swap-requires-clause-link c =
    let (h, kind, sort, us, vs, ls, rs, m, R, p) = c.requires.nodes in let (qs, g) = c.requires.chain in
    let a = fifteen h kind us ls p.left_node in let b = fifteen h sort vs rs p.right_node in
    let (t, top, z) = covered m a b qs (goal.at.swap-requires-clause-link c).After-cover p g in (
      kind,
      15,
      t ∷ a.its,
      replicate 15 nil ++ (a.ks ++ replicate 16 nil),
      nil,
      m,
      R,
      z.owns.0,
      (let q = a.count in omega arith),
      omega arith,
      z.refs ∙ back-cons m R p.fits.row p.fits.here,
      p.here,
      (let q = p.few in omega arith),
    )

pub move_links-requires-clause-links : goal.move_links-requires-clause-links
move_links-requires-clause-links c =
    let (h, kind, sort, us, vs, ls, rs, m, R, p) = c.requires.nodes in let (qs, g) = c.requires.chain in
    let a = fifteen h kind us ls p.left_node in let b = fifteen h sort vs rs p.right_node in
    let at = goal.at.move_links-requires-clause-links c in
    let (t, top, z) = covered m a b qs at.After-cover p g in let y = item-in m a b qs at.After-swap p t z in (
      sort,
      15,
      kind,
      15,
      b.top ∷ [],
      b.its,
      replicate 16 nil ++ (b.ks ++ replicate 16 nil),
      fore a t m,
      a.ks ++ replicate 16 nil,
      y.owns.0,
      refl,
      b.count,
      y.owns.1.0,
      fore-long h kind us ls t m a,
      (λ e. p.apart (sym e)),
      omega arith,
      omega arith,
      (let q = p.few in let l = ap length y.refs in omega arith),
    )

pub move_children-requires-clause-children : goal.move_children-requires-clause-children
move_children-requires-clause-children c =
    let (h, kind, sort, us, vs, ls, rs, m, R, p) = c.requires.nodes in let (qs, g) = c.requires.chain in
    let a = fifteen h kind us ls p.left_node in let b = fifteen h sort vs rs p.right_node in
    let at = goal.at.move_children-requires-clause-children c in
    let (t, top, z) = covered m a b qs at.After-cover p g in let y = items-in m a b qs at.After-move_links p t (item-in m a b qs at.After-swap p t z) in (
      h,
      sort,
      15,
      kind,
      15,
      b.top ∷ replicate 31 nil,
      b.ks,
      replicate 16 nil,
      fore a t m ++ (b.its ++ a.ks),
      [],
      b.yss,
      b.is,
      b.below,
      y.owns.0,
      refl,
      b.many,
      y.owns.1.0,
      two-long t m a.its b.its a.ks a.count b.count a.many,
      (λ e. p.apart (sym e)),
      (let q = p.few in let l = ap length y.refs in omega arith),
    )

pub set_count-requires-clause-node : goal.set_count-requires-clause-node
set_count-requires-clause-node c =
    let (h, kind, sort, us, vs, ls, rs, m, R, p) = c.requires.nodes in let (qs, g) = c.requires.chain in
    let a = fifteen h kind us ls p.left_node in let b = fifteen h sort vs rs p.right_node in
    let at = goal.at.set_count-requires-clause-node c in
    let (t, top, z) = covered m a b qs at.After-cover p g in
    let y = children-in m a b qs at.After-move_children p t (items-in m a b qs at.After-move_links p t (item-in m a b qs at.After-swap p t z)) in
    (kind, 15, (fore a t m ++ (b.its ++ a.ks)) ++ (b.ks ++ []), y.owns.0)

pub publish_node-requires-clause-node : goal.publish_node-requires-clause-node
publish_node-requires-clause-node c =
    let (h, kind, sort, us, vs, ls, rs, m, R, p) = c.requires.nodes in let (qs, g) = c.requires.chain in
    let a = fifteen h kind us ls p.left_node in let b = fifteen h sort vs rs p.right_node in
    let at = goal.at.publish_node-requires-clause-node c in
    let (t, top, z) = covered m a b qs at.After-cover p g in
    let y = counted m a b qs at.After-set_count t (children-in m a b qs at.After-move_children p t (items-in m a b qs at.After-move_links p t
    (item-in m a b qs at.After-swap p t z))) in
    (sort, 15, b.top ∷ replicate 63 nil, y.owns.0, bare-low b.top b.fits)

pub publish_node-requires-clause-room : goal.publish_node-requires-clause-room
publish_node-requires-clause-room c =
    let (h, kind, sort, us, vs, ls, rs, m, R, p) = c.requires.nodes in let (qs, g) = c.requires.chain in
    let a = fifteen h kind us ls p.left_node in let b = fifteen h sort vs rs p.right_node in
    let at = goal.at.publish_node-requires-clause-room c in
    let (t, top, z) = covered m a b qs at.After-cover p g in
    let y = counted m a b qs at.After-set_count t (children-in m a b qs at.After-move_children p t (items-in m a b qs at.After-move_links p t
    (item-in m a b qs at.After-swap p t z))) in
    let l = ap length y.refs in let q = p.few in omega arith

pub drop_ref-requires-clause-reference : goal.drop_ref-requires-clause-reference
drop_ref-requires-clause-reference c =
    let (h, kind, sort, us, vs, ls, rs, m, R, p) = c.requires.nodes in let (qs, g) = c.requires.chain in
    let a = fifteen h kind us ls p.left_node in let b = fifteen h sort vs rs p.right_node in
    let at = goal.at.drop_ref-requires-clause-reference c in
    let (t, top, z) = covered m a b qs at.After-cover p g in
    let (u, here, y) = gone m a b qs at.After-publish_node t (counted m a b qs at.After-set_count t (children-in m a b qs at.After-move_children p t
    (items-in m a b qs at.After-move_links p t (item-in m a b qs at.After-swap p t z)))) in
    ap (λ ts. tree_word (tree_of c.args.right ts)) y.refs ∙ ap tree_word (tree_of-first c.args.right u R here) ∙ here

pub drop_ref-requires-clause-chain : goal.drop_ref-requires-clause-chain
drop_ref-requires-clause-chain c =
    let (h, kind, sort, us, vs, ls, rs, m, R, p) = c.requires.nodes in let (qs, g) = c.requires.chain in
    let a = fifteen h kind us ls p.left_node in let b = fifteen h sort vs rs p.right_node in
    let at = goal.at.drop_ref-requires-clause-chain c in
    let (t, top, z) = covered m a b qs at.After-cover p g in
    let (u, here, y) = gone m a b qs at.After-publish_node t (counted m a b qs at.After-set_count t (children-in m a b qs at.After-move_children p t
    (items-in m a b qs at.After-move_links p t (item-in m a b qs at.After-swap p t z)))) in
    bench-chain y

pub returns-clause-joined : goal.returns-clause-joined
returns-clause-joined c = λ h kind sort us vs ls rs m R p.
    let (qs, g) = c.requires.chain in
    let a = fifteen h kind us ls p.left_node in let b = fifteen h sort vs rs p.right_node in
    let at = goal.at.returns-clause-joined c in
    let (t, top, z) = covered m a b qs at.After-cover p g in
    let (u, here, y) = gone m a b qs at.After-publish_node t (counted m a b qs at.After-set_count t (children-in m a b qs at.After-move_children p t
    (items-in m a b qs at.After-move_links p t (item-in m a b qs at.After-swap p t z)))) in
    let x = bench-grows y c.drop_ref.ensures.chain (c.drop_ref.ensures.refs ∙ ap (without_tree c.args.right) y.refs
    ∙ without_tree-first c.args.right u R here) in
    record {
      us = (fore a t m ++ (b.its ++ a.ks)) ++ (b.ks ++ []);
      owns = x.owns.0;
      whole = both-joined h kind sort us vs ls rs t m a b p.fits top;
      refs = x.refs;
    }

pub returns-clause-spends : goal.returns-clause-spends
returns-clause-spends c = λ qs g.
    let (h, kind, sort, us, vs, ls, rs, m, R, p) = c.requires.nodes in
    let a = fifteen h kind us ls p.left_node in let b = fifteen h sort vs rs p.right_node in
    let at = goal.at.returns-clause-spends c in
    let (t, top, z) = covered m a b qs at.After-cover p g in
    let (u, here, y) = gone m a b qs at.After-publish_node t (counted m a b qs at.After-set_count t (children-in m a b qs at.After-move_children p t
    (items-in m a b qs at.After-move_links p t (item-in m a b qs at.After-swap p t z)))) in
    (bench-grows y c.drop_ref.ensures.chain (c.drop_ref.ensures.refs ∙ ap (without_tree c.args.right) y.refs ∙ without_tree-first c.args.right u R here)).spends
