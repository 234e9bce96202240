use Rattle.std.proofs.Common.{List, [], ap, arith, length, refl, subst, suc, sym, ℕ, ◌++◌, ◌+◌, ◌-◌, ◌∙◌, ◌∷◌, ◌≡◌, ◌≤◌}
use Rattle.row_pool.specs.Chains.{IsChain}
use Rattle.row_pool.specs.Changes.{with_old_target}
use Rattle.row_pool.specs.Trees.{Tree, children, nil}
use Rattle.latch_item.specs.Items.{word}
use Rattle.interval_tree.specs.Held.{OwnsNode}
use Rattle.tree_shrink.proofs.Bench.{Bench, bench-chain, node_at}
use Rattle.tree_shrink.proofs.Mending.{LentFrom, bench-gained, bench-lent, bench-link, bench-linked, bench-swap, bench-swapped, bench-taken, child-gains}
use Rattle.tree_shrink.proofs.Mending.{front-moves, item-kid, left-links, left-sorted, lent-refs, roomy, take-can, wider-front}
use Rattle.tree_shrink.proofs.Seams.{close-left, item_back, item_front, kid-place, kid_back, kid_front, seam-kid}
use Rattle.tree_shrink.specs.Slots.{Leftward}
use Rattle.tree_shrink.specs.Stages.{Has, Open}
use Rattle.tree_shrink.proofs.mend.from_left.Goals as goal
use Rattle.tree_shrink.proofs.mend.from_left.Goals.{After-take_child-left, After-lend_last-item, After-swap-middle, After-gain_first, After-link_node}

pub take_child-left-requires-clause-child : goal.take_child-left-requires-clause-child
take_child-left-requires-clause-child c =
    let (n, (h, xs, ps, ys, qs, R, low, o, l, rich, poor)) = c.requires.state in let sm = l.seam in
    take-can o (kid_front sm o.top l.s) (nil ∷ kid_back sm) l.kid l.l (left-links o l) (kid-place (suc h) n o.top l.s l.ls qs c.args.b sm)
    (let a = c.requires.low in omega arith) l.part

module _ {n h : ℕ} {xs ps ys qs R : List Tree} where
  taken : (c : After-take_child-left) → (o : Open h c.args.seat.now.view c.args.row n c.args.child (c.args.b + 1) xs ps ys qs R)
      → (l : Leftward (suc h) n ps qs (c.args.b + 1) c.args.b o.slot) → {rs : List ℕ} → IsChain c.args.seat.now.view c.args.chain.now rs
      → Bench c.args.seat.now.view (c.args.row ∷ c.args.child ∷ []) rs 1 c.take_child-left.new.seat.view c.take_child-left.new.chain
      (node_at c.args.row 3 n (kid_front l.seam o.top l.s ++ nil ∷ (nil ∷ kid_back l.seam))
      ∷ node_at c.take_child-left.result (word l.kid 1) (word l.kid 2) (children l.kid) ∷ node_at c.args.child o.sort o.count o.below ∷ []) R
  taken c o l g = bench-taken o (kid_front l.seam o.top l.s) (nil ∷ kid_back l.seam) l.kid l.l (left-links o l)
      (kid-place (suc h) n o.top l.s l.ls qs c.args.b l.seam) l.part c.take_child-left.ensures.taken c.take_child-left.ensures.same.1
      c.take_child-left.ensures.spends g

  -- the last item of the neighbour is out
  out : (c : After-lend_last-item) → (o : Open h c.args.seat.now.view c.args.row n c.args.child (c.args.b + 1) xs ps ys qs R)
      → (l : Leftward (suc h) n ps qs (c.args.b + 1) c.args.b o.slot) → 16 ≤ word l.kid 2 → {rs : List ℕ}
      → Bench c.args.seat.now.view (c.args.row ∷ c.args.child ∷ []) rs 1 c.take_child-left.new.seat.view c.take_child-left.new.chain
      (node_at c.args.row 3 n (kid_front l.seam o.top l.s ++ nil ∷ (nil ∷ kid_back l.seam))
      ∷ node_at c.take_child-left.result (word l.kid 1) (word l.kid 2) (children l.kid) ∷ node_at c.args.child o.sort o.count o.below ∷ []) R
      → (g : LentFrom h c.lend_last-item.new.seat.view c.take_child-left.result (word l.kid 1) (word l.kid 2 - 1) l.l c.lend_last-item.result.0
      c.lend_last-item.result.1 R
      (λ ls m l2. ls ++ m ∷ l2))
      × Bench c.args.seat.now.view (c.args.row ∷ c.args.child ∷ []) rs 1 c.lend_last-item.new.seat.view c.lend_last-item.new.chain
      (node_at c.args.row 3 n (item_front l.seam o.top ++ l.s ∷ item_back l.seam nil nil)
      ∷ node_at c.take_child-left.result (word l.kid 1) (word l.kid 2 - 1) g.lent.us ∷ node_at c.args.child o.sort o.count o.below ∷ [])
      (g.m ∷ with_old_target g.lent.u R)
  out c o l rich b =
      let g = lent-refs b.refs (c.lend_last-item.ensures.lent h (word l.kid 1) (word l.kid 2) (children l.kid) l.l b.owns.1.0 l.part.node (omega arith)
      (left-sorted o l)) in (
        g,
        bench-lent l.seam l.s (kid_front l.seam o.top l.s) (nil ∷ kid_back l.seam) b c.lend_last-item.ensures.spends g.lent.owns g.lent.carried.refs
            (item-kid l.seam o.top l.s),
      )

pub lend_last-item-requires-clause-node : goal.lend_last-item-requires-clause-node
lend_last-item-requires-clause-node c =
    let (n, (h, xs, ps, ys, qs, R, low, o, l, rich, poor)) = c.requires.state in let (rs, g, many) = c.requires.room in
    let b = taken (goal.at.lend_last-item-requires-clause-node c).After-take_child-left o l g in (
      h,
      word l.kid 1,
      word l.kid 2,
      children l.kid,
      l.l,
      b.owns.1.0,
      l.part.node,
      omega arith,
      (let a = ap length b.refs in let d = o.few in omega arith),
      left-sorted o l,
    )

pub lend_last-item-requires-clause-chain : goal.lend_last-item-requires-clause-chain
lend_last-item-requires-clause-chain c =
    let (n, (h, xs, ps, ys, qs, R, low, o, l, rich, poor)) = c.requires.state in let (rs, g, many) = c.requires.room in
    bench-chain (taken (goal.at.lend_last-item-requires-clause-chain c).After-take_child-left o l g)

pub swap-middle-requires-clause-link : goal.swap-middle-requires-clause-link
swap-middle-requires-clause-link c =
    let (n, (h, xs, ps, ys, qs, R, low, o, l, rich, poor)) = c.requires.state in let (rs, g, many) = c.requires.room in
    let at = goal.at.swap-middle-requires-clause-link c in
    let (e, b) = out at.After-lend_last-item o l rich (taken at.After-take_child-left o l g) in
    bench-swap l.seam l.s R e.lent.u b e.lent.carried.fits e.lent.carried.item_is o.few

pub gain_first-requires-clause-gains : goal.gain_first-requires-clause-gains
gain_first-requires-clause-gains c =
    let (n, (h, xs, ps, ys, qs, R, low, o, l, rich, poor)) = c.requires.state in let (rs, g, many) = c.requires.room in
    let at = goal.at.gain_first-requires-clause-gains c in
    let (e, b) = out at.After-lend_last-item o l rich (taken at.After-take_child-left o l g) in
    let (named, d) = bench-swapped l.seam R e.lent.u b c.swap-middle.ensures.node c.swap-middle.ensures.others e.lent.carried.fits l.fits
    e.lent.carried.item_is in
    (h, o.sort, o.below, ys, e.l2, l.s, e.lent.u, R, child-gains o poor d l.fits e.lent.carried.part named e.lent.carried.kid_is)

pub gain_first-requires-clause-chain : goal.gain_first-requires-clause-chain
gain_first-requires-clause-chain c =
    let (n, (h, xs, ps, ys, qs, R, low, o, l, rich, poor)) = c.requires.state in let (rs, g, many) = c.requires.room in
    let at = goal.at.gain_first-requires-clause-chain c in
    let (e, b) = out at.After-lend_last-item o l rich (taken at.After-take_child-left o l g) in
    bench-chain (bench-swapped l.seam R e.lent.u b c.swap-middle.ensures.node c.swap-middle.ensures.others e.lent.carried.fits l.fits e.lent.carried.item_is).1

module _ {n h : ℕ} {xs ps ys qs R : List Tree} where
  -- the child has the item
  gained : (c : After-gain_first) → (o : Open h c.args.seat.now.view c.args.row n c.args.child (c.args.b + 1) xs ps ys qs R)
      → (l : Leftward (suc h) n ps qs (c.args.b + 1) c.args.b o.slot) → o.count ≡ 15 → {rs : List ℕ}
      → (e : LentFrom h c.lend_last-item.new.seat.view c.take_child-left.result (word l.kid 1) (word l.kid 2 - 1) l.l
      c.lend_last-item.result.0 c.lend_last-item.result.1 R (λ ls m l2. ls ++ m ∷ l2))
      → Bench c.args.seat.now.view (c.args.row ∷ c.args.child ∷ []) rs 1 c.lend_last-item.new.seat.view c.lend_last-item.new.chain
      (node_at c.args.row 3 n (item_front l.seam o.top ++ l.s ∷ item_back l.seam nil nil)
      ∷ node_at c.take_child-left.result (word l.kid 1) (word l.kid 2 - 1) e.lent.us ∷ node_at c.args.child o.sort o.count o.below ∷ [])
      (e.m ∷ with_old_target e.lent.u R)
      → (has : Has h c.gain_first.new.seat.view c.args.child o.sort 16 (e.l2 ++ l.s ∷ ys) R)
      × Bench c.args.seat.now.view (c.args.row ∷ c.args.child ∷ []) rs 1 c.gain_first.new.seat.view c.gain_first.new.chain
      (node_at c.args.row 3 n (kid_front l.seam o.top e.m ++ nil ∷ (nil ∷ kid_back l.seam))
      ∷ node_at c.take_child-left.result (word l.kid 1) (word l.kid 2 - 1) e.lent.us ∷ node_at c.args.child o.sort 16 has.us ∷ []) R
  gained c o l poor e b =
      let (named, d) = bench-swapped l.seam R e.lent.u b c.swap-middle.ensures.node c.swap-middle.ensures.others e.lent.carried.fits l.fits
      e.lent.carried.item_is in
      let has = c.gain_first.ensures.gained h o.sort o.below ys e.l2 l.s e.lent.u R
      (child-gains o poor d l.fits e.lent.carried.part named e.lent.carried.kid_is) in (
        has,
        bench-gained l.seam e.m (kid_front l.seam o.top e.m) (nil ∷ kid_back l.seam) d c.gain_first.ensures.spends has.owns has.refs (sym (item-kid
            l.seam o.top e.m)),
      )

pub link_node-requires-clause-link : goal.link_node-requires-clause-link
link_node-requires-clause-link c =
    let (n, (h, xs, ps, ys, qs, R, low, o, l, rich, poor)) = c.requires.state in let (rs, g, many) = c.requires.room in
    let at = goal.at.link_node-requires-clause-link c in
    let (e, b) = out at.After-lend_last-item o l rich (taken at.After-take_child-left o l g) in
    let (has, d) = gained at.After-gain_first o l poor e b in
    bench-link h (32 + c.args.b) e.ls (kid_front l.seam o.top e.m) (nil ∷ kid_back l.seam) d (kid-place (suc h) n o.top e.m l.ls qs c.args.b l.seam) (let a =
    c.requires.low in omega arith) e.lent.whole low o.few

pub returns-clause-roomy : goal.returns-clause-roomy
returns-clause-roomy c = λ n h xs ps ys qs R low o l rich poor.
    let (rs, g, many) = c.requires.room in let at = goal.at.returns-clause-roomy c in
    let v = c.args.seat.now.view in let w = c.link_node.new.seat.view in let row = c.args.row in let child = c.args.child in let b = c.args.b in
    let (e, t) = out at.After-lend_last-item o l rich (taken at.After-take_child-left o l g) in
    let (has, d) = gained at.After-gain_first o l poor e t in
    let k = bench-linked h (32 + b) (kid_front l.seam o.top e.m) (nil ∷ kid_back l.seam) d (kid-place (suc h) n o.top e.m l.ls qs b l.seam) e.lent.whole
    (omega arith) c.link_node.ensures.spends
    c.link_node.ensures.linked in
    let j = close-left (suc h) n l.ls qs b l.seam e.m k.tree e.ls e.lent.carried.fits k.kid in
    roomy h v w row n child (b + 1) xs ps ys qs R o n child (b + 1) (l.ls ++ (e.ls ++ e.m ∷ [])) (e.l2 ++ l.s ∷ ys) qs (e.l2 ++ l.s ∷ []) [] j.slot o.sort 16
    has.us
    (front-moves ps l.ls l.l e.ls e.l2 l.s e.m l.list e.list) (wider-front e.l2 ys l.s) refl
    (subst (OwnsNode w row 3 n) (sym (seam-kid (suc h) n o.top e.m k.tree nil l.ls qs b l.seam) ∙ j.links o.top nil) k.bench.owns.0) o.apart k.bench.owns.1.0
    has.whole (omega arith) k.bench.refs

pub returns-clause-spends : goal.returns-clause-spends
returns-clause-spends c = λ rs g.
    let (n, (h, xs, ps, ys, qs, R, low, o, l, rich, poor)) = c.requires.state in let at = goal.at.returns-clause-spends c in
    let (e, t) = out at.After-lend_last-item o l rich (taken at.After-take_child-left o l g) in
    let (has, d) = gained at.After-gain_first o l poor e t in
    (bench-linked h (32 + c.args.b) (kid_front l.seam o.top e.m) (nil ∷ kid_back l.seam) d (kid-place (suc h) n o.top e.m l.ls qs c.args.b l.seam)
    e.lent.whole (omega arith) c.link_node.ensures.spends
    c.link_node.ensures.linked).bench.spends
