use Rattle.std.proofs.Common.{List, [], ap, arith, length, refl, replicate, subst, suc, sym, ℕ, ◌++◌, ◌-◌, ◌∙◌, ◌∷◌, ◌≡◌, ◌≢◌, ◌≤◌}
use Rattle.row_pool.proofs.NewestRef.{tree_of-first, without_tree-first}
use Rattle.row_pool.specs.Chains.{IsChain}
use Rattle.row_pool.specs.Changes.{tree_of, without_tree}
use Rattle.row_pool.specs.SeatState.{SeatState}
use Rattle.row_pool.specs.SeatView.{SeatView}
use Rattle.row_pool.specs.Trees.{Tree, nil, tree_word}
use Rattle.interval_tree.proofs.Frames.{spends-grows, spends-join, spends-leaves, spends-others}
use Rattle.interval_tree.proofs.Linking.{shallow}
use Rattle.interval_tree.proofs.Rows.{back-cons}
use Rattle.interval_tree.specs.Held.{OthersStand, OwnsNode, Spends}
use Rattle.interval_tree.specs.Nodes.{Body}
use Rattle.tree_shrink.proofs.Joining.{bare-low}
use Rattle.tree_shrink.proofs.Reaching.{Bare, bare, standing, standing-kid}
use Rattle.tree_shrink.specs.Stages.{Left}
use Rattle.tree_shrink.specs.Steps.{SpendsAll}
use Rattle.tree_shrink.proofs.whole.settle_root.Goals as goal
use Rattle.tree_shrink.proofs.whole.settle_root.Goals.{After-count_of, After-swap, After-publish_node, After-publish_node-2}

-- the number of items was read
view : (c : After-count_of) → c.count_of.new.seat.view ≡ c.args.seat.now.view
view c = ap (λ (s : SeatState). s.view) c.count_of.ensures.same

pub publish_node-requires-clause-node : goal.publish_node-requires-clause-node
publish_node-requires-clause-node c =
    let (xs, it, R, l) = c.requires.left in
    let e = c.count_of.ensures.count l.kind l.many l.stood.us l.stood.owns in (
      l.kind,
      l.many,
      l.stood.us,
      subst (λ v. OwnsNode v c.args.node l.kind l.many l.stood.us)
          (sym (view (goal.at.publish_node-requires-clause-node c).After-count_of)) l.stood.owns,
      shallow c.args.level 3 l.kind l.many l.stood.us l.ys (let a = l.low in omega arith) (l.stood.whole (let b = c.if-count_of-gt0.true in omega arith)),
    )

pub publish_node-requires-clause-room : goal.publish_node-requires-clause-room
publish_node-requires-clause-room c =
    let (xs, it, R, l) = c.requires.left in
    let a = ap length (ap (λ (v : SeatView). v.refs) (view (goal.at.publish_node-requires-clause-room c).After-count_of) ∙ l.refs) in
    let b = l.few in omega arith

pub returns-then-count_of-gt0-clause-standing : goal.returns-then-count_of-gt0-clause-standing
returns-then-count_of-gt0-clause-standing c = λ xs it R l.
    let e = c.count_of.ensures.count l.kind l.many l.stood.us l.stood.owns in let q = view (goal.at.returns-then-count_of-gt0-clause-standing
    c).After-count_of in
    let some_items : 1 ≤ l.many = (let b = c.if-count_of-gt0.true in omega arith) in
    let w = c.publish_node.ensures.node l.kind l.many l.stood.us (subst (λ v. OwnsNode v c.args.node l.kind l.many l.stood.us) (sym q) l.stood.owns) in (
      l.ys,
      l.gone,
      standing c.args.level c.args.level c.publish_node.new.seat.view w.tree c.args.node l.kind l.many l.stood.us l.ys R refl l.low w.is
          (l.stood.whole some_items) some_items l.sorted (w.refs ∙ ap (λ ts. w.tree ∷ ts) (ap (λ (v : SeatView). v.refs) q ∙ l.refs)),
    )

pub returns-then-count_of-gt0-clause-low : goal.returns-then-count_of-gt0-clause-low
returns-then-count_of-gt0-clause-low c = let (xs, it, R, l) = c.requires.left in l.low

pub returns-then-count_of-gt0-clause-spends : goal.returns-then-count_of-gt0-clause-spends
returns-then-count_of-gt0-clause-spends c = λ rs g.
    let (xs, it, R, l) = c.requires.left in let q = view (goal.at.returns-then-count_of-gt0-clause-spends c).After-count_of in
    let o = subst (λ v. OwnsNode v c.args.node l.kind l.many l.stood.us) (sym q) l.stood.owns in
    let w = c.publish_node.ensures.node l.kind l.many l.stood.us o in
    subst (λ v. Spends 0 (c.args.node ∷ []) [] rs v c.publish_node.new.seat.view c.args.chain.now) q
    (spends-leaves c.count_of.new.seat.view c.publish_node.new.seat.view c.args.node l.kind l.many l.stood.us c.args.chain.now [] rs o w.others w.gone
    (subst (λ v. IsChain v c.args.chain.now rs) (sym q) g))

-- ---- a root without items
record Only (h : ℕ) (v : SeatView) (node kind n : ℕ) (ys R : List Tree) : Type 0 where
  level : ℕ
  up : h ≡ suc level
  us : List Tree
  bare_root : Bare level us ys
  owns : OwnsNode v node kind n ((bare_root.top ∷ replicate 31 nil) ++ bare_root.c ∷ replicate 31 nil)
  back : v.refs ≡ R

only : (c : After-count_of) → c.count_of.result ≤ 0 → (xs : List Tree) (it : Tree) (R : List Tree)
    → (l : Left c.args.level c.args.seat.now.view c.args.node xs it R) → Only c.args.level c.count_of.new.seat.view c.args.node l.kind l.many l.ys R
only c none xs it R l =
    let e = c.count_of.ensures.count l.kind l.many l.stood.us l.stood.owns in let h : ℕ = c.args.level - 1 in
    let zero_items : l.many ≡ 0 = omega arith in
    let ne : c.args.level ≢ 0 = (λ z. let b = l.leaf z in absurd (omega arith)) in
    let up : c.args.level ≡ suc h = omega arith in
    let q = bare h l.kind l.stood.us l.ys (subst (λ (w : ℕ × ℕ). Body w.0 l.kind w.1 l.stood.us l.ys) (λ i. (up i, zero_items i)) l.stood.body) l.stood.led in
    record {
      level = h;
      up = up;
      us = l.stood.us;
      bare_root = q;
      owns = subst (λ (w : SeatView × List Tree). OwnsNode w.0 c.args.node l.kind l.many w.1) (λ i. (sym (view c) i, q.links i)) l.stood.owns;
      back = ap (λ (v : SeatView). v.refs) (view c) ∙ l.refs;
    }

pub swap-requires-clause-link : goal.swap-requires-clause-link
swap-requires-clause-link c =
    let (xs, it, R, l) = c.requires.left in let o = only (goal.at.swap-requires-clause-link c).After-count_of c.if-count_of-gt0.false xs it R l in
    let q = o.bare_root in (
      l.kind,
      l.many,
      q.top ∷ replicate 31 nil,
      replicate 31 nil,
      q.c,
      nil,
      c.count_of.new.seat.view.refs,
      o.owns,
      refl,
      omega arith,
      refl,
      refl,
      (let a = ap length o.back in let b = l.few in omega arith),
    )

-- the child is out
out : (c : After-swap) → (level kind n : ℕ) (us ys R : List Tree) → (q : Bare level us ys)
    → OwnsNode c.count_of.new.seat.view c.args.node kind n ((q.top ∷ replicate 31 nil) ++ q.c ∷ replicate 31 nil) → c.count_of.new.seat.view.refs ≡ R
    → (c.swap.result ≡ tree_word q.c) × OwnsNode c.swap.new.seat.view c.args.node kind n (q.top ∷ replicate 63 nil) × (c.swap.new.seat.view.refs ≡ q.c ∷ R)
out c level kind n us ys R q o e =
    let z = c.swap.ensures.node kind n (q.top ∷ replicate 31 nil) (replicate 31 nil) q.c nil c.count_of.new.seat.view.refs o refl refl refl in
    (z.0, z.1, z.2 ∙ sym (back-cons q.c c.count_of.new.seat.view.refs q.kid.row q.kid.here) ∙ ap (λ ts. q.c ∷ ts) e)

pub overflow_sub-child : goal.overflow_sub-child
overflow_sub-child c =
    let (xs, it, R, l) = c.requires.left in let at = goal.at.overflow_sub-child c in
    let o = only at.After-count_of c.if-count_of-gt0.false xs it R l in let q = o.bare_root in
    let z = out at.After-swap o.level l.kind l.many o.us l.ys R q o.owns o.back in let a = q.kid.here in let b = z.0 in omega arith

pub publish_node-requires-2-clause-node : goal.publish_node-requires-2-clause-node
publish_node-requires-2-clause-node c =
    let (xs, it, R, l) = c.requires.left in let at = goal.at.publish_node-requires-2-clause-node c in
    let o = only at.After-count_of c.if-count_of-gt0.false xs it R l in let q = o.bare_root in
    (l.kind, l.many, q.top ∷ replicate 63 nil, (out at.After-swap o.level l.kind l.many o.us l.ys R q o.owns o.back).1, bare-low q.top q.fits)

pub publish_node-requires-2-clause-room : goal.publish_node-requires-2-clause-room
publish_node-requires-2-clause-room c =
    let (xs, it, R, l) = c.requires.left in let at = goal.at.publish_node-requires-2-clause-room c in
    let o = only at.After-count_of c.if-count_of-gt0.false xs it R l in let q = o.bare_root in
    let a = ap length (out at.After-swap o.level l.kind l.many o.us l.ys R q o.owns o.back).2 in let b = l.few in omega arith

-- the node is live
live : (c : After-publish_node-2) → (kind n : ℕ) (top u : Tree) (R : List Tree) → OwnsNode c.swap.new.seat.view c.args.node kind n (top ∷ replicate 63 nil)
    → c.swap.new.seat.view.refs ≡ u ∷ R
    → (t : Tree) × (tree_word t ≡ suc c.args.node) × (c.publish_node-2.new.seat.view.refs ≡ t ∷ u ∷ R)
    × SpendsAll 0 (c.args.node ∷ []) [] c.swap.new.seat.view c.publish_node-2.new.seat.view c.args.chain.now c.args.chain.now
live c kind n top u R o e =
    let w = c.publish_node-2.ensures.node kind n (top ∷ replicate 63 nil) o in (
      w.tree,
      w.is.here,
      w.refs ∙ ap (λ ts. w.tree ∷ ts) e,
      λ rs g. spends-leaves c.swap.new.seat.view c.publish_node-2.new.seat.view c.args.node kind n
          (top ∷ replicate 63 nil) c.args.chain.now [] rs o w.others w.gone g,
    )

pub drop_ref-requires-clause-reference : goal.drop_ref-requires-clause-reference
drop_ref-requires-clause-reference c =
    let (xs, it, R, l) = c.requires.left in let at = goal.at.drop_ref-requires-clause-reference c in
    let o = only at.After-count_of c.if-count_of-gt0.false xs it R l in let q = o.bare_root in
    let (is, owns, refs) = out at.After-swap o.level l.kind l.many o.us l.ys R q o.owns o.back in
    let (t, here, refs2, sp) = live at.After-publish_node-2 l.kind l.many q.top q.c R owns refs in
    ap (λ ts. tree_word (tree_of c.args.node ts)) refs2 ∙ ap tree_word (tree_of-first c.args.node t (q.c ∷ R) here) ∙ here

-- the chain until the node is live
until-live : (c : After-publish_node-2) → (kind n : ℕ) (us : List Tree) → OwnsNode c.args.seat.now.view c.args.node kind n us
    → c.count_of.new.seat.view ≡ c.args.seat.now.view
    → SpendsAll 0 (c.args.node ∷ []) [] c.swap.new.seat.view c.publish_node-2.new.seat.view c.args.chain.now c.args.chain.now
    → SpendsAll 0 (c.args.node ∷ []) [] c.args.seat.now.view c.publish_node-2.new.seat.view c.args.chain.now c.args.chain.now
until-live c kind n us o e sp rs g =
    let node = c.args.node in let v = c.args.seat.now.view in
    let others = subst (λ v. OthersStand node v c.swap.new.seat.view) e c.swap.ensures.others in
    let s = spends-others v c.swap.new.seat.view node kind n us c.args.chain.now [] rs o others g in
    spends-join 0 0 (node ∷ []) (node ∷ []) [] rs v c.swap.new.seat.view c.publish_node-2.new.seat.view c.args.chain.now c.args.chain.now s (sp s.left s.chain)

pub drop_ref-requires-clause-chain : goal.drop_ref-requires-clause-chain
drop_ref-requires-clause-chain c =
    let (xs, it, R, l) = c.requires.left in let (rs, g) = c.requires.chain in let at = goal.at.drop_ref-requires-clause-chain c in
    let o = only at.After-count_of c.if-count_of-gt0.false xs it R l in let q = o.bare_root in
    let (is, owns, refs) = out at.After-swap o.level l.kind l.many o.us l.ys R q o.owns o.back in
    let (t, here, refs2, sp) = live at.After-publish_node-2 l.kind l.many q.top q.c R owns refs in
    let s = until-live at.After-publish_node-2 l.kind l.many l.stood.us l.stood.owns (view at.After-count_of) sp rs g in (s.left, s.chain)

pub returns-clause-standing : goal.returns-clause-standing
returns-clause-standing c = λ xs it R l.
    let at = goal.at.returns-clause-standing c in
    let o = only at.After-count_of c.if-count_of-gt0.false xs it R l in let q = o.bare_root in
    let (is, owns, refs) = out at.After-swap o.level l.kind l.many o.us l.ys R q o.owns o.back in
    let (t, here, refs2, sp) = live at.After-publish_node-2 l.kind l.many q.top q.c R owns refs in (
      l.ys,
      l.gone,
      standing-kid o.level (c.args.level - 1) c.drop_ref.new.seat.view q.c (c.swap.result - 1) l.ys R (let a = o.up in omega arith)
          (let a = o.up in let b = l.low in omega arith) (let a = q.kid.here in omega arith) q.kid l.sorted
          (c.drop_ref.ensures.refs ∙ ap (without_tree c.args.node) refs2 ∙ without_tree-first c.args.node t (q.c ∷ R) here),
    )

pub returns-clause-low : goal.returns-clause-low
returns-clause-low c = let (xs, it, R, l) = c.requires.left in let a = l.low in omega arith

pub returns-clause-spends : goal.returns-clause-spends
returns-clause-spends c = λ rs g.
    let (xs, it, R, l) = c.requires.left in let at = goal.at.returns-clause-spends c in let node = c.args.node in
    let o = only at.After-count_of c.if-count_of-gt0.false xs it R l in let q = o.bare_root in
    let (is, owns, refs) = out at.After-swap o.level l.kind l.many o.us l.ys R q o.owns o.back in
    let (t, here, refs2, sp) = live at.After-publish_node-2 l.kind l.many q.top q.c R owns refs in
    let s = until-live at.After-publish_node-2 l.kind l.many l.stood.us l.stood.owns (view at.After-count_of) sp rs g in
    spends-join 0 0 (node ∷ []) [] [] rs c.args.seat.now.view c.publish_node-2.new.seat.view c.drop_ref.new.seat.view c.args.chain.now c.drop_ref.new.chain s
    (spends-grows c.publish_node-2.new.seat.view c.drop_ref.new.seat.view c.args.chain.now c.drop_ref.new.chain [] s.left c.drop_ref.ensures.chain s.chain)

pub overflow_sub-result : goal.overflow_sub-result
overflow_sub-result c =
    let (xs, it, R, l) = c.requires.left in
    let o = only (goal.at.overflow_sub-result c).After-count_of c.if-count_of-gt0.false xs it R l in let a = o.up in omega arith
