use Rattle.std.proofs.Common.{List, [], arith, refl, suc, sym, ℕ, ◌++◌, ◌+◌, ◌-◌, ◌∷◌, ◌≡◌}
use Rattle.row_pool.specs.Chains.{IsChain}
use Rattle.row_pool.specs.Trees.{Tree, children, nil, tree_word}
use Rattle.latch_item.specs.Items.{word}
use Rattle.tree_shrink.proofs.Bench.{Bench, bench-apart, bench-chain, bench-third, node_at}
use Rattle.tree_shrink.proofs.Mending.{bench-cut, bench-joined, bench-taken, cut-can, joins-left, left-links, roomy, take-can, wider-front}
use Rattle.tree_shrink.proofs.Seams.{kid-place, kid_back, kid_front, seam-kid, without}
use Rattle.tree_shrink.specs.Slots.{Leftward, cut_links}
use Rattle.tree_shrink.specs.Stages.{Open}
use Rattle.tree_shrink.proofs.mend.merge_left.Goals as goal
use Rattle.tree_shrink.proofs.mend.merge_left.Goals.{After-take_child-left, After-cut_item-item, After-join_nodes}

pub take_child-left-requires-clause-child : goal.take_child-left-requires-clause-child
take_child-left-requires-clause-child c =
    let (h, xs, ps, ys, qs, R, low, o, r, thin, poor) = c.requires.state in let sm = r.seam in let n = c.args.n in
    take-can o (kid_front sm o.top r.s) (nil ∷ kid_back sm) r.kid r.l (left-links o r) (kid-place (suc h) n o.top r.s r.ls qs c.args.b sm) (let a =
    c.requires.low in omega arith) r.part

module _ {h : ℕ} {xs ps ys qs R : List Tree} where
  taken : (c : After-take_child-left) → (o : Open h c.args.seat.now.view c.args.row c.args.n c.args.child (c.args.b + 1) xs ps ys qs R)
      → (r : Leftward (suc h) c.args.n ps qs (c.args.b + 1) c.args.b o.slot) → {rs : List ℕ} → IsChain c.args.seat.now.view c.args.chain.now rs
      → Bench c.args.seat.now.view (c.args.row ∷ c.args.child ∷ []) rs 1 c.take_child-left.new.seat.view c.take_child-left.new.chain
      (node_at c.args.row 3 c.args.n (kid_front r.seam o.top r.s ++ nil ∷ (nil ∷ kid_back r.seam))
      ∷ node_at c.take_child-left.result (word r.kid 1) (word r.kid 2) (children r.kid) ∷ node_at c.args.child o.sort o.count o.below ∷ []) R
  taken c o r g = let sm = r.seam in let n = c.args.n in bench-taken o (kid_front sm o.top r.s) (nil ∷ kid_back sm) r.kid r.l (left-links o r) (kid-place
      (suc h) n o.top r.s r.ls qs c.args.b sm) r.part
      c.take_child-left.ensures.taken c.take_child-left.ensures.same.1 c.take_child-left.ensures.spends g

  -- the item between the two is out
  out : (c : After-cut_item-item) → (o : Open h c.args.seat.now.view c.args.row c.args.n c.args.child (c.args.b + 1) xs ps ys qs R)
      → (r : Leftward (suc h) c.args.n ps qs (c.args.b + 1) c.args.b o.slot) → {rs : List ℕ}
      → Bench c.args.seat.now.view (c.args.row ∷ c.args.child ∷ []) rs 1 c.take_child-left.new.seat.view c.take_child-left.new.chain
      (node_at c.args.row 3 c.args.n (kid_front r.seam o.top r.s ++ nil ∷ (nil ∷ kid_back r.seam))
      ∷ node_at c.take_child-left.result (word r.kid 1) (word r.kid 2) (children r.kid) ∷ node_at c.args.child o.sort o.count o.below ∷ []) R
      → (c.cut_item-item.result ≡ tree_word r.s)
      × Bench c.args.seat.now.view (c.args.row ∷ c.args.child ∷ []) rs 1 c.cut_item-item.new.seat.view c.take_child-left.new.chain
      (node_at c.take_child-left.result (word r.kid 1) (word r.kid 2) (children r.kid) ∷ node_at c.args.child o.sort o.count o.below
      ∷ node_at c.args.row 3 (c.args.n - 1) (cut_links r.seam o.top nil) ∷ []) (r.s ∷ R)
  out c o r b =
      let sm = r.seam in let n = c.args.n in
      let (named, z) = bench-cut sm (kid_front sm o.top r.s) (nil ∷ kid_back sm) b (sym (seam-kid (suc h) n o.top r.s nil nil r.ls qs c.args.b sm)) r.fits
      c.cut_item-item.ensures.seam c.cut_item-item.ensures.others in (named, bench-third (bench-third z))

pub cut_item-item-requires-clause-seam : goal.cut_item-item-requires-clause-seam
cut_item-item-requires-clause-seam c =
    let (h, xs, ps, ys, qs, R, low, o, r, thin, poor) = c.requires.state in let (rs, g, many) = c.requires.room in let sm = r.seam in let n = c.args.n in
    cut-can sm (kid_front sm o.top r.s) (nil ∷ kid_back sm) (taken (goal.at.cut_item-item-requires-clause-seam c).After-take_child-left o r g) (sym (seam-kid
    (suc h) n o.top r.s nil nil r.ls qs c.args.b sm)) r.fits o.few

pub join_nodes-requires-clause-nodes : goal.join_nodes-requires-clause-nodes
join_nodes-requires-clause-nodes c =
    let (h, xs, ps, ys, qs, R, low, o, r, thin, poor) = c.requires.state in let (rs, g, many) = c.requires.room in
    let at = goal.at.join_nodes-requires-clause-nodes c in
    let (named, z) = out at.After-cut_item-item o r (taken at.After-take_child-left o r g) in
    (h, word r.kid 1, o.sort, children r.kid, o.below, r.l, ys, r.s, R, joins-left o r.part poor thin z r.fits named)

pub join_nodes-requires-clause-chain : goal.join_nodes-requires-clause-chain
join_nodes-requires-clause-chain c =
    let (h, xs, ps, ys, qs, R, low, o, r, thin, poor) = c.requires.state in let (rs, g, many) = c.requires.room in
    let at = goal.at.join_nodes-requires-clause-chain c in
    bench-chain (out at.After-cut_item-item o r (taken at.After-take_child-left o r g)).1

pub returns-clause-roomy : goal.returns-clause-roomy
returns-clause-roomy c = λ h xs ps ys qs R low o r thin poor.
    let (rs, g, many) = c.requires.room in let at = goal.at.returns-clause-roomy c in
    let (named, z) = out at.After-cut_item-item o r (taken at.After-take_child-left o r g) in
    let has = c.join_nodes.ensures.joined h (word r.kid 1) o.sort (children r.kid) o.below r.l ys r.s R (joins-left o r.part poor thin z r.fits named) in
    let t = bench-joined z c.join_nodes.ensures.spends has.owns has.refs in
    let n = c.args.n in
    roomy h c.args.seat.now.view c.join_nodes.new.seat.view c.args.row n c.args.child (c.args.b + 1) xs ps ys qs R o (n - 1) c.take_child-left.result
    c.args.b r.ls
    (r.l ++ r.s ∷ ys) qs (r.l ++ r.s ∷ []) [] (without (suc h) n r.ls qs c.args.b r.seam) (word r.kid 1) 31 has.us r.list (wider-front r.l ys r.s) refl t.owns.0
    (λ e. bench-apart t (sym e)) t.owns.1.0 has.whole (omega arith) t.refs

pub returns-clause-spends : goal.returns-clause-spends
returns-clause-spends c = λ rs g.
    let (h, xs, ps, ys, qs, R, low, o, r, thin, poor) = c.requires.state in let at = goal.at.returns-clause-spends c in
    let (named, z) = out at.After-cut_item-item o r (taken at.After-take_child-left o r g) in
    let has = c.join_nodes.ensures.joined h (word r.kid 1) o.sort (children r.kid) o.below r.l ys r.s R (joins-left o r.part poor thin z r.fits named) in
    (bench-joined z c.join_nodes.ensures.spends has.owns has.refs).spends
