use Rattle.std.proofs.Common.{◌≡◌, ◌≢◌, ℕ, List, [], ◌∷◌, ◌++◌, length, replicate, ap, sym, subst, ◌∙◌, refl, arith}
use Rattle.row_pool.specs.Trees.{Tree, nil}
use Rattle.row_pool.specs.SeatView.{SeatView}
use Rattle.row_pool.specs.Chains.{IsChain}
use Rattle.row_pool.specs.declared.chain.Chain.{Chain}
use Rattle.latch_item.specs.Shape.{Kid, Node, IsTop, Sorted}
use Rattle.interval_tree.specs.Held.{OwnsNode, Spends}
use Rattle.interval_tree.specs.Nodes.{Body}
use Rattle.interval_tree.specs.States.{Halves}
use Rattle.interval_tree.proofs.Rows.{back-cons}
use Rattle.interval_tree.proofs.Frames.{Aside, owns-kept, owns-others, apart-one, away-one, spends-add, spends-join, spends-others, spends-rotate, spends-swap}
use Rattle.interval_tree.proofs.Cutting.{node-body, body-with}
use Rattle.interval_tree.proofs.Greatest.{node-top}
use Rattle.interval_tree.proofs.Linking.{kid-row-of, shallow}
use Rattle.interval_tree.proofs.Parting.{two-apart, half-kept, new-root}
use Rattle.interval_tree.proofs.insert.grow_root.Goals as goal
use Rattle.interval_tree.proofs.insert.grow_root.Goals.{After-fresh_node-over, After-move_links, After-split_node-right, After-swap, After-link_node}
use Rattle.interval_tree.proofs.insert.grow_root.Goals.{After-link_node-2}

-- the full root, and the row that is to be the new one: f after the fresh row, a after the first link has moved
pub record Begun (h : ℕ) (f a : SeatView) (row over kind : ℕ) (xs : List Tree) : Type 0 where
  pub top : Tree
  pub tail : List Tree
  pub greatest : IsTop top xs
  pub old : OwnsNode f row kind 31 (top ∷ tail)
  pub apart : row ≢ over
  pub owns : OwnsNode a row kind 31 (nil ∷ tail)
  pub new : OwnsNode a over 3 1 (top ∷ replicate 63 nil)
  pub body : Body h kind 31 (nil ∷ tail) xs

old-kept : (c : After-fresh_node-over) → (kind : ℕ) (us : List Tree) → OwnsNode c.args.seat.now.view c.args.row kind 31 us
    → Aside c.fresh_node-over.new.seat.view c.args.row kind 31 us (c.fresh_node-over.result ∷ [])
old-kept c kind us o =
    let (rs, g, many) = c.requires.room in
    owns-kept 1 [] (c.fresh_node-over.result ∷ []) rs c.args.seat.now.view c.fresh_node-over.new.seat.view c.args.chain.now c.fresh_node-over.new.chain
    c.args.row kind 31 us g (c.fresh_node-over.ensures.spends rs g) o refl

pub move_links-requires-clause-links : goal.move_links-requires-clause-links
move_links-requires-clause-links c =
    let (h, kind, us, xs, low, o, n, sorted) = c.requires.node in
    let k = old-kept (goal.at.move_links-requires-clause-links c).After-fresh_node-over kind us o in
    let t = node-top h kind 31 us xs n in (
      kind,
      31,
      3,
      1,
      [],
      t.top ∷ [],
      t.tail,
      [],
      replicate 63 nil,
      subst (OwnsNode c.fresh_node-over.new.seat.view c.args.row kind 31) t.links k.owns,
      refl,
      refl,
      c.fresh_node-over.ensures.node,
      refl,
      apart-one c.args.row c.fresh_node-over.result k.apart,
      omega arith,
      omega arith,
      (let a = ap length c.fresh_node-over.ensures.same.1 in let b = c.requires.few in omega arith),
    )

begun : (c : After-move_links) → (h kind : ℕ) (us xs : List Tree) → OwnsNode c.args.seat.now.view c.args.row kind 31 us → Node h kind 31 us xs
    → Begun h c.fresh_node-over.new.seat.view c.move_links.new.seat.view c.args.row c.fresh_node-over.result kind xs
begun c h kind us xs o n =
    let (rs, g, many) = c.requires.room in
    let f = c.fresh_node-over.new.seat.view in
    let k = owns-kept 1 [] (c.fresh_node-over.result ∷ []) rs c.args.seat.now.view f c.args.chain.now c.fresh_node-over.new.chain c.args.row kind 31 us g
    (c.fresh_node-over.ensures.spends rs g) o refl in
    let t = node-top h kind 31 us xs n in
    let old = subst (OwnsNode f c.args.row kind 31) t.links k.owns in
    let apart = apart-one c.args.row c.fresh_node-over.result k.apart in
    let z = c.move_links.ensures.moved kind 31 3 1 [] (t.top ∷ []) t.tail [] (replicate 63 nil) old refl refl c.fresh_node-over.ensures.node refl apart in
    record {
      top = t.top;
      tail = t.tail;
      greatest = t.greatest;
      old = old;
      apart = apart;
      owns = z.0;
      new = z.1;
      body = body-with h kind 31 t.top nil t.tail xs (subst (λ us. Body h kind 31 us xs) t.links (node-body h kind 31 us xs n));
    }

-- the chain until the first link has moved
until-moved : (c : After-move_links) → (rs : List ℕ) → IsChain c.args.seat.now.view c.args.chain.now rs
    → Spends 1 (c.args.row ∷ []) (c.args.row ∷ c.fresh_node-over.result ∷ []) rs c.args.seat.now.view c.move_links.new.seat.view c.fresh_node-over.new.chain
until-moved c rs g =
    let row = c.args.row in let over = c.fresh_node-over.result in
    let v = c.args.seat.now.view in let f = c.fresh_node-over.new.seat.view in let p = c.fresh_node-over.new.chain in
    let s = spends-add row 1 [] (over ∷ []) rs v f p (c.fresh_node-over.ensures.spends rs g) in
    spends-join 1 0 (row ∷ []) (row ∷ over ∷ []) (row ∷ over ∷ []) rs v f c.move_links.new.seat.view p p s (c.move_links.ensures.spends s.left p s.chain)

pub split_node-right-requires-clause-node : goal.split_node-right-requires-clause-node
split_node-right-requires-clause-node c =
    let (h, kind, us, xs, low, o, n, sorted) = c.requires.node in
    let b = begun (goal.at.split_node-right-requires-clause-node c).After-move_links h kind us xs o n in (h, kind, nil ∷ b.tail, xs, b.owns, b.body, sorted)

pub split_node-right-requires-clause-few : goal.split_node-right-requires-clause-few
split_node-right-requires-clause-few c =
    let a = ap length (c.move_links.ensures.same.1 ∙ c.fresh_node-over.ensures.same.1) in let b = c.requires.few in omega arith

pub split_node-right-requires-clause-room : goal.split_node-right-requires-clause-room
split_node-right-requires-clause-room c =
    let (rs, g, many) = c.requires.room in
    let s = until-moved (goal.at.split_node-right-requires-clause-room c).After-move_links rs g in (s.left, s.chain, let a = s.spent in omega arith)

-- after the split: the halves, and the new root beside them
pub record Parted (h : ℕ) (s : SeatView) (row over right middle kind : ℕ) (top : Tree) (xs rest : List Tree) (c : Chain) : Type 0 where
  pub halves : Halves h s row right middle kind xs rest
  pub greatest : IsTop top xs
  pub new : OwnsNode s over 3 1 (top ∷ replicate 63 nil)
  pub row_apart : row ≢ over
  pub right_apart : right ≢ over
  pub rows : List ℕ
  pub chain : IsChain s c rows

parted : (c : After-split_node-right) → (h kind : ℕ) (xs : List Tree) → Sorted xs
    → Begun h c.fresh_node-over.new.seat.view c.move_links.new.seat.view c.args.row c.fresh_node-over.result kind xs
    → ((rs : List ℕ) → IsChain c.args.seat.now.view c.args.chain.now rs
    → Spends 1 (c.args.row ∷ []) (c.args.row ∷ c.fresh_node-over.result ∷ []) rs c.args.seat.now.view c.move_links.new.seat.view c.fresh_node-over.new.chain)
    → (top : Tree) × Parted h c.split_node-right.new.seat.view c.args.row c.fresh_node-over.result c.split_node-right.result.0 c.split_node-right.result.1 kind
    top
    xs c.args.seat.now.view.refs c.split_node-right.new.chain
parted c h kind xs sorted b moved =
    let row = c.args.row in let over = c.fresh_node-over.result in let right = c.split_node-right.result.0 in
    let a = c.move_links.new.seat.view in let s = c.split_node-right.new.seat.view in
    let (rs, g, many) = c.requires.room in
    let t = moved rs g in
    let e = c.split_node-right.ensures.spends t.left t.chain in
    let k = owns-kept 1 (row ∷ []) (row ∷ right ∷ []) t.left a s c.fresh_node-over.new.chain c.split_node-right.new.chain over 3 1 (b.top ∷ replicate 63 nil)
    t.chain
    e b.new (away-one over row (λ z. b.apart (sym z))) in
    let ne = two-apart over row right k.apart in (
      b.top,
      record {
        halves = subst (λ ts. Halves h s row right c.split_node-right.result.1 kind xs ts) (c.move_links.ensures.same.1 ∙ c.fresh_node-over.ensures.same.1)
            (c.split_node-right.ensures.halves h kind (nil ∷ b.tail) xs b.owns b.body sorted);
        greatest = b.greatest;
        new = k.owns;
        row_apart = ne.0;
        right_apart = ne.1;
        rows = e.left;
        chain = e.chain;
      },
    )

pub swap-requires-clause-link : goal.swap-requires-clause-link
swap-requires-clause-link c =
    let (h, kind, us, xs, low, o, n, sorted) = c.requires.node in
    let m = (goal.at.swap-requires-clause-link c).After-move_links in
    let (top, p) = parted (goal.at.swap-requires-clause-link c).After-split_node-right h kind xs sorted (begun m h kind us xs o n) (until-moved m) in (
      3,
      1,
      top ∷ [],
      replicate 62 nil,
      nil,
      p.halves.m,
      c.args.seat.now.view.refs,
      p.new,
      refl,
      omega arith,
      p.halves.refs ∙ back-cons p.halves.m c.args.seat.now.view.refs c.split_node-right.result.1 p.halves.here,
      (let a = p.halves.here in omega arith),
      (let a = c.requires.few in omega arith),
    )

-- with the middle item in the new root
pub record Middled (h : ℕ) (b : SeatView) (row over right kind : ℕ) (top m : Tree) (us vs ls rs rest : List Tree) (c : Chain) : Type 0 where
  pub new : OwnsNode b over 3 1 ((top ∷ m ∷ replicate 30 nil) ++ nil ∷ replicate 31 nil)
  pub left : OwnsNode b row kind 15 us
  pub right_owns : OwnsNode b right kind 15 vs
  pub refs : b.refs ≡ rest
  pub rows : List ℕ
  pub chain : IsChain b c rows

middled : (c : After-swap) → (h kind : ℕ) (xs : List Tree) (top : Tree)
    → (p : Parted h c.split_node-right.new.seat.view c.args.row c.fresh_node-over.result c.split_node-right.result.0 c.split_node-right.result.1 kind top xs
    c.args.seat.now.view.refs c.split_node-right.new.chain)
    → Middled h c.swap.new.seat.view c.args.row c.fresh_node-over.result c.split_node-right.result.0 kind top p.halves.m p.halves.us p.halves.vs p.halves.ls
    p.halves.rs c.args.seat.now.view.refs c.split_node-right.new.chain
middled c h kind xs top p =
    let over = c.fresh_node-over.result in let s = c.split_node-right.new.seat.view in let b = c.swap.new.seat.view in let g = p.halves in
    let z = c.swap.ensures.node 3 1 (top ∷ []) (replicate 62 nil) nil g.m c.args.seat.now.view.refs p.new refl
    (g.refs ∙ back-cons g.m c.args.seat.now.view.refs c.split_node-right.result.1 g.here) (let a = g.here in omega arith) in
    let t = spends-others s b over 3 1 (top ∷ replicate 63 nil) c.split_node-right.new.chain [] p.rows p.new c.swap.ensures.others p.chain in
    record {
      new = z.1;
      left = owns-others over s b c.args.row kind 15 g.us c.swap.ensures.others p.row_apart g.left_owns;
      right_owns = owns-others over s b c.split_node-right.result.0 kind 15 g.vs c.swap.ensures.others p.right_apart g.right_owns;
      refs = z.2;
      rows = t.left;
      chain = t.chain;
    }

pub link_node-requires-clause-link : goal.link_node-requires-clause-link
link_node-requires-clause-link c =
    let (h, kind, us, xs, low, o, n, sorted) = c.requires.node in
    let m = (goal.at.link_node-requires-clause-link c).After-move_links in
    let (top, p) = parted (goal.at.link_node-requires-clause-link c).After-split_node-right h kind xs sorted (begun m h kind us xs o n) (until-moved m) in
    let q = middled (goal.at.link_node-requires-clause-link c).After-swap h kind xs top p in (
      3,
      1,
      top ∷ p.halves.m ∷ replicate 30 nil,
      replicate 31 nil,
      kind,
      15,
      p.halves.us,
      q.new,
      refl,
      omega arith,
      q.left,
      shallow h 3 kind 15 p.halves.us p.halves.ls (omega arith) p.halves.left_node,
      p.row_apart,
      (let a = ap length q.refs in let b = c.requires.few in omega arith),
    )

-- with the left half under the new root
pub record Halfway (h : ℕ) (d : SeatView) (over right kind : ℕ) (top m : Tree) (us vs ls rest : List Tree) : Type 0 where
  pub tree : Tree
  pub kid : Kid (Node h) tree ls
  pub new : OwnsNode d over 3 1 (((top ∷ m ∷ replicate 30 nil) ++ tree ∷ []) ++ nil ∷ replicate 30 nil)
  pub right_owns : OwnsNode d right kind 15 vs
  pub refs : d.refs ≡ rest

halfway : (c : After-link_node) → (h kind : ℕ) (xs : List Tree) (top : Tree)
    → (p : Parted h c.split_node-right.new.seat.view c.args.row c.fresh_node-over.result c.split_node-right.result.0 c.split_node-right.result.1 kind top xs
    c.args.seat.now.view.refs c.split_node-right.new.chain)
    → (q : Middled h c.swap.new.seat.view c.args.row c.fresh_node-over.result c.split_node-right.result.0 kind top p.halves.m p.halves.us p.halves.vs
    p.halves.ls
    p.halves.rs c.args.seat.now.view.refs c.split_node-right.new.chain)
    → Halfway h c.link_node.new.seat.view c.fresh_node-over.result c.split_node-right.result.0 kind top p.halves.m p.halves.us p.halves.vs p.halves.ls
    c.args.seat.now.view.refs
halfway c h kind xs top p q =
    let over = c.fresh_node-over.result in let right = c.split_node-right.result.0 in let g = p.halves in
    let z = c.link_node.ensures.linked 3 1 (top ∷ g.m ∷ replicate 30 nil) (replicate 31 nil) kind 15 g.us q.new refl q.left p.row_apart in
    record {
      tree = z.tree;
      kid = kid-row-of h z.tree c.args.row kind 15 g.us g.ls z.is (omega arith) g.left_node;
      new = z.owns;
      right_owns = half-kept c.swap.new.seat.view c.link_node.new.seat.view over c.args.row right 15 kind g.vs q.rows c.split_node-right.new.chain q.chain
          c.link_node.ensures.spends p.right_apart (λ e. g.apart (sym e)) q.right_owns;
      refs = z.refs ∙ q.refs;
    }

pub link_node-requires-2-clause-link : goal.link_node-requires-2-clause-link
link_node-requires-2-clause-link c =
    let (h, kind, us, xs, low, o, n, sorted) = c.requires.node in
    let m = (goal.at.link_node-requires-2-clause-link c).After-move_links in
    let (top, p) = parted (goal.at.link_node-requires-2-clause-link c).After-split_node-right h kind xs sorted (begun m h kind us xs o n) (until-moved m) in
    let q = middled (goal.at.link_node-requires-2-clause-link c).After-swap h kind xs top p in
    let e = halfway (goal.at.link_node-requires-2-clause-link c).After-link_node h kind xs top p q in (
      3,
      1,
      (top ∷ p.halves.m ∷ replicate 30 nil) ++ e.tree ∷ [],
      replicate 30 nil,
      kind,
      15,
      p.halves.vs,
      e.new,
      refl,
      omega arith,
      e.right_owns,
      shallow h 3 kind 15 p.halves.vs p.halves.rs (omega arith) p.halves.right_node,
      p.right_apart,
      (let a = ap length e.refs in let b = c.requires.few in omega arith),
    )

pub returns-clause-same : goal.returns-clause-same
returns-clause-same c =
    let (h, kind, us, xs, low, o, n, sorted) = c.requires.node in
    let m = (goal.at.returns-clause-same c).After-move_links in
    let (top, p) = parted (goal.at.returns-clause-same c).After-split_node-right h kind xs sorted (begun m h kind us xs o n) (until-moved m) in
    let q = middled (goal.at.returns-clause-same c).After-swap h kind xs top p in
    let e = halfway (goal.at.returns-clause-same c).After-link_node h kind xs top p q in (
      c.link_node-2.ensures.table ∙ c.link_node.ensures.table ∙ c.swap.ensures.table ∙ c.split_node-right.ensures.table ∙ c.move_links.ensures.same.0
          ∙ c.fresh_node-over.ensures.same.0,
      (c.link_node-2.ensures.linked 3 1 ((top ∷ p.halves.m ∷ replicate 30 nil) ++ e.tree ∷ []) (replicate 30 nil) kind 15 p.halves.vs e.new refl e.right_owns
          p.right_apart).refs ∙ e.refs,
    )

pub returns-clause-root : goal.returns-clause-root
returns-clause-root c = λ h kind us xs low o n sorted.
    let m = (goal.at.returns-clause-root c).After-move_links in
    let (top, p) = parted (goal.at.returns-clause-root c).After-split_node-right h kind xs sorted (begun m h kind us xs o n) (until-moved m) in
    let q = middled (goal.at.returns-clause-root c).After-swap h kind xs top p in
    let e = halfway (goal.at.returns-clause-root c).After-link_node h kind xs top p q in let g = p.halves in
    let z = c.link_node-2.ensures.linked 3 1 ((top ∷ g.m ∷ replicate 30 nil) ++ e.tree ∷ []) (replicate 30 nil) kind 15 g.vs e.new refl e.right_owns
    p.right_apart in (
      top ∷ g.m ∷ (replicate 30 nil ++ e.tree ∷ z.tree ∷ replicate 30 nil),
      z.owns,
      new-root h top g.m e.tree z.tree xs g.ls g.rs p.greatest g.latch g.list e.kid
          (kid-row-of h z.tree c.split_node-right.result.0 kind 15 g.vs g.rs z.is (omega arith) g.right_node),
    )

pub returns-clause-spends : goal.returns-clause-spends
returns-clause-spends c = λ rs chain_is.
    let (h, kind, us, xs, low, o, n, sorted) = c.requires.node in
    let m = (goal.at.returns-clause-spends c).After-move_links in
    let (top, p) = parted (goal.at.returns-clause-spends c).After-split_node-right h kind xs sorted (begun m h kind us xs o n) (until-moved m) in
    let row = c.args.row in let over = c.fresh_node-over.result in let right = c.split_node-right.result.0 in
    let v = c.args.seat.now.view in let a = c.move_links.new.seat.view in let s = c.split_node-right.new.seat.view in
    let b = c.swap.new.seat.view in let d = c.link_node.new.seat.view in let w = c.link_node-2.new.seat.view in
    let k = c.fresh_node-over.new.chain in let e = c.split_node-right.new.chain in
    let all : List ℕ = over ∷ row ∷ right ∷ [] in
    let s1 = until-moved (goal.at.returns-clause-spends c).After-move_links rs chain_is in
    let s2 = spends-swap over row 1 [] all s1.left a s e
    (spends-add over 1 (row ∷ []) (row ∷ right ∷ []) s1.left a s e (c.split_node-right.ensures.spends s1.left s1.chain)) in
    let s3 = spends-others s b over 3 1 (top ∷ replicate 63 nil) e (row ∷ right ∷ []) s2.left p.new c.swap.ensures.others s2.chain in
    let s4 = spends-rotate right over row 0 (right ∷ over ∷ []) s3.left b d e
    (spends-add right 0 (over ∷ row ∷ []) (over ∷ []) s3.left b d e (c.link_node.ensures.spends s3.left e s3.chain)) in
    let s5 = spends-swap over right 0 [] (over ∷ []) s4.left d w e (c.link_node-2.ensures.spends s4.left e s4.chain) in
    spends-join 1 1 (row ∷ []) (row ∷ over ∷ []) (over ∷ []) rs v a w k e s1
    (spends-join 1 0 (row ∷ over ∷ []) all (over ∷ []) s1.left a s w e e s2
    (spends-join 0 0 all all (over ∷ []) s2.left s b w e e s3 (spends-join 0 0 all (right ∷ over ∷ []) (over ∷ []) s3.left b d w e e s4 s5)))
