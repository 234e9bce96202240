use Rattle.std.proofs.Common.{◌≡◌, ◌≤◌, ◌-◌, ℕ, suc, List, [], ◌∷◌, ◌++◌, length, ap, sym, subst, ◌∙◌, refl, arith}
use Rattle.row_pool.specs.Trees.{Tree, nil, tree_word, children}
use Rattle.row_pool.specs.SeatView.{SeatView}
use Rattle.row_pool.specs.Changes.{tree_of, without_tree}
use Rattle.row_pool.specs.Chains.{IsChain}
use Rattle.row_pool.proofs.NewestRef.{tree_of-first, without_tree-first}
use Rattle.latch_item.specs.Items.{word}
use Rattle.latch_item.specs.Shape.{Sorted, Stands}
use Rattle.interval_tree.specs.Held.{OwnsNode, Spends}
use Rattle.interval_tree.specs.States.{Ready}
use Rattle.interval_tree.proofs.Rows.{back-cons}
use Rattle.interval_tree.proofs.Weaves.{sorted-items}
use Rattle.interval_tree.proofs.Frames.{owns-kept, apart-one, spends-add, spends-join, spends-others}
use Rattle.interval_tree.proofs.Leading.{newest, lead-inner, ChildPlan, child-plan}
use Rattle.interval_tree.proofs.insert.open_child.Goals as goal
use Rattle.interval_tree.proofs.insert.open_child.Goals.{After-raise_top, After-place-i, After-swap-child, After-own_node-child}

pub raise_top-requires-clause-node : goal.raise_top-requires-clause-node
raise_top-requires-clause-node c =
    let (h, kind, n, us, xs, it, rest, r) = c.requires.ready in
    let l = lead-inner h kind n us xs r.node in (
      kind,
      n,
      l.top,
      r.node.its ++ l.tail,
      it,
      subst (OwnsNode c.args.seat.now.view c.args.row kind n) l.links r.owns,
      l.latch,
      newest c.args.seat.now.view it rest c.args.item r.refs r.here r.latch,
    )

pub raise_top-requires-clause-few : goal.raise_top-requires-clause-few
raise_top-requires-clause-few c =
    let (h, kind, n, us, xs, it, rest, r) = c.requires.ready in let a = ap length r.refs in let b = r.few in omega arith

pub raise_top-requires-clause-chain : goal.raise_top-requires-clause-chain
raise_top-requires-clause-chain c = let (rs, h, many) = c.requires.room in (rs, h)

pub place-i-requires-clause-node : goal.place-i-requires-clause-node
place-i-requires-clause-node c =
    let (h, kind, n, us, xs, it, rest, r) = c.requires.ready in
    let l = lead-inner h kind n us xs r.node in
    let v = c.args.seat.now.view in
    let (new, raised, o) = c.raise_top.ensures.node kind n l.top (r.node.its ++ l.tail) it (subst (OwnsNode v c.args.row kind n) l.links r.owns) l.latch
    (newest v it rest c.args.item r.refs r.here r.latch) in (
      kind,
      n,
      new,
      r.node.its,
      l.tail,
      it,
      o,
      l.count,
      (let a = r.room in omega arith),
      l.items,
      sorted-items r.node.its r.node.yss (subst Sorted r.node.list r.sorted),
      newest c.raise_top.new.seat.view it rest c.args.item (c.raise_top.ensures.same.1 ∙ r.refs) r.here r.latch,
    )

planned : (c : After-place-i) → (h kind n : ℕ) (us xs : List Tree) (it : Tree) (rest : List Tree)
    → Ready (suc h) c.args.seat.now.view c.args.row c.args.item kind n us xs it rest
    → ChildPlan h c.place-i.new.seat.view c.args.row c.place-i.result kind n xs it rest
planned c h kind n us xs it rest r =
    subst (λ v. ChildPlan h v c.args.row c.place-i.result kind n xs it rest) (sym c.place-i.ensures.same.1)
    (child-plan h c.args.seat.now.view c.raise_top.new.seat.view c.args.row c.args.item c.place-i.result kind n us xs it rest r
    c.raise_top.ensures.node c.raise_top.ensures.same.1 c.place-i.ensures.place)

pub swap-child-requires-clause-link : goal.swap-child-requires-clause-link
swap-child-requires-clause-link c =
    let (h, kind, n, us, xs, it, rest, r) = c.requires.ready in
    let p = planned (goal.at.swap-child-requires-clause-link c).After-place-i h kind n us xs it rest r in (
      kind,
      n,
      p.new ∷ p.out.front,
      p.out.back,
      p.out.child,
      nil,
      c.place-i.new.seat.view.refs,
      p.owns,
      p.place,
      (let a = p.low in omega arith),
      refl,
      refl,
      (let a = ap length p.refs in let b = r.few in omega arith),
    )

-- the child is out
pub record Taken (h : ℕ) (p b : SeatView) (row i kind n child : ℕ) (xs : List Tree) (it : Tree) (rest : List Tree) : Type 0 where
  pub plan : ChildPlan h p row i kind n xs it rest
  pub here : tree_word plan.out.child ≡ suc (child - 1)
  pub least : 1 ≤ child
  pub owns : OwnsNode b row kind n ((plan.new ∷ plan.out.front) ++ nil ∷ plan.out.back)
  pub refs : b.refs ≡ plan.out.child ∷ it ∷ rest

taken : (c : After-swap-child) → (h kind n : ℕ) (us xs : List Tree) (it : Tree) (rest : List Tree)
    → Ready (suc h) c.args.seat.now.view c.args.row c.args.item kind n us xs it rest
    → Taken h c.place-i.new.seat.view c.swap-child.new.seat.view c.args.row c.place-i.result kind n c.swap-child.result xs it rest
taken c h kind n us xs it rest r =
    let p : ChildPlan h c.place-i.new.seat.view c.args.row c.place-i.result kind n xs it rest
    = subst (λ v. ChildPlan h v c.args.row c.place-i.result kind n xs it rest) (sym c.place-i.ensures.same.1)
    (child-plan h c.args.seat.now.view c.raise_top.new.seat.view c.args.row c.args.item c.place-i.result kind n us xs it rest r
    c.raise_top.ensures.node c.raise_top.ensures.same.1 c.place-i.ensures.place) in
    let z = c.swap-child.ensures.node kind n (p.new ∷ p.out.front) p.out.back p.out.child nil c.place-i.new.seat.view.refs p.owns p.place refl refl in
    let here : tree_word p.out.child ≡ suc (c.swap-child.result - 1) = (let a = p.out.kid.here in let b = z.0 in omega arith) in
    record {
      plan = p;
      here = here;
      least = (let a = p.out.kid.here in let b = z.0 in omega arith);
      owns = z.1;
      refs = z.2 ∙ sym (back-cons p.out.child c.place-i.new.seat.view.refs (c.swap-child.result - 1) here) ∙ ap (λ l. p.out.child ∷ l) p.refs;
    }

pub overflow_sub-child : goal.overflow_sub-child
overflow_sub-child c =
    let (h, kind, n, us, xs, it, rest, r) = c.requires.ready in
    (taken (goal.at.overflow_sub-child c).After-swap-child h kind n us xs it rest r).least

pub own_node-child-requires-clause-node : goal.own_node-child-requires-clause-node
own_node-child-requires-clause-node c =
    let (h, kind, n, us, xs, it, rest, r) = c.requires.ready in
    let t = taken (goal.at.own_node-child-requires-clause-node c).After-swap-child h kind n us xs it rest r in
    let child = c.swap-child.result - 1 in
    let is : tree_of child c.swap-child.new.seat.view.refs ≡ t.plan.out.child = ap (tree_of child) t.refs
    ∙ tree_of-first child t.plan.out.child (it ∷ rest) t.here in
    (h, t.plan.out.ys, ap tree_word is ∙ t.here, subst (λ u. Stands h u t.plan.out.ys) (sym is) t.plan.out.kid.node)

pub own_node-child-requires-clause-few : goal.own_node-child-requires-clause-few
own_node-child-requires-clause-few c =
    let (h, kind, n, us, xs, it, rest, r) = c.requires.ready in
    let t = taken (goal.at.own_node-child-requires-clause-few c).After-swap-child h kind n us xs it rest r in
    let a = ap length t.refs in let b = r.few in omega arith

-- the chain until the child is out
until-out : (c : After-swap-child) → (rs : List ℕ) → IsChain c.args.seat.now.view c.args.chain.now rs
    → Spends 0 (c.args.row ∷ []) (c.args.row ∷ []) rs c.args.seat.now.view c.swap-child.new.seat.view c.raise_top.new.chain
until-out c rs h =
    let (l, kind, n, us, xs, it, rest, r) = c.requires.ready in
    let row = c.args.row in let p = c.place-i.new.seat.view in
    let s = subst (λ w. Spends 0 (row ∷ []) (row ∷ []) rs c.args.seat.now.view w c.raise_top.new.chain) (sym c.place-i.ensures.same.1)
    (c.raise_top.ensures.spends rs h) in
    let q = subst (λ v. ChildPlan l v row c.place-i.result kind n xs it rest) (sym c.place-i.ensures.same.1)
    (child-plan l c.args.seat.now.view c.raise_top.new.seat.view row c.args.item c.place-i.result kind n us xs it rest r
    c.raise_top.ensures.node c.raise_top.ensures.same.1 c.place-i.ensures.place) in
    spends-join 0 0 (row ∷ []) (row ∷ []) (row ∷ []) rs c.args.seat.now.view p c.swap-child.new.seat.view c.raise_top.new.chain c.raise_top.new.chain s
    (spends-others p c.swap-child.new.seat.view row kind n _ c.raise_top.new.chain [] s.left q.owns c.swap-child.ensures.others s.chain)

pub own_node-child-requires-clause-room : goal.own_node-child-requires-clause-room
own_node-child-requires-clause-room c =
    let (rs, h, many) = c.requires.room in
    let s = until-out (goal.at.own_node-child-requires-clause-room c).After-swap-child rs h in
    (s.left, s.chain, let a = s.spent in omega arith)

pub returns-clause-opened : goal.returns-clause-opened
returns-clause-opened c = λ h kind n us xs it rest r.
    let at = (goal.at.returns-clause-opened c).After-swap-child in
    let t = taken at h kind n us xs it rest r in
    let p = t.plan in
    let row = c.args.row in let b = c.swap-child.new.seat.view in let d = c.own_node-child.new.seat.view in
    let child = c.swap-child.result - 1 in
    let is : tree_of child b.refs ≡ p.out.child = ap (tree_of child) t.refs ∙ tree_of-first child p.out.child (it ∷ rest) t.here in
    let (rs, g, many) = c.requires.room in let s = until-out at rs g in
    let k = owns-kept 1 [] (c.own_node-child.result ∷ []) s.left b d c.raise_top.new.chain c.own_node-child.new.chain row kind n
    ((p.new ∷ p.out.front) ++ nil ∷ p.out.back) s.chain (c.own_node-child.ensures.spends s.left s.chain) t.owns refl in (
      p.new,
      record {
        us = p.out.front ++ nil ∷ p.out.back;
        ps = p.out.ps;
        qs = p.out.qs;
        ys = p.out.ys;
        below = children p.out.child;
        sort = word p.out.child 1;
        count = word p.out.child 2;
        owns = k.owns;
        hole = p.out.hole;
        tops = p.tops;
        least = p.out.kid.least;
        list = p.out.list;
        low = p.out.low;
        high = p.out.high;
        apart = λ e. apart-one row c.own_node-child.result k.apart (sym e);
        owns_child = subst (λ (u : Tree). OwnsNode d c.own_node-child.result (word u 1) (word u 2) (children u)) is c.own_node-child.ensures.node;
        node = p.out.kid.node;
        sorted = p.out.sorted;
        differs = p.out.differs;
        latch = r.latch;
        here = r.here;
        refs = c.own_node-child.ensures.same.1 ∙ ap (without_tree child) t.refs ∙ without_tree-first child p.out.child (it ∷ rest) t.here;
        few = r.few;
      },
    )

pub returns-clause-spends : goal.returns-clause-spends
returns-clause-spends c = λ rs h.
    let row = c.args.row in let v = c.args.seat.now.view in let b = c.swap-child.new.seat.view in let d = c.own_node-child.new.seat.view in
    let s = until-out (goal.at.returns-clause-spends c).After-swap-child rs h in
    spends-join 0 1 (row ∷ []) (row ∷ []) (row ∷ c.own_node-child.result ∷ []) rs v b d c.raise_top.new.chain c.own_node-child.new.chain s
    (spends-add row 1 [] (c.own_node-child.result ∷ []) s.left b d c.own_node-child.new.chain (c.own_node-child.ensures.spends s.left s.chain))
