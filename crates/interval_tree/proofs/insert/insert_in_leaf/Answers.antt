use Rattle.std.proofs.Common.{◌≡◌, ◌+◌, ℕ, List, [], ◌∷◌, ◌++◌, length, ap, sym, subst, ◌∙◌, arith}
use Rattle.row_pool.specs.Trees.{Tree, nil}
use Rattle.row_pool.specs.SeatView.{SeatView}
use Rattle.row_pool.specs.SeatState.{SeatState}
use Rattle.row_pool.specs.Changes.{with_old_target}
use Rattle.interval_tree.specs.Held.{OwnsNode, OthersStand}
use Rattle.interval_tree.specs.States.{Ready}
use Rattle.interval_tree.proofs.Rows.{back-cons}
use Rattle.interval_tree.proofs.Frames.{others-join, spends-join, spends-others}
use Rattle.interval_tree.proofs.Leading.{newest, lead-leaf, LeafPlan, leaf-plan}
use Rattle.interval_tree.proofs.insert.insert_in_leaf.Goals as goal
use Rattle.interval_tree.proofs.insert.insert_in_leaf.Goals.{After-raise_top, After-place-i, After-insert_link}

pub raise_top-requires-clause-node : goal.raise_top-requires-clause-node
raise_top-requires-clause-node c =
    let (kind, n, us, xs, it, rest, r) = c.requires.ready in
    let l = lead-leaf kind n us xs r.node in (
      kind,
      n,
      l.top,
      xs ++ l.tail,
      it,
      subst (OwnsNode c.args.seat.now.view c.args.row kind n) l.links r.owns,
      l.latch,
      newest c.args.seat.now.view it rest c.args.item r.refs r.here r.latch,
    )

pub raise_top-requires-clause-few : goal.raise_top-requires-clause-few
raise_top-requires-clause-few c =
    let (kind, n, us, xs, it, rest, r) = c.requires.ready in let a = ap length r.refs in let b = r.few in omega arith

pub place-i-requires-clause-node : goal.place-i-requires-clause-node
place-i-requires-clause-node c =
    let (kind, n, us, xs, it, rest, r) = c.requires.ready in
    let l = lead-leaf kind n us xs r.node in
    let v = c.args.seat.now.view in
    let (new, raised, o) = c.raise_top.ensures.node kind n l.top (xs ++ l.tail) it (subst (OwnsNode v c.args.row kind n) l.links r.owns) l.latch
    (newest v it rest c.args.item r.refs r.here r.latch) in (
      kind,
      n,
      new,
      xs,
      l.tail,
      it,
      o,
      l.count,
      (let a = r.room in omega arith),
      l.items,
      r.sorted,
      newest c.raise_top.new.seat.view it rest c.args.item (c.raise_top.ensures.same.1 ∙ r.refs) r.here r.latch,
    )

planned : (c : After-place-i) → (kind n : ℕ) (us xs : List Tree) (it : Tree) (rest : List Tree)
    → Ready 0 c.args.seat.now.view c.args.row c.args.item kind n us xs it rest → LeafPlan c.raise_top.new.seat.view c.args.row c.place-i.result kind n xs it
    rest
planned c kind n us xs it rest r = leaf-plan c.args.seat.now.view c.raise_top.new.seat.view c.args.row c.args.item c.place-i.result kind n us xs it rest r
    c.raise_top.ensures.node c.raise_top.ensures.same.1 c.place-i.ensures.place

pub insert_link-requires-clause-link : goal.insert_link-requires-clause-link
insert_link-requires-clause-link c =
    let (kind, n, us, xs, it, rest, r) = c.requires.ready in
    let p = planned (goal.at.insert_link-requires-clause-link c).After-place-i kind n us xs it rest r in
    let same = sym c.place-i.ensures.same.1 in (
      kind,
      n,
      p.new ∷ p.is,
      p.js,
      p.back,
      it,
      rest,
      subst (λ v. OwnsNode v c.args.row kind n ((p.new ∷ p.is) ++ (p.js ++ nil ∷ p.back))) same p.owns,
      p.place,
      p.each_row,
      (let a = p.place in let b = p.low in let d = r.room in omega arith),
      subst (λ (v : SeatView). v.refs ≡ with_old_target it rest) same (p.refs ∙ back-cons it rest c.args.item r.here),
      (let a = r.here in omega arith),
      (let a = r.few in omega arith),
    )

-- the leaf with the item's link
linked : (c : After-insert_link) → (kind n : ℕ) (us xs : List Tree) (it : Tree) (rest : List Tree)
    → Ready 0 c.args.seat.now.view c.args.row c.args.item kind n us xs it rest
    → (p : LeafPlan c.raise_top.new.seat.view c.args.row c.place-i.result kind n xs it rest)
    × OwnsNode c.insert_link.new.seat.view c.args.row kind n ((p.new ∷ p.is) ++ it ∷ (p.js ++ p.back)) × (c.insert_link.new.seat.view.refs ≡ rest)
linked c kind n us xs it rest r =
    let p = leaf-plan c.args.seat.now.view c.raise_top.new.seat.view c.args.row c.args.item c.place-i.result kind n us xs it rest r
    c.raise_top.ensures.node c.raise_top.ensures.same.1 c.place-i.ensures.place in
    let same = sym c.place-i.ensures.same.1 in
    let z = c.insert_link.ensures.node kind n (p.new ∷ p.is) p.js p.back it rest
    (subst (λ v. OwnsNode v c.args.row kind n ((p.new ∷ p.is) ++ (p.js ++ nil ∷ p.back))) same p.owns) p.place p.each_row
    (subst (λ (v : SeatView). v.refs ≡ with_old_target it rest) same (p.refs ∙ back-cons it rest c.args.item r.here)) (let a = r.here in omega arith) in
    (p, z.0, z.1)

pub count_of-n-requires-clause-node : goal.count_of-n-requires-clause-node
count_of-n-requires-clause-node c =
    let (kind, n, us, xs, it, rest, r) = c.requires.ready in
    let (p, o, refs) = linked (goal.at.count_of-n-requires-clause-node c).After-insert_link kind n us xs it rest r in (kind, n, _, o)

pub overflow_add-n : goal.overflow_add-n
overflow_add-n c =
    let (kind, n, us, xs, it, rest, r) = c.requires.ready in
    let (p, o, refs) = linked (goal.at.overflow_add-n c).After-insert_link kind n us xs it rest r in
    let a = c.count_of-n.ensures.count kind n _ o in let b = r.room in omega arith

pub set_count-requires-clause-node : goal.set_count-requires-clause-node
set_count-requires-clause-node c =
    subst (λ (s : SeatState). (kind m : ℕ) × (us : List Tree) × OwnsNode s.view c.args.row kind m us) (sym c.count_of-n.ensures.same)
    (let (kind, n, us, xs, it, rest, r) = c.requires.ready in
    let (p, o, refs) = linked (goal.at.set_count-requires-clause-node c).After-insert_link kind n us xs it rest r in (kind, n, _, o))

pub returns-clause-grown : goal.returns-clause-grown
returns-clause-grown c = λ kind n us xs it rest r.
    let (p, o, refs) = linked (goal.at.returns-clause-grown c).After-insert_link kind n us xs it rest r in
    let a = c.count_of-n.ensures.count kind n _ o in
    let same = ap (λ (s : SeatState). s.view) c.count_of-n.ensures.same in
    record {
      many = n + 1;
      us = (p.new ∷ p.is) ++ it ∷ (p.js ++ p.back);
      ys = p.is ++ it ∷ p.js;
      owns = subst (λ k. OwnsNode c.set_count.new.seat.view c.args.row kind (k + 1) ((p.new ∷ p.is) ++ it ∷ (p.js ++ p.back))) a
          (c.set_count.ensures.node kind n _ (subst (λ v. OwnsNode v c.args.row kind n ((p.new ∷ p.is) ++ it ∷ (p.js ++ p.back))) (sym same) o));
      node = p.node;
      more = p.more;
      least = omega arith;
      most = (let b = r.room in omega arith);
      refs = c.set_count.ensures.same.1 ∙ ap (λ (v : SeatView). v.refs) same ∙ refs;
    }

pub returns-clause-spends : goal.returns-clause-spends
returns-clause-spends c = λ rs h.
    let (kind, n, us, xs, it, rest, r) = c.requires.ready in
    let l = lead-leaf kind n us xs r.node in
    let v = c.args.seat.now.view in let a = c.raise_top.new.seat.view in let w = c.set_count.new.seat.view in let row = c.args.row in
    let (new, raised, o) = c.raise_top.ensures.node kind n l.top (xs ++ l.tail) it (subst (OwnsNode v row kind n) l.links r.owns) l.latch
    (newest v it rest c.args.item r.refs r.here r.latch) in
    let s = c.raise_top.ensures.spends rs h in
    let link = subst (λ v. OthersStand row v c.insert_link.new.seat.view) c.place-i.ensures.same.1 c.insert_link.ensures.others in
    let count = subst (λ (s : SeatState). OthersStand row s.view w) c.count_of-n.ensures.same c.set_count.ensures.others in
    spends-join 0 0 (row ∷ []) (row ∷ []) (row ∷ []) rs v a w c.raise_top.new.chain c.raise_top.new.chain s
    (spends-others a w row kind n (new ∷ (xs ++ l.tail)) c.raise_top.new.chain [] s.left o (others-join a c.insert_link.new.seat.view w row link count) s.chain)
