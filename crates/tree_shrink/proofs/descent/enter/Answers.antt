use Rattle.std.proofs.Common.{List, [], ap, arith, length, subst, suc, sym, ℕ, ◌++◌, ◌∙◌, ◌∷◌, ◌≡◌, ◌≢◌}
use Rattle.std.specs.Prelude.{Option}
use Rattle.row_pool.specs.SeatView.{SeatView}
use Rattle.row_pool.specs.Trees.{Tree}
use Rattle.latch_item.specs.Shape.{IsTop}
use Rattle.interval_tree.proofs.Frames.{spends-join}
use Rattle.interval_tree.proofs.Linking.{room-after, room-less}
use Rattle.interval_tree.specs.Held.{HasRoom, OwnsNode}
use Rattle.tree_shrink.proofs.Borders.{flat-top}
use Rattle.tree_shrink.proofs.Descending.{Opens, entered, opened, opens, some-item}
use Rattle.tree_shrink.proofs.Seams.{flat-of, slot_back, slot_front}
use Rattle.tree_shrink.specs.Slots.{Flat}
use Rattle.tree_shrink.specs.Stages.{Aimed, Open, Way}
use Rattle.tree_shrink.specs.Steps.{SpendsAll}
use Rattle.tree_shrink.proofs.descent.enter.Goals as goal
use Rattle.tree_shrink.proofs.descent.enter.Goals.{After-way-i, After-take_child-child, After-roomy_below}

pub way-i-requires-clause-aimed : goal.way-i-requires-clause-aimed
way-i-requires-clause-aimed c = let (h, kind, n, us, xs, it, R, up, low, a) = c.requires.aimed in (kind, n, us, xs, it, R, a)

-- the level
raised : {h row kind n height : ℕ} {v : SeatView} {goal : Option ℕ} {us xs R : List Tree} {it : Tree} → height ≡ suc h
    → Aimed height v row goal kind n us xs it R → Aimed (suc h) v row goal kind n us xs it R
raised {h} {row} {kind} {n} {height} {v} {goal} {us} {xs} {R} {it} e a = subst (λ k. Aimed k v row goal kind n us xs it R) e a

-- the way, and the child that it leads to
record Goes (h kind n i : ℕ) (us xs : List Tree) (goal : Option ℕ) (it : Tree) : Type 0 where
  f : Flat (suc h) kind n us xs
  is : List Tree
  js : List Tree
  path : Way goal it is js
  out : Opens h kind n us xs is js i f
  top : IsTop f.top xs

goes : (c : After-way-i) → (h kind n : ℕ) (us xs : List Tree) (it : Tree) (R : List Tree) → c.args.height ≡ suc h
    → Aimed c.args.height c.args.seat.now.view c.args.row c.args.goal kind n us xs it R → Goes h kind n c.way-i.result us xs c.args.goal it
goes c h kind n us xs it R up a =
    let b = raised up a in
    let f = flat-of (suc h) kind n us xs b.node in
    let w = subst (λ k. k ≢ 0 → (kind n : ℕ) (us xs : List Tree) (it : Tree) (rest : List Tree) (f : Flat k kind n us xs)
    → Aimed k c.args.seat.now.view c.args.row c.args.goal kind n us xs it rest
    → (is js : List Tree) × (f.its ≡ is ++ js) × (length is ≡ c.way-i.result) × Way c.args.goal it is js) up c.way-i.ensures.inner in
    let (is, js, split, at, path) = w (λ z. omega arith) kind n us xs it R f b in
    record { f = f; is = is; js = js; path = path; out = opens h kind n us xs f is js c.way-i.result split at; top = flat-top (suc h) kind n us xs b.node }

pub take_child-child-requires-clause-child : goal.take_child-child-requires-clause-child
take_child-child-requires-clause-child c =
    let (h, kind, n, us, xs, it, R, up, low, a) = c.requires.aimed in
    let g = goes (goal.at.take_child-child-requires-clause-child c).After-way-i h kind n us xs it R up a in let q = g.out in (
      h,
      kind,
      n,
      slot_front q.cut.slot g.f.top,
      slot_back q.cut.slot,
      q.cut.child,
      q.cut.ys,
      subst (λ v. OwnsNode v c.args.row kind n (slot_front q.cut.slot g.f.top ++ q.cut.child ∷ slot_back q.cut.slot)) (sym c.way-i.ensures.same.1)
          (subst (OwnsNode c.args.seat.now.view c.args.row kind n) q.links a.owns),
      q.place,
      (let d = q.low in let e = q.most in omega arith),
      q.kid,
      (let d = ap length (ap (λ (v : SeatView). v.refs) c.way-i.ensures.same.1 ∙ a.refs) in let e = a.few in omega arith),
    )

pub take_child-child-requires-clause-room : goal.take_child-child-requires-clause-room
take_child-child-requires-clause-room c = subst (λ v. HasRoom 1 v c.args.chain.now) (sym c.way-i.ensures.same.1)
    (room-less 1 2 c.args.seat.now.view c.args.chain.now (omega arith) c.requires.room)

-- the node is open
out : (c : After-take_child-child) → (h kind n : ℕ) (us xs : List Tree) (it : Tree) (R : List Tree) → c.args.height ≡ suc h
    → (a : Aimed c.args.height c.args.seat.now.view c.args.row c.args.goal kind n us xs it R) → (g : Goes h kind n c.way-i.result us xs c.args.goal it)
    → Open h c.take_child-child.new.seat.view c.args.row n c.take_child-child.result c.way-i.result xs g.out.cut.ps g.out.cut.ys g.out.cut.qs R
out c h kind n us xs it R up a g =
    let q = g.out in let w = c.way-i.new.seat.view in
    let (o, oc, ne) = c.take_child-child.ensures.taken h kind n (slot_front q.cut.slot g.f.top) (slot_back q.cut.slot) q.cut.child q.cut.ys
    (subst (λ v. OwnsNode v c.args.row kind n (slot_front q.cut.slot g.f.top ++ q.cut.child ∷ slot_back q.cut.slot)) (sym c.way-i.ensures.same.1)
    (subst (OwnsNode c.args.seat.now.view c.args.row kind n) q.links a.owns)) q.place q.kid in
    opened h c.take_child-child.new.seat.view c.args.row kind n c.take_child-child.result c.way-i.result us xs R g.is g.js g.f q (raised up a).node g.top o
    oc ne
    (c.take_child-child.ensures.same.1 ∙ ap (λ (v : SeatView). v.refs) c.way-i.ensures.same.1 ∙ a.refs) a.few a.sorted

pub roomy_below-requires-clause-state : goal.roomy_below-requires-clause-state
roomy_below-requires-clause-state c =
    let (h, kind, n, us, xs, it, R, up, low, a) = c.requires.aimed in
    let at = goal.at.roomy_below-requires-clause-state c in
    let g = goes at.After-way-i h kind n us xs it R up a in
    (h, n, xs, g.out.cut.ps, g.out.cut.ys, g.out.cut.qs, R, low, a.some_items, out at.After-take_child-child h kind n us xs it R up a g)

-- the chain until the child is out
until-out : (c : After-take_child-child) → SpendsAll 1 (c.args.row ∷ []) (c.args.row ∷ c.take_child-child.result ∷ []) c.args.seat.now.view
    c.take_child-child.new.seat.view c.args.chain.now c.take_child-child.new.chain
until-out c = subst (λ v. SpendsAll 1 (c.args.row ∷ []) (c.args.row ∷ c.take_child-child.result ∷ []) v c.take_child-child.new.seat.view c.args.chain.now
    c.take_child-child.new.chain) c.way-i.ensures.same.1 c.take_child-child.ensures.spends

pub roomy_below-requires-clause-room : goal.roomy_below-requires-clause-room
roomy_below-requires-clause-room c = room-after 1 1 (c.args.row ∷ []) (c.args.row ∷ c.take_child-child.result ∷ []) c.args.seat.now.view
    c.take_child-child.new.seat.view c.args.chain.now c.take_child-child.new.chain (until-out (goal.at.roomy_below-requires-clause-room
    c).After-take_child-child)
    c.requires.room

pub returns-clause-entered : goal.returns-clause-entered
returns-clause-entered c = λ h kind n us xs it R up low a.
    let at = goal.at.returns-clause-entered c in
    let g = goes at.After-way-i h kind n us xs it R up a in let q = g.out.cut in
    let o = out at.After-take_child-child h kind n us xs it R up a g in
    let (t, among) = some-item h o.sort o.count o.below q.ys o.node in
    entered h c.roomy_below.new.seat.view c.args.row n n c.roomy_below.result.0 c.roomy_below.result.1 c.way-i.result xs q.ps q.ys q.qs R g.is g.js it
    c.args.goal
    q.slot q.same_left q.same_right t among a.sorted a.aim o.list g.path (omega arith)
    (c.roomy_below.ensures.roomy h n xs q.ps q.ys q.qs R low a.some_items o)

pub returns-clause-spends : goal.returns-clause-spends
returns-clause-spends c = λ rs k.
    let s = until-out (goal.at.returns-clause-spends c).After-take_child-child rs k in
    spends-join 1 1 (c.args.row ∷ []) (c.args.row ∷ c.take_child-child.result ∷ []) (c.args.row ∷ c.roomy_below.result.0 ∷ []) rs c.args.seat.now.view
    c.take_child-child.new.seat.view c.roomy_below.new.seat.view c.take_child-child.new.chain c.roomy_below.new.chain s
    (c.roomy_below.ensures.spends s.left s.chain)
