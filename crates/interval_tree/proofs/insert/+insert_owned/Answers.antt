use Rattle.std.proofs.Common.{◌≡◌, ◌≢◌, ◌≤◌, ◌<◌, ◌+◌, ◌-◌, ◌*◌, ℕ, suc, List, [], ◌∷◌, sym, subst, ◌∙◌, arith}
use Rattle.row_pool.specs.Trees.{Tree}
use Rattle.row_pool.specs.SeatView.{SeatView}
use Rattle.row_pool.specs.Chains.{IsChain}
use Rattle.interval_tree.specs.Held.{OwnsNode, Spends}
use Rattle.interval_tree.specs.States.{Ready, Grown, Opened, Filled}
use Rattle.interval_tree.proofs.Frames.{owns-kept, away-one, spends-add, spends-join, spends-more}
use Rattle.interval_tree.proofs.Linking.{room-after, room-less}
use Rattle.interval_tree.proofs.insert.+insert_owned.Goals as goal
use Rattle.interval_tree.proofs.insert.+insert_owned.Goals.{After-open_child-child, After-room_below-goes, After-insert_owned, After-close_child}

-- the level is not 0
above : (h : ℕ) → h ≢ 0 → h ≡ suc (h - 1)
above h n = omega arith

ready-above : (h : ℕ) (v : SeatView) (row item kind n : ℕ) (us xs : List Tree) (it : Tree) (rest : List Tree) → h ≢ 0
    → Ready h v row item kind n us xs it rest → Ready (suc (h - 1)) v row item kind n us xs it rest
ready-above h v row item kind n us xs it rest ne r = subst (λ h. Ready h v row item kind n us xs it rest) (above h ne) r

child-ready : (h : ℕ) (v : SeatView) (row kind n : ℕ) (top : Tree) (child j item : ℕ) (xs : List Tree) (it : Tree) (rest : List Tree)
    → (o : Opened h v row kind n top child j item xs it rest) → o.count < 31 → Ready h v child item o.sort o.count o.below o.ys it rest
child-ready h v row kind n top child j item xs it rest o low = record {
  owns = o.owns_child;
  node = o.node;
  room = low;
  sorted = o.sorted;
  differs = o.differs;
  latch = o.latch;
  here = o.here;
  refs = o.refs;
  few = o.few;
}

filled : (h : ℕ) (v w : SeatView) (row kind n : ℕ) (top : Tree) (child j item : ℕ) (xs : List Tree) (it : Tree) (rest : List Tree)
    → (o : Opened h v row kind n top child j item xs it rest) → Grown h w child o.sort o.count o.ys it rest → OwnsNode w row kind n (top ∷ o.us)
    → Filled h w row kind n child j xs it rest
filled h v w row kind n top child j item xs it rest o g owns = record {
  top = top;
  us = o.us;
  ps = o.ps;
  qs = o.qs;
  ys = o.ys;
  zs = g.ys;
  below = g.us;
  sort = o.sort;
  many = g.many;
  owns = owns;
  hole = o.hole;
  tops = o.tops;
  least = (let a = o.least in let b = g.least in omega arith);
  list = o.list;
  low = o.low;
  high = o.high;
  apart = o.apart;
  owns_child = g.owns;
  node = g.node;
  more = g.more;
  refs = g.refs;
  few = o.few;
}

hole-low : (h : ℕ) (v : SeatView) (row kind n : ℕ) (top : Tree) (child j item : ℕ) (xs : List Tree) (it : Tree) (rest : List Tree)
    → (o : Opened h v row kind n top child j item xs it rest) → j ≤ 31
hole-low h v row kind n top child j item xs it rest o = let a = o.hole.place in let b = o.hole.count in let d = o.hole.full in omega arith

pub insert_in_leaf-requires-clause-ready : goal.insert_in_leaf-requires-clause-ready
insert_in_leaf-requires-clause-ready t c =
    subst (λ h. (kind n : ℕ) × (us xs : List Tree) × (it : Tree) × (rest : List Tree)
    × Ready h c.args.seat.now.view c.args.row c.args.item kind n us xs it rest) c.if-height-eq0.true c.requires.ready

pub insert_in_leaf-requires-clause-chain : goal.insert_in_leaf-requires-clause-chain
insert_in_leaf-requires-clause-chain t c = let (rs, h, many) = c.requires.room in (rs, h)

pub open_child-child-requires-clause-ready : goal.open_child-child-requires-clause-ready
open_child-child-requires-clause-ready t c =
    let (kind, n, us, xs, it, rest, r) = c.requires.ready in (
      c.args.height - 1,
      kind,
      n,
      us,
      xs,
      it,
      rest,
      ready-above c.args.height c.args.seat.now.view c.args.row c.args.item kind n us xs it rest
          c.if-height-eq0.false r,
    )

pub open_child-child-requires-clause-room : goal.open_child-child-requires-clause-room
open_child-child-requires-clause-room t c = room-less 1 (c.args.height * 2) c.args.seat.now.view c.args.chain.now
    (let a = c.if-height-eq0.false in omega arith) c.requires.room

opened : (t : ℕ) (c : After-open_child-child t) → c.args.height ≢ 0 → (kind n : ℕ) (us xs : List Tree) (it : Tree) (rest : List Tree)
    → Ready c.args.height c.args.seat.now.view c.args.row c.args.item kind n us xs it rest
    → (top : Tree) × Opened (c.args.height - 1) c.open_child-child.new.seat.view c.args.row kind n top c.open_child-child.result.0 c.open_child-child.result.1
    c.args.item xs it rest
opened t c ne kind n us xs it rest r = c.open_child-child.ensures.opened (c.args.height - 1) kind n us xs it rest
    (ready-above c.args.height c.args.seat.now.view c.args.row c.args.item kind n us xs it rest ne r)

pub room_below-goes-requires-clause-opened : goal.room_below-goes-requires-clause-opened
room_below-goes-requires-clause-opened t c =
    let (kind, n, us, xs, it, rest, r) = c.requires.ready in
    let z = opened t (goal.at.room_below-goes-requires-clause-opened t c).After-open_child-child c.if-height-eq0.false kind n us xs it rest r in
    (c.args.height - 1, kind, n, z.0, xs, it, rest, (let a = c.requires.low in omega arith), r.room, z.1)

pub room_below-goes-requires-clause-room : goal.room_below-goes-requires-clause-room
room_below-goes-requires-clause-room t c =
    room-after 1 1 (c.args.row ∷ []) (c.args.row ∷ c.open_child-child.result.0 ∷ []) c.args.seat.now.view c.open_child-child.new.seat.view c.args.chain.now
    c.open_child-child.new.chain c.open_child-child.ensures.spends
    (room-less 2 (c.args.height * 2) c.args.seat.now.view c.args.chain.now (let a = c.if-height-eq0.false in omega arith) c.requires.room)

-- the child that is to get the item isn't full
pub record Roomy (h : ℕ) (v : SeatView) (row kind n child j item : ℕ) (xs : List Tree) (it : Tree) (rest : List Tree) : Type 0 where
  pub top : Tree
  pub many : ℕ
  pub more : n ≤ many
  pub most : many ≤ 31
  pub opened : Opened h v row kind many top child j item xs it rest
  pub few : opened.count < 31

roomy : (t : ℕ) (c : After-room_below-goes t) → c.args.height ≢ 0 → (kind n : ℕ) (us xs : List Tree) (it : Tree) (rest : List Tree)
    → Ready c.args.height c.args.seat.now.view c.args.row c.args.item kind n us xs it rest
    → Roomy (c.args.height - 1) c.room_below-goes.new.seat.view c.args.row kind n c.room_below-goes.result.0 c.room_below-goes.result.1 c.args.item xs it rest
roomy t c ne kind n us xs it rest r =
    let h : ℕ = c.args.height - 1 in
    let z = c.open_child-child.ensures.opened h kind n us xs it rest
    (ready-above c.args.height c.args.seat.now.view c.args.row c.args.item kind n us xs it rest ne r) in
    let (m, more, most, o, low) = c.room_below-goes.ensures.opened h kind n z.0 xs it rest (let q = c.requires.low in omega arith) r.room z.1 in
    record { top = z.0; many = m; more = more; most = most; opened = o; few = low }

-- the chain until then
until-room : (t : ℕ) (c : After-room_below-goes t) → (rs : List ℕ) → IsChain c.args.seat.now.view c.args.chain.now rs
    → Spends 2 (c.args.row ∷ []) (c.args.row ∷ c.room_below-goes.result.0 ∷ []) rs c.args.seat.now.view c.room_below-goes.new.seat.view
    c.room_below-goes.new.chain
until-room t c rs h =
    let a = c.open_child-child.ensures.spends rs h in
    spends-join 1 1 (c.args.row ∷ []) (c.args.row ∷ c.open_child-child.result.0 ∷ []) (c.args.row ∷ c.room_below-goes.result.0 ∷ []) rs c.args.seat.now.view
    c.open_child-child.new.seat.view c.room_below-goes.new.seat.view c.open_child-child.new.chain c.room_below-goes.new.chain a
    (c.room_below-goes.ensures.spends a.left a.chain)

pub insert_owned-requires : goal.insert_owned-requires
insert_owned-requires t c =
    let (kind, n, us, xs, it, rest, r) = c.requires.ready in
    let h : ℕ = c.args.height - 1 in
    let at = (goal.at.insert_owned-requires t c).After-room_below-goes in
    let p = roomy t at c.if-height-eq0.false kind n us xs it rest r in
    let o = p.opened in let some_level = c.if-height-eq0.false in (
      let claim : c.args.height ≡ t = c.decreases in omega arith,
      (
        c.room_below-goes.ensures.table ∙ c.open_child-child.ensures.table ∙ c.requires.table,
        (
          let q = c.requires.low in omega arith,
          (
            (
              o.sort,
              o.count,
              o.below,
              o.ys,
              it,
              rest,
              child-ready h c.room_below-goes.new.seat.view c.args.row kind p.many p.top c.room_below-goes.result.0
                  c.room_below-goes.result.1 c.args.item xs it rest o p.few,
            ),
            room-after 2 ((c.args.height - 1) * 2) (c.args.row ∷ []) (c.args.row ∷ c.room_below-goes.result.0 ∷ []) c.args.seat.now.view
                c.room_below-goes.new.seat.view c.args.chain.now c.room_below-goes.new.chain (until-room t at)
                (room-less (2 + (c.args.height - 1) * 2) (c.args.height * 2) c.args.seat.now.view c.args.chain.now (omega arith) c.requires.room),
          ),
        ),
      ),
    )

-- the child has the item
grown : (t : ℕ) (c : After-insert_owned t) → c.args.height ≢ 0 → (kind n : ℕ) (us xs : List Tree) (it : Tree) (rest : List Tree)
    → Ready c.args.height c.args.seat.now.view c.args.row c.args.item kind n us xs it rest
    → (m : ℕ) × (n ≤ m) × (m ≤ 31) × (c.room_below-goes.result.1 ≤ 31)
    × Filled (c.args.height - 1) c.insert_owned.new.seat.view c.args.row kind m c.room_below-goes.result.0 c.room_below-goes.result.1 xs it rest
grown t c ne kind n us xs it rest r =
    let h : ℕ = c.args.height - 1 in let row = c.args.row in let goes = c.room_below-goes.result.0 in
    let b = c.room_below-goes.new.seat.view in let d = c.insert_owned.new.seat.view in
    let z = c.open_child-child.ensures.opened h kind n us xs it rest
    (ready-above c.args.height c.args.seat.now.view row c.args.item kind n us xs it rest ne r) in
    let (m, more, most, o, low) = c.room_below-goes.ensures.opened h kind n z.0 xs it rest (let q = c.requires.low in omega arith) r.room z.1 in
    let g = c.insert_owned.ensures.grown o.sort o.count o.below o.ys it rest
    (child-ready h b row kind m z.0 goes c.room_below-goes.result.1 c.args.item xs it rest o low) in
    let (rs, chain_is, many) = c.requires.room in
    let a = c.open_child-child.ensures.spends rs chain_is in let e = c.room_below-goes.ensures.spends a.left a.chain in
    let k = owns-kept ((c.args.height - 1) * 2) (goes ∷ []) (goes ∷ []) e.left b d c.room_below-goes.new.chain c.insert_owned.new.chain row kind m (z.0 ∷ o.us)
    e.chain (c.insert_owned.ensures.spends e.left e.chain) o.owns (away-one row goes (λ q. o.apart (sym q))) in (
      m,
      more,
      most,
      hole-low h b row kind m z.0 goes c.room_below-goes.result.1 c.args.item xs it rest o,
      filled h b d row kind m z.0 goes c.room_below-goes.result.1 c.args.item xs it rest o g k.owns,
    )

pub close_child-requires-clause-filled : goal.close_child-requires-clause-filled
close_child-requires-clause-filled t c =
    let (kind, n, us, xs, it, rest, r) = c.requires.ready in
    let (m, more, most, high, f) = grown t (goal.at.close_child-requires-clause-filled t c).After-insert_owned c.if-height-eq0.false kind n us xs it rest r in
    (c.args.height - 1, kind, m, xs, it, rest, (let q = c.requires.low in omega arith), f)

pub close_child-requires-clause-low : goal.close_child-requires-clause-low
close_child-requires-clause-low t c =
    let (kind, n, us, xs, it, rest, r) = c.requires.ready in
    let (m, more, most, high, f) = grown t (goal.at.close_child-requires-clause-low t c).After-insert_owned c.if-height-eq0.false kind n us xs it rest r in high

pub returns-then-height-eq0-clause-grown : goal.returns-then-height-eq0-clause-grown
returns-then-height-eq0-clause-grown t c = λ kind n us xs it rest r.
    let e = c.if-height-eq0.true in
    subst (λ h. Grown h c.insert_in_leaf.new.seat.view c.args.row kind n xs it rest) (sym e) (c.insert_in_leaf.ensures.grown kind n us xs it rest
    (subst (λ h. Ready h c.args.seat.now.view c.args.row c.args.item kind n us xs it rest) e r))

pub returns-then-height-eq0-clause-spends : goal.returns-then-height-eq0-clause-spends
returns-then-height-eq0-clause-spends t c = λ rs h.
    spends-more 0 (c.args.height * 2) (c.args.row ∷ []) (c.args.row ∷ []) rs c.args.seat.now.view c.insert_in_leaf.new.seat.view c.insert_in_leaf.new.chain
    (omega arith) (c.insert_in_leaf.ensures.spends rs h)

pub returns-else-height-eq0-clause-grown : goal.returns-else-height-eq0-clause-grown
returns-else-height-eq0-clause-grown t c = λ kind n us xs it rest r.
    let (m, more, most, high, f) = grown t (goal.at.returns-else-height-eq0-clause-grown t c).After-insert_owned c.if-height-eq0.false kind n us xs it rest r in
    let w = c.close_child.ensures.whole (c.args.height - 1) kind m xs it rest (let q = c.requires.low in omega arith) f in
    subst (λ h. Grown h c.close_child.new.seat.view c.args.row kind n xs it rest) (sym (above c.args.height c.if-height-eq0.false))
    (record { many = m; us = w.us; ys = w.ys; owns = w.owns; node = w.node; more = w.more; least = more; most = most; refs = w.refs })

pub returns-else-height-eq0-clause-spends : goal.returns-else-height-eq0-clause-spends
returns-else-height-eq0-clause-spends t c = λ rs h.
    let row = c.args.row in let goes = c.room_below-goes.result.0 in let v = c.args.seat.now.view in
    let b = c.room_below-goes.new.seat.view in let d = c.insert_owned.new.seat.view in let w = c.close_child.new.seat.view in
    let p = c.room_below-goes.new.chain in let q = c.insert_owned.new.chain in let k : ℕ = (c.args.height - 1) * 2 in
    let s1 = until-room t (goal.at.returns-else-height-eq0-clause-spends t c).After-room_below-goes rs h in
    let s2 = spends-add row k (goes ∷ []) (goes ∷ []) s1.left b d q (c.insert_owned.ensures.spends s1.left s1.chain) in
    let s3 = c.close_child.ensures.spends s2.left q s2.chain in
    spends-more (2 + (k + 0)) (c.args.height * 2) (row ∷ []) (row ∷ []) rs v w q (let a = c.if-height-eq0.false in omega arith)
    (spends-join 2 (k + 0) (row ∷ []) (row ∷ goes ∷ []) (row ∷ []) rs v b w p q s1 (spends-join k 0 (row ∷ goes ∷ []) (row ∷ goes ∷ [])
    (row ∷ []) s1.left b d w q q
    s2 s3))
