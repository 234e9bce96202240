use Rattle.std.proofs.Common.{List, [], ap, arith, length, refl, subst, suc, sym, zero, ℕ, ◌*◌, ◌++◌, ◌+◌, ◌-◌, ◌<◌, ◌^◌, ◌∙◌, ◌∷◌, ◌≡◌, ◌≢◌, ◌≤◌}
use Rattle.std.specs.Prelude.{IsFalse, IsTrue, None, Option}
use Rattle.row_pool.specs.Chains.{IsChain}
use Rattle.row_pool.specs.SeatView.{SeatView}
use Rattle.row_pool.specs.Trees.{Tree, nil, tree_word}
use Rattle.row_pool.specs.declared.chain.Chain.{Chain}
use Rattle.latch_item.specs.Items.{IsLatch}
use Rattle.latch_item.specs.Shape.{Node, Sorted}
use Rattle.interval_tree.proofs.Depths.{node-items}
use Rattle.interval_tree.proofs.Frames.{spends-join, spends-more}
use Rattle.interval_tree.proofs.Linking.{room-less}
use Rattle.interval_tree.specs.Held.{OwnsNode}
use Rattle.tree_shrink.proofs.Bench.{Bench, bench-call, bench-chain, bench-room, bench-start, bench-turn, node_at, two-apart}
use Rattle.tree_shrink.proofs.Descending.{Ending, aim-child, ending, finishing, replacing}
use Rattle.tree_shrink.proofs.Mending.{open-place}
use Rattle.tree_shrink.specs.Slots.{slot_links}
use Rattle.tree_shrink.specs.Stages.{Aim, Aimed, Entered, Finishing, Heads, Open, Removed, Replacing, Shrunk, Stood, Target}
use Rattle.tree_shrink.specs.Steps.{SpendsAll}
use Rattle.tree_shrink.proofs.descent.+remove_owned.Goals as goal
use Rattle.tree_shrink.proofs.descent.+remove_owned.Goals.{After-way-i, After-enter-goes, After-is_next, After-remove_owned-last, After-remove_owned-item}
use Rattle.tree_shrink.proofs.descent.+remove_owned.Goals.{After-take_over, After-finish}

-- the level is not 0
above : (h : ℕ) → h ≢ 0 → h ≡ suc (h - 1)
above h n = omega arith

-- the place in a leaf
placed-leaf : (t : ℕ) (c : After-way-i t) → c.args.height ≡ 0 → (kind n : ℕ) (us xs : List Tree) (it : Tree) (R : List Tree)
    → (a : Aimed c.args.height c.args.seat.now.view c.args.row c.args.goal kind n us xs it R)
    → (is js : List Tree) × (xs ≡ is ++ it ∷ js) × (length is ≡ c.way-i.result)
placed-leaf t c z kind n us xs it R a = c.way-i.ensures.leaf z kind n us xs it R a

leaf-node : (h kind n : ℕ) (us xs is js : List Tree) (it : Tree) → h ≡ 0 → xs ≡ is ++ it ∷ js → Node h kind n us xs → Node 0 kind n us (is ++ it ∷ js)
leaf-node h kind n us xs is js it z e nd = subst (λ (w : ℕ × List Tree). Node w.0 kind n us w.1) (λ i. (z i, e i)) nd

pub remove_in_leaf-requires-clause-leaf : goal.remove_in_leaf-requires-clause-leaf
remove_in_leaf-requires-clause-leaf t c =
    let (kind, n, us, xs, it, R, a) = c.requires.aimed in let z = c.if-height-eq0.true in
    let (is, js, e, at) = placed-leaf t (goal.at.remove_in_leaf-requires-clause-leaf t c).After-way-i z kind n us xs it R a in (
      kind,
      n,
      us,
      is,
      js,
      it,
      subst (λ v. OwnsNode v c.args.row kind n us) (sym c.way-i.ensures.same.1) a.owns,
      leaf-node c.args.height kind n us xs is js it z e a.node,
      at,
      a.leaf z,
      subst Sorted e a.sorted,
    )

pub remove_in_leaf-requires-clause-few : goal.remove_in_leaf-requires-clause-few
remove_in_leaf-requires-clause-few t c =
    let (kind, n, us, xs, it, R, a) = c.requires.aimed in
    let b = ap length (ap (λ (v : SeatView). v.refs) c.way-i.ensures.same.1 ∙ a.refs) in let d = a.few in omega arith

pub remove_in_leaf-requires-clause-chain : goal.remove_in_leaf-requires-clause-chain
remove_in_leaf-requires-clause-chain t c =
    let (rs, g, many) = c.requires.room in (rs, subst (λ v. IsChain v c.args.chain.now rs) (sym c.way-i.ensures.same.1) g)

pub returns-then-height-eq0-clause-shrunk : goal.returns-then-height-eq0-clause-shrunk
returns-then-height-eq0-clause-shrunk t c = λ kind n us xs it R a.
    let z = c.if-height-eq0.true in
    let (is, js, e, at) = placed-leaf t (goal.at.returns-then-height-eq0-clause-shrunk t c).After-way-i z kind n us xs it R a in
    let s = c.remove_in_leaf.ensures.shrunk kind n us is js it (subst (λ v. OwnsNode v c.args.row kind n us) (sym c.way-i.ensures.same.1) a.owns)
    (leaf-node c.args.height kind n us xs is js it z e a.node) at (a.leaf z) (subst Sorted e a.sorted) in
    subst (λ (w : ℕ × (List Tree × List Tree)). Shrunk w.0 c.remove_in_leaf.new.seat.view c.args.row kind n w.1.0 it c.remove_in_leaf.result w.1.1)
    (λ i. (sym z i, (sym e i, (ap (λ (v : SeatView). v.refs) c.way-i.ensures.same.1 ∙ a.refs) i))) s

pub returns-then-height-eq0-clause-spends : goal.returns-then-height-eq0-clause-spends
returns-then-height-eq0-clause-spends t c = λ rs g.
    let row = c.args.row in
    spends-more 0 (c.args.height * 2) (row ∷ []) (row ∷ []) rs c.args.seat.now.view c.remove_in_leaf.new.seat.view c.remove_in_leaf.new.chain (omega arith)
    (subst (λ v. SpendsAll 0 (row ∷ []) (row ∷ []) v c.remove_in_leaf.new.seat.view c.args.chain.now c.remove_in_leaf.new.chain) c.way-i.ensures.same.1
    c.remove_in_leaf.ensures.spends rs g)

-- ---- an inner node
pub enter-goes-requires-clause-aimed : goal.enter-goes-requires-clause-aimed
enter-goes-requires-clause-aimed t c =
    let (kind, n, us, xs, it, R, a) = c.requires.aimed in
    (c.args.height - 1, kind, n, us, xs, it, R, above c.args.height c.if-height-eq0.false, (let b = c.requires.low in omega arith), a)

pub enter-goes-requires-clause-room : goal.enter-goes-requires-clause-room
enter-goes-requires-clause-room t c = room-less 2 (c.args.height * 2) c.args.seat.now.view c.args.chain.now (let a = c.if-height-eq0.false in omega arith)
    c.requires.room

entered-at : (t : ℕ) (c : After-enter-goes t) → c.args.height ≢ 0 → (kind n : ℕ) (us xs : List Tree) (it : Tree) (R : List Tree)
    → Aimed c.args.height c.args.seat.now.view c.args.row c.args.goal kind n us xs it R
    → Entered (c.args.height - 1) c.enter-goes.new.seat.view c.args.row n c.enter-goes.result.0 c.enter-goes.result.1 xs it c.args.goal R
entered-at t c ne kind n us xs it R a = c.enter-goes.ensures.entered (c.args.height - 1) kind n us xs it R (above c.args.height ne)
    (let b = c.requires.low in omega arith) a

pub is_next-requires-clause-state : goal.is_next-requires-clause-state
is_next-requires-clause-state t c =
    let (kind, n, us, xs, it, R, a) = c.requires.aimed in
    let e = entered-at t (goal.at.is_next-requires-clause-state t c).After-enter-goes c.if-height-eq0.false kind n us xs it R a in
    (c.args.height - 1, e.n, c.enter-goes.result.0, xs, e.ps, e.ys, e.qs, R, it, e.state, e.target)

-- the bench until the question was asked
asked : (t : ℕ) (c : After-is_next t) → c.args.height ≢ 0 → (kind n : ℕ) (us xs : List Tree) (it : Tree) (R : List Tree)
    → Aimed c.args.height c.args.seat.now.view c.args.row c.args.goal kind n us xs it R → (rs : List ℕ) → IsChain c.args.seat.now.view c.args.chain.now rs
    → (e : Entered (c.args.height - 1) c.is_next.new.seat.view c.args.row n c.enter-goes.result.0 c.enter-goes.result.1 xs it c.args.goal R)
    × Bench c.args.seat.now.view (c.args.row ∷ []) rs 2 c.is_next.new.seat.view c.enter-goes.new.chain
    (node_at c.enter-goes.result.0 e.state.sort e.state.count e.state.below ∷ node_at c.args.row 3 e.n (slot_links e.state.slot e.state.top nil) ∷ []) R
asked t c ne kind n us xs it R a rs g =
    let h : ℕ = c.args.height - 1 in let v = c.args.seat.now.view in let row = c.args.row in let x = c.enter-goes.new.seat.view in
    let e = c.enter-goes.ensures.entered h kind n us xs it R (above c.args.height ne) (let b = c.requires.low in omega arith) a in
    let e2 = subst (λ v. Entered h v row n c.enter-goes.result.0 c.enter-goes.result.1 xs it c.args.goal R) (sym c.is_next.ensures.same.1) e in
    let o = e2.state in
    let child = c.enter-goes.result.0 in (
      e2,
      bench-turn (bench-call (node_at row kind n us ∷ []) (node_at row 3 e2.n (slot_links o.slot o.top nil) ∷ node_at child o.sort o.count o.below ∷ []) []
          (bench-start v c.args.chain.now rs (node_at row kind n us ∷ []) R g (a.owns, tt) (refl, tt) a.refs)
          (subst (λ w. SpendsAll 2 (row ∷ []) (row ∷ child ∷ []) v w c.args.chain.now c.enter-goes.new.chain) (sym c.is_next.ensures.same.1)
          c.enter-goes.ensures.spends)
          (o.owns, (o.owns_child, tt)) (two-apart row child (λ z. o.apart (sym z))) o.refs),
    )

-- the level above
inner-kind : (h kind n : ℕ) (us xs : List Tree) → h ≢ 0 → Node h kind n us xs → kind ≡ 3
inner-kind zero kind n us xs ne nd = absurd (ne refl)
inner-kind (suc h) kind n us xs ne nd = nd.is

as-given : (h g : ℕ) (w : SeatView) (row kind n m : ℕ) (xs ys : List Tree) (it : Tree) (item : ℕ) (R : List Tree) → g ≡ suc h → kind ≡ 3
    → Stood (suc h) w row 3 m ys → Removed it xs ys → n ≤ m + 1 → IsLatch it → tree_word it ≡ item → w.refs ≡ it ∷ R → Shrunk g w row kind n xs it item R
as-given h g w row kind n m xs ys it item R up three st gone least fits is refs =
    subst (λ (z : ℕ × ℕ). Shrunk z.0 w row z.1 n xs it item R) (λ i. (sym up i, sym three i))
    (record { many = m; ys = ys; stood = st; gone = gone; least = least; fits = fits; item_is = is; refs = refs })

-- what the question tells
abbrev NextAt : SeatView → ℕ → ℕ → Option ℕ → Type 0
NextAt v row i goal = (h n child : ℕ) (xs ps ys qs R : List Tree) (it : Tree) → Open h v row n child i xs ps ys qs R → Target goal it ys qs → Heads it qs

abbrev BelowAt : SeatView → ℕ → ℕ → Option ℕ → Type 0
BelowAt v row i goal = (h n child : ℕ) (xs ps ys qs R : List Tree) (it : Tree) → Open h v row n child i xs ps ys qs R → Target goal it ys qs → Aim goal it ys

next-at : (t : ℕ) (c : After-is_next t) → IsTrue c.is_next.result → NextAt c.is_next.new.seat.view c.args.row c.enter-goes.result.1 c.args.goal
next-at t c p = subst (λ v. NextAt v c.args.row c.enter-goes.result.1 c.args.goal) (sym c.is_next.ensures.same.1) (c.is_next.ensures.next p)

below-at : (t : ℕ) (c : After-is_next t) → IsFalse c.is_next.result → BelowAt c.is_next.new.seat.view c.args.row c.enter-goes.result.1 c.args.goal
below-at t c p = subst (λ v. BelowAt v c.args.row c.enter-goes.result.1 c.args.goal) (sym c.is_next.ensures.same.1) (c.is_next.ensures.below p)

-- ---- the item behind the child: the last one below comes out in its place
last-aimed : (h n j : ℕ) {x : SeatView} {row goes : ℕ} {xs ps ys qs R : List Tree} (o : Open h x row n goes j xs ps ys qs R) → 16 ≤ o.count → Sorted xs
    → (e : Ending h x row n goes j xs ps ys qs R o) × Aimed h x goes None o.sort o.count o.below ys e.m R
last-aimed h n j {x} {row} {goes} {xs} {ps} {ys} {qs} {R} o room sorted =
    let e = ending h x row n goes j xs ps ys qs R o in (e, aim-child h None x row n goes j xs ps ys qs R o e.m room sorted e.last)

pub remove_owned-last-requires : goal.remove_owned-last-requires
remove_owned-last-requires t c =
    let (kind, n, us, xs, it, R, a) = c.requires.aimed in let (rs, g, many) = c.requires.room in let ne = c.if-height-eq0.false in
    let (e, b) = asked t (goal.at.remove_owned-last-requires t c).After-is_next ne kind n us xs it R a rs g in
    let (m, aim) = last-aimed (c.args.height - 1) e.n c.enter-goes.result.1 e.state e.room a.sorted in (
      let claim : c.args.height ≡ t = c.decreases in omega arith,
      (
        c.is_next.ensures.same.0 ∙ c.enter-goes.ensures.table ∙ c.requires.table,
        (
          let q = c.requires.low in omega arith,
          ((e.state.sort, e.state.count, e.state.below, e.ys, m.m, R, aim), bench-room ((c.args.height - 1) * 2) b (omega arith)),
        ),
      ),
    )

-- the child without it
record Out (h n : ℕ) (w : SeatView) (row goes j : ℕ) (xs : List Tree) (it : Tree) (item : ℕ) (R : List Tree) (c : Chain) (v : SeatView) (rs : List ℕ) (k : ℕ)
    : Type 0 where
  many : ℕ
  ps : List Tree
  zs : List Tree
  qs : List Tree
  m : Tree
  sort : ℕ
  count : ℕ
  below : List Tree
  links : List Tree
  least : n ≤ many + 1
  state : Replacing h w row many goes j xs ps zs qs it m item R
  bench : Bench v (row ∷ []) rs k w c (node_at row 3 many links ∷ node_at goes sort count below ∷ []) (m ∷ R)

taken-out : (t : ℕ) (c : After-remove_owned-last t) → c.args.height ≢ 0 → (kind n : ℕ) (us xs : List Tree) (it : Tree) (R : List Tree)
    → Aimed c.args.height c.args.seat.now.view c.args.row c.args.goal kind n us xs it R → (rs : List ℕ)
    → (e : Entered (c.args.height - 1) c.is_next.new.seat.view c.args.row n c.enter-goes.result.0 c.enter-goes.result.1 xs it c.args.goal R)
    → Heads it e.qs
    → Bench c.args.seat.now.view (c.args.row ∷ []) rs 2 c.is_next.new.seat.view c.enter-goes.new.chain
    (node_at c.enter-goes.result.0 e.state.sort e.state.count e.state.below ∷ node_at c.args.row 3 e.n (slot_links e.state.slot e.state.top nil) ∷ []) R
    → Out (c.args.height - 1) n c.remove_owned-last.new.seat.view c.args.row c.enter-goes.result.0 c.enter-goes.result.1 xs it c.remove_owned-last.result R
    c.remove_owned-last.new.chain c.args.seat.now.view rs (2 + (c.args.height - 1) * 2)
taken-out t c ne kind n us xs it R a rs e heads b =
    let h : ℕ = c.args.height - 1 in let o = e.state in let goes = c.enter-goes.result.0 in let j = c.enter-goes.result.1 in let row = c.args.row in
    let (m, aim) = last-aimed h e.n j o e.room a.sorted in
    let s = c.remove_owned-last.ensures.shrunk o.sort o.count o.below e.ys m.m R aim in
    let z = bench-turn (bench-call (node_at goes o.sort o.count o.below ∷ []) (node_at goes o.sort s.many s.stood.us ∷ [])
    (node_at row 3 e.n (slot_links o.slot o.top nil) ∷ []) b c.remove_owned-last.ensures.spends (s.stood.owns, tt) (refl, tt) s.refs) in
    record {
      many = e.n;
      ps = e.ps;
      zs = s.ys;
      qs = e.qs;
      m = m.m;
      sort = o.sort;
      count = s.many;
      below = s.stood.us;
      links = slot_links o.slot o.top nil;
      least = e.many;
      state = replacing h c.is_next.new.seat.view c.remove_owned-last.new.seat.view row e.n goes j xs e.ps e.ys e.qs R o m it c.remove_owned-last.result
          (node-items c.args.height kind n us xs a.node) heads e.room a.sorted z.owns.0 s;
      bench = z;
    }

pub take_over-requires-clause-low : goal.take_over-requires-clause-low
take_over-requires-clause-low t c =
    let (kind, n, us, xs, it, R, a) = c.requires.aimed in let (rs, g, many) = c.requires.room in
    let (e, b) = asked t (goal.at.take_over-requires-clause-low t c).After-is_next c.if-height-eq0.false kind n us xs it R a rs g in
    let p = open-place (c.args.height - 1) c.is_next.new.seat.view c.args.row e.n c.enter-goes.result.0 c.enter-goes.result.1 xs e.ps e.ys e.qs R e.state in
    let p0 = p.0 in let p1 = p.1 in omega arith

pub take_over-requires-clause-state : goal.take_over-requires-clause-state
take_over-requires-clause-state t c =
    let (kind, n, us, xs, it, R, a) = c.requires.aimed in let (rs, g, many) = c.requires.room in let ne = c.if-height-eq0.false in
    let at = goal.at.take_over-requires-clause-state t c in
    let (e, b) = asked t at.After-is_next ne kind n us xs it R a rs g in
    let heads = next-at t at.After-is_next c.if-is_next.true (c.args.height - 1) e.n c.enter-goes.result.0 xs e.ps e.ys e.qs R it e.state e.target in
    let o = taken-out t at.After-remove_owned-last ne kind n us xs it R a rs e heads b in
    (c.args.height - 1, o.many, xs, o.ps, o.zs, o.qs, it, o.m, R, (let q = c.requires.low in omega arith), o.state)

pub take_over-requires-clause-chain : goal.take_over-requires-clause-chain
take_over-requires-clause-chain t c =
    let (kind, n, us, xs, it, R, a) = c.requires.aimed in let (rs, g, many) = c.requires.room in let ne = c.if-height-eq0.false in
    let at = goal.at.take_over-requires-clause-chain t c in
    let (e, b) = asked t at.After-is_next ne kind n us xs it R a rs g in
    let heads = next-at t at.After-is_next c.if-is_next.true (c.args.height - 1) e.n c.enter-goes.result.0 xs e.ps e.ys e.qs R it e.state e.target in
    bench-chain (taken-out t at.After-remove_owned-last ne kind n us xs it R a rs e heads b).bench

pub returns-then-is_next-clause-shrunk : goal.returns-then-is_next-clause-shrunk
returns-then-is_next-clause-shrunk t c = λ kind n us xs it R a.
    let (rs, g, many) = c.requires.room in let ne = c.if-height-eq0.false in let h : ℕ = c.args.height - 1 in
    let at = goal.at.returns-then-is_next-clause-shrunk t c in
    let (e, b) = asked t at.After-is_next ne kind n us xs it R a rs g in
    let heads = next-at t at.After-is_next c.if-is_next.true h e.n c.enter-goes.result.0 xs e.ps e.ys e.qs R it e.state e.target in
    let o = taken-out t at.After-remove_owned-last ne kind n us xs it R a rs e heads b in
    let r = c.take_over.ensures.replaced h o.many xs o.ps o.zs o.qs it o.m R (let q = c.requires.low in omega arith) o.state in
    as-given h c.args.height c.take_over.new.seat.view c.args.row kind n o.many xs r.ys it c.take_over.result R (above c.args.height ne)
    (inner-kind c.args.height kind n us xs ne a.node) r.stood r.gone o.least r.fits r.item_is r.refs

pub returns-then-is_next-clause-spends : goal.returns-then-is_next-clause-spends
returns-then-is_next-clause-spends t c = λ rs g.
    let (kind, n, us, xs, it, R, a) = c.requires.aimed in let ne = c.if-height-eq0.false in let h : ℕ = c.args.height - 1 in
    let at = goal.at.returns-then-is_next-clause-spends t c in
    let (e, b) = asked t at.After-is_next ne kind n us xs it R a rs g in
    let heads = next-at t at.After-is_next c.if-is_next.true h e.n c.enter-goes.result.0 xs e.ps e.ys e.qs R it e.state e.target in
    let o = taken-out t at.After-remove_owned-last ne kind n us xs it R a rs e heads b in
    let row = c.args.row in let goes = c.enter-goes.result.0 in let s = o.bench.spends in
    spends-more (2 + (c.args.height - 1) * 2 + 0) (c.args.height * 2) (row ∷ []) (row ∷ []) rs c.args.seat.now.view c.take_over.new.seat.view
    c.take_over.new.chain (omega arith)
    (spends-join (2 + (c.args.height - 1) * 2) 0 (row ∷ []) (row ∷ goes ∷ []) (row ∷ []) rs c.args.seat.now.view c.remove_owned-last.new.seat.view
    c.take_over.new.seat.view c.remove_owned-last.new.chain c.take_over.new.chain s (c.take_over.ensures.spends s.left s.chain))

-- ---- the item below the child
item-aimed : (t : ℕ) (c : After-is_next t) → IsFalse c.is_next.result → {kind n : ℕ} {us xs R : List Tree} {it : Tree}
    → Aimed c.args.height c.args.seat.now.view c.args.row c.args.goal kind n us xs it R
    → (e : Entered (c.args.height - 1) c.is_next.new.seat.view c.args.row n c.enter-goes.result.0 c.enter-goes.result.1 xs it c.args.goal R)
    → Aimed (c.args.height - 1) c.is_next.new.seat.view c.enter-goes.result.0 c.args.goal e.state.sort e.state.count e.state.below e.ys it R
item-aimed t c no_next {kind} {n} {us} {xs} {R} {it} a e =
    let h : ℕ = c.args.height - 1 in let goes = c.enter-goes.result.0 in let j = c.enter-goes.result.1 in
    aim-child h c.args.goal c.is_next.new.seat.view c.args.row e.n goes j xs e.ps e.ys e.qs R e.state it e.room a.sorted
    (below-at t c no_next h e.n goes xs e.ps e.ys e.qs R it e.state e.target)

pub remove_owned-item-requires : goal.remove_owned-item-requires
remove_owned-item-requires t c =
    let (kind, n, us, xs, it, R, a) = c.requires.aimed in let (rs, g, many) = c.requires.room in let ne = c.if-height-eq0.false in
    let at = (goal.at.remove_owned-item-requires t c).After-is_next in
    let (e, b) = asked t at ne kind n us xs it R a rs g in
    let aim = item-aimed t at c.if-is_next.false a e in (
      let claim : c.args.height ≡ t = c.decreases in omega arith,
      (
        c.is_next.ensures.same.0 ∙ c.enter-goes.ensures.table ∙ c.requires.table,
        (
          let q = c.requires.low in omega arith,
          ((e.state.sort, e.state.count, e.state.below, e.ys, it, R, aim), bench-room ((c.args.height - 1) * 2) b (omega arith)),
        ),
      ),
    )

-- the child without it
record Gone (h n : ℕ) (w : SeatView) (row goes j : ℕ) (xs : List Tree) (it : Tree) (item : ℕ) (R : List Tree) (c : Chain) (v : SeatView) (rs : List ℕ) (k : ℕ)
    : Type 0 where
  many : ℕ
  ps : List Tree
  zs : List Tree
  qs : List Tree
  sort : ℕ
  count : ℕ
  below : List Tree
  links : List Tree
  least : n ≤ many + 1
  fits : IsLatch it
  few : length R < 2 ^ 31 + 3
  state : Finishing h w row many goes j xs ps zs qs it item
  bench : Bench v (row ∷ []) rs k w c (node_at row 3 many links ∷ node_at goes sort count below ∷ []) (it ∷ R)

item-gone : (t : ℕ) (c : After-remove_owned-item t) → (kind n : ℕ) (us xs : List Tree) (it : Tree) (R : List Tree)
    → Aimed c.args.height c.args.seat.now.view c.args.row c.args.goal kind n us xs it R → (rs : List ℕ)
    → (e : Entered (c.args.height - 1) c.is_next.new.seat.view c.args.row n c.enter-goes.result.0 c.enter-goes.result.1 xs it c.args.goal R)
    → Aimed (c.args.height - 1) c.is_next.new.seat.view c.enter-goes.result.0 c.args.goal e.state.sort e.state.count e.state.below e.ys it R
    → Bench c.args.seat.now.view (c.args.row ∷ []) rs 2 c.is_next.new.seat.view c.enter-goes.new.chain
    (node_at c.enter-goes.result.0 e.state.sort e.state.count e.state.below ∷ node_at c.args.row 3 e.n (slot_links e.state.slot e.state.top nil) ∷ []) R
    → Gone (c.args.height - 1) n c.remove_owned-item.new.seat.view c.args.row c.enter-goes.result.0 c.enter-goes.result.1 xs it c.remove_owned-item.result R
    c.remove_owned-item.new.chain c.args.seat.now.view rs (2 + (c.args.height - 1) * 2)
item-gone t c kind n us xs it R a rs e aim b =
    let h : ℕ = c.args.height - 1 in let o = e.state in let goes = c.enter-goes.result.0 in let j = c.enter-goes.result.1 in let row = c.args.row in
    let s = c.remove_owned-item.ensures.shrunk o.sort o.count o.below e.ys it R aim in
    let z = bench-turn (bench-call (node_at goes o.sort o.count o.below ∷ []) (node_at goes o.sort s.many s.stood.us ∷ [])
    (node_at row 3 e.n (slot_links o.slot o.top nil) ∷ []) b c.remove_owned-item.ensures.spends (s.stood.owns, tt) (refl, tt) s.refs) in
    record {
      many = e.n;
      ps = e.ps;
      zs = s.ys;
      qs = e.qs;
      sort = o.sort;
      count = s.many;
      below = s.stood.us;
      links = slot_links o.slot o.top nil;
      least = e.many;
      fits = s.fits;
      few = o.few;
      state = finishing h c.is_next.new.seat.view c.remove_owned-item.new.seat.view row e.n goes j xs e.ps e.ys e.qs R o it c.remove_owned-item.result
          (node-items c.args.height kind n us xs a.node) e.room z.owns.0 s;
      bench = z;
    }

pub finish-requires-clause-low : goal.finish-requires-clause-low
finish-requires-clause-low t c =
    let (kind, n, us, xs, it, R, a) = c.requires.aimed in let (rs, g, many) = c.requires.room in
    let (e, b) = asked t (goal.at.finish-requires-clause-low t c).After-is_next c.if-height-eq0.false kind n us xs it R a rs g in
    let p = open-place (c.args.height - 1) c.is_next.new.seat.view c.args.row e.n c.enter-goes.result.0 c.enter-goes.result.1 xs e.ps e.ys e.qs R e.state in
    let p0 = p.0 in let p1 = p.1 in omega arith

pub finish-requires-clause-state : goal.finish-requires-clause-state
finish-requires-clause-state t c =
    let (kind, n, us, xs, it, R, a) = c.requires.aimed in let (rs, g, many) = c.requires.room in
    let at = goal.at.finish-requires-clause-state t c in
    let (e, b) = asked t at.After-is_next c.if-height-eq0.false kind n us xs it R a rs g in
    let o = item-gone t at.After-remove_owned-item kind n us xs it R a rs e (item-aimed t at.After-is_next c.if-is_next.false a e) b in
    (c.args.height - 1, o.many, xs, o.ps, o.zs, o.qs, it, (let q = c.requires.low in omega arith), o.state)

pub finish-requires-clause-few : goal.finish-requires-clause-few
finish-requires-clause-few t c =
    let (kind, n, us, xs, it, R, a) = c.requires.aimed in let (rs, g, many) = c.requires.room in
    let at = goal.at.finish-requires-clause-few t c in
    let (e, b) = asked t at.After-is_next c.if-height-eq0.false kind n us xs it R a rs g in
    let o = item-gone t at.After-remove_owned-item kind n us xs it R a rs e (item-aimed t at.After-is_next c.if-is_next.false a e) b in
    let l = ap length o.bench.refs in let q = o.few in omega arith

pub finish-requires-clause-chain : goal.finish-requires-clause-chain
finish-requires-clause-chain t c =
    let (kind, n, us, xs, it, R, a) = c.requires.aimed in let (rs, g, many) = c.requires.room in
    let at = goal.at.finish-requires-clause-chain t c in
    let (e, b) = asked t at.After-is_next c.if-height-eq0.false kind n us xs it R a rs g in
    bench-chain (item-gone t at.After-remove_owned-item kind n us xs it R a rs e (item-aimed t at.After-is_next c.if-is_next.false a e) b).bench

pub returns-clause-shrunk : goal.returns-clause-shrunk
returns-clause-shrunk t c = λ kind n us xs it R a.
    let (rs, g, many) = c.requires.room in let ne = c.if-height-eq0.false in let h : ℕ = c.args.height - 1 in
    let at = goal.at.returns-clause-shrunk t c in
    let (e, b) = asked t at.After-is_next ne kind n us xs it R a rs g in
    let o = item-gone t at.After-remove_owned-item kind n us xs it R a rs e (item-aimed t at.After-is_next c.if-is_next.false a e) b in
    let st = c.finish.ensures.stood h o.many xs o.ps o.zs o.qs it (let q = c.requires.low in omega arith) o.state in
    as-given h c.args.height c.finish.new.seat.view c.args.row kind n o.many xs (o.ps ++ (o.zs ++ o.qs)) it c.remove_owned-item.result R
    (above c.args.height ne) (inner-kind c.args.height kind n us xs ne a.node) st o.state.gone o.least o.fits o.state.item_is
    (c.finish.ensures.same.1 ∙ o.bench.refs)

pub returns-clause-spends : goal.returns-clause-spends
returns-clause-spends t c = λ rs g.
    let (kind, n, us, xs, it, R, a) = c.requires.aimed in let ne = c.if-height-eq0.false in
    let at = goal.at.returns-clause-spends t c in
    let (e, b) = asked t at.After-is_next ne kind n us xs it R a rs g in
    let o = item-gone t at.After-remove_owned-item kind n us xs it R a rs e (item-aimed t at.After-is_next c.if-is_next.false a e) b in
    let row = c.args.row in let goes = c.enter-goes.result.0 in let s = o.bench.spends in
    spends-more (2 + (c.args.height - 1) * 2 + 0) (c.args.height * 2) (row ∷ []) (row ∷ []) rs c.args.seat.now.view c.finish.new.seat.view
    c.finish.new.chain (omega arith)
    (spends-join (2 + (c.args.height - 1) * 2) 0 (row ∷ []) (row ∷ goes ∷ []) (row ∷ []) rs c.args.seat.now.view c.remove_owned-item.new.seat.view
    c.finish.new.seat.view c.remove_owned-item.new.chain c.finish.new.chain s (c.finish.ensures.spends s.left s.chain))
