use Rattle.std.proofs.Common.{◌≡◌, ◌≢◌, ◌≤◌, ◌<◌, ◌+◌, ◌^◌, ℕ, List, [], ◌∷◌, ◌++◌, length, ap, sym, subst, ◌∙◌, arith}
use Rattle.std.specs.Ordering.{is_lt}
use Rattle.row_pool.specs.Trees.{Tree, nil}
use Rattle.row_pool.specs.SeatView.{SeatView}
use Rattle.row_pool.specs.SeatState.{SeatState}
use Rattle.row_pool.specs.Chains.{IsChain}
use Rattle.latch_item.specs.Items.{item_of, item_cmp}
use Rattle.interval_tree.specs.Held.{OwnsNode, OthersStand, Spends, HasRoom}
use Rattle.interval_tree.specs.Nodes.{item_front, hole_end}
use Rattle.interval_tree.specs.States.{Halves, Opened}
use Rattle.interval_tree.proofs.Frames.{owns-kept, owns-others, away-one, spends-more, spends-self, spends-others}
use Rattle.interval_tree.proofs.Greatest.{is-less, not-less, item-at, has-item}
use Rattle.interval_tree.proofs.Leading.{up-first}
use Rattle.interval_tree.proofs.Linking.{goes-right, goes-left}
use Rattle.interval_tree.proofs.Parting.{count-full, child-body, second-ref, two-apart, left-can, left-linked, right-can, right-linked, right-spends}
use Rattle.interval_tree.proofs.Parting.{left-spends, half-kept}
use Rattle.interval_tree.proofs.insert.room_below.Goals as goal
use Rattle.interval_tree.proofs.insert.room_below.Goals.{After-count_of-count, After-split_node-right, After-item_cmp, After-make_room}

pub count_of-count-requires-clause-node : goal.count_of-count-requires-clause-node
count_of-count-requires-clause-node c =
    let (h, kind, n, top, xs, it, rest, low, few, o) = c.requires.opened in (o.sort, o.count, o.below, o.owns_child)

-- the child is full
full : (c : After-count_of-count) → 31 ≤ c.count_of-count.result → (h kind n : ℕ) (top : Tree) (xs : List Tree) (it : Tree) (rest : List Tree)
    → (o : Opened h c.args.seat.now.view c.args.row kind n top c.args.child c.args.i c.args.item xs it rest) → o.count ≡ 31
full c many h kind n top xs it rest o = count-full h c.args.seat.now.view c.args.row kind n top c.args.child c.args.i c.args.item xs it rest o
    c.count_of-count.result (c.count_of-count.ensures.count o.sort o.count o.below o.owns_child) many

pub split_node-right-requires-clause-node : goal.split_node-right-requires-clause-node
split_node-right-requires-clause-node c =
    let (h, kind, n, top, xs, it, rest, low, few, o) = c.requires.opened in
    let v = c.args.seat.now.view in
    let z = child-body h v c.args.row kind n top c.args.child c.args.i c.args.item xs it rest o
    (full (goal.at.split_node-right-requires-clause-node c).After-count_of-count c.if-count-lt31.false h kind n top xs it rest o) in
    (h, o.sort, o.below, o.ys, subst (λ (s : SeatState). OwnsNode s.view c.args.child o.sort 31 o.below) (sym c.count_of-count.ensures.same) z.0, z.1, o.sorted)

pub split_node-right-requires-clause-few : goal.split_node-right-requires-clause-few
split_node-right-requires-clause-few c =
    let (h, kind, n, top, xs, it, rest, low, few, o) = c.requires.opened in
    let a = ap length (ap (λ (s : SeatState). s.view.refs) c.count_of-count.ensures.same ∙ o.refs) in let b = o.few in omega arith

pub split_node-right-requires-clause-room : goal.split_node-right-requires-clause-room
split_node-right-requires-clause-room c =
    subst (λ (s : SeatState). HasRoom 1 s.view c.args.chain.now) (sym c.count_of-count.ensures.same) c.requires.room

-- what stands after the split
pub record AfterSplit (h : ℕ) (s : SeatView) (row kind n : ℕ) (top : Tree) (child right middle sort : ℕ) (us ys : List Tree) (it : Tree)
    (rest : List Tree) : Type 0 where
  pub halves : Halves h s child right middle sort ys (it ∷ rest)
  pub owns : OwnsNode s row kind n (top ∷ us)
  pub child_apart : child ≢ row
  pub right_apart : right ≢ row

-- the chain through the split
chained : (c : After-split_node-right) → (rs : List ℕ) → IsChain c.args.seat.now.view c.args.chain.now rs
    → Spends 1 (c.args.child ∷ []) (c.args.child ∷ c.split_node-right.result.0 ∷ []) rs c.args.seat.now.view c.split_node-right.new.seat.view
    c.split_node-right.new.chain
chained c rs h =
    let same = ap (λ (s : SeatState). s.view) c.count_of-count.ensures.same in
    subst (λ v. Spends 1 (c.args.child ∷ []) (c.args.child ∷ c.split_node-right.result.0 ∷ []) rs v c.split_node-right.new.seat.view
    c.split_node-right.new.chain) same (c.split_node-right.ensures.spends rs (subst (λ v. IsChain v c.args.chain.now rs) (sym same) h))

split : (c : After-split_node-right) → 31 ≤ c.count_of-count.result → (h kind n : ℕ) (top : Tree) (xs : List Tree) (it : Tree) (rest : List Tree)
    → (o : Opened h c.args.seat.now.view c.args.row kind n top c.args.child c.args.i c.args.item xs it rest)
    → AfterSplit h c.split_node-right.new.seat.view c.args.row kind n top c.args.child c.split_node-right.result.0 c.split_node-right.result.1 o.sort o.us o.ys
    it rest
split c many h kind n top xs it rest o =
    let v = c.args.seat.now.view in let row = c.args.row in let s = c.split_node-right.new.seat.view in
    let all = count-full h v row kind n top c.args.child c.args.i c.args.item xs it rest o c.count_of-count.result
    (c.count_of-count.ensures.count o.sort o.count o.below o.owns_child) many in
    let z = child-body h v row kind n top c.args.child c.args.i c.args.item xs it rest o all in
    let halves = c.split_node-right.ensures.halves h o.sort o.below o.ys
    (subst (λ (s : SeatState). OwnsNode s.view c.args.child o.sort 31 o.below) (sym c.count_of-count.ensures.same) z.0) z.1 o.sorted in
    let (rs, g, some_rows) = c.requires.room in
    let k = owns-kept 1 (c.args.child ∷ []) (c.args.child ∷ c.split_node-right.result.0 ∷ []) rs v s c.args.chain.now c.split_node-right.new.chain row kind n
    (top ∷ o.us) g (chained c rs g) o.owns (away-one row c.args.child (λ e. o.apart (sym e))) in
    let ne = two-apart row c.args.child c.split_node-right.result.0 k.apart in
    record {
      halves = subst (λ ts. Halves h s c.args.child c.split_node-right.result.0 c.split_node-right.result.1 o.sort o.ys ts)
          (ap (λ (s : SeatState). s.view.refs) c.count_of-count.ensures.same ∙ o.refs) halves;
      owns = k.owns;
      child_apart = ne.0;
      right_apart = ne.1;
    }

pub item_cmp-requires-clause-one : goal.item_cmp-requires-clause-one
item_cmp-requires-clause-one c =
    let (h, kind, n, top, xs, it, rest, low, few, o) = c.requires.opened in
    let z = (split (goal.at.item_cmp-requires-clause-one c).After-split_node-right c.if-count-lt31.false h kind n top xs it rest o).halves in
    has-item c.split_node-right.new.seat.view z.m c.split_node-right.result.1
    (up-first c.split_node-right.new.seat.view z.m (it ∷ rest) z.refs, z.here, z.latch)

pub item_cmp-requires-clause-other : goal.item_cmp-requires-clause-other
item_cmp-requires-clause-other c =
    let (h, kind, n, top, xs, it, rest, low, few, o) = c.requires.opened in
    let z = (split (goal.at.item_cmp-requires-clause-other c).After-split_node-right c.if-count-lt31.false h kind n top xs it rest o).halves in
    has-item c.split_node-right.new.seat.view it c.args.item (second-ref c.split_node-right.new.seat.view z.m it rest z.refs, o.here, o.latch)

compared : (c : After-item_cmp) → 31 ≤ c.count_of-count.result → (h kind n : ℕ) (top : Tree) (xs : List Tree) (it : Tree) (rest : List Tree)
    → (o : Opened h c.args.seat.now.view c.args.row kind n top c.args.child c.args.i c.args.item xs it rest)
    → (z : Halves h c.split_node-right.new.seat.view c.args.child c.split_node-right.result.0 c.split_node-right.result.1 o.sort o.ys (it ∷ rest))
    → c.item_cmp.result ≡ item_cmp (item_of z.m) (item_of it)
compared c many h kind n top xs it rest o z =
    let s = c.split_node-right.new.seat.view in
    c.item_cmp.ensures.order (item_of z.m) (item_of it)
    (item-at s z.m c.split_node-right.result.1 (up-first s z.m (it ∷ rest) z.refs, z.here, z.latch))
    (item-at s it c.args.item (second-ref s z.m it rest z.refs, o.here, o.latch))

pub make_room-requires-clause-hole : goal.make_room-requires-clause-hole
make_room-requires-clause-hole c =
    let (h, kind, n, top, xs, it, rest, low, few, o) = c.requires.opened in
    let z = split (goal.at.make_room-requires-clause-hole c).After-split_node-right c.if-count-lt31.false h kind n top xs it rest o in
    let same = sym c.item_cmp.ensures.same in (
      h,
      kind,
      n,
      top,
      z.halves.m,
      o.us,
      o.ps,
      o.qs,
      it ∷ rest,
      o.hole,
      few,
      subst (λ (s : SeatState). OwnsNode s.view c.args.row kind n (top ∷ o.us)) same z.owns,
      z.halves.here,
      subst (λ (s : SeatState). s.view.refs ≡ z.halves.m ∷ it ∷ rest) same z.halves.refs,
      (let a = o.few in omega arith),
    )

-- the node with the middle item
pub record Roomy (s r : SeatView) (row kind n : ℕ) (links rest : List Tree) : Type 0 where
  pub owns : OwnsNode r row kind (n + 1) links
  pub refs : r.refs ≡ rest
  pub others : OthersStand row s r

roomy : (c : After-make_room) → 31 ≤ c.count_of-count.result → (h kind n : ℕ) (top : Tree) (xs : List Tree) (it : Tree) (rest : List Tree) → n < 31
    → (o : Opened h c.args.seat.now.view c.args.row kind n top c.args.child c.args.i c.args.item xs it rest)
    → (z : AfterSplit h c.split_node-right.new.seat.view c.args.row kind n top c.args.child c.split_node-right.result.0 c.split_node-right.result.1 o.sort o.us
    o.ys it rest)
    → Roomy c.split_node-right.new.seat.view c.make_room.new.seat.view c.args.row kind n
    ((item_front o.hole top z.halves.m ++ nil ∷ []) ++ nil ∷ (o.hole.ds ++ hole_end o.hole)) (it ∷ rest)
roomy c many h kind n top xs it rest few o z =
    let same = sym c.item_cmp.ensures.same in
    let y = c.make_room.ensures.node h kind n top z.halves.m o.us o.ps o.qs (it ∷ rest) o.hole few
    (subst (λ (s : SeatState). OwnsNode s.view c.args.row kind n (top ∷ o.us)) same z.owns) z.halves.here
    (subst (λ (s : SeatState). s.view.refs ≡ z.halves.m ∷ it ∷ rest) same z.halves.refs) in
    record {
      owns = y.0;
      refs = y.1;
      others = subst (λ (s : SeatState). OthersStand c.args.row s.view c.make_room.new.seat.view) c.item_cmp.ensures.same c.make_room.ensures.others;
    }

-- what the halves need
few-refs : (rest : List Tree) (it : Tree) → length rest < 2 ^ 31 → length (it ∷ rest) < 2 ^ 32
few-refs rest it low = omega arith

pub link_node-requires-clause-link : goal.link_node-requires-clause-link
link_node-requires-clause-link c =
    let (h, kind, n, top, xs, it, rest, low, few, o) = c.requires.opened in
    let z = split (goal.at.link_node-requires-clause-link c).After-split_node-right c.if-count-lt31.false h kind n top xs it rest o in
    let y = roomy (goal.at.link_node-requires-clause-link c).After-make_room c.if-count-lt31.false h kind n top xs it rest few o z in
    left-can h c.split_node-right.new.seat.view c.make_room.new.seat.view c.args.row kind n top z.halves.m c.args.child c.args.i o.sort o.us o.ps o.qs
    z.halves.ls z.halves.us (it ∷ rest) o.hole low few y.owns z.halves.left_owns z.halves.left_node y.others z.child_apart y.refs (few-refs rest it o.few)

pub link_node-requires-else-goes_right-clause-link : goal.link_node-requires-else-goes_right-clause-link
link_node-requires-else-goes_right-clause-link c =
    let (h, kind, n, top, xs, it, rest, low, few, o) = c.requires.opened in
    let z = split (goal.at.link_node-requires-else-goes_right-clause-link c).After-split_node-right c.if-count-lt31.false h kind n top xs it rest o in
    let y = roomy (goal.at.link_node-requires-else-goes_right-clause-link c).After-make_room c.if-count-lt31.false h kind n top xs it rest few o z in
    right-can h c.split_node-right.new.seat.view c.make_room.new.seat.view c.args.row kind n top z.halves.m c.args.i c.split_node-right.result.0 o.sort o.us
    o.ps
    o.qs z.halves.rs z.halves.vs (it ∷ rest) o.hole low few y.owns z.halves.right_owns z.halves.right_node y.others z.right_apart y.refs
    (few-refs rest it o.few)

pub returns-then-count-lt31-clause-opened : goal.returns-then-count-lt31-clause-opened
returns-then-count-lt31-clause-opened c = λ h kind n top xs it rest low few o.
    let same = sym c.count_of-count.ensures.same in (
      n,
      omega arith,
      omega arith,
      subst (λ (s : SeatState). Opened h s.view c.args.row kind n top c.args.child c.args.i c.args.item xs it rest) same o,
      few-child h c.args.seat.now c.count_of-count.new.seat c.args.row kind n top c.args.child c.args.i c.args.item xs it rest o same
          (let a = c.count_of-count.ensures.count o.sort o.count o.below o.owns_child in let b = c.if-count-lt31.true in omega arith),
    )
  where
    few-child : (h : ℕ) (v w : SeatState) (row kind n : ℕ) (top : Tree) (child j item : ℕ) (xs : List Tree) (it : Tree) (rest : List Tree)
        → (o : Opened h v.view row kind n top child j item xs it rest) → (same : v ≡ w) → o.count < 31
        → (subst (λ (s : SeatState). Opened h s.view row kind n top child j item xs it rest) same o).count < 31
    few-child h v w row kind n top child j item xs it rest o same low = low

pub returns-then-count-lt31-clause-spends : goal.returns-then-count-lt31-clause-spends
returns-then-count-lt31-clause-spends c = λ rs h.
    subst (λ (s : SeatState). Spends 1 (c.args.row ∷ c.args.child ∷ []) (c.args.row ∷ c.args.child ∷ []) rs c.args.seat.now.view s.view c.args.chain.now)
    (sym c.count_of-count.ensures.same) (spends-more 0 1 (c.args.row ∷ c.args.child ∷ []) (c.args.row ∷ c.args.child ∷ []) rs c.args.seat.now.view
    c.args.seat.now.view c.args.chain.now (omega arith) (spends-self (c.args.row ∷ c.args.child ∷ []) rs c.args.seat.now.view c.args.chain.now h))

-- the chain once the middle item is linked
chain-roomy : (c : After-make_room) → 31 ≤ c.count_of-count.result → (rs : List ℕ) × IsChain c.make_room.new.seat.view c.split_node-right.new.chain rs
chain-roomy c many =
    let (h, kind, n, top, xs, it, rest, low, few, o) = c.requires.opened in
    let (rs, g, some_rows) = c.requires.room in
    let same = ap (λ (s : SeatState). s.view) c.count_of-count.ensures.same in
    let s = c.split_node-right.ensures.spends rs (subst (λ v. IsChain v c.args.chain.now rs) (sym same) g) in
    let v = c.args.seat.now.view in let row = c.args.row in
    let all = count-full h v row kind n top c.args.child c.args.i c.args.item xs it rest o c.count_of-count.result
    (c.count_of-count.ensures.count o.sort o.count o.below o.owns_child) many in
    let k = owns-kept 1 (c.args.child ∷ []) (c.args.child ∷ c.split_node-right.result.0 ∷ []) rs v c.split_node-right.new.seat.view c.args.chain.now
    c.split_node-right.new.chain row kind n (top ∷ o.us) g
    (subst (λ v. Spends 1 (c.args.child ∷ []) (c.args.child ∷ c.split_node-right.result.0 ∷ []) rs v c.split_node-right.new.seat.view
    c.split_node-right.new.chain) same s) o.owns (away-one row c.args.child (λ e. o.apart (sym e))) in
    let t = spends-others c.split_node-right.new.seat.view c.make_room.new.seat.view row kind n (top ∷ o.us) c.split_node-right.new.chain [] s.left k.owns
    (subst (λ (s : SeatState). OthersStand row s.view c.make_room.new.seat.view) c.item_cmp.ensures.same c.make_room.ensures.others) s.chain in
    (t.left, t.chain)

pub returns-then-goes_right-clause-opened : goal.returns-then-goes_right-clause-opened
returns-then-goes_right-clause-opened c = λ h kind n top xs it rest low few o.
    let at = (goal.at.returns-then-goes_right-clause-opened c).After-make_room in
    let z = split (goal.at.returns-then-goes_right-clause-opened c).After-split_node-right c.if-count-lt31.false h kind n top xs it rest o in
    let y = roomy at c.if-count-lt31.false h kind n top xs it rest few o z in
    let s = c.split_node-right.new.seat.view in let r = c.make_room.new.seat.view in let w = c.link_node.new.seat.view in let row = c.args.row in
    let right = c.split_node-right.result.0 in let g = z.halves in
    let (us, owns, hole, refs) = left-linked h s r w row kind n top g.m c.args.child c.args.i o.sort o.us o.ps o.qs g.ls g.us o.hole few g.latch y.owns
    g.left_owns g.left_node y.others z.child_apart c.link_node.ensures.linked in
    let (rs, chain_is) = chain-roomy at c.if-count-lt31.false in
    let half = half-kept r w row c.args.child right 15 o.sort g.vs rs c.split_node-right.new.chain chain_is c.link_node.ensures.spends z.right_apart
    (λ e. g.apart (sym e)) (owns-others row s r right o.sort 15 g.vs y.others z.right_apart g.right_owns) in
    let before = is-less (item_cmp (item_of g.m) (item_of it))
    (ap is_lt (sym (compared (goal.at.returns-then-goes_right-clause-opened c).After-item_cmp c.if-count-lt31.false h kind n top xs it rest o g))
    ∙ sym c.is_lt-goes_right.ensures ∙ c.if-goes_right.true) in
    let (p, low_count) = goes-right h c.args.seat.now.view w row kind n top c.args.child c.args.i c.args.item xs it rest o right c.split_node-right.result.1 s g
    us
    before owns hole z.right_apart half (refs ∙ y.refs) in
    (n + 1, omega arith, omega arith, p, low_count)

pub returns-then-goes_right-clause-spends : goal.returns-then-goes_right-clause-spends
returns-then-goes_right-clause-spends c = λ rs h.
    let (l, kind, n, top, xs, it, rest, low, few, o) = c.requires.opened in
    let z = split (goal.at.returns-then-goes_right-clause-spends c).After-split_node-right c.if-count-lt31.false l kind n top xs it rest o in
    let y = roomy (goal.at.returns-then-goes_right-clause-spends c).After-make_room c.if-count-lt31.false l kind n top xs it rest few o z in
    right-spends c.args.seat.now.view c.split_node-right.new.seat.view c.make_room.new.seat.view c.link_node.new.seat.view c.args.row c.args.child
    c.split_node-right.result.0 kind n (top ∷ o.us) rs c.split_node-right.new.chain
    (chained (goal.at.returns-then-goes_right-clause-spends c).After-split_node-right rs h) z.owns y.others c.link_node.ensures.spends

pub returns-else-goes_right-clause-opened : goal.returns-else-goes_right-clause-opened
returns-else-goes_right-clause-opened c = λ h kind n top xs it rest low few o.
    let at = (goal.at.returns-else-goes_right-clause-opened c).After-make_room in
    let z = split (goal.at.returns-else-goes_right-clause-opened c).After-split_node-right c.if-count-lt31.false h kind n top xs it rest o in
    let y = roomy at c.if-count-lt31.false h kind n top xs it rest few o z in
    let s = c.split_node-right.new.seat.view in let r = c.make_room.new.seat.view in let w = c.link_node-else-goes_right.new.seat.view in
    let row = c.args.row in
    let right = c.split_node-right.result.0 in let g = z.halves in
    let (us, owns, hole, refs) = right-linked h s r w row kind n top g.m c.args.i right o.sort o.us o.ps o.qs g.rs g.vs o.hole few g.latch y.owns
    g.right_owns g.right_node y.others z.right_apart c.link_node-else-goes_right.ensures.linked in
    let (rs, chain_is) = chain-roomy at c.if-count-lt31.false in
    let half = half-kept r w row right c.args.child 15 o.sort g.us rs c.split_node-right.new.chain chain_is c.link_node-else-goes_right.ensures.spends
    z.child_apart
    g.apart (owns-others row s r c.args.child o.sort 15 g.us y.others z.child_apart g.left_owns) in
    let behind = not-less (item_cmp (item_of g.m) (item_of it))
    (ap is_lt (sym (compared (goal.at.returns-else-goes_right-clause-opened c).After-item_cmp c.if-count-lt31.false h kind n top xs it rest o g))
    ∙ sym c.is_lt-goes_right.ensures ∙ c.if-goes_right.false) in
    let (p, low_count) = goes-left h c.args.seat.now.view w row kind n top c.args.child c.args.i c.args.item xs it rest o right c.split_node-right.result.1 s g
    us
    behind owns hole half (refs ∙ y.refs) in
    (n + 1, omega arith, omega arith, p, low_count)

pub returns-else-goes_right-clause-spends : goal.returns-else-goes_right-clause-spends
returns-else-goes_right-clause-spends c = λ rs h.
    let (l, kind, n, top, xs, it, rest, low, few, o) = c.requires.opened in
    let z = split (goal.at.returns-else-goes_right-clause-spends c).After-split_node-right c.if-count-lt31.false l kind n top xs it rest o in
    let y = roomy (goal.at.returns-else-goes_right-clause-spends c).After-make_room c.if-count-lt31.false l kind n top xs it rest few o z in
    left-spends c.args.seat.now.view c.split_node-right.new.seat.view c.make_room.new.seat.view c.link_node-else-goes_right.new.seat.view c.args.row
    c.args.child
    c.split_node-right.result.0 kind n (top ∷ o.us) rs c.split_node-right.new.chain
    (chained (goal.at.returns-else-goes_right-clause-spends c).After-split_node-right rs h) z.owns y.others c.link_node-else-goes_right.ensures.spends
