use Rattle.std.proofs.Common.{◌≡◌, ◌<◌, ◌^◌, ℕ, List, [], ◌∷◌, ◌+◌, length, inl, inr, refl, ap, sym, subst, ◌∙◌, arith}
use Rattle.std.specs.Ordering.{is_lt}
use Rattle.span_key.specs.Spans.{bound_cmp}
use Rattle.row_pool.specs.Trees.{Tree}
use Rattle.row_pool.specs.SeatView.{SeatView}
use Rattle.row_pool.specs.SeatState.{SeatState}
use Rattle.row_pool.specs.Chains.{IsChain}
use Rattle.row_pool.specs.Views.{Reaches}
use Rattle.latch_item.specs.Items.{IsLatch, HasItem, Item, item_of}
use Rattle.interval_tree.specs.Held.{OwnsNode, Spends}
use Rattle.interval_tree.specs.States.{ReachesItem}
use Rattle.interval_tree.specs.Steps.{LeadsTo}
use Rattle.interval_tree.proofs.Rows.{up-link}
use Rattle.interval_tree.proofs.Frames.{spends-same}
use Rattle.interval_tree.proofs.Lists.{bound-less}
use Rattle.interval_tree.proofs.Greatest.{is-less, not-less, has-item, item-at}
use Rattle.interval_tree.proofs.bounds.raise_top.Goals as goal
use Rattle.interval_tree.proofs.bounds.raise_top.Goals.{After-bound_cmp}

pub row_at-top-requires-clause-link : goal.row_at-top-requires-clause-link
row_at-top-requires-clause-link c =
    let (kind, n, top, us, it, o, latch, up) = c.requires.node in (kind, n, [], us, top, o, refl, omega arith, let a = latch.here in omega arith)

-- the old item, as the search found it
top-reached : (v : SeatView) (row kind n item : ℕ) (top : Tree) (us : List Tree) → OwnsNode v row kind n (top ∷ us) → IsLatch top → LeadsTo v row 0 item
    → ReachesItem v top item
top-reached v row kind n item top us o latch leads = (up-link v row kind n [] us top 0 o refl, leads kind n [] us top o refl, latch)

pub bound_cmp-requires-clause-one : goal.bound_cmp-requires-clause-one
bound_cmp-requires-clause-one c =
    let (kind, n, top, us, it, o, latch, up) = c.requires.node in
    subst (λ v. (x : Item) × HasItem v c.row_at-top.result x) (sym c.row_at-top.ensures.same.1)
    (has-item c.args.seat.now.view top c.row_at-top.result (top-reached c.args.seat.now.view c.args.row kind n c.row_at-top.result top us o latch
    c.row_at-top.ensures.row))

pub bound_cmp-requires-clause-other : goal.bound_cmp-requires-clause-other
bound_cmp-requires-clause-other c =
    let (kind, n, top, us, it, o, latch, up) = c.requires.node in
    subst (λ v. (x : Item) × HasItem v c.args.item x) (sym c.row_at-top.ensures.same.1) (has-item c.args.seat.now.view it c.args.item up)

compared : (c : After-bound_cmp) → (kind n : ℕ) (top : Tree) (us : List Tree) (it : Tree) → OwnsNode c.args.seat.now.view c.args.row kind n (top ∷ us)
    → IsLatch top → ReachesItem c.args.seat.now.view it c.args.item → c.bound_cmp.result ≡ bound_cmp (item_of top).span (item_of it).span
compared c kind n top us it o latch up =
    let v = c.args.seat.now.view in
    c.bound_cmp.ensures.order (item_of top) (item_of it)
    (subst (λ v. HasItem v c.row_at-top.result (item_of top)) (sym c.row_at-top.ensures.same.1)
    (item-at v top c.row_at-top.result (top-reached v c.args.row kind n c.row_at-top.result top us o latch c.row_at-top.ensures.row)))
    (subst (λ v. HasItem v c.args.item (item_of it)) (sym c.row_at-top.ensures.same.1) (item-at v it c.args.item up))

-- the two loads change nothing that the seat knows
quiet : (c : After-bound_cmp) → c.bound_cmp.new.seat.view ≡ c.args.seat.now.view
quiet c = ap (λ (s : SeatState). s.view) c.bound_cmp.ensures.same ∙ c.row_at-top.ensures.same.1

pub replace_top-requires-clause-node : goal.replace_top-requires-clause-node
replace_top-requires-clause-node c =
    let (kind, n, top, us, it, o, latch, up) = c.requires.node in
    let same = sym (quiet (goal.at.replace_top-requires-clause-node c).After-bound_cmp) in
    (kind, n, top, us, it, subst (λ v. OwnsNode v c.args.row kind n (top ∷ us)) same o, subst (λ v. Reaches v it) same up.0, up.1)

pub replace_top-requires-clause-few : goal.replace_top-requires-clause-few
replace_top-requires-clause-few c = subst (λ (v : SeatView). length v.refs + 1 < 2 ^ 32)
    (sym (quiet (goal.at.replace_top-requires-clause-few c).After-bound_cmp)) c.requires.few

pub replace_top-requires-clause-chain : goal.replace_top-requires-clause-chain
replace_top-requires-clause-chain c = subst (λ v. (rs : List ℕ) × IsChain v c.args.chain.now rs)
    (sym (quiet (goal.at.replace_top-requires-clause-chain c).After-bound_cmp)) c.requires.chain

pub returns-then-is_lt-clause-same : goal.returns-then-is_lt-clause-same
returns-then-is_lt-clause-same c = (
  c.replace_top.ensures.same.0 ∙ ap (λ (s : SeatState). s.table) c.bound_cmp.ensures.same ∙ c.row_at-top.ensures.same.0,
  c.replace_top.ensures.same.1 ∙ ap (λ (v : SeatView). v.refs) (quiet (goal.at.returns-then-is_lt-clause-same c).After-bound_cmp),
)

pub returns-then-is_lt-clause-node : goal.returns-then-is_lt-clause-node
returns-then-is_lt-clause-node c = λ kind n top us it o latch up.
    let at = (goal.at.returns-then-is_lt-clause-node c).After-bound_cmp in let same = sym (quiet at) in
    let e = is-less (bound_cmp (item_of top).span (item_of it).span)
    (ap is_lt (sym (compared at kind n top us it o latch up)) ∙ sym c.is_lt.ensures ∙ c.if-is_lt.true) in (
      it,
      inr (refl, bound-less top it e),
      c.replace_top.ensures.node kind n top us it (subst (λ v. OwnsNode v c.args.row kind n (top ∷ us)) same o)
          (subst (λ v. Reaches v it) same up.0) up.1,
    )

pub returns-then-is_lt-clause-spends : goal.returns-then-is_lt-clause-spends
returns-then-is_lt-clause-spends c = subst (λ v. (rs : List ℕ) → IsChain v c.args.chain.now rs
    → Spends 0 (c.args.row ∷ []) (c.args.row ∷ []) rs v c.replace_top.new.seat.view c.replace_top.new.chain)
    (quiet (goal.at.returns-then-is_lt-clause-spends c).After-bound_cmp) c.replace_top.ensures.spends

pub returns-else-is_lt-clause-same : goal.returns-else-is_lt-clause-same
returns-else-is_lt-clause-same c = (
  ap (λ (s : SeatState). s.table) c.bound_cmp.ensures.same ∙ c.row_at-top.ensures.same.0,
  ap (λ (v : SeatView). v.refs) (quiet (goal.at.returns-else-is_lt-clause-same c).After-bound_cmp),
)

pub returns-else-is_lt-clause-node : goal.returns-else-is_lt-clause-node
returns-else-is_lt-clause-node c = λ kind n top us it o latch up.
    let at = (goal.at.returns-else-is_lt-clause-node c).After-bound_cmp in
    let e = not-less (bound_cmp (item_of top).span (item_of it).span)
    (ap is_lt (sym (compared at kind n top us it o latch up)) ∙ sym c.is_lt.ensures ∙ c.if-is_lt.false) in
    (top, inl (refl, e), subst (λ v. OwnsNode v c.args.row kind n (top ∷ us)) (sym (quiet at)) o)

pub returns-else-is_lt-clause-spends : goal.returns-else-is_lt-clause-spends
returns-else-is_lt-clause-spends c = λ rs h.
    spends-same (c.args.row ∷ []) rs c.args.seat.now.view c.bound_cmp.new.seat.view c.args.chain.now
    (quiet (goal.at.returns-else-is_lt-clause-spends c).After-bound_cmp) h
