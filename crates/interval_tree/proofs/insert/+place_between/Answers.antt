use Rattle.std.proofs.Common.{◌≡◌, ◌≢◌, ◌≤◌, ◌<◌, ◌+◌, ◌-◌, ◌/◌, ℕ, ap, sym, subst, ◌∙◌, arith}
use Rattle.std.specs.Prelude.{true, false}
use Rattle.std.specs.declared.cmp.Ordering.{Ordering}
use Rattle.std.specs.Ordering.{is_lt}
use Rattle.row_pool.specs.SeatView.{SeatView}
use Rattle.row_pool.specs.SeatState.{SeatState}
use Rattle.latch_item.specs.Items.{HasItem, Item, item_of, item_cmp}
use Rattle.interval_tree.specs.Steps.{HasPlace, FindsPlace, LeadsTo}
use Rattle.interval_tree.proofs.Greatest.{is-less, not-less, item-at}
use Rattle.interval_tree.proofs.Leading.{middle, behind-middle, ahead-middle, middle-link, middle-reached}
use Rattle.interval_tree.proofs.insert.+place_between.Goals as goal

-- the place in the middle lies between the two
half : (v : SeatView) (row item low high : ℕ) → HasPlace v row item low high → low ≢ high
    → (low ≤ low + (high - low) / 2) × (low + (high - low) / 2 < high)
half v row item low high (kind, n, u, its, ds, it, o, few, latches, sorted, up, b) ne =
    let p = b.first in let q = b.last in (omega arith, omega arith)

pub row_at-other-requires-clause-link : goal.row_at-other-requires-clause-link
row_at-other-requires-clause-link t c =
    let z = half c.args.seat.now.view c.args.row c.args.item c.args.low c.args.high c.requires.between c.if-low-high.false in
    middle-link c.args.seat.now.view c.args.row c.args.item c.args.low c.args.high (c.args.low + (c.args.high - c.args.low) / 2) c.requires.between z.0 z.1

-- the item in the middle
middle-item : (v : SeatView) (row item low high m other : ℕ) → HasPlace v row item low high → low ≤ m → m < high → LeadsTo v row (1 + m) other
    → (x : Item) × HasItem v other x
middle-item v row item low high m other (kind, n, u, its, ds, it, o, few, latches, sorted, up, b) a e leads =
    let q = middle it its low high m b a e in
    (item_of q.y, item-at v q.y other (middle-reached v row low high m other kind n u its ds it q o latches leads))

pub item_cmp-requires-clause-one : goal.item_cmp-requires-clause-one
item_cmp-requires-clause-one t c =
    let v = c.args.seat.now.view in let low = c.args.low in let high = c.args.high in
    let z = half v c.args.row c.args.item low high c.requires.between c.if-low-high.false in
    subst (λ v. (x : Item) × HasItem v c.row_at-other.result x) (sym c.row_at-other.ensures.same.1)
    (middle-item v c.args.row c.args.item low high (low + (high - low) / 2) c.row_at-other.result c.requires.between z.0 z.1 c.row_at-other.ensures.row)

pub item_cmp-requires-clause-other : goal.item_cmp-requires-clause-other
item_cmp-requires-clause-other t c =
    let (kind, n, u, its, ds, it, o, few, latches, sorted, up, b) = c.requires.between in
    subst (λ v. (x : Item) × HasItem v c.args.item x) (sym c.row_at-other.ensures.same.1) (item_of it, item-at c.args.seat.now.view it c.args.item up)

-- what the comparison says of the two
abbrev Compares : SeatView → ℕ → ℕ → Ordering → Type 0
Compares v a b result = (x y : Item) → HasItem v a x → HasItem v b y → result ≡ item_cmp x y

next-behind : (v : SeatView) (row item low high m other : ℕ) (result : Ordering) → HasPlace v row item low high → low ≤ m
    → m < high → LeadsTo v row (1 + m) other → Compares v other item result → is_lt result ≡ true → HasPlace v row item (m + 1) high
next-behind v row item low high m other result (kind, n, u, its, ds, it, o, few, latches, sorted, up, b) a e leads cmp less =
    let q = middle it its low high m b a e in
    let r = cmp (item_of q.y) (item_of it) (item-at v q.y other (middle-reached v row low high m other kind n u its ds it q o latches leads))
    (item-at v it item up) in (
      kind,
      n,
      u,
      its,
      ds,
      it,
      o,
      few,
      latches,
      sorted,
      up,
      behind-middle it its low high m q sorted
          (is-less (item_cmp (item_of q.y) (item_of it)) (ap is_lt (sym r) ∙ less)),
    )

next-ahead : (v : SeatView) (row item low high m other : ℕ) (result : Ordering) → HasPlace v row item low high → low ≤ m
    → m < high → LeadsTo v row (1 + m) other → Compares v other item result → is_lt result ≡ false → HasPlace v row item low m
next-ahead v row item low high m other result (kind, n, u, its, ds, it, o, few, latches, sorted, up, b) a e leads cmp more =
    let q = middle it its low high m b a e in
    let r = cmp (item_of q.y) (item_of it) (item-at v q.y other (middle-reached v row low high m other kind n u its ds it q o latches leads))
    (item-at v it item up) in (
      kind,
      n,
      u,
      its,
      ds,
      it,
      o,
      few,
      latches,
      sorted,
      up,
      ahead-middle it its low high m q (not-less (item_cmp (item_of q.y) (item_of it)) (ap is_lt (sym r)
          ∙ more)),
    )

finds-behind : (v : SeatView) (row item low high m other found : ℕ) (result : Ordering) → low ≤ m → m < high
    → LeadsTo v row (1 + m) other → Compares v other item result → is_lt result ≡ true → FindsPlace v row item (m + 1) high found
    → FindsPlace v row item low high found
finds-behind v row item low high m other found result a e leads cmp less f kind n u its ds it o few latches sorted up b =
    let q = middle it its low high m b a e in
    let r = cmp (item_of q.y) (item_of it) (item-at v q.y other (middle-reached v row low high m other kind n u its ds it q o latches leads))
    (item-at v it item up) in
    f kind n u its ds it o few latches sorted up
    (behind-middle it its low high m q sorted (is-less (item_cmp (item_of q.y) (item_of it)) (ap is_lt (sym r) ∙ less)))

finds-ahead : (v : SeatView) (row item low high m other found : ℕ) (result : Ordering) → low ≤ m → m < high
    → LeadsTo v row (1 + m) other → Compares v other item result → is_lt result ≡ false → FindsPlace v row item low m found
    → FindsPlace v row item low high found
finds-ahead v row item low high m other found result a e leads cmp more f kind n u its ds it o few latches sorted up b =
    let q = middle it its low high m b a e in
    let r = cmp (item_of q.y) (item_of it) (item-at v q.y other (middle-reached v row low high m other kind n u its ds it q o latches leads))
    (item-at v it item up) in
    f kind n u its ds it o few latches sorted up
    (ahead-middle it its low high m q (not-less (item_cmp (item_of q.y) (item_of it)) (ap is_lt (sym r) ∙ more)))

pub place_between-requires : goal.place_between-requires
place_between-requires t c =
    let v = c.args.seat.now.view in let low = c.args.low in let high = c.args.high in
    let z = half v c.args.row c.args.item low high c.requires.between c.if-low-high.false in
    let same = ap (λ (s : SeatState). s.view) c.item_cmp.ensures.same ∙ c.row_at-other.ensures.same.1 in (
      let claim : high - low ≡ t = c.decreases in omega arith,
      (
        ap (λ (s : SeatState). s.table) c.item_cmp.ensures.same ∙ c.row_at-other.ensures.same.0 ∙ c.requires.table,
        subst (λ v. HasPlace v c.args.row c.args.item (low + (high - low) / 2 + 1) high) (sym same)
            (next-behind v c.args.row c.args.item low high (low + (high - low) / 2) c.row_at-other.result c.item_cmp.result c.requires.between z.0 z.1
            c.row_at-other.ensures.row (subst (λ v. Compares v c.row_at-other.result c.args.item c.item_cmp.result) c.row_at-other.ensures.same.1
            c.item_cmp.ensures.order) (sym c.is_lt.ensures ∙ c.if-is_lt.true)),
      ),
    )

pub place_between-requires-else-is_lt : goal.place_between-requires-else-is_lt
place_between-requires-else-is_lt t c =
    let v = c.args.seat.now.view in let low = c.args.low in let high = c.args.high in
    let z = half v c.args.row c.args.item low high c.requires.between c.if-low-high.false in
    let same = ap (λ (s : SeatState). s.view) c.item_cmp.ensures.same ∙ c.row_at-other.ensures.same.1 in (
      let claim : high - low ≡ t = c.decreases in let ne = c.if-low-high.false in omega arith,
      (
        ap (λ (s : SeatState). s.table) c.item_cmp.ensures.same ∙ c.row_at-other.ensures.same.0 ∙ c.requires.table,
        subst (λ v. HasPlace v c.args.row c.args.item low (low + (high - low) / 2)) (sym same)
            (next-ahead v c.args.row c.args.item low high (low + (high - low) / 2) c.row_at-other.result c.item_cmp.result c.requires.between z.0 z.1
            c.row_at-other.ensures.row (subst (λ v. Compares v c.row_at-other.result c.args.item c.item_cmp.result) c.row_at-other.ensures.same.1
            c.item_cmp.ensures.order) (sym c.is_lt.ensures ∙ c.if-is_lt.false)),
      ),
    )

pub returns-then-is_lt-clause-place : goal.returns-then-is_lt-clause-place
returns-then-is_lt-clause-place t c =
    let v = c.args.seat.now.view in let low = c.args.low in let high = c.args.high in
    let z = half v c.args.row c.args.item low high c.requires.between c.if-low-high.false in
    let same = ap (λ (s : SeatState). s.view) c.item_cmp.ensures.same ∙ c.row_at-other.ensures.same.1 in
    finds-behind v c.args.row c.args.item low high (low + (high - low) / 2) c.row_at-other.result c.place_between.result c.item_cmp.result z.0 z.1
    c.row_at-other.ensures.row
    (subst (λ v. Compares v c.row_at-other.result c.args.item c.item_cmp.result) c.row_at-other.ensures.same.1 c.item_cmp.ensures.order)
    (sym c.is_lt.ensures ∙ c.if-is_lt.true)
    (subst (λ v. FindsPlace v c.args.row c.args.item (low + (high - low) / 2 + 1) high c.place_between.result) same c.place_between.ensures.place)

pub returns-else-is_lt-clause-place : goal.returns-else-is_lt-clause-place
returns-else-is_lt-clause-place t c =
    let v = c.args.seat.now.view in let low = c.args.low in let high = c.args.high in
    let z = half v c.args.row c.args.item low high c.requires.between c.if-low-high.false in
    let same = ap (λ (s : SeatState). s.view) c.item_cmp.ensures.same ∙ c.row_at-other.ensures.same.1 in
    finds-ahead v c.args.row c.args.item low high (low + (high - low) / 2) c.row_at-other.result c.place_between-else-is_lt.result c.item_cmp.result z.0 z.1
    c.row_at-other.ensures.row
    (subst (λ v. Compares v c.row_at-other.result c.args.item c.item_cmp.result) c.row_at-other.ensures.same.1 c.item_cmp.ensures.order)
    (sym c.is_lt.ensures ∙ c.if-is_lt.false)
    (subst (λ v. FindsPlace v c.args.row c.args.item low (low + (high - low) / 2) c.place_between-else-is_lt.result) same
    c.place_between-else-is_lt.ensures.place)
