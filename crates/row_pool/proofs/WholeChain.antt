-- Where no seat is split off and the first has no reference, and each row that it owns is in one chain, the chain has all rows of the pool.
use Rattle.std.proofs.Common.{◌≡◌, ℕ, zero, suc, ◌+◌, ◌≤◌, true, true≢false, List, [], ◌∷◌, ◌++◌, length, sym, refl, ap, subst, ◌∙◌, ⊎_elim, eq-eqb, ne_eqb}
use Rattle.std.proofs.Common.{arith}
use mathlib.Core.Option.{some, some-injective, some-ne-none}
use Rattle.std.proofs.lemmas.Bool.Decides.{eqb_tells}
use Rattle.row_pool.specs.Lists.{find, mem, total, KeysDistinct}
use Rattle.row_pool.specs.Trees.{Link, Entry}
use Rattle.row_pool.specs.SeatView.{SeatView}
use Rattle.row_pool.specs.Layout.{link_count}
use Rattle.row_pool.specs.Caps.{rows_in, concat_map, link_rows, entry_rows, rows_of_view, has, sum_below, row_count, cap_sum}
use Rattle.row_pool.specs.Views.{ViewInvariant}
use Rattle.row_pool.specs.Chains.{IsChain}
use Rattle.row_pool.specs.declared.chain.Chain.{Chain}
use Rattle.row_pool.proofs.RowCounts.{In, in-append, in-head, has-mono}
use Rattle.row_pool.proofs.Chains.{strung-free, strung-short}

no-links : (ls : List Link) → length ls ≡ 0 → ls ≡ []
no-links [] h = refl
no-links (l ∷ ls) h = absurd (omega arith)

-- what a seat has by owned rows without links
owned-in : (r : ℕ) (ps : List (ℕ × Entry)) → KeysDistinct ps → ((q : ℕ) (e : Entry) → find q ps ≡ some e → e.links ≡ []) → In r (concat_map entry_rows ps)
    → (e : Entry) × (find r ps ≡ some e)
owned-in r [] keys_distinct empty h = absurd (true≢false (sym h))
owned-in r (p ∷ ps) keys_distinct empty h = ⊎_elim
    (λ a. ⊎_elim (λ (z : p.0 ≡ r). (p.1, rw (eq-eqb p.0 r z) refl))
    (λ b. absurd (true≢false (sym (subst (λ ls. In r (concat_map link_rows ls)) (empty p.0 p.1 (rw (eq-eqb p.0 p.0 refl) refl)) b))))
    (in-head r p.0 (concat_map link_rows p.1.links) a))
    (λ b. let o = owned-in r ps keys_distinct.1 (λ q e f. empty q e (⊎_elim (λ t. absurd (some-ne-none e (sym f ∙ ap (λ q. find q ps) (sym t.1)
    ∙ keys_distinct.0)))
    (λ t. rw t.0 f) (eqb_tells p.0 q))) b in
    ⊎_elim (λ t. (p.1, rw t.0 refl)) (λ t. (o.0, rw t.0 o.1)) (eqb_tells p.0 r))
    (in-append r (entry_rows p) (concat_map entry_rows ps) h)

-- a number stands at one place alone
none-below : (q n : ℕ) → n ≤ q → sum_below (λ r. has r (q ∷ [])) n ≡ 0
none-below q zero h = refl
none-below q (suc n) h = let a = none-below q n (omega arith) in let z : has n (q ∷ []) ≡ 0 = rw (ne_eqb q n (λ z. omega arith)) refl in omega arith

one-below : (q n : ℕ) → sum_below (λ r. has r (q ∷ [])) n ≤ 1
one-below q zero = omega arith
one-below q (suc n) = ⊎_elim (λ t. let a = none-below q n (let z = t.1 in omega arith) in let z : has n (q ∷ []) ≡ 1 = rw t.0 refl in omega arith)
    (λ t. let a = one-below q n in let z : has n (q ∷ []) ≡ 0 = rw t.0 refl in omega arith) (eqb_tells q n)

has-either : (r q : ℕ) (rs : List ℕ) → has r (q ∷ rs) ≤ has r (q ∷ []) + has r rs
has-either r q rs = ⊎_elim (λ t. rw t.0 (omega arith)) (λ t. rw t.0 (omega arith)) (eqb_tells q r)

below-plus : (f g h : ℕ → ℕ) (n : ℕ) → ((r : ℕ) → f r ≤ g r + h r) → sum_below f n ≤ sum_below g n + sum_below h n
below-plus f g h zero le = omega arith
below-plus f g h (suc n) le = let a = below-plus f g h n le in let b = le n in omega arith

below-nothing : (n : ℕ) → sum_below (λ r. has r []) n ≡ 0
below-nothing zero = refl
below-nothing (suc n) = let a = below-nothing n in omega arith

count-below : (rs : List ℕ) (n : ℕ) → sum_below (λ r. has r rs) n ≤ length rs
count-below [] n = let a = below-nothing n in omega arith
count-below (q ∷ rs) n = let a = below-plus (λ r. has r (q ∷ rs)) (λ r. has r (q ∷ [])) (λ r. has r rs) n
    (λ r. has-either r q rs) in let b = one-below q n in let d = count-below rs n in omega arith

below-most : (f g : ℕ → ℕ) (n : ℕ) → ((r : ℕ) → f r ≤ g r) → sum_below f n ≤ sum_below g n
below-most f g zero le = omega arith
below-most f g (suc n) le = let a = below-most f g n le in let b = le n in omega arith

pub chain-whole : (v : SeatView) (c : Chain) (rs : List ℕ) → ViewInvariant v → v.number ≡ 1 → v.out ≡ [] → v.refs ≡ [] → IsChain v c rs
    → ((q : ℕ) (e : Entry) → find q v.owned ≡ some e → mem q rs ≡ true) → length rs ≡ v.size
chain-whole v c rs h first home refs on all =
    let empty : (q : ℕ) (e : Entry) → find q v.owned ≡ some e → e.links ≡ [] = λ q e f.
    let o = strung-free v rs c.head q on.linked_from (all q e f) in
    let kind : e.kind ≡ 0 = ap (λ (e : Entry). e.kind) (some-injective e o.0 (sym f ∙ o.1)) ∙ o.2 in no-links e.links ((h.rows q e f).many
    ∙ ap link_count kind) in
    let within : (r : ℕ) → In r (rows_of_view v) → In r rs = λ r i. let o = owned-in r v.owned h.keys_distinct empty
    (subst (λ ts. In r (concat_map rows_in ts ++ concat_map entry_rows v.owned)) refs i) in all r o.0 o.1 in
    let most : row_count v.size v ≤ length rs = let a = below-most (λ r. has r (rows_of_view v)) (λ r. has r rs) v.size
    (λ r. has-mono r (rows_of_view v) rs (within r)) in let m = count-below rs v.size in omega arith in
    let caps : cap_sum v ≡ 0 = ap (total (λ (p : ℕ × ℕ). p.1)) home in
    let some_rows = h.covered first in
    let few = strung-short v rs c.head h on.linked_from in omega arith
