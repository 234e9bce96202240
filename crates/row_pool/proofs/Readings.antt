-- The laws of the count rule.
use Rattle.std.proofs.Common.{inl, inr, Bool, false, true, cond, true≢false, ◌≡◌, ℕ, zero, suc, ◌+◌, List, [], ◌∷◌, sym, refl, ap, ◌∙◌}
use Rattle.std.proofs.Common.{subst, ⊎_elim, eq-eqb, arith}
use mathlib.Core.Option.{some, none, some-ne-none}
use lib.ListN.{get_elem?}
use Rattle.std.proofs.lemmas.Bool.Decides.{eqb_tells}
use Rattle.row_pool.specs.Lists.{find, mem, KeysDistinct}
use Rattle.row_pool.specs.Trees.{Tree, Trees, none as no_trees, next, nil, row, Link, Entry, tree_word, children_of}
use Rattle.row_pool.specs.SeatView.{SeatView}
use Rattle.row_pool.specs.Caps.{rows_in, rows_of, concat_map, link_rows, entry_rows, rows_of_view, row_count}
use Rattle.row_pool.specs.Views.{Reaches, by_ref, by_link, below}
use Rattle.row_pool.specs.SeatState.{OwnsOrReaches}
use Rattle.row_pool.specs.Readings.{rows_elsewhere}
use Rattle.row_pool.proofs.RowCounts.{In, in-append, in-head, in-right, in-owned, in-reached}

abbrev Reached : SeatView → ℕ → Type 0
Reached v r = (t : Tree) × Reaches v t × (tree_word t ≡ suc r)

head-in : (t : Tree) (r : ℕ) → tree_word t ≡ suc r → In r (rows_in t)
head-in nil r h = absurd (omega arith)
head-in (row q ws ks) r h = let z : q ≡ r = omega arith in rw (eq-eqb q r z) refl

-- what a seat owns or reaches is among the rows that it has
pub counted-in : (v : SeatView) (r : ℕ) → OwnsOrReaches v r → In r (rows_of_view v)
counted-in v r = ⊎_elim (λ o. in-reached v o.0 r o.1 (head-in o.0 r o.2))
    (λ o. in-right r (concat_map rows_in v.refs) (concat_map entry_rows v.owned) (in-owned v.owned r o.0 r o.1 (rw (eq-eqb r r refl) refl)))

mutual
  found-in : (v : SeatView) (t : Tree) (r : ℕ) → Reaches v t → In r (rows_in t) → Reached v r
  found-in v nil r up h = absurd (true≢false (sym h))
  found-in v (row q ws ks) r up h = ⊎_elim (λ z. (row q ws ks, up, ap suc z)) (λ z. found-below v ks r (λ k u e. below k up e) z) (in-head r q (rows_of ks) h)

  found-below : (v : SeatView) (ks : Trees) (r : ℕ) → ((k : ℕ) (u : Tree) → get_elem? (children_of ks) k ≡ some u → Reaches v u) → In r (rows_of ks)
      → Reached v r
  found-below v no_trees r up h = absurd (true≢false (sym h))
  found-below v (next t ts) r up h = ⊎_elim (λ z. found-in v t r (up 0 t refl) z) (λ z. found-below v ts r (λ k u e. up (suc k) u e) z)
      (in-append r (rows_in t) (rows_of ts) h)

found-ref : (v : SeatView) (ts : List Tree) (r : ℕ) → ((k : ℕ) (u : Tree) → get_elem? ts k ≡ some u → Reaches v u) → In r (concat_map rows_in ts)
    → Reached v r
found-ref v [] r up h = absurd (true≢false (sym h))
found-ref v (t ∷ ts) r up h = ⊎_elim (λ z. found-in v t r (up 0 t refl) z) (λ z. found-ref v ts r (λ k u e. up (suc k) u e) z)
    (in-append r (rows_in t) (concat_map rows_in ts) h)

found-link : (v : SeatView) (ls : List Link) (r : ℕ) → ((k : ℕ) (u : Tree) → get_elem? ls k ≡ some (Link.to u) → Reaches v u)
    → In r (concat_map link_rows ls) → Reached v r
found-link v [] r up h = absurd (true≢false (sym h))
found-link v (Link.to t ∷ ls) r up h = ⊎_elim (λ z. found-in v t r (up 0 t refl) z) (λ z. found-link v ls r (λ k u e. up (suc k) u e) z)
    (in-append r (rows_in t) (concat_map link_rows ls) h)
found-link v (Link.own q ∷ ls) r up h = found-link v ls r (λ k u e. up (suc k) u e) h

find-head : (q : ℕ) (e : Entry) (ps : List (ℕ × Entry)) → find q ((q, e) ∷ ps) ≡ some e
find-head q e ps = rw (eq-eqb q q refl) refl

find-later : (p : ℕ × Entry) (ps : List (ℕ × Entry)) (q : ℕ) (e : Entry) → find p.0 ps ≡ none → find q ps ≡ some e → find q (p ∷ ps) ≡ some e
find-later p ps q e fresh f = ⊎_elim (λ t. absurd (some-ne-none e (sym f ∙ ap (λ k. find k ps) (sym t.1) ∙ fresh))) (λ t. rw t.0 f) (eqb_tells p.0 q)

found-entry : (v : SeatView) (ps : List (ℕ × Entry)) (r : ℕ) → KeysDistinct ps → ((q : ℕ) (e : Entry) → find q ps ≡ some e → find q v.owned ≡ some e)
    → In r (concat_map entry_rows ps) → OwnsOrReaches v r
found-entry v [] r apart up h = absurd (true≢false (sym h))
found-entry v ((q, e) ∷ ps) r apart up h =
    let here : find q v.owned ≡ some e = up q e (find-head q e ps) in
    ⊎_elim
    (λ a. ⊎_elim (λ z. inr (e, subst (λ k. find k v.owned ≡ some e) z here))
    (λ b. inl (found-link v e.links r (λ k u f. by_link q e k here f) b)) (in-head r q (concat_map link_rows e.links) a))
    (λ b. found-entry v ps r apart.1 (λ p d f. up p d (find-later (q, e) ps p d apart.0 f)) b)
    (in-append r (entry_rows (q, e)) (concat_map entry_rows ps) h)

-- and nothing else is
pub counted-from : (v : SeatView) (r : ℕ) → KeysDistinct v.owned → In r (rows_of_view v) → OwnsOrReaches v r
counted-from v r apart h = ⊎_elim (λ a. inl (found-ref v v.refs r (λ k u e. by_ref k e) a)) (λ b. found-entry v v.owned r apart (λ q e f. f) b)
    (in-append r (concat_map rows_in v.refs) (concat_map entry_rows v.owned) h)

one-of : (b : Bool) → cond b 0 1 + cond b 1 0 ≡ 1
one-of true = refl
one-of false = refl

-- a row is had by the seat, or elsewhere
pub elsewhere-or-had : (n : ℕ) (v : SeatView) → rows_elsewhere n v + row_count n v ≡ n
elsewhere-or-had zero v = refl
elsewhere-or-had (suc n) v = let a = elsewhere-or-had n v in let b = one-of (mem n (rows_of_view v)) in omega arith
