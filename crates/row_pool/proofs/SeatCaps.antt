-- No split-off seat has more rows than its cap, and the first seat knows so of all of them together.
use Rattle.std.proofs.Common.{◌≡◌, ◌≢◌, ℕ, zero, suc, ◌+◌, ◌≤◌, List, [], ◌∷◌, ◌++◌, map, set, sym, refl, ap, ◌∙◌, subst, ⊎_elim, eq-eqb, ne_eqb, arith}
use mathlib.Core.Option.{some, some-injective}
use lib.ListN.{get_elem?}
use Rattle.atomic_table.specs.Table.{State}
use Rattle.atomic_table.proofs.Lists.{at_snoc, at_longer, at_map, set_here, set_else}
use Rattle.row_pool.specs.Lists.{find, total}
use Rattle.row_pool.specs.SeatView.{SeatView}
use Rattle.row_pool.specs.Caps.{rows_of_view, has, row_count, cap_sum}
use Rattle.row_pool.specs.Numbers.{Numbering, numbering, next_number, without_first, NumbersHold}
use Rattle.row_pool.specs.Rule.{CapsHold, RuleHolds}
use Rattle.row_pool.specs.Changes.{remaining, split_off, joined, spent}
use Rattle.row_pool.proofs.Seats.{same_or, each_set}
use Rattle.row_pool.proofs.Words.{at-length}
use Rattle.row_pool.proofs.Numbers.{first-is, found-less, without_first-else, without_first-sum, numbers-splits, numbers-joins}
use Rattle.row_pool.proofs.RowCounts.{Within, row_count-mono, rows-bound}

-- a seat that is split off stands in the first one's list
pub listed-in : (views : List SeatView) → NumbersHold (map numbering views) → (i j : ℕ) (v w : SeatView) → get_elem? views i ≡ some v → v.number ≡ 1
    → get_elem? views j ≡ some w → 2 ≤ w.number → (cap : ℕ) × (find w.number v.out ≡ some cap)
listed-in views h i j v w at one at_j two =
    let o = first-is (map numbering views) h i (numbering v) (at_map numbering views i v at) one in
    let l = h.listed j (numbering w) (at_map numbering views j w at_j) two in
    (l.0, ap (λ (b : Numbering). find w.number b.out) (sym o.1) ∙ l.1)

-- there is one first seat
one-first : (views : List SeatView) → NumbersHold (map numbering views) → (i j : ℕ) (v w : SeatView) → get_elem? views i ≡ some v → v.number ≡ 1
    → get_elem? views j ≡ some w → w.number ≡ 1 → v.out ≡ w.out
one-first views h i j v w at one at_j one_j =
    let a = first-is (map numbering views) h i (numbering v) (at_map numbering views i v at) one in
    let b = first-is (map numbering views) h j (numbering w) (at_map numbering views j w at_j) one_j in
    ap (λ (b : Numbering). b.out) (sym a.1 ∙ b.1)

pub caps-kept : (n : ℕ) (views : List SeatView) (i : ℕ) (v w : SeatView) → get_elem? views i ≡ some v → w.number ≡ v.number → w.out ≡ v.out → Within w v
    → CapsHold n views → CapsHold n (set views i w)
caps-kept n views i v w at number out within h =
    let old : (j : ℕ) (x : SeatView) → get_elem? (set views i w) j ≡ some x
    → (u : SeatView) × (get_elem? views j ≡ some u) × (u.number ≡ x.number) × (u.out ≡ x.out) × Within x u =
    each_set (λ j x. (u : SeatView) × (get_elem? views j ≡ some u) × (u.number ≡ x.number) × (u.out ≡ x.out)
    × Within x u) views i w (v, at, sym number, sym out, within) (λ j u _ e. (u, e, refl, refl, λ r h. h)) in
    λ a b x y cap e one f two found.
    let p = old a x e in let q = old b y f in
    let m = row_count-mono n y q.0 q.4 in let z = q.2 in
    let same : find q.0.number p.0.out ≡ find y.number x.out = λ k. find (q.2 k) (p.3 k) in
    let c = h a b p.0 q.0 cap p.1 (p.2 ∙ one) q.1 (omega arith) (same ∙ found) in omega arith

pub caps-splits : (n : ℕ) (views : List SeatView) (i : ℕ) (v : SeatView) (rs : List ℕ) → get_elem? views i ≡ some v → v.number ≡ 1 → v.size ≡ n
    → NumbersHold (map numbering views) → CapsHold n views
    → CapsHold n (set views i (remaining rs v) ++ split_off rs v ∷ [])
caps-splits n views i v rs at first size h caps a b x y cap e one f two found =
    let now : List SeatView = set views i (remaining rs v) ++ split_off rs v ∷ [] in
    let here : get_elem? now i ≡ some (remaining rs v) = at_longer (set views i (remaining rs v)) (split_off rs v ∷ []) i (remaining rs v)
    (set_here views i (remaining rs v) (at-length views i v at)) in
    let out : x.out ≡ (remaining rs v).out = one-first now (numbers-splits views i v rs at first h) a i x (remaining rs v) e one here first in
    let there : find y.number ((next_number v.out, row_count v.size (split_off rs v)) ∷ v.out) ≡ some cap = ap (find y.number) (sym out) ∙ found in
    ⊎_elim
    (λ g. each_set (λ b y. 2 ≤ y.number → find y.number ((next_number v.out, row_count v.size (split_off rs v)) ∷ v.out) ≡ some cap
    → row_count n y ≤ cap) views i (remaining rs v) (λ two _. let z : (remaining rs v).number ≡ 1 = first in absurd (omega arith))
    (λ b u ne o two found. let l = listed-in views h i b v u at first o two in let less = found-less v.out u.number l.0 l.1 in
    caps i b v u cap at first o two (rw (ne_eqb (next_number v.out) u.number (λ z. omega arith)) at found)) b y g two there)
    (λ (g : split_off rs v ≡ y). subst (λ (y : SeatView). find y.number ((next_number v.out, row_count v.size (split_off rs v)) ∷ v.out) ≡ some cap
    → row_count n y ≤ cap) g
    (λ found. let z : row_count v.size (split_off rs v) ≡ cap = some-injective (row_count v.size (split_off rs v)) cap
    (rw (eq-eqb (next_number v.out) (next_number v.out) refl) at found) in
    let w : row_count n (split_off rs v) ≡ row_count v.size (split_off rs v) = ap (λ n. row_count n (split_off rs v)) (sym size) in omega arith) there)
    (at_snoc (set views i (remaining rs v)) (split_off rs v) y b f)

pub caps-joins : (n : ℕ) (views : List SeatView) (i k : ℕ) (v w : SeatView) → get_elem? views i ≡ some v → v.number ≡ 1 → get_elem? views k ≡ some w
    → 2 ≤ w.number
    → NumbersHold (map numbering views) → CapsHold n views
    → CapsHold n (set (set views i (joined v w)) k spent)
caps-joins n views i k v w at first at_k other h caps a b x y cap e one f two found =
    let mid : List SeatView = set views i (joined v w) in
    let now : List SeatView = set mid k spent in
    let apart : i ≢ k = λ z. let same : v ≡ w = some-injective v w (sym at ∙ ap (get_elem? views) z
    ∙ at_k) in let g = ap (λ (u : SeatView). u.number) same in omega arith in
    let here : get_elem? now i ≡ some (joined v w) = set_else mid k i spent apart ∙ set_here views i (joined v w) (at-length views i v at) in
    let out : x.out ≡ without_first w.number v.out = one-first now (numbers-joins views i k v w at first at_k other h) a i x (joined v w) e one here first in
    each_set (λ b y. 2 ≤ y.number → find y.number (without_first w.number v.out) ≡ some cap → row_count n y ≤ cap) mid k spent (λ two. absurd (omega arith))
    (λ b u ne o. each_set (λ b u. b ≢ k → 2 ≤ u.number → find u.number (without_first w.number v.out) ≡ some cap
    → row_count n u ≤ cap) views i (joined v w) (λ _ two. let z : (joined v w).number ≡ 1 = first in absurd (omega arith))
    (λ b u _ o ne two found. caps i b v u cap at first o two (sym
    (without_first-else w.number u.number v.out (λ z. ne (h.apart b k (numbering u) (numbering w) (at_map numbering views b u o)
    (at_map numbering views k w at_k)
    (omega arith) z))) ∙ found)) b u o ne)
    b y f two (ap (find y.number) (sym out) ∙ found)

row_count-none : (n : ℕ) (v : SeatView) → v.refs ≡ [] → v.owned ≡ [] → row_count n v ≡ 0
row_count-none zero v a b = refl
row_count-none (suc n) v a b = let o = row_count-none n v a b in let z : has n (rows_of_view v) ≡ 0 = rw (a, b) refl in omega arith

-- What each of the seats may have, by its number in a list
abbrev Within_caps : ℕ → List (ℕ × ℕ) → SeatView → Type 0
Within_caps n out w = (w.number ≡ 0 → row_count n w ≡ 0) × (1 ≤ w.number → (cap : ℕ) × (find w.number out ≡ some cap) × (row_count n w ≤ cap))

abbrev Disjoint : List SeatView → Type 0
Disjoint ws = (i j : ℕ) (v w : SeatView) → get_elem? ws i ≡ some v → get_elem? ws j ≡ some w → 1 ≤ v.number → v.number ≡ w.number → i ≡ j

sum-caps : (n : ℕ) (ws : List SeatView) (out : List (ℕ × ℕ)) → ((j : ℕ) (w : SeatView) → get_elem? ws j ≡ some w → Within_caps n out w) → Disjoint ws
    → total (row_count n) ws ≤ total (λ p. p.1) out
sum-caps n [] out h apart = omega arith
sum-caps n (w ∷ ws) out h apart =
    let one = h 0 w refl in
    let later : Disjoint ws = λ i j v u e f low same. let z = apart (suc i) (suc j) v u e f low same in omega arith in
    ⊎_elim
    (λ (z : w.number ≡ 0). let a = one.0 z in let b = sum-caps n ws out (λ j u e. h (suc j) u e) later in omega arith)
    (λ some_number. let c = one.1 (omega arith) in
    let s = without_first-sum w.number c.0 out c.1 in
    let b = sum-caps n ws (without_first w.number out) (λ j u e. let o = h (suc j) u e in (
      o.0,
      λ low. let d = o.1 low in (
        d.0,
        without_first-else w.number u.number out (λ z. let bad = apart (suc j) 0 u w e refl low z in omega arith)
            ∙ d.1,
        d.2,
      ),
    ))
    later in
    let m = c.2 in omega arith)
    (same_or w.number 0)

-- the rows that the first seat neither owns nor reaches are at most what the caps allow the others
pub covered : {S : Type 0} {n : ℕ} {s : State S SeatView} (c : RuleHolds S n s) (i : ℕ) (v : SeatView) → get_elem? s.views i ≡ some v → v.number ≡ 1
    → n ≤ row_count n v + cap_sum v
covered {n = n} {s = s} c i v at first =
    let others : List SeatView = set s.views i spent in
    let each : (j : ℕ) (w : SeatView) → get_elem? others j ≡ some w → Within_caps n v.out w =
    each_set (λ _ w. Within_caps n v.out w) s.views i spent (λ _. row_count-none n spent refl refl, λ low. absurd (omega arith))
    (λ j w ne e. (
      λ z. let o = (c.counted.fits j w e).spent z in row_count-none n w o.0 o.1,
      λ low.
          let not_first : w.number ≢ 1 = λ z. ne (c.numbers.apart j i (numbering w) (numbering v) (at_map numbering s.views j w e)
          (at_map numbering s.views i v at) low (z
          ∙ sym first)) in
          let l = listed-in s.views c.numbers i j v w at first e (omega arith) in (l.0, l.1, c.caps i j v w l.0 at first e (omega arith) l.1),
    )) in
    let was : (j : ℕ) (w : SeatView) → get_elem? others j ≡ some w → 1 ≤ w.number
    → (get_elem? s.views j ≡ some w) = each_set (λ j w. 1 ≤ w.number
    → get_elem? s.views j ≡ some w) s.views i spent (λ low. absurd (omega arith)) (λ j w _ e _. e) in
    let apart : Disjoint others = λ a b x y e f low same. c.numbers.apart a b (numbering x) (numbering y) (at_map numbering s.views a x (was a x e low))
    (at_map numbering s.views b y (was b y f (omega arith))) low same in
    rows-bound c.counted i v (cap_sum v) at (sum-caps n others v.out each apart)
