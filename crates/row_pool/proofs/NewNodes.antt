-- A free row whose words are cleared becomes a node.
use Rattle.std.proofs.Common.{◌≡◌, ℕ, zero, suc, ◌+◌, ◌<◌, ◌≤◌, List, ◌∷◌, sym, refl, ap, ◌∙◌, inl, inr, ⊎_elim, eq-eqb, arith}
use mathlib.Core.Option.{some}
use Rattle.row_pool.specs.Lists.{find, without}
use Rattle.row_pool.specs.Trees.{Entry}
use Rattle.row_pool.specs.SeatView.{SeatView}
use Rattle.row_pool.specs.Layout.{first_link, link_count, IsContent}
use Rattle.row_pool.specs.Changes.{written, turned_into, with_entry}
use Rattle.row_pool.specs.SeatState.{OnlyEntryChanges, IsNewNode}
use Rattle.row_pool.specs.Chains.{HasMark}
use Rattle.row_pool.specs.Loops.{HasZeros}
use Rattle.row_pool.proofs.Sums.{without-twice}
use Rattle.row_pool.proofs.Seats.{same_or, find-put}
use Rattle.row_pool.proofs.Writes.{low_or}
use Rattle.row_pool.proofs.Chains.{find-noted, find-noted-else}

without-head : {A : Type 0} (r : ℕ) (x : A) (ps : List (ℕ × A)) → without r ((r, x) ∷ without r ps) ≡ without r ps
without-head r x ps = rw (eq-eqb r r refl) (without-twice r ps)

-- a free row has no counted link
pub plain-free : (e : Entry) (w : ℕ) → e.kind ≡ 0 → 1 ≤ w → w < 80 → IsContent e.kind w
plain-free e w free a b = (a, b, rw free (⊎_elim (λ z. inl z) (λ z. inr z) (low_or w)))

pub only-same : (r : ℕ) (v : SeatView) → OnlyEntryChanges r v v
only-same r v = record { same_seat = record { number = refl; out = refl; size = refl }; refs = refl; others = λ q n. refl }

pub only-put : (r : ℕ) (v w : SeatView) (d : Entry) → OnlyEntryChanges r v w → OnlyEntryChanges r v (with_entry r d w)
only-put r v w d o = record {
  same_seat = record { number = o.same_seat.number; out = o.same_seat.out; size = o.same_seat.size };
  refs = o.refs;
  others = λ q n. sym (find-put q r d w.owned n) ∙ o.others q n;
}

pub blank-start : (e : Entry) → e.kind ≡ 0 → HasZeros 0 e e
blank-start e free = record { free = free; own = refl; linked = refl; zeros = λ u a b. absurd (omega arith) }

pub blank-next : (k : ℕ) (e d : Entry) → HasZeros k e d → HasZeros (k + 1) e (written (3 + k) 0 d)
blank-next k e d b = record {
  free = b.free;
  own = b.own;
  linked = b.linked;
  zeros = λ u low high. ⊎_elim (λ (z : u ≡ 3 + k). ap (λ u. find u (written (3 + k) 0 d).known) z ∙ find-noted (3 + k) 0 d.known)
      (λ n. find-noted-else u (3 + k) 0 d.known n ∙ b.zeros u low (omega arith)) (same_or u (3 + k));
}

-- a mark of 0 says it all
pub blank-marked : (e : Entry) (n : ℕ) → e.kind ≡ 0 → ((m : ℕ) → find 2 e.known ≡ some m → n ≡ m) → n ≡ 0 → HasMark e → HasZeros (link_count 2) e e
blank-marked e n free read clean m = record { free = free; own = refl; linked = refl; zeros = λ u a b. m.2 (sym (read m.0 m.1) ∙ clean) u a b }

pub fan-node : (kind : ℕ) → 2 ≤ kind → kind ≤ 3 → (link_count kind ≡ 64) × (first_link kind ≡ 3)
fan-node zero a b = absurd (omega arith)
fan-node (suc zero) a b = absurd (omega arith)
fan-node (suc (suc zero)) a b = (refl, refl)
fan-node (suc (suc (suc zero))) a b = (refl, refl)
fan-node (suc (suc (suc (suc k)))) a b = absurd (omega arith)

pub new-node : (kind : ℕ) (e d : Entry) → 2 ≤ kind → kind ≤ 3 → HasZeros (link_count 2) e d → IsNewNode kind e (turned_into kind d)
new-node kind e d a b x = record { is = refl; own = x.own; linked = x.linked; links = refl; said = find-noted 1 kind d.known }

-- a word that is written twice
pub written-twice : (w x y : ℕ) (e : Entry) → written w y (written w x e) ≡ written w y e
written-twice w x y e = ap (λ known. record { kind = e.kind; own = e.own; linked = e.linked; links = e.links; known = (w, y) ∷ known })
    (without-head w x e.known)

pub entry-twice : (r : ℕ) (d e : Entry) (v : SeatView) → with_entry r e (with_entry r d v) ≡ with_entry r e v
entry-twice r d e v = ap (λ owned. record { refs = v.refs; owned = (r, e) ∷ owned; number = v.number; out = v.out; size = v.size })
    (without-head r d v.owned)
