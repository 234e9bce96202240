-- What a seat knows of a row that it has as an item.
use Rattle.std.proofs.Common.{◌≡◌, ⊎_elim, inl, inr, ℕ, suc, ◌+◌, ◌*◌, ◌<◌, ◌≤◌, true, false, List, [], map, take, sym, ap}
use Rattle.std.proofs.Common.{◌∙◌, subst, arith}
use mathlib.Core.Option.{some}
use Rattle.row_pool.specs.Trees.{Tree, Entry, tree_word}
use Rattle.row_pool.specs.SeatView.{SeatView}
use Rattle.row_pool.specs.SeatState.{SeatState, OwnsOrReachesAs, kind_of}
use Rattle.row_pool.specs.Views.{Reaches}
use Rattle.row_pool.specs.Layout.{first_link, IsContent}
use Rattle.row_pool.specs.Lists.{find}
use Rattle.row_pool.specs.Changes.{Becomes}
use Rattle.latch_item.specs.Bytes.{number, skip, key_word, bytes_of}
use Rattle.latch_item.specs.Items.{Item, IsItemPlace, IsItemOf, IsValid, OwnsItem, HasItem, item_word, item_of, word, run}
use Rattle.latch_item.proofs.Packing.{packed}
use Rattle.latch_item.proofs.Bytes.{bytes-from, spells-key, run-packed, word-is}
use Rattle.latch_item.proofs.Comparing.{key-place, end-place, part-word}

-- the words of an item are no counted links
pub plain-word : (kind w : ℕ) → kind ≡ 1 → IsItemPlace w → IsContent kind w
plain-word kind w is (a, b, c, d) = (omega arith, omega arith, inl (subst (λ k. w < first_link k) (sym is) b))

-- a call that keeps the seat keeps the item
pub kept : (v w : SeatState) (a : ℕ) (x : Item) → w ≡ v → HasItem v.view a x → HasItem w.view a x
kept v w a x is b = subst (λ (z : SeatState). HasItem z.view a x) (sym is) b

pub kept-back : (v w : SeatState) (a : ℕ) (x : Item) → w ≡ v → HasItem w.view a x → HasItem v.view a x
kept-back v w a x is b = subst (λ (z : SeatState). HasItem z.view a x) is b

pub some-kept : (v w : SeatState) (a : ℕ) → w ≡ v → (x : Item) × HasItem v.view a x → (x : Item) × HasItem w.view a x
some-kept v w a is b = (b.0, kept v w a b.0 is b.1)

pub valid-of : (v : SeatView) (a : ℕ) (x : Item) → HasItem v a x → IsValid x
valid-of v a x b = ⊎_elim (λ (h : (t : Tree) × Reaches v t × (tree_word t ≡ suc a) × IsItemOf t x). h.3.valid) (λ (o : OwnsItem v a x). o.valid) b

pub near-item : (v : SeatView) (a : ℕ) (x : Item) (w : ℕ) → IsItemPlace w → HasItem v a x → OwnsOrReachesAs (λ kind. IsContent kind w) v a
near-item v a x w p b = ⊎_elim
    (λ (h : (t : Tree) × Reaches v t × (tree_word t ≡ suc a) × IsItemOf t x). inl (h.0, h.1, h.2, plain-word (kind_of h.0) w h.3.kind p))
    (λ (o : OwnsItem v a x). inr (o.entry, o.has, plain-word o.entry.kind w o.kind p)) b

-- what a load of an item's word answers
pub read-item : (v : SeatView) (a : ℕ) (x : Item) (w n : ℕ) → IsItemPlace w → ((t : Tree) → Reaches v t → tree_word t ≡ suc a → n ≡ word t w)
    → ((e : Entry) (m : ℕ) → find a v.owned ≡ some e → find w e.known ≡ some m → n ≡ m) → HasItem v a x → n ≡ item_word x w
read-item v a x w n p live owned b = ⊎_elim
    (λ (h : (t : Tree) × Reaches v t × (tree_word t ≡ suc a) × IsItemOf t x). live h.0 h.1 h.2 ∙ h.3.words w p)
    (λ (o : OwnsItem v a x). owned o.entry (item_word x w) o.has (o.words w p)) b

-- ---- the words of an item spell it
part-bytes : (t : Tree) (a : ℕ) (k : List ℕ) → ((i : ℕ) → i < 32 → word t (a + i) ≡ key_word k i) → map (word t) (run a 32) ≡ packed 32 k
part-bytes t a k h = run-packed (word t) k 32 a 0 (λ i low. h i low ∙ word-is k i
    ∙ ap (λ j. number 8 (skip (j * 8) k)) (let e : i ≡ 0 + i = omega arith in e))

pub item-is : (t : Tree) (x : Item) → IsItemOf t x → item_of t ≡ x
unfolding item_of
item-is t x o =
    let spot = λ (w : ℕ) (p : IsItemPlace w). o.words w p in
    let key = part-bytes t 11 x.span.0 (λ i low. o.words (11 + i) (key-place i low) ∙ part-word false x i low) in
    let end = part-bytes t 43 x.span.1 (λ i low. o.words (43 + i) (end-place i low) ∙ part-word true x i low) in
    let k : take (word t 7) (bytes_of (map (word t) (run 11 32))) ≡ x.span.0 = (λ i. take (spot 7 (at 7 (omega arith) (omega arith)) i) (bytes_of (key i)))
    ∙ spells-key x.span.0 (bytes-from x.span.0 o.valid.span.key.bytes) o.valid.span.key.fits in
    let e : take (word t 8) (bytes_of (map (word t) (run 43 32))) ≡ x.span.1 = (λ i. take (spot 8 (at 8 (omega arith) (omega arith)) i) (bytes_of (end i)))
    ∙ spells-key x.span.1 (bytes-from x.span.1 o.valid.span.end.bytes) o.valid.span.end.fits in
    λ i. record {
      id = spot 2 (at 2 (omega arith) (omega arith)) i;
      place = spot 3 (at 3 (omega arith) (omega arith)) i;
      lane = spot 4 (at 4 (omega arith) (omega arith)) i;
      span = (k i, e i);
      stamp = record { wall = spot 5 (at 5 (omega arith) (omega arith)) i; logical = spot 6 (at 6 (omega arith) (omega arith)) i };
    }
  where
    at : (w : ℕ) → 2 ≤ w → w < 9 → IsItemPlace w
    at w a b = (a, omega arith, omega arith, omega arith)

-- an owned item goes live as the same item
pub lives : (v : SeatView) (row : ℕ) (x : Item) (t : Tree) (o : OwnsItem v row x) → Becomes row o.entry [] t → IsItemOf t x
lives v row x t o b = record {
  row = row;
  here = b.here;
  kind = b.kind ∙ o.kind;
  leaf = b.below;
  valid = o.valid;
  words = λ w p. b.known w (item_word x w) (plain-word o.entry.kind w o.kind p) (o.words w p);
}

pub latch : (t : Tree) (x : Item) → IsItemOf t x → IsItemOf t (item_of t)
latch t x o = subst (IsItemOf t) (sym (item-is t x o)) o
