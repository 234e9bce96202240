-- Keys that are compared by their words.
use Rattle.std.proofs.Common.{◌≡◌, ◌≢◌, ⊎_elim, ℕ, zero, suc, ◌+◌, ◌*◌, ◌/◌, ◌%◌, ◌<◌, ◌≤◌, Bool, true, false, not, if◌then◌else◌, List, [], ◌∷◌, ◌++◌}
use Rattle.std.proofs.Common.{length}
use Rattle.std.proofs.Common.{map, slice_index, eqb, ne_eqb, sym, refl, ap, ◌∙◌, subst, arith}
use Rattle.std.specs.Ordering.{nat_cmp, ordering_then, ordering_reverse, is_lt, is_le, is_ge, is_gt, is_ne}
use Rattle.std.specs.Cmp.Lexicographic.{slice_cmp}
use Rattle.std.specs.declared.cmp.Ordering.{Ordering}
use Rattle.std.specs.declared.cmp.Ordering.TheVariants.{Less, Equal, Greater}
use Rattle.std.proofs.lemmas.Bool.Decides.{nat_tests}
use Rattle.std.proofs.lemmas.Cmp.{nat_list_cmp_total}
use Rattle.row_pool.proofs.Seats.{same_or}
use Rattle.span_key.specs.Spans.{Pair, IsSpan, IsKey, key_cmp, key_lt, key_le, past, bound_of, is_point as is_single}
use Rattle.span_key.proofs.KeyOrder.{key_lt-next_key}
use Rattle.span_key.proofs.SpanLaws.{past-range, past-point}
use Rattle.latch_item.specs.Bytes.{number, skip, key_word, spelled, Agree}
use Rattle.latch_item.specs.Items.{Item, item_word, IsItemPlace, part, run}
use Rattle.latch_item.proofs.Bytes.{bytes-from, key-byte, run-packed, word-is}
use Rattle.latch_item.proofs.Packing.{packed, key-cmp}

apart-then : (x y : ℕ) (o : Ordering) → x ≢ y → ordering_then (nat_cmp x y) o ≡ nat_cmp x y
apart-then x y o n = grind (arith, nat_tests)

same-then : (x y : ℕ) (o : Ordering) → x ≡ y → ordering_then (nat_cmp x y) o ≡ o
same-then x y o n = grind (arith, nat_tests)

module _ (f g : ℕ → ℕ) (us vs : List ℕ) where
  -- the first word that differs decides
  cmp-at : (n a i : ℕ) → ((k : ℕ) → a ≤ k → k < i → f k ≡ g k) → a ≤ i → i < a + n → f i ≢ g i
      → slice_cmp nat_cmp (map f (run a n) ++ us) (map g (run a n) ++ vs) ≡ nat_cmp (f i) (g i)
  cmp-at zero a i same le lt ne = absurd (omega arith)
  cmp-at (suc n) a i same le lt ne = ⊎_elim
      (λ (e : a ≡ i). let ne2 : f a ≢ g a = λ z. ne (subst (λ j. f j ≡ g j) e z) in
      apart-then (f a) (g a) (slice_cmp nat_cmp (map f (run (suc a) n) ++ us) (map g (run (suc a) n) ++ vs)) ne2 ∙ (λ k. nat_cmp (f (e k)) (g (e k))))
      (λ (d : a ≢ i). same-then (f a) (g a) (slice_cmp nat_cmp (map f (run (suc a) n) ++ us) (map g (run (suc a) n) ++ vs))
      (same a (omega arith) (omega arith))
      ∙ cmp-at n (suc a) i (λ k p q. same k (omega arith) q) (omega arith) (omega arith) ne)
      (same_or a i)

words-packed : (k : List ℕ) → map (key_word k) (run 0 32) ≡ packed 32 k
unfolding key_word
words-packed k = run-packed (key_word k) k 32 0 0 (λ i low. ap (λ j. number 8 (skip (j * 8) k)) (λ z. 0 + i))

keyed-words : (k l : List ℕ) → IsKey k → IsKey l → slice_cmp nat_cmp (map (key_word k) (run 0 32) ++ length k ∷ [])
    (map (key_word l) (run 0 32) ++ length l ∷ []) ≡ key_cmp k l
keyed-words k l a b = (λ i. slice_cmp nat_cmp (words-packed k i ++ length k ∷ []) (words-packed l i ++ length l ∷ []))
    ∙ key-cmp k l (bytes-from k a.bytes) (bytes-from l b.bytes) a.fits b.fits

pub agree-none : (k l : List ℕ) → Agree k l 0
agree-none k l = record { words = λ j low. absurd (omega arith) }

pub agree-more : (k l : List ℕ) (n : ℕ) → Agree k l n → key_word k n ≡ key_word l n → Agree k l (n + 1)
agree-more k l n a e = record {
  words = λ j low. ⊎_elim (λ (z : j ≡ n). subst (λ j. key_word k j ≡ key_word l j) (sym z) e) (λ (z : j ≢ n). a.words j (omega arith)) (same_or j n);
}

-- the first word that differs decides
pub differ-at : (k l : List ℕ) (i : ℕ) → IsKey k → IsKey l → i < 32 → Agree k l i → key_word k i ≢ key_word l i
    → key_cmp k l ≡ nat_cmp (key_word k i) (key_word l i)
differ-at k l i a b low same ne = sym (keyed-words k l a b) ∙ cmp-at (key_word k) (key_word l) (length k ∷ []) (length l ∷ []) 32 0 i
    (λ j p q. same.words j q) (omega arith) (omega arith) ne

byte-at : (k l : List ℕ) (n b : ℕ) → IsKey k → IsKey l → Agree k l n → b < n * 8 → slice_index k b ≡ slice_index l b
byte-at k l n b x y same low =
    let q : ℕ = b / 8 in let r : ℕ = b % 8 in
    sym (key-byte k b q r (bytes-from k x.bytes) (omega arith) (omega arith))
    ∙ ap (λ w. slice_index (spelled 8 w) r) (sym (word-is k q) ∙ same.words q (omega arith) ∙ word-is l q)
    ∙ key-byte l b q r (bytes-from l y.bytes) (omega arith) (omega arith)

-- of two lists one of which begins the other the longer comes last
begins : (k l : List ℕ) → ((b : ℕ) → b < length k → b < length l → slice_index k b ≡ slice_index l b) → slice_cmp nat_cmp k l ≡ nat_cmp (length k) (length l)
begins [] [] h = refl
begins [] (y ∷ l) h = grind (arith, nat_tests)
begins (x ∷ k) [] h = grind (arith, nat_tests)
begins (x ∷ k) (y ∷ l) h = same-then x y (slice_cmp nat_cmp k l) (h 0 (omega arith) (omega arith))
    ∙ begins k l (λ b p q. h (suc b) (omega arith) (omega arith)) ∙ up (length k) (length l)
  where
    up : (m n : ℕ) → nat_cmp m n ≡ nat_cmp (suc m) (suc n)
    up m n = grind (arith, nat_tests)

-- where no word of the shorter differs, the lengths decide
pub same-words : (k l : List ℕ) (n m : ℕ) → IsKey k → IsKey l → Agree k l n → m ≤ n * 8 → ((b : ℕ) → b < length k → b < length l → b < m)
    → key_cmp k l ≡ nat_cmp (length k) (length l)
same-words k l n m a b same long low = begins k l (λ i p q. byte-at k l n i a b same (let z = low i p q in omega arith))

-- ---- the key or the end of an item
pub key-place : (i : ℕ) → i < 32 → IsItemPlace (11 + i)
key-place i h = (omega arith, omega arith, omega arith, omega arith)

pub end-place : (i : ℕ) → i < 32 → IsItemPlace (43 + i)
end-place i h = (omega arith, omega arith, omega arith, omega arith)

pub part-place : (end : Bool) (i : ℕ) → i < 32 → IsItemPlace ((if end then 43 else 11) + i)
part-place true i h = end-place i h
part-place false i h = key-place i h

pub length-place : (end : Bool) → IsItemPlace (if end then 8 else 7)
length-place true = (omega arith, omega arith, omega arith, omega arith)
length-place false = (omega arith, omega arith, omega arith, omega arith)

pub part-word : (end : Bool) (x : Item) (i : ℕ) → i < 32 → item_word x ((if end then 43 else 11) + i) ≡ key_word (part end x.span) i
part-word true x i low = grind (arith, nat_tests)
part-word false x i low = grind (arith, nat_tests)

pub part-length : (end : Bool) (x : Item) → item_word x (if end then 8 else 7) ≡ length (part end x.span)
part-length true x = refl
part-length false x = refl

pub part-fits : (end : Bool) (s : Pair) → IsSpan s → IsKey (part end s)
part-fits true s ok = ok.end
part-fits false s ok = ok.key

-- ---- an item against a span
pub before-range : (s t : Pair) → t.1 ≢ [] → is_lt (key_cmp s.0 t.1) ≡ key_lt s.0 (past t)
before-range s t h = ap (key_lt s.0) (sym (past-range t h))

pub before-point : (s t : Pair) → t.1 ≡ [] → is_le (key_cmp s.0 t.0) ≡ key_lt s.0 (past t)
before-point s t h = sym (key_lt-next_key s.0 t.0) ∙ ap (key_lt s.0) (sym (past-point t h))

pub turned-ge : (a b : List ℕ) → is_ge (key_cmp a b) ≡ key_le b a
turned-ge a b = by (key_cmp a b) ∙ ap is_le (sym (nat_list_cmp_total.antisymm b a))
  where
    by : (o : Ordering) → is_ge o ≡ is_le (ordering_reverse o)
    by Less = refl
    by Equal = refl
    by Greater = refl

turned-gt : (a b : List ℕ) → is_gt (key_cmp a b) ≡ key_lt b a
turned-gt a b = by (key_cmp a b) ∙ ap is_lt (sym (nat_list_cmp_total.antisymm b a))
  where
    by : (o : Ordering) → is_gt o ≡ is_lt (ordering_reverse o)
    by Less = refl
    by Equal = refl
    by Greater = refl

pub reach-point : (s : Pair) (k : List ℕ) → true ≡ is_single s → is_ge (key_cmp s.0 k) ≡ key_lt k (past s)
reach-point (s, []) k h = turned-ge s k ∙ sym (key_lt-next_key k s) ∙ ap (key_lt k) (sym (past-point (s, []) refl))
reach-point (s, b ∷ bs) k h = cc

pub reach-range : (s : Pair) (k : List ℕ) → false ≡ is_single s → is_gt (key_cmp s.1 k) ≡ key_lt k (past s)
reach-range (s, []) k h = cc
reach-range (s, b ∷ bs) k h = turned-gt (b ∷ bs) k

pub single-by : (s : Pair) → eqb (length s.1) 0 ≡ is_single s
single-by (k, []) = refl
single-by (k, b ∷ bs) = ne_eqb (length (b ∷ bs)) 0 (λ e. omega arith)

-- the bound is the key of a single key, and else the end
pub bound-part : (s : Pair) → part (not (is_single s)) s ≡ bound_of s
bound-part (k, []) = refl
bound-part (k, b ∷ bs) = refl

pub then-ne : (o p : Ordering) → is_ne o ≡ true → o ≡ ordering_then o p
then-ne Less p h = refl
then-ne Equal p h = cc
then-ne Greater p h = refl

pub then-eq : (o p : Ordering) → is_ne o ≡ false → p ≡ ordering_then o p
then-eq Less p h = cc
then-eq Equal p h = refl
then-eq Greater p h = cc

pub ids-apart : (i j p q : ℕ) → i ≢ j → nat_cmp i j ≡ ordering_then (nat_cmp i j) (nat_cmp p q)
ids-apart i j p q n = sym (apart-then i j (nat_cmp p q) n)

pub ids-same : (i j p q : ℕ) → i ≡ j → nat_cmp p q ≡ ordering_then (nat_cmp i j) (nat_cmp p q)
ids-same i j p q e = sym (same-then i j (nat_cmp p q) e)
