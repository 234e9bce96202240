-- The words of a free row that becomes an item.
use Rattle.std.proofs.Common.{◌≡◌, ◌≢◌, ⊎_elim, ℕ, zero, suc, ◌+◌, ◌-◌, ◌*◌, ◌<◌, ◌≤◌, List, [], ◌∷◌, length, slice_index, sym, refl, ap, ◌∙◌, subst, arith}
use mathlib.Core.Option.{some}
use Rattle.std.proofs.lemmas.Bool.{cases_lt}
use Rattle.std.proofs.lemmas.Bool.Decides.{nat_tests}
use Rattle.row_pool.specs.Trees.{Entry}
use Rattle.row_pool.specs.SeatView.{SeatView}
use Rattle.row_pool.specs.SeatState.{OnlyEntryChanges}
use Rattle.row_pool.specs.Lists.{find}
use Rattle.row_pool.specs.Changes.{nil_links, with_known, written, with_entry, turned_into}
use Rattle.row_pool.specs.Layout.{IsContent}
use Rattle.row_pool.proofs.Seats.{find-here}
use Rattle.row_pool.proofs.NewNodes.{only-same, only-put, plain-free}
use Rattle.row_pool.proofs.Chains.{find-noted, find-noted-else}
use Rattle.latch_item.specs.Bytes.{key_word}
use Rattle.latch_item.specs.Items.{Item, IsItemPlace, IsValid, OwnsItem, item_word}
use Rattle.latch_item.specs.Puts.{Holds, Puts}
use Rattle.latch_item.proofs.Bytes.{word-is, past-end}

plain-place : (e : Entry) (w : ℕ) → e.kind ≡ 0 → IsItemPlace w → IsContent e.kind w
plain-place e w free p = plain-free e w free (let a = p.0 in omega arith) (let a = p.1 in omega arith)

holds-written : (w n : ℕ) (e : Entry) → Holds w 1 (λ i. n) e (written w n e)
holds-written w n e = record {
  kind = refl;
  own = refl;
  linked = refl;
  here = λ i low. ap (λ k. find k (with_known w n e.known)) (let z : w + i ≡ w = omega arith in z) ∙ find-noted w n e.known;
  others = λ u no. find-noted-else u w n e.known (λ z. no (omega arith) (omega arith));
}

-- the same words again
holds-again : (a n : ℕ) (f g : ℕ → ℕ) (e d k : Entry) → Holds a n f e d → Holds a n g d k → Holds a n g e k
holds-again a n f g e d k p q = record {
  kind = q.kind ∙ p.kind;
  own = q.own ∙ p.own;
  linked = q.linked ∙ p.linked;
  here = q.here;
  others = λ u no. q.others u no ∙ p.others u no;
}

-- the words behind them
holds-join : (a b n m : ℕ) (f g h : ℕ → ℕ) (e d k : Entry) → b ≡ a + n → ((i : ℕ) → i < n → f i ≡ h i) → ((i : ℕ) → i < m → g i ≡ h (n + i))
    → Holds a n f e d → Holds b m g d k → Holds a (n + m) h e k
holds-join a b n m f g h e d k next first later p q = record {
  kind = q.kind ∙ p.kind;
  own = q.own ∙ p.own;
  linked = q.linked ∙ p.linked;
  here = λ i low. ⊎_elim (λ (lt : i < n). q.others (a + i) (λ u t. omega arith) ∙ p.here i lt ∙ ap some (first i lt))
      (λ (le : n ≤ i).
      ap (λ u. find u k.known) (let z : a + i ≡ b + (i - n) = omega arith in z)
      ∙ q.here (i - n) (omega arith)
      ∙ ap some (later (i - n) (omega arith) ∙ ap h (let z : n + (i - n) ≡ i = omega arith in z)))
      (cases_lt i n);
  others = λ u no. q.others u (λ s t. no (omega arith) (omega arith)) ∙ p.others u (λ s t. no s (omega arith));
}

only-join : (v w x : SeatView) (row : ℕ) → OnlyEntryChanges row v w → OnlyEntryChanges row w x → OnlyEntryChanges row v x
only-join v w x row a b = record {
  same_seat = record {
    number = b.same_seat.number ∙ a.same_seat.number;
    out = b.same_seat.out ∙ a.same_seat.out;
    size = b.same_seat.size ∙ a.same_seat.size;
  };
  refs = b.refs ∙ a.refs;
  others = λ q n. b.others q n ∙ a.others q n;
}

pub puts-start : (v : SeatView) (row a n : ℕ) (f : ℕ → ℕ) → n ≡ 0 → Puts v v row a n f
puts-start v row a n f none = record {
  only = only-same row v;
  put = λ e at. (e, at, record { kind = refl; own = refl; linked = refl; here = λ i low. absurd (omega arith); others = λ u no. refl });
}

puts-is : (v w : SeatView) (row word n : ℕ) (e : Entry) → find row v.owned ≡ some e
    → ((e : Entry) → find row v.owned ≡ some e → w ≡ with_entry row (written word n e) v) → Puts v w row word 1 (λ i. n)
puts-is v w row word n e has is = record {
  only = subst (OnlyEntryChanges row v) (sym (is e has)) (only-put row v v (written word n e) (only-same row v));
  put = λ d at. (
    written word n d,
    ap (λ (z : SeatView). find row z.owned) (is d at)
        ∙ find-here row (written word n d) v.owned,
    holds-written word n d,
  );
}

puts-again : (v w x : SeatView) (row a n : ℕ) (f g : ℕ → ℕ) → Puts v w row a n f → Puts w x row a n g → Puts v x row a n g
puts-again v w x row a n f g p q = record {
  only = only-join v w x row p.only q.only;
  put = λ e at. let (d, there, y) = p.put e at in let (k, here, z) = q.put d there in (k, here, holds-again a n f g e d k y z);
}

puts-join : (v w x : SeatView) (row a b n m : ℕ) (f g h : ℕ → ℕ) → b ≡ a + n → ((i : ℕ) → i < n → f i ≡ h i) → ((i : ℕ) → i < m → g i ≡ h (n + i))
    → Puts v w row a n f → Puts w x row b m g → Puts v x row a (n + m) h
puts-join v w x row a b n m f g h next first later p q = record {
  only = only-join v w x row p.only q.only;
  put = λ e at. let (d, there, y) = p.put e at in let (k, here, z) = q.put d there in (k, here, holds-join a b n m f g h e d k next first later y z);
}

-- one more word
pub puts-next : (v w x : SeatView) (row a b i n value : ℕ) (f : ℕ → ℕ) → b ≡ a + i → n ≡ i + 1 → value ≡ f i → Puts v w row a i f
    → Puts w x row b 1 (λ j. value) → Puts v x row a n f
puts-next v w x row a b i n value f next more is p q = subst (λ n. Puts v x row a n f) (sym more)
    (puts-join v w x row a b i 1 f (λ j. value) f next (λ j low. refl) (λ j low. is ∙ ap f (let z : i ≡ i + j = omega arith in z)) p q)

-- behind a key's words all is 0
pub puts-key : (v w x : SeatView) (row a i b m : ℕ) (bytes : List ℕ) → b ≡ a + i → i + m ≡ 32 → length bytes ≤ i * 8 → Puts v w row a i (key_word bytes)
    → Puts w x row b m (λ j. 0) → Puts v x row a 32 (key_word bytes)
puts-key v w x row a i b m bytes next all enough p q = subst (λ n. Puts v x row a n (key_word bytes)) all
    (puts-join v w x row a b i m (key_word bytes) (λ j. 0) (key_word bytes) next (λ j l. refl)
    (λ j l. sym (word-is bytes (i + j) ∙ past-end ((i + j) * 8) bytes (omega arith))) p q)

-- the row stays free
still-free : (v w : SeatView) (row a n : ℕ) (f : ℕ → ℕ) → (e : Entry) × (find row v.owned ≡ some e) × (e.kind ≡ 0) → Puts v w row a n f
    → (d : Entry) × (find row w.owned ≡ some d) × (d.kind ≡ 0)
still-free v w row a n f free p = let (d, there, h) = p.put free.0 free.1 in (d, there, h.kind ∙ free.2)

-- a load of a word, and a store of another value where it isn't there
pub noted : (v w : SeatView) (row word n : ℕ) → (e : Entry) × (find row v.owned ≡ some e) × (e.kind ≡ 0)
    → ((e : Entry) → find row v.owned ≡ some e → w ≡ with_entry row (written word n e) v) → Puts v w row word 1 (λ i. n)
noted v w row word n free is = puts-is v w row word n free.0 free.1 is

pub storable : (v w : SeatView) (row word n : ℕ) → (e : Entry) × (find row v.owned ≡ some e) × (e.kind ≡ 0) → Puts v w row word 1 (λ i. n)
    → IsItemPlace word → (d : Entry) × (find row w.owned ≡ some d) × (d.kind ≡ 0) × IsContent d.kind word
storable v w row word n free p place =
    let (d, there, plain) = still-free v w row word 1 (λ i. n) free p in (d, there, plain, plain-place d word plain place)

pub stored : (v w x : SeatView) (row word n m : ℕ) → (e : Entry) × (find row v.owned ≡ some e) × (e.kind ≡ 0) → IsItemPlace word
    → Puts v w row word 1 (λ i. n) → (word ≢ 1 → (e : Entry) → find row w.owned ≡ some e → x ≡ with_entry row (written word m e) w)
    → Puts v x row word 1 (λ i. m)
stored v w x row word n m free place p is =
    let d = storable v w row word n free p place in
    puts-again v w x row word 1 (λ i. n) (λ i. m) p (puts-is w x row word m d.0 d.1 (is (λ z. let a = place.0 in omega arith)))

-- ---- the item
-- a word of the head, of the key's part and of the end's part
head-word : (x : Item) (kl el i : ℕ) → kl ≡ length x.span.0 → el ≡ length x.span.1 → i < 7
    → slice_index (x.id ∷ x.place ∷ x.lane ∷ x.stamp.wall ∷ x.stamp.logical ∷ kl ∷ el ∷ []) i ≡ item_word x (2 + i)
head-word x kl el zero k e h = refl
head-word x kl el (suc zero) k e h = refl
head-word x kl el (suc (suc zero)) k e h = refl
head-word x kl el (suc (suc (suc zero))) k e h = refl
head-word x kl el (suc (suc (suc (suc zero)))) k e h = refl
head-word x kl el (suc (suc (suc (suc (suc zero))))) k e h = k
head-word x kl el (suc (suc (suc (suc (suc (suc zero)))))) k e h = e
head-word x kl el (suc (suc (suc (suc (suc (suc (suc i))))))) k e h = absurd (omega arith)

key-place : (x : Item) (u : ℕ) → IsItemPlace u → 9 ≤ u → u < 43 → item_word x u ≡ key_word x.span.0 (u - 11)
key-place x u p low high = grind (arith, nat_tests)

end-place : (x : Item) (u : ℕ) → 43 ≤ u → item_word x u ≡ key_word x.span.1 (u - 43)
end-place x u low = grind (arith, nat_tests)

-- the words of an entry are those of an item
record Filling (x : Item) (e d : Entry) : Type 0 where
  pub kind : d.kind ≡ e.kind
  pub own : d.own ≡ e.own
  pub linked : d.linked ≡ e.linked
  pub words : (u : ℕ) → IsItemPlace u → find u d.known ≡ some (item_word x u)

filling : (x : Item) (kl el : ℕ) (e d k g : Entry) → kl ≡ length x.span.0 → el ≡ length x.span.1
    → Holds 2 7 (slice_index (x.id ∷ x.place ∷ x.lane ∷ x.stamp.wall ∷ x.stamp.logical ∷ kl ∷ el ∷ [])) e d
    → Holds 11 32 (key_word x.span.0) d k → Holds 43 32 (key_word x.span.1) k g → Filling x e g
filling x kl el e d k g kn en p q r = record {
  kind = r.kind ∙ q.kind ∙ p.kind;
  own = r.own ∙ q.own ∙ p.own;
  linked = r.linked ∙ q.linked ∙ p.linked;
  words = λ u place. ⊎_elim
      (λ (head : u < 9).
      r.others u (λ s t. omega arith) ∙ q.others u (λ s t. omega arith)
      ∙ ap (λ w. find w d.known) (from 2 u place.0)
      ∙ p.here (u - 2) (omega arith)
      ∙ ap some (head-word x kl el (u - 2) kn en (omega arith) ∙ ap (item_word x) (sym (from 2 u place.0))))
      (λ (later : 9 ≤ u). ⊎_elim
      (λ (key : u < 43).
      let low : 11 ≤ u = let a = place.2 in let b = place.3 in omega arith in
      r.others u (λ s t. omega arith)
      ∙ ap (λ w. find w k.known) (from 11 u low)
      ∙ q.here (u - 11) (omega arith)
      ∙ ap some (sym (key-place x u place later key)))
      (λ (end : 43 ≤ u).
      ap (λ w. find w g.known) (from 43 u end)
      ∙ r.here (u - 43) (let a = place.1 in omega arith)
      ∙ ap some (sym (end-place x u end)))
      (cases_lt u 43))
      (cases_lt u 9);
}
  where
    from : (a u : ℕ) → a ≤ u → u ≡ a + (u - a)
    from a u low = omega arith

gaps-none : nil_links 0 ≡ []
unfolding nil_links
gaps-none = refl

-- the row is then the item, and counts as it did
pub record Made (v w : SeatView) (row : ℕ) (x : Item) : Type 0 where
  pub item : OwnsItem w row x
  pub only : OnlyEntryChanges row v w
  pub counts : (e : Entry) → find row v.owned ≡ some e → (d : Entry) × (find row w.owned ≡ some d) × (d.own ≡ e.own) × (d.linked ≡ e.linked)

pub made : (v w1 w2 w3 z : SeatView) (row : ℕ) (x : Item) (kl el : ℕ) (e : Entry) → IsValid x → kl ≡ length x.span.0 → el ≡ length x.span.1
    → find row v.owned ≡ some e
    → Puts v w1 row 2 7 (slice_index (x.id ∷ x.place ∷ x.lane ∷ x.stamp.wall ∷ x.stamp.logical ∷ kl ∷ el ∷ []))
    → Puts w1 w2 row 11 32 (key_word x.span.0) → Puts w2 w3 row 43 32 (key_word x.span.1)
    → ((d : Entry) → find row w3.owned ≡ some d → z ≡ with_entry row (turned_into 1 d) w3) → Made v z row x
made v w1 w2 w3 z row x kl el e ok kn en has p q r turns = record {
  item =
      let (d, there, a) = filled e has in record {
        entry = turned_into 1 d;
        has = here d there;
        kind = refl;
        links = gaps-none;
        valid = ok;
        words = λ u place. find-noted-else u 1 1 d.known (λ z. let a = place.0 in omega arith) ∙ a.words u place;
      };
  only =
      let (d, there, a) = filled e has in
      let same = only-join v w2 w3 row (only-join v w1 w2 row p.only q.only) r.only in
      subst (OnlyEntryChanges row v) (sym (turns d there)) (only-put row v w3 (turned_into 1 d) same);
  counts = λ g at. let (d, there, a) = filled g at in (turned_into 1 d, here d there, a.own, a.linked);
}
  where
    here : (d : Entry) → find row w3.owned ≡ some d → find row z.owned ≡ some (turned_into 1 d)
    here d there = ap (λ (z : SeatView). find row z.owned) (turns d there) ∙ find-here row (turned_into 1 d) w3.owned

    filled : (e : Entry) → find row v.owned ≡ some e → (d : Entry) × (find row w3.owned ≡ some d) × Filling x e d
    filled e at =
        let (d, there, a) = p.put e at in let (k, spot, b) = q.put d there in let (g, last, c) = r.put k spot in
        (g, last, filling x kl el e d k g kn en a b c)
