-- Different rows, and what a list's change of their words leaves.
use Rattle.std.proofs.Common.{◌≡◌, ◌≢◌, ◌⊎◌, ℕ, ◌<◌, ◌≤◌, true, false, true≢false, eqb, List, [], ◌∷◌, ◌++◌, sym, refl, ap}
use Rattle.std.proofs.Common.{◌∙◌, subst, inl, ⊎_elim, eq-eqb, ne_eqb, arith}
use mathlib.Core.Option.{some, some-injective}
use Rattle.std.specs.List.{AllByRecursion, IsDistinct, list_any}
use Rattle.std.proofs.lemmas.Bool.Decides.{eqb_tells}
use Rattle.row_pool.specs.Lists.{find, mem}
use Rattle.row_pool.specs.Trees.{Entry}
use Rattle.row_pool.specs.SeatView.{SeatView}
use Rattle.row_pool.specs.Changes.{with_entry, written}
use Rattle.row_pool.specs.Layout.{first_link, IsContent}
use Rattle.row_pool.proofs.Chains.{mem-head, mem-or, mem-append, mem-neither, mem-tail, mem-here, find-noted-else, relinks-put, relinks-none}
use Rattle.row_pool.proofs.Seats.{same_or, find-here, find-put}
use Rattle.latch_item.specs.Items.{Item, OwnsItem}
use Rattle.read_list.specs.Lists.{SameButLinks, OnlyLinksChange}

-- ---- different rows
pub mem-not : (q : ℕ) (rs : List ℕ) → (mem q rs ≡ true → ⊥) → mem q rs ≡ false
mem-not q rs h = ⊎_elim (λ t. absurd (h t)) (λ n. n) (mem-or q rs)

pub mem-else : (q r : ℕ) (rs : List ℕ) → q ≢ r → mem q rs ≡ false → mem q (r ∷ rs) ≡ false
mem-else q r rs n m = rw (ne_eqb r q (λ z. n (sym z))) m

-- a row that isn't in the list differs from those that are
pub mem-differs : (q r : ℕ) (rs : List ℕ) → mem q rs ≡ true → mem r rs ≡ false → q ≢ r
mem-differs q r rs m n z = true≢false (sym m ∙ ap (λ q. mem q rs) z ∙ n)

all-else : (r : ℕ) (rs : List ℕ) → mem r rs ≡ false → AllByRecursion (λ y. eqb r y ≡ false) rs
all-else r [] m = tt
all-else r (q ∷ qs) m = ⊎_elim (λ t. absurd (true≢false (rw t.0 at m))) (λ t. (ne_eqb r q (λ z. t.1 (sym z)), all-else r qs (rw t.0 at m))) (eqb_tells q r)

not-among : (r : ℕ) (rs : List ℕ) → AllByRecursion (λ y. eqb r y ≡ false) rs → mem r rs ≡ false
not-among r [] a = refl
not-among r (q ∷ qs) a = mem-else r q qs (λ z. true≢false (sym (eq-eqb r q z) ∙ a.0)) (not-among r qs a.1)

pub any-mem : (q : ℕ) (rs : List ℕ) → list_any (eqb q) rs ≡ true → mem q rs ≡ true
any-mem q [] h = h
any-mem q (r ∷ rs) h = ⊎_elim (λ t. rw (eq-eqb r q (sym t.1)) refl) (λ t. rw (ne_eqb r q (λ z. t.1 (sym z))) (any-mem q rs (rw t.0 at h))) (eqb_tells q r)

pub distinct-cons : (r : ℕ) (rs : List ℕ) → mem r rs ≡ false → IsDistinct eqb rs → IsDistinct eqb (r ∷ rs)
unfolding IsDistinct
distinct-cons r rs m d = (all-else r rs m, d)

pub distinct-head : (r : ℕ) (rs : List ℕ) → IsDistinct eqb (r ∷ rs) → mem r rs ≡ false
unfolding IsDistinct
distinct-head r rs d = not-among r rs d.0

pub distinct-tail : (r : ℕ) (rs : List ℕ) → IsDistinct eqb (r ∷ rs) → IsDistinct eqb rs
unfolding IsDistinct
distinct-tail r rs d = d.1

pub mem-join : (q : ℕ) (rs ss : List ℕ) → mem q rs ≡ false → mem q ss ≡ false → mem q (rs ++ ss) ≡ false
mem-join q rs ss a b = mem-not q (rs ++ ss) (λ t. ⊎_elim (λ m. true≢false (sym m ∙ a)) (λ m. true≢false (sym m.1 ∙ b)) (mem-append q rs ss t))

-- one of different rows is taken out
pub record TakenOut (ps : List ℕ) (r : ℕ) (qs : List ℕ) : Type 0 where
  pub out : mem r (ps ++ qs) ≡ false
  pub left : IsDistinct eqb (ps ++ qs)
  pub front : IsDistinct eqb ps
  pub back : IsDistinct eqb qs
  pub apart : (q : ℕ) → mem q ps ≡ true → mem q qs ≡ false

pub taken-out : (ps : List ℕ) (r : ℕ) (qs : List ℕ) → IsDistinct eqb (ps ++ r ∷ qs) → TakenOut ps r qs
unfolding IsDistinct
taken-out [] r qs d = record { out = distinct-head r qs d; left = d.1; front = tt; back = d.1; apart = λ q m. absurd (true≢false (sym m)) }
taken-out (p ∷ ps) r qs d =
    let o = taken-out ps r qs d.1 in
    let n = mem-neither p ps (r ∷ qs) (not-among p (ps ++ r ∷ qs) d.0) in
    let ne : r ≢ p = λ z. true≢false (sym (mem-here r qs) ∙ ap (λ p. mem p (r ∷ qs)) z ∙ n.1) in
    let past : mem p qs ≡ false = mem-not p qs (λ t. true≢false (sym (mem-tail p r qs t) ∙ n.1)) in
    record {
      out = mem-else r p (ps ++ qs) ne o.out;
      left = distinct-cons p (ps ++ qs) (mem-join p ps qs n.0 past) o.left;
      front = distinct-cons p ps n.0 o.front;
      back = o.back;
      apart = λ q m. ⊎_elim (λ z. ap (λ q. mem q qs) (sym z) ∙ past) (λ t. o.apart q t.1) (mem-head q p ps m);
    }

pub distinct-more : (rs : List ℕ) (r : ℕ) → IsDistinct eqb rs → mem r rs ≡ false → IsDistinct eqb (rs ++ r ∷ [])
unfolding IsDistinct
distinct-more [] r d m = (tt, tt)
distinct-more (q ∷ rs) r d m = ⊎_elim (λ t. absurd (true≢false (rw t.0 at m)))
    (λ t. distinct-cons q (rs ++ r ∷ []) (mem-join q rs (r ∷ []) (distinct-head q rs d) (mem-else q r [] t.1 refl)) (distinct-more rs r d.1 (rw t.0 at m)))
    (eqb_tells q r)

-- ---- what changes
pub content : (kind w : ℕ) → kind ≡ 1 → 1 ≤ w → w < 75 → IsContent kind w
content kind w is low high = (low, omega arith, inl (subst (λ k. w < first_link k) (sym is) high))

same-but : (e : Entry) → SameButLinks e e
same-but e = record { kind = refl; own = refl; linked = refl; links = refl; words = λ w a b. refl }

pub links-none : (rs : List ℕ) (v : SeatView) → OnlyLinksChange rs v v
links-none rs v = record { only = relinks-none v rs; entries = λ q e h. (e, h, same-but e) }

pub links-more : (rs ss : List ℕ) (v w : SeatView) → ((q : ℕ) → mem q rs ≡ true → mem q ss ≡ true) → OnlyLinksChange rs v w → OnlyLinksChange ss v w
links-more rs ss v w sub o = record {
  only = record {
    same_seat = o.only.same_seat;
    refs = o.only.refs;
    others = λ q n. o.only.others q (mem-not q rs (λ t. true≢false (sym (sub q t) ∙ n)));
  };
  entries = o.entries;
}

pub links-then : (rs : List ℕ) (u v w : SeatView) → OnlyLinksChange rs u v → OnlyLinksChange rs v w → OnlyLinksChange rs u w
links-then rs u v w a b = record {
  only = record {
    same_seat = record {
      number = b.only.same_seat.number ∙ a.only.same_seat.number;
      out = b.only.same_seat.out ∙ a.only.same_seat.out;
      size = b.only.same_seat.size ∙ a.only.same_seat.size;
    };
    refs = b.only.refs ∙ a.only.refs;
    others = λ q n. b.only.others q n ∙ a.only.others q n;
  };
  entries = λ q e h.
      let (d, g, s) = a.entries q e h in
      let (f, k, t) = b.entries q d g in (
        f,
        k,
        record {
          kind = t.kind ∙ s.kind;
          own = t.own ∙ s.own;
          linked = t.linked ∙ s.linked;
          links = t.links ∙ s.links;
          words = λ w x y. t.words w x y ∙ s.words w x y;
        },
      );
}

-- one of the two words of one row
pub links-put : (rs : List ℕ) (v : SeatView) (r w link : ℕ) (e : Entry) → (w ≡ 9) ⊎ (w ≡ 10) → find r v.owned ≡ some e → mem r rs ≡ true
    → OnlyLinksChange rs v (with_entry r (written w link e) v)
links-put rs v r w link e o has m = record {
  only = relinks-put v r (written w link e) rs m;
  entries = λ q d h. ⊎_elim
      (λ z. (
        written w link e,
        ap (λ q. find q (with_entry r (written w link e) v).owned) z ∙ find-here r (written w link e) v.owned,
        subst (λ d. SameButLinks d (written w link e)) (some-injective e d (sym has ∙ ap (λ q. find q v.owned) (sym z) ∙ h)) (record {
          kind = refl;
          own = refl;
          linked = refl;
          links = refl;
          words = λ u a b. find-noted-else u w link e.known (λ z. ⊎_elim (λ x. a (z ∙ x)) (λ x. b (z ∙ x)) o);
        }),
      ))
      (λ n. (d, sym (find-put q r (written w link e) v.owned n) ∙ h, same-but d))
      (same_or q r);
}

-- an item stands for the same latch as before
pub item-stays : (rs : List ℕ) (v w : SeatView) → OnlyLinksChange rs v w → (row : ℕ) (x : Item) → OwnsItem v row x → OwnsItem w row x
item-stays rs v w o row x i =
    let (d, has, s) = o.entries row i.entry i.has in
    record { entry = d; has = has; kind = s.kind ∙ i.kind; links = s.links ∙ i.links; valid = i.valid; words = λ u p. s.words u p.2 p.3 ∙ i.words u p }
