-- Steps on the links of one owned node.
use Rattle.std.proofs.Common.{inl, Some, None, ◌≡◌, ℕ, suc, ◌+◌, ◌<◌, ◌≤◌, ◌^◌, zero, List, [], ◌∷◌, ◌++◌, map, length, set, sym, refl, ap, ◌∙◌, subst, eq-eqb}
use Rattle.std.proofs.Common.{arith}
use mathlib.Core.Option.{some}
use lib.ListN.{get_elem?}
use Rattle.atomic_table.proofs.Lists.{at_map}
use Rattle.row_pool.proofs.Chains.{find-noted, find-noted-else}
use Rattle.row_pool.proofs.NewNodes.{fan-node}
use Rattle.row_pool.proofs.Seats.{find-here, find-put}
use Rattle.row_pool.proofs.Sums.{find-else, find-without, map-set}
use Rattle.row_pool.specs.Changes.{Becomes, published, put, relinked, target_of, with_entry, with_link, with_old_target, without_target, written}
use Rattle.row_pool.specs.Layout.{IsContent, IsLink, first_link}
use Rattle.row_pool.specs.Lists.{find}
use Rattle.row_pool.specs.SeatState.{LinkAt, OnlyEntryChanges, SameSeat, row_of}
use Rattle.row_pool.specs.SeatView.{SeatView}
use Rattle.row_pool.specs.Trees.{Entry, Link, Tree, nil, row, to, tree_word}
use Rattle.row_pool.specs.Views.{Reaches, by_link}
use Rattle.interval_tree.specs.Held.{OthersStand, OwnsNode}
use Rattle.interval_tree.specs.Steps.{Swaps, WentLive}

module _ {A : Type 0} where
  pub at-part : (us : List A) (u : A) (vs : List A) → get_elem? (us ++ u ∷ vs) (length us) ≡ some u
  at-part [] u vs = refl
  at-part (x ∷ us) u vs = at-part us u vs

  pub set-part : (us : List A) (u : A) (vs : List A) (t : A) → set (us ++ u ∷ vs) (length us) t ≡ us ++ t ∷ vs
  set-part [] u vs t = refl
  set-part (x ∷ us) u vs t = ap (λ l. x ∷ l) (set-part us u vs t)

-- the newest reference
pub goal-back : (t : Tree) (ts : List Tree) → target_of (tree_word t) (with_old_target t ts) ≡ t
goal-back nil ts = refl
goal-back (row r c ks) ts = rw (eq-eqb (suc r) (suc r) refl)

pub hand-back : (t : Tree) (ts : List Tree) → without_target t (with_old_target t ts) ≡ ts
hand-back nil ts = refl
hand-back (row r c ks) ts = rw (eq-eqb (suc r) (suc r) refl)

pub back-cons : (u : Tree) (R : List Tree) (q : ℕ) → tree_word u ≡ suc q → u ∷ R ≡ with_old_target u R
back-cons nil R q h = absurd (omega arith)
back-cons (row r c ks) R q h = refl

pub named-zero : (u : Tree) → tree_word u ≡ 0 → u ≡ nil
named-zero nil h = refl
named-zero (row r c ks) h = absurd (omega arith)

pub target-is : (goal : ℕ) (t : Tree) (R refs : List Tree) → refs ≡ with_old_target t R → tree_word t ≡ goal → target_of goal refs ≡ t
target-is goal t R refs is here = ap (λ j. target_of j refs) (sym here) ∙ ap (target_of (tree_word t)) is ∙ goal-back t R

-- the link k of an owned node
pub link-part : (v : SeatView) (r kind n : ℕ) (us vs : List Tree) (u : Tree) (k : ℕ) (o : OwnsNode v r kind n (us ++ u ∷ vs)) → length us ≡ k
    → LinkAt v r (3 + k) o.entry k (to u)
link-part v r kind n us vs u k o h = (
  o.has,
  ap (λ b. b + k) (sym ((fan-node kind o.low o.high).1) ∙ ap first_link (sym o.is_kind)),
  ap (λ (l : List Link). get_elem? l k) o.links ∙ at_map to (us ++ u ∷ vs) k u (ap (get_elem? (us ++ u ∷ vs)) (sym h) ∙ at-part us u vs),
)

pub up-link : (v : SeatView) (r kind n : ℕ) (us vs : List Tree) (u : Tree) (k : ℕ) → OwnsNode v r kind n (us ++ u ∷ vs) → length us ≡ k → Reaches v u
up-link v r kind n us vs u k o h = let l = link-part v r kind n us vs u k o h in by_link r o.entry k l.0 l.2

-- after a link took the newest reference
owns-relinked : (v : SeatView) (r kind n : ℕ) (us vs : List Tree) (u t : Tree) (k : ℕ) (o : OwnsNode v r kind n (us ++ u ∷ vs)) → length us ≡ k
    → OwnsNode (relinked r o.entry k u t v) r kind n (us ++ t ∷ vs)
owns-relinked v r kind n us vs u t k o h = record {
  entry = with_link k (to t) o.entry;
  has = find-here r (with_link k (to t) o.entry) v.owned;
  is_kind = o.is_kind;
  low = o.low;
  high = o.high;
  links = ap (λ (l : List Link). set l k (to t)) o.links ∙ sym (map-set to (us ++ u ∷ vs) k t)
      ∙ ap (map to) (ap (λ j. set (us ++ u ∷ vs) j t) (sym h) ∙ set-part us u vs t);
  apart = o.apart;
  count = o.count;
  said = o.said;
}

pub others-put : (v w : SeatView) (r : ℕ) (e : Entry) → w.owned ≡ put r e v.owned → SameSeat v w → OthersStand r v w
others-put v w r e is same = record { same_seat = same; rows = λ q n. ap (find q) is ∙ sym (find-put q r e v.owned n) }

-- what the rows say of a swap
abbrev pub SwapsLink : SeatView → SeatView → ℕ → ℕ → ℕ → ℕ → Type 0
SwapsLink v w r k goal result = (e : Entry) (u : Tree) (j : ℕ) → LinkAt v r (3 + k) e j (to u)
    → (result ≡ tree_word u) × (w ≡ relinked r e j u (target_of goal v.refs) v)

pub swapped : (v w : SeatView) (r k goal result : ℕ) → SwapsLink v w r k goal result → Swaps v w r k goal result
swapped v w r k goal result f kind n us vs u t R o len refs is =
    let s = f o.entry u k (link-part v r kind n us vs u k o len) in
    let move : w ≡ relinked r o.entry k u t v = s.1 ∙ ap (λ (x : Tree). relinked r o.entry k u x v) (target-is goal t R v.refs refs is) in (
      s.0,
      subst (λ (z : SeatView). OwnsNode z r kind n (us ++ t ∷ vs)) (sym move) (owns-relinked v r kind n us vs u t k o len),
      ap (λ (z : SeatView). z.refs) move ∙ ap (with_old_target u) (ap (without_target t) refs ∙ hand-back t R),
    )

pub others-swapped : (v w : SeatView) (r k : ℕ) (e : Entry) (u t : Tree) → w ≡ relinked r e k u t v → OthersStand r v w
others-swapped v w r k e u t move = others-put v w r (with_link k (to t) e) (ap (λ (z : SeatView). z.owned) move)
    (record { number = ap (λ (z : SeatView). z.number) move; out = ap (λ (z : SeatView). z.out) move; size = ap (λ (z : SeatView). z.size) move })

-- ---- the number of items
pub owns-counted : (v w : SeatView) (r kind m n : ℕ) (us : List Tree) (o : OwnsNode v r kind m us) → w ≡ with_entry r (written 2 n o.entry) v
    → OwnsNode w r kind n us
owns-counted v w r kind m n us o is = subst (λ (z : SeatView). OwnsNode z r kind n us) (sym is) (record {
  entry = written 2 n o.entry;
  has = find-here r (written 2 n o.entry) v.owned;
  is_kind = o.is_kind;
  low = o.low;
  high = o.high;
  links = o.links;
  apart = o.apart;
  count = find-noted 2 n o.entry.known;
  said = find-noted-else 1 2 n o.entry.known (λ h. omega arith) ∙ o.said;
})

pub others-entry : (v w : SeatView) (r : ℕ) (e : Entry) → w ≡ with_entry r e v → OthersStand r v w
others-entry v w r e is = others-put v w r e (ap (λ (z : SeatView). z.owned) is)
    (record { number = ap (λ (z : SeatView). z.number) is; out = ap (λ (z : SeatView). z.out) is; size = ap (λ (z : SeatView). z.size) is })

pub others-only : (v w : SeatView) (r : ℕ) → OnlyEntryChanges r v w → OthersStand r v w
others-only v w r o = record { same_seat = o.same_seat; rows = o.others }

pub content-low : (kind w : ℕ) → 2 ≤ kind → 1 ≤ w → w ≤ 2 → IsContent kind w
content-low kind w low one two = (one, omega arith, inl (let a = first-past kind low in omega arith))
  where
    first-past : (kind : ℕ) → 2 ≤ kind → 2 < first_link kind
    first-past zero a = absurd (omega arith)
    first-past (suc zero) a = absurd (omega arith)
    first-past (suc (suc k)) a = omega arith

pub content-count : (kind : ℕ) → 2 ≤ kind → IsContent kind 2
content-count kind low = content-low kind 2 low (omega arith) (omega arith)

-- ---- an owned node goes live
pub went-live : (v w : SeatView) (r kind n : ℕ) (us : List Tree) (o : OwnsNode v r kind n us)
    → (t : Tree) × Becomes r o.entry us t × (w ≡ published r t v) → WentLive v w r kind n us
went-live v w r kind n us o (t, b, is) = record {
  tree = t;
  is = record {
    here = b.here;
    kind_is = b.kind ∙ o.is_kind;
    count = b.known 2 n (subst (λ k. IsContent k 2) (sym o.is_kind) (content-count kind o.low)) o.count;
    links = b.below;
  };
  refs = ap (λ (z : SeatView). z.refs) is;
  gone = ap (λ (z : SeatView). find r z.owned) is ∙ find-without r v.owned;
  others = record {
    same_seat = record { number = ap (λ (z : SeatView). z.number) is; out = ap (λ (z : SeatView). z.out) is; size = ap (λ (z : SeatView). z.size) is };
    rows = λ q n. ap (λ (z : SeatView). find q z.owned) is ∙ find-else q r v.owned n;
  };
}

-- ---- what the calls of the pool ask for
pub room-nil : (t : Tree) (R refs : List Tree) → refs ≡ with_old_target t R → tree_word t ≡ 0 → length R < 2 ^ 32 → length refs < 2 ^ 32
room-nil nil R refs is empty low = let a = ap length is in omega arith
room-nil (row r c ks) R refs is empty low = absurd (omega arith)

pub node-link : (kind k : ℕ) → 2 ≤ kind → kind ≤ 3 → k < 64 → IsLink kind (3 + k)
node-link kind k low high less = let f = fan-node kind low high in let a = f.0 in let b = f.1 in (omega arith, omega arith)

pub there : (n r : ℕ) → Some r ≡ row_of n → n ≡ suc r
there zero r e = cc
there (suc q) r e = cc

pub nowhere : (n : ℕ) → None ≡ row_of n → n ≡ 0
nowhere zero e = refl
nowhere (suc q) e = cc

pub owns-kind : (v : SeatView) (r kind n : ℕ) (us : List Tree) (o : OwnsNode v r kind n us) → (P : ℕ → Type 0) → P kind → P o.entry.kind
owns-kind v r kind n us o P p = subst P (sym o.is_kind) p
