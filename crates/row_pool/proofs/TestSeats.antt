-- What the calls do to a seat that has references and one chain alone.
use Rattle.std.proofs.Common.{◌≡◌, ◌≢◌, ◌⊎◌, ℕ, zero, suc, true, true≢false, ◌<◌, ◌≤◌, List, [], ◌∷◌, ◌++◌, length, slice_index_or, sym}
use Rattle.std.proofs.Common.{append-nil, refl, ap, subst, ◌∙◌, inl, inr, ⊎_elim, eq-eqb, arith}
use mathlib.Core.Option.{none, some, some-ne-none}
use lib.ListN.{get_elem?}
use Rattle.std.proofs.lemmas.Bool.Decides.{eqb_tells}
use Rattle.atomic_table.specs.Seated.{TableId}
use Rattle.row_pool.specs.Lists.{find, mem}
use Rattle.row_pool.specs.Trees.{Tree, Entry, tree_word, children, depth}
use Rattle.row_pool.specs.SeatView.{SeatView}
use Rattle.row_pool.specs.Changes.{tree_of, without_tree, with_ref, entry_of, own_row, published, fresh, joined}
use Rattle.row_pool.specs.Changes.{remaining, split_off}
use Rattle.row_pool.specs.Numbers.{without_first}
use Rattle.row_pool.specs.Views.{ViewInvariant, Reaches, by_ref}
use Rattle.row_pool.specs.SeatState.{SeatState, SameSeat, OnlyEntriesChange, OnlyEntryChanges, kind_of}
use Rattle.row_pool.specs.Chains.{IsChain, ChainGrows, SplitAt, Disjoint}
use Rattle.row_pool.specs.TestSeats.{Holding, HoldsRow, WentLive}
use Rattle.row_pool.specs.declared.chain.Chain.{Chain}
use Rattle.row_pool.proofs.Sums.{find-else, find-without}
use Rattle.row_pool.proofs.Seats.{same_or, find-here, find-put}
use Rattle.row_pool.proofs.Laws.{depth-below}
use Rattle.row_pool.proofs.FirstState.{free-at}
use Rattle.row_pool.proofs.NewestRef.{tree_of-first, without_tree-first}
use Rattle.row_pool.proofs.DistinctKeys.{distinct-first}
use Rattle.row_pool.proofs.Chains.{mem-or, mem-head, mem-left, mem-right, chain-on, strung-free, strung-apart}

pub first-up : (v : SeatView) (t : Tree) (ts : List Tree) → v.refs ≡ t ∷ ts → Reaches v t
first-up v t ts h = by_ref 0 (ap (λ ts. get_elem? ts 0) h)

pub first-named : (v : SeatView) (t : Tree) (ts : List Tree) (r : ℕ) → v.refs ≡ t ∷ ts → tree_word t ≡ suc r → tree_word (tree_of r v.refs) ≡ suc r
first-named v t ts r h is = ap (λ ts. tree_word (tree_of r ts)) h ∙ ap tree_word (tree_of-first r t ts is) ∙ is

pub stand-held : (p : TableId) (s n : SeatState) (c : Chain) (t : Tree) (ts : List Tree) (rs : List ℕ) → Holding p s c (t ∷ ts) rs → n.table ≡ s.table
    → n.view ≡ with_ref t s.view → Holding p n c (t ∷ t ∷ ts) rs
stand-held p s n c t ts rs h table move = record {
  table = table ∙ h.table;
  refs = ap (λ (v : SeatView). v.refs) move ∙ ap (λ ts. t ∷ ts) h.refs;
  chain = chain-on s.view n.view c rs (λ q _. ap (λ (v : SeatView). find q v.owned) move) h.chain;
  all = λ q e f. h.all q e (sym (ap (λ (v : SeatView). find q v.owned) move) ∙ f);
}

pub stand-dropped : (p : TableId) (s n : SeatState) (c d : Chain) (r : ℕ) (us ts : List Tree) (rs : List ℕ) → without_tree r us ≡ ts
    → Holding p s c us rs → n.table ≡ s.table → n.view.refs ≡ without_tree r s.view.refs → ChainGrows s.view n.view c d
    → (qs : List ℕ) × Holding p n d ts qs
stand-dropped p s n c d r us ts rs left h table refs g = (
  g.more ++ rs,
  record {
    table = table ∙ h.table;
    refs = refs ∙ ap (without_tree r) h.refs ∙ left;
    chain = g.chain rs h.chain;
    all = λ q e f. ⊎_elim (λ m. mem-left q g.more rs m) (λ m. mem-right q g.more rs (h.all q e (sym (g.owns_more.same q m) ∙ f))) (mem-or q g.more);
  },
)

-- an owned row went live, and its reference is the newest
pub went-live : (v x w : SeatView) (r : ℕ) (t : Tree) (ts : List Tree) → x.refs ≡ ts → ((q : ℕ) → q ≢ r → find q x.owned ≡ find q v.owned) → SameSeat v x
    → w ≡ published r t x → WentLive r t ts v w
went-live v x w r t ts refs others same_seat move = record {
  refs = ap (λ (v : SeatView). v.refs) move ∙ ap (λ ts. t ∷ ts) refs;
  others = λ q n. ap (λ (v : SeatView). find q v.owned) move ∙ find-else q r x.owned n ∙ others q n;
  gone = ap (λ (v : SeatView). find r v.owned) move ∙ find-without r x.owned;
  same_seat = record {
    number = ap (λ (v : SeatView). v.number) move ∙ same_seat.number;
    out = ap (λ (v : SeatView). v.out) move ∙ same_seat.out;
    size = ap (λ (v : SeatView). v.size) move ∙ same_seat.size;
  };
}

-- a chain with a row has a first one
pub split-first : (rs : List ℕ) → 1 ≤ length rs → (r : ℕ) × (us : List ℕ) × (rs ≡ r ∷ us)
split-first [] h = absurd (omega arith)
split-first (r ∷ us) h = (r, us, refl)

-- the first row left the chain
pub popped : (p : TableId) (s : SeatState) (c d : Chain) (r : ℕ) (ts : List Tree) (rs : List ℕ) → 1 ≤ length rs → Holding p s c ts rs
    → ((q : ℕ) (us : List ℕ) → IsChain s.view c (q ∷ us) → (r ≡ q) × IsChain s.view d us)
    → (us : List ℕ) × (length rs ≡ suc (length us)) × Holding p s c ts (r ∷ us) × IsChain s.view d us
popped p s c d r ts rs some_row h row =
    let o = split-first rs some_row in
    let k : Holding p s c ts (o.0 ∷ o.1) = subst (Holding p s c ts) o.2 h in
    let z = row o.0 o.1 k.chain in
    (o.1, ap length o.2, subst (λ q. Holding p s c ts (q ∷ o.1)) (sym z.0) k, z.1)

-- the row that left the chain went live
pub stand-turned : (p : TableId) (s n : SeatState) (c d : Chain) (r : ℕ) (t : Tree) (us ts : List Tree) (rs : List ℕ) → Holding p s c us (r ∷ rs)
    → IsChain s.view d rs → n.table ≡ s.table → WentLive r t ts s.view n.view → Holding p n d (t ∷ ts) rs
stand-turned p s n c d r t us ts rs h on table live = record {
  table = table ∙ h.table;
  refs = live.refs;
  chain = chain-on s.view n.view d rs (λ q m. live.others q (λ z. true≢false (sym m ∙ ap (λ q. mem q rs) z
      ∙ strung-apart s.view r rs c.head h.chain.linked_from))) on;
  all = λ q e f. ⊎_elim (λ (z : q ≡ r). absurd (some-ne-none e (sym f ∙ ap (λ q. find q n.view.owned) z ∙ live.gone)))
      (λ ne. ⊎_elim (λ z. absurd (ne (sym z))) (λ o. o.1) (mem-head q r rs (h.all q e (sym (live.others q ne) ∙ f)))) (same_or q r);
}

-- the same where the reference came before all others
pub stand-live : (p : TableId) (s n : SeatState) (c d : Chain) (r : ℕ) (t : Tree) (ts : List Tree) (rs : List ℕ) → Holding p s c ts (r ∷ rs)
    → IsChain s.view d rs → n.table ≡ s.table → WentLive r t s.view.refs s.view n.view → Holding p n d (t ∷ ts) rs
stand-live p s n c d r t ts rs h on table live = stand-turned p s n c d r t ts ts rs h on table
    (subst (λ ts. WentLive r t ts s.view n.view) h.refs live)

-- what was changed of the row before it went live
pub live-after : (v x w : SeatView) (r : ℕ) (t : Tree) → OnlyEntryChanges r v x → WentLive r t x.refs x w → WentLive r t v.refs v w
live-after v x w r t only live = record {
  refs = live.refs ∙ ap (λ ts. t ∷ ts) only.refs;
  others = λ q n. live.others q n ∙ only.others q n;
  gone = live.gone;
  same_seat = record {
    number = live.same_seat.number ∙ only.same_seat.number;
    out = live.same_seat.out ∙ only.same_seat.out;
    size = live.same_seat.size ∙ only.same_seat.size;
  };
}

-- a row that the seat had a reference to went live again
pub stand-again : (p : TableId) (s n : SeatState) (c : Chain) (r : ℕ) (t : Tree) (us ts : List Tree) (rs : List ℕ) → Holding p s c us rs
    → find r s.view.owned ≡ none → n.table ≡ s.table → WentLive r t ts s.view n.view → Holding p n c (t ∷ ts) rs
stand-again p s n c r t us ts rs h away table live = record {
  table = table ∙ h.table;
  refs = live.refs;
  chain = chain-on s.view n.view c rs (λ q m. live.others q (λ z. let o = strung-free s.view rs c.head q h.chain.linked_from m in
      some-ne-none o.0 (sym o.1 ∙ ap (λ q. find q s.view.owned) z ∙ away))) h.chain;
  all = λ q e f. ⊎_elim (λ (z : q ≡ r). absurd (some-ne-none e (sym f ∙ ap (λ q. find q n.view.owned) z ∙ live.gone)))
      (λ ne. h.all q e (sym (live.others q ne) ∙ f)) (same_or q r);
}

-- the row t of the newest reference is owned
pub record OwnsNewest (v w : SeatView) (r : ℕ) (t : Tree) : Type 0 where
  pub move : w ≡ own_row t r 1 v
  pub has : find r w.owned ≡ some (entry_of t 1 0)
  pub some_kind : 0 < kind_of t
  pub shallow : (k : ℕ) (u : Tree) → get_elem? (children t) k ≡ some u → depth u ≤ 3
  pub away : find r v.owned ≡ none

pub owns-newest : (v w : SeatView) (r : ℕ) (t : Tree) (ts : List Tree) → ViewInvariant v → v.refs ≡ t ∷ ts → tree_word t ≡ suc r
    → (tree_word (tree_of r v.refs) ≡ suc r → w ≡ own_row (tree_of r v.refs) r 1 v) → OwnsNewest v w r t
owns-newest v w r t ts h refs is owned =
    let first : tree_of r v.refs ≡ t = ap (tree_of r) refs ∙ tree_of-first r t ts is in
    let move : w ≡ own_row t r 1 v = owned (ap tree_word first ∙ is) ∙ ap (λ t. own_row t r 1 v) first in
    let shape = h.trees t (first-up v t ts refs) (omega arith) in
    record {
      move = move;
      has = ap (λ (v : SeatView). find r v.owned) move ∙ find-here r (entry_of t 1 0) v.owned;
      some_kind = shape.some_kind;
      shallow = λ k u e. let a = depth-below t u k e in let b = shape.shallow in omega arith;
      away = h.apart r t (first-up v t ts refs) is;
    }

-- it goes live again, as the tree u
pub live-again : (v w x y : SeatView) (r : ℕ) (t u : Tree) (ts : List Tree) → v.refs ≡ t ∷ ts → tree_word t ≡ suc r → OwnsNewest v w r t
    → OnlyEntryChanges r w x → y ≡ published r u x → WentLive r u ts v y
live-again v w x y r t u ts refs is own only move = went-live v x y r u ts
    (only.refs ∙ ap (λ (v : SeatView). v.refs) own.move ∙ ap (without_tree r) refs ∙ without_tree-first r t ts is)
    (λ q n. only.others q n ∙ ap (λ (v : SeatView). find q v.owned) own.move ∙ sym (find-put q r (entry_of t 1 0) v.owned n))
    (record {
      number = only.same_seat.number ∙ ap (λ (v : SeatView). v.number) own.move;
      out = only.same_seat.out ∙ ap (λ (v : SeatView). v.out) own.move;
      size = only.same_seat.size ∙ ap (λ (v : SeatView). v.size) own.move;
    }) move

pub stand-same : (p : TableId) (s n : SeatState) (c : Chain) (ts : List Tree) (rs : List ℕ) → Holding p s c ts rs → n.table ≡ s.table → n.view ≡ s.view
    → Holding p n c ts rs
stand-same p s n c ts rs h table move = record {
  table = table ∙ h.table;
  refs = ap (λ (v : SeatView). v.refs) move ∙ h.refs;
  chain = chain-on s.view n.view c rs (λ q _. ap (λ (v : SeatView). find q v.owned) move) h.chain;
  all = λ q e f. h.all q e (sym (ap (λ (v : SeatView). find q v.owned) move) ∙ f);
}

-- some rows were taken and given back
pub stand-given : (p : TableId) (s m n : SeatState) (c d : Chain) (ts : List Tree) (rs ps qs : List ℕ) (k : ℕ) → Holding p s c ts rs → SplitAt rs ps qs k
    → m.table ≡ s.table → n.table ≡ m.table
    → OnlyEntriesChange ps s.view m.view → OnlyEntriesChange ps m.view n.view → IsChain n.view d (ps ++ qs) → Holding p n d ts (ps ++ qs)
stand-given p s m n c d ts rs ps qs k h parts table table' a b on = record {
  table = table' ∙ table ∙ h.table;
  refs = b.refs ∙ a.refs ∙ h.refs;
  chain = on;
  all = λ q e f. ⊎_elim (λ i. mem-left q ps qs i) (λ o. ap (mem q) (sym parts.whole) ∙ h.all q e (sym (a.others q o) ∙ sym (b.others q o) ∙ f)) (mem-or q ps);
}

-- a seat without references was joined, and its chain given
pub stand-joined : (p : TableId) (s o m n : SeatState) (c e d : Chain) (ts : List Tree) (rs us : List ℕ) → Holding p s c ts rs → Holding p o e [] us
    → m.table ≡ s.table → n.table ≡ m.table → m.view ≡ joined s.view o.view
    → OnlyEntriesChange us m.view n.view → IsChain n.view d (us ++ rs) → Holding p n d ts (us ++ rs)
stand-joined p s o m n c e d ts rs us h g table table' move a on = record {
  table = table' ∙ table ∙ h.table;
  refs = a.refs ∙ ap (λ (v : SeatView). v.refs) move ∙ (λ i. h.refs i ++ g.refs i) ∙ append-nil ts;
  chain = on;
  all = λ q x f. ⊎_elim (λ i. mem-left q us rs i)
      (λ out. mem-right q us rs (⊎_elim (λ y. h.all q y.0 y.1) (λ y. absurd (true≢false (sym (g.all q y.0 y.1) ∙ out)))
      (either q s.view.owned o.view.owned x (sym (ap (λ (v : SeatView). find q v.owned) move) ∙ sym (a.others q out) ∙ f)))) (mem-or q us);
}
  where
    either : (q : ℕ) (ps qs : List (ℕ × Entry)) (x : Entry) → find q (ps ++ qs) ≡ some x
        → ((y : Entry) × (find q ps ≡ some y)) ⊎ ((y : Entry) × (find q qs ≡ some y))
    either q [] qs x f = inr (x, f)
    either q (p ∷ ps) qs x f = ⊎_elim (λ t. inl (p.1, rw t.0 refl)) (λ t. ⊎_elim (λ y. inl (y.0, rw t.0 y.1)) (λ y. inr y) (either q ps qs x (rw t.0 at f)))
        (eqb_tells p.0 q)

-- the rows of two seats that are joined are apart
pub rows-apart : (v w : SeatView) (c e : Chain) (rs us : List ℕ) → IsChain v c rs → IsChain w e us
    → ((r : ℕ) (d : Entry) → find r w.owned ≡ some d → find r v.owned ≡ none) → Disjoint us rs
rows-apart v w c e rs us h g apart = λ q i. ⊎_elim (λ m. let o = strung-free v rs c.head q h.linked_from m in
    let u = strung-free w us e.head q g.linked_from i in
    absurd (some-ne-none o.0 (sym o.1 ∙ apart q u.0 u.1))) (λ o. o) (mem-or q rs)

-- a chain of the first seat's after a join, and one of the other's
pub chain-first : (v w : SeatView) (c : Chain) (rs : List ℕ) → IsChain v c rs → IsChain (joined v w) c rs
chain-first v w c rs h = chain-on v (joined v w) c rs (λ q m. let o = strung-free v rs c.head q h.linked_from m in distinct-first q v.owned w.owned o.0 o.1
    ∙ sym o.1) h

pub chain-second : (v w n : SeatView) (c : Chain) (us : List ℕ) → IsChain w c us → ((r : ℕ) (d : Entry) → find r w.owned ≡ some d → find r n.owned ≡ some d)
    → IsChain n c us
chain-second v w n c us h there = chain-on w n c us (λ q m. let o = strung-free w us c.head q h.linked_from m in there q o.0 o.1 ∙ sym o.1) h

-- a fresh pool
pub stand-fresh : (p : TableId) (s : SeatState) (c : Chain) (n : ℕ) (rs : List ℕ) → s.table ≡ p → s.view ≡ fresh n → IsChain (fresh n) c rs
    → ((q : ℕ) → q < n → mem q rs ≡ true) → Holding p s c [] rs
stand-fresh p s c n rs table move on all = record {
  table = table;
  refs = ap (λ (v : SeatView). v.refs) move;
  chain = chain-on (fresh n) s.view c rs (λ q _. ap (λ (v : SeatView). find q v.owned) move) on;
  all = λ q e f. let o = free-at n 0 n q e (sym (ap (λ (v : SeatView). find q v.owned) move) ∙ f) in all q (let a = o.1 in omega arith);
}

-- a reference went to a new seat
pub stand-split : (p : TableId) (s n : SeatState) (c : Chain) (r : ℕ) (t : Tree) (ts : List Tree) (rs : List ℕ) → tree_word t ≡ suc r
    → Holding p s c (t ∷ ts) rs
    → n.table ≡ s.table → n.view ≡ remaining (r ∷ []) s.view → Holding p n c ts rs
stand-split p s n c r t ts rs is h table move = record {
  table = table ∙ h.table;
  refs = ap (λ (v : SeatView). v.refs) move ∙ ap (without_tree r) h.refs ∙ without_tree-first r t ts is;
  chain = chain-on s.view n.view c rs (λ q _. ap (λ (v : SeatView). find q v.owned) move) h.chain;
  all = λ q e f. h.all q e (sym (ap (λ (v : SeatView). find q v.owned) move) ∙ f);
}

pub held-split : (p : TableId) (s n : SeatState) (c d : Chain) (r : ℕ) (t : Tree) (ts : List Tree) (rs : List ℕ) → tree_word t ≡ suc r
    → Holding p s c (t ∷ ts) rs
    → n.table ≡ s.table → n.view ≡ split_off (r ∷ []) s.view → IsChain n.view d [] → HoldsRow p r (n, d)
held-split p s n c d r t ts rs is h table move on = record {
  tree = t;
  rows = [];
  stand = record {
    table = table ∙ h.table;
    refs = ap (λ (v : SeatView). v.refs) move ∙ ap (λ ts. tree_of r ts ∷ []) h.refs ∙ ap (λ t. t ∷ []) (tree_of-first r t ts is);
    chain = on;
    all = λ q e f. absurd (some-ne-none e (sym f ∙ ap (λ (v : SeatView). find q v.owned) move));
  };
  is = is;
}

-- what holds of a worker and of all after it
pub all-cons : (P : SeatState × Chain → Type 0) (w : SeatState × Chain) (ws : List (SeatState × Chain)) → P w
    → ((k : ℕ) (d : SeatState × Chain) → k < length ws → P (slice_index_or ws k d))
    → (k : ℕ) (d : SeatState × Chain) → k < suc (length ws) → P (slice_index_or (w ∷ ws) k d)
all-cons P w ws h all zero d low = h
all-cons P w ws h all (suc k) d low = all k d (omega arith)

-- the newest of the seats that are split off came back
pub without-newest : (n cap : ℕ) (rest : List (ℕ × ℕ)) → without_first n ((n, cap) ∷ rest) ≡ rest
without-newest n cap rest = rw (eq-eqb n n refl)

pub at-any : (ws : List (SeatState × Chain)) (k : ℕ) (d e : SeatState × Chain) → k < length ws → slice_index_or ws k d ≡ slice_index_or ws k e
at-any [] k d e low = absurd (omega arith)
at-any (w ∷ ws) zero d e low = refl
at-any (w ∷ ws) (suc k) d e low = at-any ws k d e (omega arith)
