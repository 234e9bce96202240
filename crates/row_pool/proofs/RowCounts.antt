-- The rows that one seat has not are at most what the others have.
use Rattle.std.proofs.Common.{map, ◌⊎◌, inl, inr, Bool, false, cond, ◌≡◌, ℕ, zero, suc, ◌+◌, ◌<◌, ◌≤◌, true, true≢false, List, [], ◌∷◌, ◌++◌, set, sym, refl}
use Rattle.std.proofs.Common.{subst, ⊎_elim, eq-eqb, arith}
use mathlib.Core.Option.{some, some-injective, some-ne-none}
use lib.ListN.{get_elem?}
use Rattle.std.proofs.lemmas.Bool.Decides.{eqb_tells}
use Rattle.atomic_table.specs.Table.{State}
use Rattle.row_pool.specs.Lists.{without, find, total, mem}
use Rattle.row_pool.specs.Trees.{Tree, Trees, none as no_trees, next, nil, row, Link, Entry, tree_word, children, children_of}
use Rattle.row_pool.specs.SeatView.{SeatView}
use Rattle.row_pool.specs.Caps.{rows_in, rows_of, concat_map, link_rows, entry_rows, rows_of_view, has, sum_below, row_count}
use Rattle.row_pool.specs.Rule.{RowState, live, owned, CountsHold}
use Rattle.row_pool.specs.Changes.{without_tree, with_ref, without_ref, own_row, entry_of, with_entry, put, relinked, with_link}
use Rattle.row_pool.specs.Changes.{own_linked_row, published_by_link, published, Becomes, with_old_target, without_target, spent}
use Rattle.row_pool.specs.Views.{Reaches, by_ref, by_link, below}
use Rattle.row_pool.proofs.Words.{at-some}
use Rattle.row_pool.proofs.Sums.{total-at, total-part}
use Rattle.row_pool.proofs.Laws.{all-reached}

-- r stands in the list
abbrev pub In : ℕ → List ℕ → Type 0
In r l = mem r l ≡ true

in-left : (r : ℕ) (l m : List ℕ) → In r l → In r (l ++ m)
in-left r [] m h = absurd (true≢false (sym h))
in-left r (q ∷ qs) m h = ⊎_elim (λ t. rw t.0 refl) (λ t. rw t.0 (in-left r qs m (rw t.0 at h))) (eqb_tells q r)

pub in-right : (r : ℕ) (l m : List ℕ) → In r m → In r (l ++ m)
in-right r [] m h = h
in-right r (q ∷ qs) m h = ⊎_elim (λ t. rw t.0 refl) (λ t. rw t.0 (in-right r qs m h)) (eqb_tells q r)

in-flat : {A : Type 0} (f : A → List ℕ) (l : List A) (k : ℕ) (x : A) (r : ℕ) → get_elem? l k ≡ some x → In r (f x) → In r (concat_map f l)
in-flat f [] k x r e h = absurd (some-ne-none x (sym e))
in-flat f (y ∷ ys) zero x r e h = in-left r (f y) (concat_map f ys) (subst (λ z. In r (f z)) (sym (some-injective y x e)) h)
in-flat f (y ∷ ys) (suc k) x r e h = in-right r (f y) (concat_map f ys) (in-flat f ys k x r e h)

in-children : (ts : Trees) (k : ℕ) (u : Tree) (r : ℕ) → get_elem? (children_of ts) k ≡ some u → In r (rows_in u) → In r (rows_of ts)
in-children no_trees k u r e h = absurd (some-ne-none u (sym e))
in-children (next t ts) zero u r e h = in-left r (rows_in t) (rows_of ts) (subst (λ z. In r (rows_in z)) (sym (some-injective t u e)) h)
in-children (next t ts) (suc k) u r e h = in-right r (rows_in t) (rows_of ts) (in-children ts k u r e h)

in-child : (t : Tree) (k : ℕ) (u : Tree) (r : ℕ) → get_elem? (children t) k ≡ some u → In r (rows_in u) → In r (rows_in t)
in-child nil k u r e h = absurd (some-ne-none u (sym e))
in-child (row q ws ts) k u r e h = ⊎_elim (λ t. rw t.0 refl) (λ t. rw t.0 (in-children ts k u r e h)) (eqb_tells q r)

pub in-owned : (ps : List (ℕ × Entry)) (q : ℕ) (e : Entry) (r : ℕ) → find q ps ≡ some e → In r (entry_rows (q, e)) → In r (concat_map entry_rows ps)
in-owned [] q e r f h = absurd (some-ne-none e (sym f))
in-owned (p ∷ ps) q e r f h = ⊎_elim (λ t. let is = some-injective p.1 e (rw t.0 at f) in in-left r (entry_rows p) (concat_map entry_rows ps)
    (subst (λ (z : ℕ × Entry). In r (entry_rows z)) (λ i. (sym t.1 i, sym is i)) h))
    (λ t. in-right r (entry_rows p) (concat_map entry_rows ps) (in-owned ps q e r (rw t.0 at f) h)) (eqb_tells p.0 q)

-- the rows of what a seat reaches are among those that it has
pub in-reached : (v : SeatView) (t : Tree) (r : ℕ) → Reaches v t → In r (rows_in t) → In r (rows_of_view v)
in-reached v t r (by_ref k e) h = in-left r (concat_map rows_in v.refs) (concat_map entry_rows v.owned) (in-flat rows_in v.refs k t r e h)
in-reached v t r (by_link q e k f g) h = in-right r (concat_map rows_in v.refs) (concat_map entry_rows v.owned)
    (in-owned v.owned q e r f (⊎_elim (λ z. rw z.0 refl) (λ z. rw z.0 (in-flat link_rows e.links k (Link.to t) r g h)) (eqb_tells q r)))
in-reached v t r (below {t = u} k up g) h = in-reached v u r up (in-child u k t r g h)

module _ {A : Type 0} where
  total-nothing : (l : List A) → total (λ x. 0) l ≡ 0
  total-nothing [] = refl
  total-nothing (x ∷ xs) = let h = total-nothing xs in omega arith

  total-plus : (f g : A → ℕ) (l : List A) → total (λ x. f x + g x) l ≡ total f l + total g l
  total-plus f g [] = omega arith
  total-plus f g (x ∷ xs) = let h = total-plus f g xs in omega arith

  swap : (g : ℕ → A → ℕ) (l : List A) (n : ℕ) → sum_below (λ r. total (g r) l) n ≡ total (λ x. sum_below (λ r. g r x) n) l
  swap g l zero = sym (total-nothing l)
  swap g l (suc n) = let h = swap g l n in let a = total-plus (λ x. sum_below (λ r. g r x) n) (g n) l in omega arith

all-one : (f : ℕ → ℕ) (n : ℕ) → ((r : ℕ) → r < n → 1 ≤ f r) → n ≤ sum_below f n
all-one f zero h = omega arith
all-one f (suc n) h = let a = all-one f n (λ r b. h r (omega arith)) in let b = h n (omega arith) in omega arith

module _ {S : Type 0} {n : ℕ} {s : State S SeatView} (c : CountsHold S n s) where
  -- each row is had by a seat
  pub had : (r : ℕ) → r < n → (i : ℕ) × (v : SeatView) × (get_elem? s.views i ≡ some v) × In r (rows_of_view v)
  had r low = let o = at-some c.rows r (let z = c.size in omega arith) in go o.0 o.1
    where
      head-in : (t : Tree) → tree_word t ≡ suc r → In r (rows_in t)
      head-in nil h = absurd (omega arith)
      head-in (row q ws ks) h = let z : q ≡ r = omega arith in rw (eq-eqb q r z) refl

      go : (x : RowState) → get_elem? c.rows r ≡ some x → (i : ℕ) × (v : SeatView) × (get_elem? s.views i ≡ some v) × In r (rows_of_view v)
      go (live t) e = let o = all-reached c r t e in (o.0, o.1, o.2, in-reached o.1 t r o.3 (head-in t (c.spelled r (live t) e).here))
      go (owned i d) e = let o = c.owner_has r (owned i d) e in (
        i,
        o.0,
        o.1,
        in-right r (concat_map rows_in o.0.refs) (concat_map entry_rows o.0.owned)
            (in-owned o.0.owned r d r o.2 (rw (eq-eqb r r refl) refl)),
      )

  -- the rows that the seat i has not are at most what the others have
  pub rows-bound : (i : ℕ) (v : SeatView) (cap : ℕ) → get_elem? s.views i ≡ some v → total (row_count n) (set s.views i spent) ≤ cap → n ≤ row_count n v + cap
  rows-bound i v cap at caps =
      let each : (r : ℕ) → r < n → 1 ≤ total (λ (w : SeatView). has r (rows_of_view w)) s.views = λ r low.
      let o = had r low in let one : has r (rows_of_view o.1) ≡ 1 = rw o.3 refl in let a = total-part
      (λ (w : SeatView). has r (rows_of_view w)) s.views o.0 o.1 o.2 in omega arith in
      let a = all-one (λ r. total (λ (w : SeatView). has r (rows_of_view w)) s.views) n each in
      let b = swap (λ r (w : SeatView). has r (rows_of_view w)) s.views n in
      let d = total-at (row_count n) s.views i v spent at in
      omega arith

pub in-append : (r : ℕ) (l m : List ℕ) → In r (l ++ m) → In r l ⊎ In r m
in-append r [] m h = inr h
in-append r (q ∷ qs) m h = ⊎_elim (λ t. inl (rw t.0 refl)) (λ t. ⊎_elim (λ a. inl (rw t.0 a)) (λ b. inr b) (in-append r qs m (rw t.0 at h))) (eqb_tells q r)

pub in-head : (r q : ℕ) (l : List ℕ) → In r (q ∷ l) → (q ≡ r) ⊎ In r l
in-head r q l h = ⊎_elim (λ t. inl t.1) (λ t. inr (rw t.0 at h)) (eqb_tells q r)

without-in : (r q : ℕ) (ps : List (ℕ × Entry)) → In r (concat_map entry_rows (without q ps)) → In r (concat_map entry_rows ps)
without-in r q [] h = h
without-in r q (p ∷ ps) h = ⊎_elim (λ t. in-right r (entry_rows p) (concat_map entry_rows ps) (without-in r q ps (rw t.0 at h)))
    (λ t. ⊎_elim (λ a. in-left r (entry_rows p) (concat_map entry_rows ps) a) (λ b. in-right r (entry_rows p) (concat_map entry_rows ps)
    (without-in r q ps b))
    (in-append r (entry_rows p) (concat_map entry_rows (without q ps)) (rw t.0 at h))) (eqb_tells p.0 q)

without_tree-in : (r q : ℕ) (ts : List Tree) → In r (concat_map rows_in (without_tree q ts)) → In r (concat_map rows_in ts)
without_tree-in r q [] h = h
without_tree-in r q (t ∷ ts) h = ⊎_elim (λ b. in-right r (rows_in t) (concat_map rows_in ts) (rw b.0 at h))
    (λ b. ⊎_elim (λ a. in-left r (rows_in t) (concat_map rows_in ts) a) (λ c. in-right r (rows_in t) (concat_map rows_in ts) (without_tree-in r q ts c))
    (in-append r (rows_in t) (concat_map rows_in (without_tree q ts)) (rw b.0 at h))) (eqb_tells (tree_word t) (suc q))

children-rows : (ts : Trees) (r : ℕ) → In r (concat_map link_rows (map Link.to (children_of ts))) → In r (rows_of ts)
children-rows no_trees r h = h
children-rows (next t ts) r h = ⊎_elim (λ a. in-left r (rows_in t) (rows_of ts) a) (λ b. in-right r (rows_in t) (rows_of ts) (children-rows ts r b))
    (in-append r (rows_in t) (concat_map link_rows (map Link.to (children_of ts))) h)

-- what a seat has after a step it had before
abbrev pub Within : SeatView → SeatView → Type 0
Within w v = (r : ℕ) → In r (rows_of_view w) → In r (rows_of_view v)

parts : (v w : SeatView) → ((r : ℕ) → In r (concat_map rows_in w.refs) → In r (rows_of_view v)) → ((r : ℕ) → In r (concat_map entry_rows w.owned)
    → In r (rows_of_view v)) → Within w v
parts v w a b = λ r h. ⊎_elim (a r) (b r) (in-append r (concat_map rows_in w.refs) (concat_map entry_rows w.owned) h)

old-refs : (v : SeatView) (r : ℕ) → In r (concat_map rows_in v.refs) → In r (rows_of_view v)
old-refs v r h = in-left r (concat_map rows_in v.refs) (concat_map entry_rows v.owned) h

old-owned : (v : SeatView) (r : ℕ) → In r (concat_map entry_rows v.owned) → In r (rows_of_view v)
old-owned v r h = in-right r (concat_map rows_in v.refs) (concat_map entry_rows v.owned) h

pub within-with_ref : (v : SeatView) (t : Tree) → Reaches v t → Within (with_ref t v) v
within-with_ref v t up = parts v (with_ref t v) (λ r h. ⊎_elim (in-reached v t r up) (old-refs v r) (in-append r (rows_in t) (concat_map rows_in v.refs) h))
    (old-owned v)

pub within-without_ref : (v : SeatView) (q : ℕ) → Within (without_ref q v) v
within-without_ref v q = parts v (without_ref q v) (λ r h. old-refs v r (without_tree-in r q v.refs h)) (old-owned v)

entry-in : (t : Tree) (q own : ℕ) (r : ℕ) → tree_word t ≡ suc q → In r (entry_rows (q, entry_of t own 0)) → In r (rows_in t)
entry-in nil q own r is h = absurd (omega arith)
entry-in (row p ws ts) q own r is h = ⊎_elim (λ (z : q ≡ r). let e : p ≡ r = omega arith in rw (eq-eqb p r e) refl)
    (λ b. ⊎_elim (λ t. rw t.0 refl) (λ t. rw t.0 (children-rows ts r b)) (eqb_tells p r)) (in-head r q (concat_map link_rows (map Link.to
    (children_of ts))) h)

pub within-own_row : (v : SeatView) (t : Tree) (q own : ℕ) → tree_word t ≡ suc q → Reaches v t → Within (own_row t q own v) v
within-own_row v t q own is up = parts v (own_row t q own v) (λ r h. old-refs v r (without_tree-in r q v.refs h))
    (λ r h. ⊎_elim (λ a. in-reached v t r up (entry-in t q own r is a)) (λ b. old-owned v r (without-in r q v.owned b))
    (in-append r (entry_rows (q, entry_of t own 0)) (concat_map entry_rows (without q v.owned)) h))

-- an owned row whose new entry has only links to what the seat had
pub within-entry : (v : SeatView) (q : ℕ) (e d : Entry) → find q v.owned ≡ some e → ((r : ℕ) → In r (concat_map link_rows d.links) → In r (rows_of_view v))
    → Within (with_entry q d v) v
within-entry v q e d has links = parts v (with_entry q d v) (old-refs v)
    (λ r h. ⊎_elim (λ a. ⊎_elim (λ (z : q ≡ r). old-owned v r (in-owned v.owned q e r has (rw (eq-eqb q r z) refl))) (links r)
    (in-head r q (concat_map link_rows d.links) a))
    (λ b. old-owned v r (without-in r q v.owned b)) (in-append r (entry_rows (q, d)) (concat_map entry_rows (without q v.owned)) h))

pub has-mono : (r : ℕ) (l m : List ℕ) → (In r l → In r m) → has r l ≤ has r m
has-mono r l m h = joined (mem r l) (mem r m) h
  where
    joined : (a b : Bool) → (a ≡ true → b ≡ true) → cond a 1 0 ≤ cond b 1 0
    joined false b h = omega arith
    joined true true h = omega arith
    joined true false h = absurd (true≢false (sym (h refl)))

pub row_count-mono : (n : ℕ) (w v : SeatView) → Within w v → row_count n w ≤ row_count n v
row_count-mono zero w v h = omega arith
row_count-mono (suc n) w v h = let a = row_count-mono n w v h in let b = has-mono n (rows_of_view w) (rows_of_view v) (h n) in omega arith

pub within-links : (v : SeatView) (q : ℕ) (e : Entry) → find q v.owned ≡ some e → (r : ℕ) → In r (concat_map link_rows e.links) → In r (rows_of_view v)
within-links v q e has r h = old-owned v r (in-owned v.owned q e r has (⊎_elim (λ t. rw t.0 refl) (λ t. rw t.0 h) (eqb_tells q r)))

-- the links after one of them has changed
set-links : (ls : List Link) (k : ℕ) (l : Link) (r : ℕ) → In r (concat_map link_rows (set ls k l)) → In r (link_rows l) ⊎ In r (concat_map link_rows ls)
set-links [] k l r h = inr h
set-links (m ∷ ms) zero l r h = ⊎_elim (λ a. inl a) (λ b. inr (in-right r (link_rows m) (concat_map link_rows ms) b))
    (in-append r (link_rows l) (concat_map link_rows ms) h)
set-links (m ∷ ms) (suc k) l r h = ⊎_elim (λ a. inr (in-left r (link_rows m) (concat_map link_rows ms) a))
    (λ b. ⊎_elim (λ c. inl c) (λ c. inr (in-right r (link_rows m) (concat_map link_rows ms) c)) (set-links ms k l r b))
    (in-append r (link_rows m) (concat_map link_rows (set ms k l)) h)

with_old_target-in : (t : Tree) (ts : List Tree) (r : ℕ) → In r (concat_map rows_in (with_old_target t ts)) → In r (rows_in t) ⊎ In r (concat_map rows_in ts)
with_old_target-in nil ts r h = inr h
with_old_target-in (row q ws ks) ts r h = in-append r (rows_in (row q ws ks)) (concat_map rows_in ts) h

without_target-in : (t : Tree) (ts : List Tree) (r : ℕ) → In r (concat_map rows_in (without_target t ts)) → In r (concat_map rows_in ts)
without_target-in nil ts r h = h
without_target-in (row q ws ks) ts r h = without_tree-in r q ts h

target-in : (v : SeatView) (goal : Tree) (b r : ℕ) → (0 < tree_word goal → get_elem? v.refs b ≡ some goal) → In r (rows_in goal) → In r (rows_of_view v)
target-in v nil b r ref h = absurd (true≢false (sym h))
target-in v (row q ws ks) b r ref h = in-reached v (row q ws ks) r (by_ref b (ref (omega arith))) h

pub within-linked : (v : SeatView) (q : ℕ) (e : Entry) (k b : ℕ) (from goal : Tree) → find q v.owned ≡ some e → get_elem? e.links k ≡ some (Link.to from)
    → (0 < tree_word goal → get_elem? v.refs b ≡ some goal)
    → Within (relinked q e k from goal v) v
within-linked v q e k b from goal has is ref = parts v (relinked q e k from goal v)
    (λ r h. ⊎_elim (λ a. in-reached v from r (by_link q e k has is) a) (λ c. old-refs v r (without_target-in goal v.refs r c)) (with_old_target-in from
    (without_target goal v.refs) r h))
    (λ r h. ⊎_elim
    (λ a. ⊎_elim (λ (z : q ≡ r). old-owned v r (in-owned v.owned q e r has (rw (eq-eqb q r z) refl)))
    (λ c. ⊎_elim (target-in v goal b r ref) (within-links v q e has r) (set-links e.links k (Link.to goal) r c))
    (in-head r q (concat_map link_rows (set e.links k (Link.to goal))) a))
    (λ c. old-owned v r (without-in r q v.owned c)) (in-append r (entry_rows (q, with_link k (Link.to goal) e)) (concat_map entry_rows
    (without q v.owned)) h))

-- an owned row that goes live has its own row, and what its links name
tree-in : (t : Tree) (q r : ℕ) (us : List Tree) → tree_word t ≡ suc q → children t ≡ us → In r (rows_in t)
    → (q ≡ r) ⊎ In r (concat_map link_rows (map Link.to us))
tree-in nil q r us is beneath h = absurd (omega arith)
tree-in (row p ws ts) q r us is beneath h = ⊎_elim (λ (z : p ≡ r). inl (omega arith))
    (λ b. inr (subst (λ us. In r (concat_map link_rows (map Link.to us))) beneath (rows-children ts r b))) (in-head r p (rows_of ts) h)
  where
    rows-children : (ts : Trees) (r : ℕ) → In r (rows_of ts) → In r (concat_map link_rows (map Link.to (children_of ts)))
    rows-children no_trees r h = h
    rows-children (next t ts) r h = ⊎_elim (λ a. in-left r (rows_in t) (concat_map link_rows (map Link.to (children_of ts))) a)
        (λ b. in-right r (rows_in t) (concat_map link_rows (map Link.to (children_of ts))) (rows-children ts r b)) (in-append r (rows_in t) (rows_of ts) h)

pub within-published : (v : SeatView) (q : ℕ) (e : Entry) (us : List Tree) (t : Tree) → find q v.owned ≡ some e → e.links ≡ map Link.to us → Becomes q e us t
    → Within (published q t v) v
within-published v q e us t has links b = parts v (published q t v)
    (λ r h. ⊎_elim (λ a. ⊎_elim (λ (z : q ≡ r). old-owned v r (in-owned v.owned q e r has (rw (eq-eqb q r z) refl)))
    (λ c. within-links v q e has r (subst (λ ls. In r (concat_map link_rows ls)) (sym links) c)) (tree-in t q r us b.here b.below a)) (old-refs v r)
    (in-append r (rows_in t) (concat_map rows_in v.refs) h))
    (λ r h. old-owned v r (without-in r q v.owned h))

-- the entry of a live row that a seat reaches, once it is owned
pub within-own_linked_row : (v : SeatView) (t : Tree) (r q k : ℕ) (d : Entry) → tree_word t ≡ suc r → find q v.owned ≡ some d
    → get_elem? d.links k ≡ some (Link.to t)
    → Within (own_linked_row t r q k d v) v
within-own_linked_row v t r q k d is_r has is = parts v (own_linked_row t r q k d v) (old-refs v)
    (λ p h. ⊎_elim
    (λ a. ⊎_elim (λ (z : q ≡ p). old-owned v p (in-owned v.owned q d p has (rw (eq-eqb q p z) refl)))
    (λ b. ⊎_elim (λ o. absurd (true≢false (sym o))) (within-links v q d has p) (set-links d.links k (Link.own r) p b))
    (in-head p q (concat_map link_rows (set d.links k (Link.own r))) a))
    (λ b. ⊎_elim (λ a. in-reached v t p (by_link q d k has is) (entry-in t r 0 p is_r a)) (λ c. old-owned v p (without-in p r v.owned c))
    (in-append p (entry_rows (r, entry_of t 0 1)) (concat_map entry_rows (without r v.owned)) (without-in p q (put r (entry_of t 0 1) v.owned) b)))
    (in-append p (entry_rows (q, with_link k (Link.own r) d)) (concat_map entry_rows (without q (put r (entry_of t 0 1) v.owned))) h))

pub within-published_by_link : (v : SeatView) (r : ℕ) (e : Entry) (us : List Tree) (t : Tree) (q k : ℕ) (d : Entry) → find r v.owned ≡ some e
    → e.links ≡ map Link.to us → Becomes r e us t → find q v.owned ≡ some d → Within (published_by_link r t q k d v) v
within-published_by_link v r e us t q k d has links b has_q = parts v (published_by_link r t q k d v) (old-refs v)
    (λ p h. ⊎_elim
    (λ a. ⊎_elim (λ (z : q ≡ p). old-owned v p (in-owned v.owned q d p has_q (rw (eq-eqb q p z) refl)))
    (λ c. ⊎_elim
    (λ o. ⊎_elim (λ (z : r ≡ p). old-owned v p (in-owned v.owned r e p has (rw (eq-eqb r p z) refl)))
    (λ u. within-links v r e has p (subst (λ ls. In p (concat_map link_rows ls)) (sym links) u)) (tree-in t r p us b.here b.below o))
    (within-links v q d has_q p) (set-links d.links k (Link.to t) p c)) (in-head p q (concat_map link_rows (set d.links k (Link.to t))) a))
    (λ c. old-owned v p (without-in p r v.owned (without-in p q (without r v.owned) c)))
    (in-append p (entry_rows (q, with_link k (Link.to t) d)) (concat_map entry_rows (without q (without r v.owned))) h))
