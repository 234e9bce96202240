-- What the calls do to a seat that has a tree and one chain.
use Rattle.std.proofs.Common.{◌≡◌, ◌≢◌, ℕ, zero, suc, ◌+◌, ◌<◌, ◌≤◌, Bool, true, false, cond, true≢false, List, [], ◌∷◌, ◌++◌, length, sym, refl, ap}
use Rattle.std.proofs.Common.{◌∙◌, subst, ⊎_elim, eqb, arith}
use Rattle.std.specs.Prelude.{Option, None, Some}
use Rattle.std.specs.Ordering.{nat_cmp, ordering_then}
use Rattle.std.specs.declared.cmp.Ordering.{Ordering}
use Rattle.std.specs.declared.cmp.Ordering.TheVariants.{Less, Equal, Greater}
use Rattle.std.proofs.lemmas.Map.Lookups.{exact_unsigned}
use Rattle.std.proofs.lemmas.Bool.Decides.{eqb_tells}
use mathlib.Core.Option.{some, some-injective}
use Rattle.atomic_table.specs.Seated.{TableId}
use Rattle.span_key.specs.Spans.{key_cmp}
use Rattle.row_pool.specs.Lists.{find, mem}
use Rattle.row_pool.specs.Trees.{Tree as Row, nil, Entry, tree_word}
use Rattle.row_pool.specs.SeatView.{SeatView}
use Rattle.row_pool.specs.SeatState.{SeatState, SameSeat, OnlyEntryChanges}
use Rattle.row_pool.specs.Changes.{fresh, tree_of, without_tree, with_ref}
use Rattle.row_pool.specs.Chains.{IsChain, ChainGrows}
use Rattle.row_pool.specs.declared.chain.Chain.{Chain}
use Rattle.row_pool.proofs.FirstState.{free-at}
use Rattle.row_pool.proofs.NewestRef.{tree_of-first, without_tree-first}
use Rattle.row_pool.proofs.Seats.{same_or}
use Rattle.row_pool.proofs.Chains.{mem-here, mem-or, mem-left, mem-right, chain-on, strung-apart}
use Rattle.latch_item.specs.Items.{Item, OwnsItem, IsItemOf, item_of, item_cmp}
use Rattle.latch_item.specs.Shape.{Each, Stands, IsTree, RefersTo, Refers}
use Rattle.latch_item.specs.declared.shot.Shot.{Shot}
use Rattle.latch_item.proofs.Rows.{item-is}
use Rattle.interval_tree.specs.Held.{Spends}
use Rattle.interval_tree.specs.Nodes.{Inserted}
use Rattle.interval_tree.specs.Trees.{Keeps, IsNewItem, beside, other_refs}
use Rattle.interval_tree.specs.declared.tree.Tree.{Tree}
use Rattle.tree_rows.specs.Planting.{OwnsChain, Planted, IsTwice, Shown, NewItem}

pub owns-fresh : (p : TableId) (s : SeatState) (c : Chain) (n : ℕ) (rs : List ℕ) → s.table ≡ p → s.view ≡ fresh n → IsChain (fresh n) c rs
    → ((q : ℕ) → q < n → mem q rs ≡ true) → OwnsChain p s c rs
owns-fresh p s c n rs table move on all = record {
  table = table;
  chain = chain-on (fresh n) s.view c rs (λ q _. ap (λ (v : SeatView). find q v.owned) move) on;
  all = λ q e f. let o = free-at n 0 n q e (sym (ap (λ (v : SeatView). find q v.owned) move) ∙ f) in all q (let a = o.1 in omega arith);
}

-- the same rows are owned
pub owns-same : (p : TableId) (s n : SeatState) (c : Chain) (rs : List ℕ) → OwnsChain p s c rs → n.table ≡ s.table
    → ((q : ℕ) → find q n.view.owned ≡ find q s.view.owned) → OwnsChain p n c rs
owns-same p s n c rs h table same = record {
  table = table ∙ h.table;
  chain = chain-on s.view n.view c rs (λ q _. same q) h.chain;
  all = λ q e f. h.all q e (sym (same q) ∙ f);
}

-- what is freed goes into the chain
pub owns-grows : (p : TableId) (s n : SeatState) (c d : Chain) (rs : List ℕ) → OwnsChain p s c rs → n.table ≡ s.table → ChainGrows s.view n.view c d
    → (us : List ℕ) × OwnsChain p n d us
owns-grows p s n c d rs h table g = (
  g.more ++ rs,
  record {
    table = table ∙ h.table;
    chain = g.chain rs h.chain;
    all = λ q e f. ⊎_elim (λ m. mem-left q g.more rs m) (λ m. mem-right q g.more rs (h.all q e (sym (g.owns_more.same q m) ∙ f))) (mem-or q g.more);
  },
)

-- the first row of the chain became an item
pub new-item : (p : TableId) (s n : SeatState) (c d : Chain) (rs us : List ℕ) (r id : ℕ) (e : Entry) (x : Item) → OwnsChain p s c rs → rs ≡ r ∷ us
    → IsChain s.view d us → e.own + e.linked ≡ 0 → find r s.view.owned ≡ some e → n.table ≡ s.table → OnlyEntryChanges r s.view n.view
    → OwnsItem n.view r x → x.id ≡ id
    → ((e : Entry) → find r s.view.owned ≡ some e → (d : Entry) × (find r n.view.owned ≡ some d) × (d.own ≡ e.own) × (d.linked ≡ e.linked))
    → NewItem p s n d rs r id
new-item p s n c d rs us r id e x h is on bare has table only owns numbered counts = record {
  left = us;
  many = ap length is;
  table = table ∙ h.table;
  same_seat = only.same_seat;
  refs = only.refs;
  chain = chain-on s.view n.view d us (λ q m. only.others q (λ z. true≢false (sym m ∙ ap (λ q. mem q us) z
      ∙ strung-apart s.view r us c.head (subst (IsChain s.view c) is h.chain).linked_from))) on;
  all = λ q f g. ⊎_elim (λ (z : q ≡ r). subst (λ q. mem q (r ∷ us) ≡ true) (sym z) (mem-here r us))
      (λ ne. subst (λ rs. mem q rs ≡ true) is (h.all q f (sym (only.others q ne) ∙ g))) (same_or q r);
  item = x;
  owns = owns;
  unlinked =
      (let k = counts e has in
      let same : owns.entry ≡ k.0 = some-injective owns.entry k.0 (sym owns.has ∙ k.1) in
      let l : owns.entry.linked ≡ k.0.linked = ap (λ (e : Entry). e.linked) same in
      let m = k.3 in omega arith);
  numbered = numbered;
}

-- ---- lists of items
pub each-weaker : (P Q : Row → Type 0) (xs : List Row) → ((y : Row) → P y → Q y) → Each P xs → Each Q xs
each-weaker P Q [] f h = tt
each-weaker P Q (x ∷ xs) f h = (f x h.0, each-weaker P Q xs f h.1)

each-put : (P : Row → Type 0) (xs ys : List Row) (x : Row) → Each P (xs ++ ys) → P x → Each P (xs ++ x ∷ ys)
each-put P [] ys x h p = (p, h)
each-put P (y ∷ xs) ys x h p = (h.0, each-put P xs ys x h.1 p)

pub each-inserted : (P : Row → Type 0) (x : Row) (xs ys : List Row) → Inserted x xs ys → Each P xs → P x → Each P ys
each-inserted P x xs ys i h p = subst (Each P) (sym i.new) (each-put P i.front i.back x (subst (Each P) i.old h) p)

pub longer : (xs ys : List Row) (x : Row) → length (xs ++ x ∷ ys) ≡ suc (length (xs ++ ys))
longer [] ys x = refl
longer (y ∷ xs) ys x = ap suc (longer xs ys x)

pub length-inserted : (x : Row) (xs ys : List Row) → Inserted x xs ys → length ys ≡ suc (length xs)
length-inserted x xs ys i = ap length i.new ∙ longer i.front i.back x ∙ ap (λ xs. suc (length xs)) (sym i.old)

then-first : (o p : Ordering) → ordering_then o p ≡ Equal → o ≡ Equal
then-first Less p h = h
then-first Equal p h = refl
then-first Greater p h = h

then-second : (o p : Ordering) → ordering_then o p ≡ Equal → p ≡ Equal
then-second Less p h = absurd (less-equal h)
  where
    less-equal : Less ≡ Equal → ⊥
    less-equal h = cc
then-second Equal p h = h
then-second Greater p h = absurd (greater-equal h)
  where
    greater-equal : Greater ≡ Equal → ⊥
    greater-equal h = cc

-- items of different requests are at different places
pub other-place : (y x : Item) → y.id < x.id → item_cmp y x ≢ Equal
other-place y x less h =
    let a = then-second (key_cmp y.span.0 x.span.0) (ordering_then (key_cmp y.span.1 x.span.1) (ordering_then (nat_cmp y.id x.id)
    (nat_cmp y.place x.place))) h in
    let b = then-second (key_cmp y.span.1 x.span.1) (ordering_then (nat_cmp y.id x.id) (nat_cmp y.place x.place)) a in
    let same : y.id ≡ x.id = exact_unsigned y.id x.id (then-first (nat_cmp y.id x.id) (nat_cmp y.place x.place) b) in
    absurd (omega arith)

-- ---- the tree
pub refers-refs : (v w : SeatView) (root : Option ℕ) (height : ℕ) (xs : List Row) → w.refs ≡ v.refs → RefersTo v root height xs → RefersTo w root height xs
refers-refs v w None height xs same h = h
refers-refs v w (Some r) height xs same h = (
  ap (λ ts. tree_word (tree_of r ts)) same ∙ h.0,
  subst (λ t. IsTree t height xs) (ap (tree_of r) (sym same)) h.1,
)

pub keeps-refs : (v w : SeatView) (tree : Tree) (xs : List Row) → w.refs ≡ v.refs → Keeps v tree xs → Keeps w tree xs
keeps-refs v w tree xs same h = record { refers = refers-refs v w tree.root tree.height xs same h.refers; many = h.many; low = h.low }

-- the new item is in no tree
pub is-new : (p : TableId) (s n : SeatState) (c : Chain) (rs : List ℕ) (r id m : ℕ) (xs : List Row) (i : NewItem p s n c rs r id)
    → Each (λ y. (item_of y).id ≤ m) xs → m < id → IsNewItem n.view r i.item xs
is-new p s n c rs r id m xs i ids less = record {
  owns = i.owns;
  unlinked = i.unlinked;
  differs = each-weaker (λ y. (item_of y).id ≤ m) (λ y. item_cmp (item_of y) i.item ≢ Equal) xs
      (λ y low. other-place (item_of y) i.item (let a = i.numbered in omega arith)) ids;
}

-- the tree has the new item
pub planted-more : (p : TableId) (s m n : SeatState) (c d e : Chain) (t u : Tree) (rs : List ℕ) (xs ys : List Row) (k r id : ℕ) (it : Row)
    → Planted p s c t rs xs k → k < id → (i : NewItem p s m d rs r id) → IsItemOf it i.item → Inserted it xs ys → Keeps n.view u ys → n.table ≡ m.table
    → other_refs u n.view.refs ≡ other_refs t m.view.refs → length n.view.refs ≤ length m.view.refs + 1
    → length xs < 8190 → (o : Spends 7 (r ∷ []) [] i.left m.view n.view e) → Planted p n e u o.left ys id
planted-more p s m n c d e t u rs xs ys k r id it h less i is more keeps table refs few short o = record {
  owns = record {
    table = table ∙ i.table;
    chain = o.chain;
    all = λ q f g. ⊎_elim (λ a. a) (λ out. let b = o.frame.only q f (out, g) in absurd (true≢false (sym (i.all q f b.1) ∙ b.0))) (mem-or q o.left);
  };
  keeps = keeps;
  ids = each-inserted (λ y. (item_of y).id ≤ id) it xs ys more
      (each-weaker (λ y. (item_of y).id ≤ k) (λ y. (item_of y).id ≤ id) xs (λ y low. omega arith) h.ids)
      (let a : (item_of it).id ≡ i.item.id = ap (λ (x : Item). x.id) (item-is it i.item is) in let b = i.numbered in omega arith);
  refs = refs ∙ ap (other_refs t) i.refs ∙ h.refs;
  few = (let a = length-inserted it xs ys more in let b = ap length i.refs in let z = h.few in omega arith);
  low = (let a = length-inserted it xs ys more in omega arith);
}

-- a tree with a root has items
pub no-tree : (level : ℕ) (t : Row) → Stands level t [] → ⊥
no-tree zero t h = h.greatest.among
no-tree (suc l) t h = h.greatest.among

-- where all references but that to a root are gone, there is that one alone
pub single : (r : ℕ) (ts : List Row) → tree_word (tree_of r ts) ≡ suc r → without_tree r ts ≡ [] → (u : Row) × (ts ≡ u ∷ []) × (tree_word u ≡ suc r)
single r [] h e = absurd (omega arith)
single r (t ∷ ts) h e = ⊎_elim (λ b. (t, ap (λ ts. t ∷ ts) (rw b.0 at e), b.1)) (λ b. absurd (cons-nil t (without_tree r ts) (rw b.0 at e)))
    (eqb_tells (tree_word t) (suc r))
  where
    cons-nil : (t : Row) (ts : List Row) → t ∷ ts ≡ [] → ⊥
    cons-nil t ts h = cc

nothing : (b : Bool) → tree_word (cond b nil nil) ≡ 0
nothing true = refl
nothing false = refl

-- a root that isn't found
missing : (q : ℕ) (u : Row) → eqb (tree_word u) (suc q) ≡ false → tree_word (tree_of q (tree_of q (u ∷ []) ∷ u ∷ [])) ≡ 0
missing q u h = rw h (nothing (eqb 0 (suc q)))

pub twice : (root r : Option ℕ) (v w : SeatView) (height high : ℕ) (xs : List Row) → RefersTo v root height xs → beside root v.refs ≡ []
    → RefersTo w r high xs → ((q : ℕ) → r ≡ Some q → w ≡ with_ref (tree_of q v.refs) v) → (r ≡ None → w ≡ v) → IsTwice r w.refs
twice None None v w height high xs h e g held same = ap (λ (v : SeatView). v.refs) (same refl) ∙ e
twice None (Some q) v w height high xs h e g held same =
    let refs : w.refs ≡ nil ∷ [] = ap (λ (v : SeatView). v.refs) (held q refl) ∙ ap (λ ts. tree_of q ts ∷ ts) e in
    let z : 0 ≡ suc q = sym (nothing (eqb 0 (suc q))) ∙ sym (ap (λ ts. tree_word (tree_of q ts)) refs) ∙ g.0 in absurd (omega arith)
twice (Some p) None v w height high xs h e g held same =
    absurd (no-tree h.1.level (tree_of p v.refs) (subst (Stands h.1.level (tree_of p v.refs)) g h.1.stands))
twice (Some p) (Some q) v w height high xs h e g held same =
    let o = single p v.refs h.0 e in
    let refs : w.refs ≡ tree_of q (o.0 ∷ []) ∷ o.0 ∷ [] = ap (λ (v : SeatView). v.refs) (held q refl) ∙ ap (λ ts. tree_of q ts ∷ ts) o.1 in
    ⊎_elim
    (λ b. (
      o.0,
      o.0 ∷ [],
      refs ∙ ap (λ t. t ∷ o.0 ∷ []) (tree_of-first q o.0 [] b.1),
      b.1,
      ap tree_word (tree_of-first q o.0 [] b.1) ∙ b.1,
      without_tree-first q o.0 [] b.1,
    ))
    (λ b. let z : 0 ≡ suc q = sym (missing q o.0 b.0) ∙ sym (ap (λ ts. tree_word (tree_of q ts)) refs) ∙ g.0 in absurd (omega arith))
    (eqb_tells (tree_word o.0) (suc q))

-- a snapshot leaves what is owned
pub record SeatKept (v w : SeatView) : Type 0 where
  pub owned : (q : ℕ) → find q w.owned ≡ find q v.owned
  pub same_seat : SameSeat v w

pub seat-kept : (v w : SeatView) (r : Option ℕ) → ((q : ℕ) → r ≡ Some q → w ≡ with_ref (tree_of q v.refs) v) → (r ≡ None → w ≡ v) → SeatKept v w
seat-kept v w None held same =
    let e = same refl in
    record {
      owned = λ q. ap (λ (v : SeatView). find q v.owned) e;
      same_seat = record { number = ap (λ (v : SeatView). v.number) e; out = ap (λ (v : SeatView). v.out) e; size = ap (λ (v : SeatView). v.size) e };
    }
seat-kept v w (Some p) held same =
    let e = held p refl in
    record {
      owned = λ q. ap (λ (v : SeatView). find q v.owned) e;
      same_seat = record { number = ap (λ (v : SeatView). v.number) e; out = ap (λ (v : SeatView). v.out) e; size = ap (λ (v : SeatView). v.size) e };
    }

-- the references to a root, given up one after the other
pub first-ref : (q : ℕ) (ts : List Row) → IsTwice (Some q) ts → tree_word (tree_of q ts) ≡ suc q
first-ref q ts h = ap (λ ts. tree_word (tree_of q ts)) h.2 ∙ ap tree_word (tree_of-first q h.0 h.1 h.3) ∙ h.3

one-less : (q : ℕ) (ts : List Row) (h : IsTwice (Some q) ts) → without_tree q ts ≡ h.1
one-less q ts h = ap (without_tree q) h.2 ∙ without_tree-first q h.0 h.1 h.3

pub second-ref : (q : ℕ) (ts us : List Row) → IsTwice (Some q) ts → us ≡ without_tree q ts → tree_word (tree_of q us) ≡ suc q
second-ref q ts us h less = ap (λ ts. tree_word (tree_of q ts)) (less ∙ one-less q ts h) ∙ h.4

pub no-ref : (q : ℕ) (ts us vs : List Row) → IsTwice (Some q) ts → us ≡ without_tree q ts → vs ≡ without_tree q us → vs ≡ []
no-ref q ts us vs h less less' = less' ∙ ap (without_tree q) (less ∙ one-less q ts h) ∙ h.5

pub is-twice : (root : Option ℕ) (q : ℕ) (ts : List Row) → root ≡ Some q → IsTwice root ts → IsTwice (Some q) ts
is-twice root q ts is h = subst (λ r. IsTwice r ts) is h

pub beside-none : (root : Option ℕ) (ts : List Row) → ts ≡ [] → beside root ts ≡ []
beside-none None ts h = h
beside-none (Some r) ts h = ap (without_tree r) h

-- a tree without items
pub planted-none : (p : TableId) (s : SeatState) (c : Chain) (t : Tree) (rs : List ℕ) → OwnsChain p s c rs → s.view.refs ≡ [] → Keeps s.view t []
    → Planted p s c t rs [] 0
planted-none p s c t rs h refs keeps = record {
  owns = h;
  keeps = keeps;
  ids = tt;
  refs = beside-none t.root s.view.refs refs;
  few = (let a = ap length refs in omega arith);
  low = omega arith;
}

-- a shot stays where the view does
pub shown-same : (p : TableId) (s n : SeatState) (c : Chain) (shot : Shot) (rs : List ℕ) (xs : List Row) → Shown p s c shot rs xs → n.table ≡ s.table
    → n.view ≡ s.view → Shown p n c shot rs xs
shown-same p s n c shot rs xs h table same = record {
  owns = owns-same p s n c rs h.owns table (λ q. ap (λ (v : SeatView). find q v.owned) same);
  refers = subst (λ v. Refers v shot xs) (sym same) h.refers;
  twice = subst (λ (v : SeatView). IsTwice shot.root v.refs) (sym same) h.twice;
}
