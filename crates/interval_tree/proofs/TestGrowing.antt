-- What the tests' calls do to what a seat has.
use Rattle.std.proofs.Common.{◌≡◌, ◌≢◌, ⊎_elim, ℕ, suc, ◌+◌, ◌<◌, ◌≤◌, true, true≢false, List, [], ◌∷◌, ◌++◌, length, ap, sym, refl, ◌∙◌, subst, arith}
use Rattle.std.specs.Prelude.{Option, Some, None}
use mathlib.Core.Option.{some, some-injective}
use Rattle.std.specs.Ordering.{nat_cmp, ordering_then}
use Rattle.std.specs.declared.cmp.Ordering.{Ordering}
use Rattle.std.specs.declared.cmp.Ordering.TheVariants.{Less, Equal, Greater}
use Rattle.std.proofs.lemmas.Bool.Decides.{nat_tests}
use Rattle.span_key.specs.Spans.{key_cmp}
use Rattle.atomic_table.specs.Seated.{TableId}
use Rattle.row_pool.proofs.Chains.{chain-on, mem-here, mem-left, mem-or, mem-right, strung-apart}
use Rattle.row_pool.proofs.NewestRef.{tree_of-first, without_tree-first}
use Rattle.row_pool.proofs.Seats.{same_or}
use Rattle.row_pool.proofs.Splits.{without_tree-shorter}
use Rattle.row_pool.specs.Chains.{ChainGrows, IsChain, IsFreeRow}
use Rattle.row_pool.specs.Changes.{HasRefs, tree_of, with_ref, without_tree, without_trees}
use Rattle.row_pool.specs.Lists.{find, mem}
use Rattle.row_pool.specs.SeatState.{OnlyEntryChanges, SeatState}
use Rattle.row_pool.specs.SeatView.{SeatView}
use Rattle.row_pool.specs.Trees.{Entry, Tree as Row, tree_word}
use Rattle.interval_tree.specs.declared.tree.Tree.{Tree}
use Rattle.row_pool.specs.declared.chain.Chain.{Chain}
use Rattle.latch_item.specs.Items.{IsItemOf, Item, OwnsItem, item_cmp, item_of}
use Rattle.latch_item.specs.Shape.{Each, IsTree, RefersTo}
use Rattle.latch_item.proofs.Rows.{item-is}
use Rattle.interval_tree.proofs.Lists.{each-back, each-front, each-join, each-map}
use Rattle.interval_tree.specs.Held.{Spends}
use Rattle.interval_tree.specs.Nodes.{Inserted}
use Rattle.interval_tree.specs.TestTrees.{Growing}
use Rattle.row_pool.specs.TestSeats.{Holding}
use Rattle.interval_tree.specs.Trees.{IsNewItem, Keeps, beside, other_refs, root_of}

-- ---- items of different requests are at different places
then-equal : (o p : Ordering) → ordering_then o p ≡ Equal → p ≡ Equal
then-equal Less p e = cc
then-equal Equal p e = e
then-equal Greater p e = cc

then-first : (o p : Ordering) → ordering_then o p ≡ Equal → o ≡ Equal
then-first Less p e = e
then-first Equal p e = refl
then-first Greater p e = e

nat-equal : (m n : ℕ) → nat_cmp m n ≡ Equal → m ≡ n
nat-equal m n e = grind (arith, nat_tests)

ids-differ : (x y : Item) → x.id ≢ y.id → item_cmp x y ≢ Equal
ids-differ x y ne e = ne (nat-equal x.id y.id (then-first (nat_cmp x.id y.id) (nat_cmp x.place y.place)
    (then-equal (key_cmp x.span.1 y.span.1) (ordering_then (nat_cmp x.id y.id) (nat_cmp x.place y.place))
    (then-equal (key_cmp x.span.0 y.span.0)
    (ordering_then (key_cmp x.span.1 y.span.1) (ordering_then (nat_cmp x.id y.id) (nat_cmp x.place y.place))) e))))

-- ---- what depends on the references alone
pub keeps-refs : (v w : SeatView) (t : Tree) (xs : List Row) → w.refs ≡ v.refs → Keeps v t xs → Keeps w t xs
keeps-refs v w t xs is k = record { refers = go t.root k.refers; many = k.many; low = k.low }
  where
    go : (root : Option ℕ) → RefersTo v root t.height xs → RefersTo w root t.height xs
    go None r = r
    go (Some root) r = subst (λ ts. (tree_word (tree_of root ts) ≡ suc root) × IsTree (tree_of root ts) t.height xs) (sym is) r

has-length : (rs : List ℕ) (ts : List Row) → HasRefs rs ts → without_trees rs ts ≡ [] → length ts ≡ length rs
has-length [] ts h e = ap length e
has-length (r ∷ rs) ts h e = let a = has-length rs (without_tree r ts) h.1 e in let b = without_tree-shorter r ts h.0 in omega arith

pub refs-few : (v : SeatView) (t : Tree) (xs : List Row) (roots : List ℕ) → Keeps v t xs → HasRefs roots (other_refs t v.refs)
    → without_trees roots (other_refs t v.refs) ≡ [] → length v.refs ≤ suc (length roots)
refs-few v t xs roots k h e = go t.root k.refers h e
  where
    go : (root : Option ℕ) → RefersTo v root t.height xs → HasRefs roots (beside root v.refs) → without_trees roots (beside root v.refs) ≡ []
        → length v.refs ≤ suc (length roots)
    go None r h e = let a = has-length roots v.refs h e in omega arith
    go (Some root) r h e = let a = has-length roots (without_tree root v.refs) h e in let b = without_tree-shorter root v.refs r.0 in omega arith

-- ---- an item is added
-- the row that comes out of the chain
pub first-row : (c : Chain) (v : SeatView) (rows : List ℕ) (len : ℕ) → IsChain v c rows → len ≡ length rows → 8 ≤ len
    → (r : ℕ) × (rs : List ℕ) × (rows ≡ r ∷ rs) × (7 ≤ length rs)
first-row c v [] len h is low = absurd (omega arith)
first-row c v (r ∷ rs) len h is low = (r, rs, refl, omega arith)

-- the item that was written
pub record Written (v w : SeatView) (tree : Tree) (c : Chain) (row : ℕ) (x : Item) (items : List Row) (rs : List ℕ) : Type 0 where
  pub keeps : Keeps w tree items
  pub new : IsNewItem w row x items
  pub chain : IsChain w c rs
  pub all : (q : ℕ) (e : Entry) → find q w.owned ≡ some e → mem q (row ∷ rs) ≡ true
  pub refs : w.refs ≡ v.refs

pub item-written : (v w : SeatView) (tree : Tree) (c d : Chain) (row r : ℕ) (x : Item) (items : List Row) (rs : List ℕ) (n : ℕ) → Keeps v tree items
    → Each (λ y. (item_of y).id < n) items → x.id ≡ n → row ≡ r → IsChain v c (r ∷ rs) → IsChain v d rs
    → (e : Entry) × (next : ℕ) × (find row v.owned ≡ some e) × IsFreeRow e next → OnlyEntryChanges row v w → OwnsItem w row x
    → ((e : Entry) → find row v.owned ≡ some e → (f : Entry) × (find row w.owned ≡ some f) × (f.own ≡ e.own) × (f.linked ≡ e.linked))
    → ((q : ℕ) (e : Entry) → find q v.owned ≡ some e → mem q (r ∷ rs) ≡ true) → Written v w tree d row x items rs
item-written v w tree c d row r x items rs n keeps ids is at whole rest (e, next, has, free) only owns counts all =
    let (f, here, own, linked) = counts e has in
    let same = ap (λ (e : Entry). e.linked) (some-injective owns.entry f (sym owns.has ∙ here)) in
    record {
      keeps = keeps-refs v w tree items only.refs keeps;
      new = record {
        owns = owns;
        unlinked = (let a = free.uncounted in omega arith);
        differs = each-map items (λ y low. ids-differ (item_of y) x (λ z. let a = low in omega arith)) ids;
      };
      chain = chain-on v w d rs (λ q m. only.others q (λ z. true≢false (sym m ∙ ap (λ k. mem k rs) (z ∙ at) ∙ strung-apart v r rs c.head whole.linked_from)))
          rest;
      all = λ q g there. ⊎_elim (λ (z : q ≡ row). subst (λ k. mem q (k ∷ rs) ≡ true) z (mem-here q rs))
          (λ (ne : q ≢ row). subst (λ k. mem q (k ∷ rs) ≡ true) (sym at) (all q g (sym (only.others q ne) ∙ there))) (same_or q row);
      refs = only.refs;
    }

-- the tree has grown
pub added : (pool : TableId) (s z : SeatState) (w : SeatView) (tree new : Tree) (c d : Chain) (row n : ℕ) (x : Item) (items ys : List Row) (it : Row)
    (rs roots : List ℕ)
    → z.table ≡ pool → s.view.number ≡ 1 → s.view.out ≡ [] → Each (λ y. (item_of y).id < n) items → HasRefs roots (other_refs tree s.view.refs)
    → without_trees roots (other_refs tree s.view.refs) ≡ [] → w.number ≡ s.view.number → w.out ≡ s.view.out → Written s.view w tree c row x items rs
    → x.id ≡ n → IsItemOf it x → Inserted it items ys → Keeps z.view new ys → other_refs new z.view.refs ≡ other_refs tree w.refs
    → Spends 7 (row ∷ []) [] rs w z.view d → Growing pool z d new (n + 1) roots
added pool s z w tree new c d row n x items ys it rs roots table first alone ids shots no_more num out o is latch more keeps others sp = record {
  table = table;
  first = sp.frame.same_seat.number ∙ num ∙ first;
  alone = sp.frame.same_seat.out ∙ out ∙ alone;
  items = ys;
  keeps = keeps;
  ids = subst (Each (λ y. (item_of y).id < n + 1)) (sym more.new)
      (let all = each-map items (λ y low. raise (item_of y).id low) ids in let split = subst (Each (λ y. (item_of y).id < n + 1)) more.old all in
      each-join (λ y. (item_of y).id < n + 1) more.front (it ∷ more.back) (each-front (λ y. (item_of y).id < n + 1) more.front more.back split)
      ((let a = ap (λ (y : Item). y.id) (item-is it x latch) in omega arith), each-back (λ y. (item_of y).id < n + 1) more.front more.back split));
  shots = subst (HasRefs roots) (sym refs) shots;
  no_more = ap (without_trees roots) refs ∙ no_more;
  rows = sp.left;
  chain = sp.chain;
  all = λ q e has. ⊎_elim (λ m. m) (λ m. let b = sp.frame.only q e (m, has) in absurd (true≢false (sym (o.all q e b.1) ∙ b.0))) (mem-or q sp.left);
}
  where
    raise : (k : ℕ) → k < n → k < n + 1
    raise k low = omega arith

    refs : other_refs new z.view.refs ≡ other_refs tree s.view.refs
    refs = others ∙ ap (other_refs tree) o.refs

-- more may be added later
pub growing-more : (pool : TableId) (s : SeatState) (c : Chain) (t : Tree) (n : ℕ) (roots : List ℕ) → Growing pool s c t n roots
    → Growing pool s c t (n + 1) roots
growing-more pool s c t n roots g = record {
  table = g.table;
  first = g.first;
  alone = g.alone;
  items = g.items;
  keeps = g.keeps;
  ids = each-map g.items (λ y low. raise (item_of y).id low) g.ids;
  shots = g.shots;
  no_more = g.no_more;
  rows = g.rows;
  chain = g.chain;
  all = g.all;
}
  where
    raise : (k : ℕ) → k < n → k < n + 1
    raise k low = omega arith

pub growing-same : (pool : TableId) (s z : SeatState) (c : Chain) (t : Tree) (n : ℕ) (roots : List ℕ) → z.table ≡ s.table → z.view ≡ s.view
    → Growing pool s c t n roots → Growing pool z c t n roots
growing-same pool s z c t n roots table view g = record {
  table = table ∙ g.table;
  first = ap (λ (v : SeatView). v.number) view ∙ g.first;
  alone = ap (λ (v : SeatView). v.out) view ∙ g.alone;
  items = g.items;
  keeps = subst (λ v. Keeps v t g.items) (sym view) g.keeps;
  ids = g.ids;
  shots = subst (λ (v : SeatView). HasRefs roots (other_refs t v.refs)) (sym view) g.shots;
  no_more = ap (λ (v : SeatView). without_trees roots (other_refs t v.refs)) view ∙ g.no_more;
  rows = g.rows;
  chain = subst (λ v. IsChain v c g.rows) (sym view) g.chain;
  all = subst (λ (v : SeatView). (q : ℕ) (e : Entry) → find q v.owned ≡ some e → mem q g.rows ≡ true) (sym view) g.all;
}

-- ---- all goes back into the chain
pub all-grows : (v w : SeatView) (c d : Chain) (rs : List ℕ) → ((q : ℕ) (e : Entry) → find q v.owned ≡ some e → mem q rs ≡ true)
    → (g : ChainGrows v w c d) → (q : ℕ) (e : Entry) → find q w.owned ≡ some e → mem q (g.more ++ rs) ≡ true
all-grows v w c d rs all g q e has = ⊎_elim (λ m. mem-left q g.more rs m)
    (λ m. mem-right q g.more rs (all q e (sym (g.owns_more.same q m) ∙ has))) (mem-or q g.more)

pub let-go : (v p a b : SeatView) (c d e : Chain) (tree : Tree) (root : ℕ) (items : List Row) (rows : List ℕ) → Keeps v tree items → tree.root ≡ Some root
    → other_refs tree v.refs ≡ [] → p ≡ with_ref (tree_of root v.refs) v → a.refs ≡ without_tree root p.refs → ChainGrows p a c d
    → b.refs ≡ without_tree root a.refs → ChainGrows a b d e → IsChain v c rows → ((q : ℕ) (x : Entry) → find q v.owned ≡ some x → mem q rows ≡ true)
    → (b.refs ≡ []) × ((rs : List ℕ) × IsChain b e rs × ((q : ℕ) (x : Entry) → find q b.owned ≡ some x → mem q rs ≡ true))
let-go v p a b c d e tree root items rows keeps is no_more hold drop grows drop2 grows2 chain all =
    let r = subst (λ r. RefersTo v r tree.height items) is keeps.refers in
    let first : a.refs ≡ v.refs = drop ∙ ap (λ (z : SeatView). without_tree root z.refs) hold ∙ without_tree-first root (tree_of root v.refs) v.refs r.0 in
    let held = subst (λ (z : SeatView). IsChain z c rows) (sym hold) (chain-on v (with_ref (tree_of root v.refs) v) c rows (λ q m. refl) chain) in
    let all1 = all-grows p a c d rows (subst (λ (z : SeatView). (q : ℕ) (x : Entry) → find q z.owned ≡ some x → mem q rows ≡ true) (sym hold) all) grows in (
      drop2 ∙ ap (without_tree root) first ∙ ap (λ k. beside k v.refs) (sym is) ∙ no_more,
      (grows2.more ++ (grows.more ++ rows), grows2.chain (grows.more ++ rows) (grows.chain rows held), all-grows a b d e (grows.more ++ rows) all1 grows2),
    )

-- what the drops ask for
pub first-dropped : (v p : SeatView) (tree : Tree) (root : ℕ) (items : List Row) → Keeps v tree items → tree.root ≡ Some root
    → p ≡ with_ref (tree_of root v.refs) v → tree_word (tree_of root p.refs) ≡ suc root
first-dropped v p tree root items keeps is hold =
    let r = subst (λ r. RefersTo v r tree.height items) is keeps.refers in
    ap (λ (z : SeatView). tree_word (tree_of root z.refs)) hold ∙ ap tree_word (tree_of-first root (tree_of root v.refs) v.refs r.0) ∙ r.0

pub second-dropped : (v p a : SeatView) (tree : Tree) (root : ℕ) (items : List Row) → Keeps v tree items → tree.root ≡ Some root
    → p ≡ with_ref (tree_of root v.refs) v → a.refs ≡ without_tree root p.refs → tree_word (tree_of root a.refs) ≡ suc root
second-dropped v p a tree root items keeps is hold drop =
    let r = subst (λ r. RefersTo v r tree.height items) is keeps.refers in
    ap (λ ts. tree_word (tree_of root ts)) (drop ∙ ap (λ (z : SeatView). without_tree root z.refs) hold
    ∙ without_tree-first root (tree_of root v.refs) v.refs r.0) ∙ r.0

pub chain-held : (v p : SeatView) (c : Chain) (t : Row) (rows : List ℕ) → p ≡ with_ref t v → IsChain v c rows → IsChain p c rows
chain-held v p c t rows hold chain = subst (λ (z : SeatView). IsChain z c rows) (sym hold) (chain-on v (with_ref t v) c rows (λ q m. refl) chain)

-- ---- a new pool
pub growing-fresh : (pool : TableId) (s : SeatState) (c : Chain) (t : Tree) (rs : List ℕ) → Keeps s.view t [] → root_of t ≡ None → s.view.number ≡ 1
    → s.view.out ≡ [] → Holding pool s c [] rs → Growing pool s c t 0 []
growing-fresh pool s c t rs keeps empty first alone h = record {
  table = h.table;
  first = first;
  alone = alone;
  items = [];
  keeps = keeps;
  ids = tt;
  shots = tt;
  no_more = ap (λ r. beside r s.view.refs) empty ∙ h.refs;
  rows = rs;
  chain = h.chain;
  all = h.all;
}
