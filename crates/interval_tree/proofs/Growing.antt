-- A tree of any size gets an item.
use Rattle.std.proofs.Common.{◌≡◌, ◌≢◌, ℕ, suc, ◌+◌, ◌*◌, ◌<◌, ◌≤◌, ◌^◌, List, [], ◌∷◌, ◌++◌, length, length-append, replicate, ap, sym, refl, subst, ◌∙◌}
use Rattle.std.proofs.Common.{ne_eqb, ⊎_elim, inl, arith}
use Rattle.std.specs.declared.cmp.Ordering.TheVariants.{Equal}
use Rattle.std.specs.Prelude.{Option, Some, None}
use mathlib.Core.Option.{some, some-ne-none, some-injective}
use Rattle.row_pool.proofs.Chains.{chain-aside}
use Rattle.row_pool.proofs.NewestRef.{tree_of-first, without_tree-first}
use Rattle.row_pool.proofs.Seats.{same_or}
use Rattle.row_pool.proofs.Splits.{tree_of-at}
use Rattle.row_pool.proofs.Sums.{find-else, find-without, without_tree-length}
use Rattle.row_pool.specs.Chains.{IsChain}
use Rattle.row_pool.specs.Changes.{Becomes, published, tree_of, with_ref, without_tree}
use Rattle.row_pool.specs.Lists.{find}
use Rattle.row_pool.specs.SeatView.{SeatView}
use Rattle.row_pool.specs.Trees.{Entry, Tree, children, nil, tree_word}
use Rattle.row_pool.specs.Views.{Reaches, ViewInvariant, by_ref}
use Rattle.row_pool.specs.declared.chain.Chain.{Chain}
use Rattle.latch_item.proofs.Rows.{item-is, latch as latch-of, lives}
use Rattle.latch_item.specs.Items.{IsLatch, Item, OwnsItem, item_cmp, item_of, word}
use Rattle.latch_item.specs.Shape.{Each, IsTree, Kid, Node, Pairs, RefersTo, Sorted, Stands, weave}
use Rattle.interval_tree.proofs.Frames.{frame-leaves}
use Rattle.interval_tree.proofs.Lists.{bound-self, inserted-sorted}
use Rattle.interval_tree.specs.Held.{OthersStand, OwnsNode, Spends}
use Rattle.interval_tree.specs.Nodes.{Inserted}
use Rattle.interval_tree.specs.States.{Coming, Entering, Grown, Ready, RootNode, Standing}
use Rattle.interval_tree.specs.Steps.{WentLive}
use Rattle.interval_tree.specs.Trees.{IsNewItem, beside}

-- ---- a full root of level 2 has more than 8,190 items below it
weave-long : (m : ℕ) (Sub : ℕ → ℕ → List Tree → List Tree → Type 0) → ((c : Tree) (ys : List Tree) → Kid Sub c ys → m ≤ length ys)
    → (its cs : List Tree) (yss : List (List Tree)) → length cs ≡ suc (length its) → Pairs (Kid Sub) cs yss
    → length its + m * length cs ≤ length (weave its yss)
weave-long m Sub f its [] yss e p = absurd (omega arith)
weave-long m Sub f its (c ∷ cs) [] e p = absurd p
weave-long m Sub f [] (c ∷ []) (ys ∷ []) e p = let a = f c ys p.0 in omega arith
weave-long m Sub f [] (c ∷ []) (ys ∷ zs ∷ yss) e p = absurd p.1
weave-long m Sub f [] (c ∷ d ∷ cs) (ys ∷ yss) e p = absurd (omega arith)
weave-long m Sub f (x ∷ its) (c ∷ cs) (ys ∷ yss) e p = let a = f c ys p.0 in let b = weave-long m Sub f its cs yss
    (omega arith) p.1 in let l = length-append ys (x ∷ weave its yss) in step m (length cs) (length its) (length ys) (length (weave its yss)) a b l
  where
    step : (m k i y w : ℕ) → m ≤ y → i + m * k ≤ w → length (ys ++ x ∷ weave its yss) ≡ y + suc w → suc i + m * suc k ≤ length (ys ++ x ∷ weave its yss)
    step m k i y w a b l = let e : m * suc k ≡ m + m * k = omega arith in omega arith

leaf-long : (c : Tree) (ys : List Tree) → Kid (Node 0) c ys → 15 ≤ length ys
leaf-long c ys k = let a = k.least in let b = k.node.spread.count in omega arith

inner-long : (c : Tree) (ys : List Tree) → Kid (Node 1) c ys → 255 ≤ length ys
inner-long c ys k =
    let o = k.node in
    let a = weave-long 15 (Node 0) leaf-long o.its o.cs o.yss (let x = o.one_more in let y = o.spread.count in omega arith) o.below in
    let b = ap length o.list in let d = o.one_more in let e = k.least in let f = o.spread.count in omega arith

full-long : (kind : ℕ) (us xs : List Tree) → Node 2 kind 31 us xs → 8191 ≤ length xs
full-long kind us xs o =
    let a = weave-long 255 (Node 1) inner-long o.its o.cs o.yss (let x = o.one_more in let y = o.spread.count in omega arith) o.below in
    let b = ap length o.list in let d = o.one_more in let f = o.spread.count in omega arith

-- a full root of so few items is no higher than level 1
pub full-low : (h kind : ℕ) (us xs : List Tree) → Node h kind 31 us xs → h ≤ 2 → length xs < 8190 → h ≤ 1
full-low h kind us xs n low few = ⊎_elim (λ (e : h ≡ 2). absurd (let a = full-long kind us xs (subst (λ h. Node h kind 31 us xs) e n) in omega arith))
    (λ (ne : h ≢ 2). omega arith) (same_or h 2)

-- ---- the root is owned
past : (root item : ℕ) (it : Tree) (rest : List Tree) → tree_word it ≡ suc item → item ≢ root
    → (tree_of root (it ∷ rest) ≡ tree_of root rest) × (without_tree root (it ∷ rest) ≡ it ∷ without_tree root rest)
past root item it rest here apart =
    let n : tree_word it ≢ suc root = λ e. apart (omega arith) in (rw (ne_eqb (tree_word it) (suc root) n), rw (ne_eqb (tree_word it) (suc root) n))

pub coming-root : (h : ℕ) (v : SeatView) (root item : ℕ) (xs : List Tree) (it : Tree) (rest : List Tree) → Coming h v root item xs it rest
    → tree_of root v.refs ≡ tree_of root rest
coming-root h v root item xs it rest p = ap (tree_of root) p.refs ∙ (past root item it rest p.here p.apart).0

pub coming-refs : (h : ℕ) (v : SeatView) (root item : ℕ) (xs : List Tree) (it : Tree) (rest : List Tree) → Coming h v root item xs it rest
    → without_tree root v.refs ≡ it ∷ without_tree root rest
coming-refs h v root item xs it rest p = ap (without_tree root) p.refs ∙ (past root item it rest p.here p.apart).1

pub coming-node : (h : ℕ) (v : SeatView) (root item : ℕ) (xs : List Tree) (it : Tree) (rest : List Tree) → Coming h v root item xs it rest
    → (h : ℕ) × (xs : List Tree) × (tree_word (tree_of root v.refs) ≡ suc root) × Stands h (tree_of root v.refs) xs
coming-node h v root item xs it rest p =
    let e = sym (coming-root h v root item xs it rest p) in (h, xs, subst (λ t. tree_word t ≡ suc root) e p.root_is, subst (λ t. Stands h t xs) e p.stands)

pub owned-root : (h : ℕ) (v w : SeatView) (root item node : ℕ) (xs : List Tree) (it : Tree) (rest : List Tree) → Coming h v root item xs it rest
    → OwnsNode w node (word (tree_of root v.refs) 1) (word (tree_of root v.refs) 2) (children (tree_of root v.refs)) → RootNode h w node xs
owned-root h v w root item node xs it rest p o =
    let t : Tree = tree_of root rest in
    record {
      kind = word t 1;
      many = word t 2;
      us = children t;
      owns = subst (λ (t : Tree). OwnsNode w node (word t 1) (word t 2) (children t)) (coming-root h v root item xs it rest p) o;
      node = p.stands;
      some_items = p.some_items;
    }

less-refs : (root : ℕ) (rest : List Tree) → length rest < 2 ^ 31 → length (without_tree root rest) < 2 ^ 31
less-refs root rest low = let a = without_tree-length root rest in omega arith

pub root-ready : (h level : ℕ) (v w : SeatView) (root item node : ℕ) (xs : List Tree) (it : Tree) (rest : List Tree) → Coming h v root item xs it rest
    → (o : RootNode level w node xs) → o.many < 31 → w.refs ≡ without_tree root v.refs
    → Ready level w node item o.kind o.many o.us xs it (without_tree root rest)
root-ready h level v w root item node xs it rest p o low refs = record {
  owns = o.owns;
  node = o.node;
  room = low;
  sorted = p.sorted;
  differs = p.differs;
  latch = p.latch;
  here = p.here;
  refs = refs ∙ coming-refs h v root item xs it rest p;
  few = less-refs root rest p.few;
}

-- the tree once the root is live
pub stands-up : (level : ℕ) (d x : SeatView) (node kind n : ℕ) (xs ys : List Tree) (it : Tree) (rest : List Tree) → level ≤ 2 → 1 ≤ n → Sorted xs
    → (g : Grown level d node kind n xs it rest) → WentLive d x node kind g.many g.us → Standing x node (level + 1) g.ys rest
stands-up level d x node kind n xs ys it rest low some_items sorted g l = record {
  tree = l.tree;
  here = l.is.here;
  is = record {
    level = level;
    levels = omega arith;
    low = low;
    stands = subst (λ (z : ℕ × (ℕ × List Tree)). Node level z.0 z.1.0 z.1.1 g.ys) (λ i. (sym l.is.kind_is i, (sym l.is.count i, sym l.is.links i))) g.node;
    some_items = (let a = l.is.count in let b = g.least in omega arith);
    sorted = inserted-sorted it xs g.ys g.more sorted;
  };
  refs = l.refs ∙ ap (λ ts. l.tree ∷ ts) g.refs;
}

-- ---- the first item
pub planted-leaf : (it : Tree) → IsLatch it → Node 0 2 1 (it ∷ it ∷ replicate 62 nil) (it ∷ [])
planted-leaf it latch = record {
  top = it;
  is = refl;
  spread = record { free = 30; room = 32; links = refl; count = refl; items = refl; children = refl };
  items = (latch, tt);
  greatest = record { among = inl refl; most = (bound-self it, tt) };
}

pub planted-tree : (v w : SeatView) (leaf : ℕ) (it : Tree) (rest : List Tree) → IsLatch it → v.refs ≡ rest
    → WentLive v w leaf 2 1 (it ∷ it ∷ replicate 62 nil) → Standing w leaf 1 (it ∷ []) rest
planted-tree v w leaf it rest latch refs l = record {
  tree = l.tree;
  here = l.is.here;
  is = record {
    level = 0;
    levels = refl;
    low = omega arith;
    stands = subst (λ (z : ℕ × (ℕ × List Tree)). Node 0 z.0 z.1.0 z.1.1 (it ∷ [])) (λ i. (sym l.is.kind_is i, (sym l.is.count i, sym l.is.links i)))
        (planted-leaf it latch);
    some_items = (let a = l.is.count in omega arith);
    sorted = (tt, tt);
  };
  refs = l.refs ∙ ap (λ ts. l.tree ∷ ts) refs;
}

-- ---- an owned item enters a tree of any size
pub root-reached : (v : SeatView) (root : ℕ) → tree_word (tree_of root v.refs) ≡ suc root → Reaches v (tree_of root v.refs)
root-reached v root is = let o = tree_of-at root v.refs is in by_ref o.0 o.1

pub entering : (v w : SeatView) (item : ℕ) (x : Item) (root : Option ℕ) (height : ℕ) (xs : List Tree) (t : Tree) (f : IsNewItem v item x xs)
    → RefersTo v root height xs → ViewInvariant v → Becomes item f.owns.entry [] t → w.refs ≡ t ∷ v.refs → length v.refs < 2 ^ 31 → length xs < 8190
    → Entering root height w item xs t v.refs
entering v w item x None height xs t f k sound b refs few many = (k, refs, b.here, latch-of t x (lives v item x t f.owns b), few)
entering v w item x (Some root) height xs t f k sound b refs few many =
    let is = lives v item x t f.owns b in let tree = k.1 in (
      tree.level,
      tree.levels,
      record {
        refs = refs;
        here = b.here;
        latch = latch-of t x is;
        apart = λ e. some-ne-none f.owns.entry (sym f.owns.has ∙ ap (λ q. find q v.owned) e
            ∙ sound.apart root (tree_of root v.refs) (root-reached v root k.0) k.0);
        root_is = k.0;
        stands = tree.stands;
        some_items = tree.some_items;
        sorted = tree.sorted;
        differs = subst (λ (y : Item). Each (λ z. item_cmp (item_of z) y ≢ Equal) xs) (sym (item-is t x is)) f.differs;
        low = tree.low;
        many = many;
        few = few;
      },
    )

pub item-kind : (v : SeatView) (item : ℕ) (x : Item) (e : Entry) → OwnsItem v item x → find item v.owned ≡ some e → 0 < e.kind
item-kind v item x e o has = let k = ap (λ (e : Entry). e.kind) (some-injective o.entry e (sym o.has ∙ has)) in let l = o.kind in omega arith

-- the item leaves the rows that the seat owns
pub item-spends : (v w : SeatView) (item : ℕ) (x : Item) (t : Tree) (c : Chain) (rs : List ℕ) → OwnsItem v item x → w ≡ published item t v → IsChain v c rs
    → Spends 0 (item ∷ []) [] rs v w c
item-spends v w item x t c rs o is h =
    let others : OthersStand item v w = record {
      same_seat = record { number = ap (λ (z : SeatView). z.number) is; out = ap (λ (z : SeatView). z.out) is; size = ap (λ (z : SeatView). z.size) is };
      rows = λ q n. ap (λ (z : SeatView). find q z.owned) is ∙ find-else q item v.owned n;
    } in
    record {
      left = rs;
      chain = chain-aside v w item c rs others.rows (λ e has. item-kind v item x e o has) h;
      spent = omega arith;
      frame = frame-leaves item rs v w others (ap (λ (z : SeatView). find item z.owned) is ∙ find-without item v.owned);
    }

pub refers-standing : (w : SeatView) (root height : ℕ) (ys rest : List Tree) → Standing w root height ys rest → RefersTo w (Some root) height ys
refers-standing w root height ys rest s =
    let first : tree_of root w.refs ≡ s.tree = ap (tree_of root) s.refs ∙ tree_of-first root s.tree rest s.here in
    (ap tree_word first ∙ s.here, subst (λ t. IsTree t height ys) (sym first) s.is)

pub inserted-long : (x : Tree) (xs ys : List Tree) → Inserted x xs ys → length ys ≡ length xs + 1
inserted-long x xs ys i = let a = ap length i.old in let b = ap length i.new in let d = length-append i.front i.back in
    let e = length-append i.front (x ∷ i.back) in omega arith

pub beside-first : (w : SeatView) (root height : ℕ) (ys rest : List Tree) → Standing w root height ys rest → without_tree root w.refs ≡ rest
beside-first w root height ys rest s = ap (without_tree root) s.refs ∙ without_tree-first root s.tree rest s.here

pub beside-long : (root : Option ℕ) (ts : List Tree) → length (beside root ts) ≤ length ts
beside-long None ts = omega arith
beside-long (Some root) ts = let a = without_tree-length root ts in omega arith

-- ---- a further reference to the root
pub with-root : (v w : SeatView) (root height : ℕ) (xs : List Tree) → w ≡ with_ref (tree_of root v.refs) v → RefersTo v (Some root) height xs
    → RefersTo w (Some root) height xs
with-root v w root height xs is r =
    let first : tree_of root w.refs ≡ tree_of root v.refs = ap (λ (z : SeatView). tree_of root z.refs) is
    ∙ tree_of-first root (tree_of root v.refs) v.refs r.0 in
    (ap tree_word first ∙ r.0, subst (λ t. IsTree t height xs) (sym first) r.1)
