-- The seat reaches each item below a root that it owns, and what a root without items leaves.
use Rattle.std.proofs.Common.{List, [], ap, arith, inl, inr, length, refl, replicate, subst, suc, sym}
use Rattle.std.proofs.Common.{zero, ℕ, ⊎_elim, ◌++◌, ◌+◌, ◌-◌, ◌<◌, ◌^◌, ◌∙◌, ◌∷◌, ◌≡◌, ◌≤◌, ◌⊎◌}
use Rattle.std.proofs.lemmas.Bool.Decides.{eqb_tells}
use Rattle.std.specs.Prelude.{Some}
use lib.ListN.{get_elem?}
use mathlib.Core.Option.{some}
use Rattle.row_pool.proofs.ClearedLinks.{grows-none}
use Rattle.row_pool.proofs.NewestRef.{tree_of-first, without_tree-first}
use Rattle.row_pool.proofs.Sums.{without_tree-length}
use Rattle.row_pool.specs.Chains.{ChainGrows, IsChain}
use Rattle.row_pool.specs.Changes.{tree_of, with_ref, without_tree}
use Rattle.row_pool.specs.declared.chain.Chain.{Chain}
use Rattle.row_pool.specs.SeatView.{SeatView}
use Rattle.row_pool.specs.Trees.{Tree, children, nil, tree_word}
use Rattle.row_pool.specs.Views.{Reaches, below}
use Rattle.latch_item.specs.Items.{IsLatch, word}
use Rattle.latch_item.specs.Shape.{Among, Kid, Node, Pairs, RefersTo, Sorted, Stands, weave}
use Rattle.interval_tree.proofs.Depths.{each-among, node-items}
use Rattle.interval_tree.proofs.Frames.{spends-grows, spends-join}
use Rattle.interval_tree.proofs.Growing.{root-reached}
use Rattle.interval_tree.proofs.Lists.{among-back, among-front}
use Rattle.interval_tree.proofs.Rows.{up-link}
use Rattle.interval_tree.specs.Held.{IsNodeRow, OwnsNode, Spends}
use Rattle.interval_tree.specs.Nodes.{Body}
use Rattle.interval_tree.specs.States.{ReachesItem, Standing}
use Rattle.tree_shrink.proofs.Borders.{among-split}
use Rattle.tree_shrink.proofs.Descending.{head-same}
use Rattle.tree_shrink.proofs.Finding.{removed-sorted}
use Rattle.tree_shrink.specs.Stages.{Aimed, Leaving, Led, Left, Removed, Shrunk, Stood}

pub among-at : (u : Tree) (us : List Tree) → Among u us → (k : ℕ) × (get_elem? us k ≡ some u)
among-at u [] a = absurd a
among-at u (x ∷ us) a = ⊎_elim (λ (e : x ≡ u). (0, ap some e)) (λ (b : Among u us). let o = among-at u us b in (suc o.0, o.1)) a

pub among-cut : (u : Tree) (us : List Tree) → Among u us → (fs bs : List Tree) × (us ≡ fs ++ u ∷ bs)
among-cut u [] a = absurd a
among-cut u (x ∷ us) a = ⊎_elim (λ (e : x ≡ u). ([], us, ap (λ z. z ∷ us) e))
    (λ (b : Among u us). let o = among-cut u us b in (x ∷ o.0, o.1, ap (λ l. x ∷ l) o.2)) a

pub up-owned : (v : SeatView) (row kind n : ℕ) (us : List Tree) (u : Tree) (o : OwnsNode v row kind n us) → Among u us → Reaches v u
up-owned v row kind n us u o a =
    let (fs, bs, e) = among-cut u us a in up-link v row kind n fs bs u (length fs) (subst (OwnsNode v row kind n) e o) refl

pub up-below : (v : SeatView) (t u : Tree) → Reaches v t → Among u (children t) → Reaches v u
up-below v t u r a = let k = among-at u (children t) a in below k.0 r k.1

-- an item of a node's list is one of its items, or in a child's list
pub record Within (h : ℕ) (cs : List Tree) (x : Tree) : Type 0 where
  pub child : Tree
  pub ys : List Tree
  pub inside : Among child cs
  pub kid : Kid (Node h) child ys
  pub among : Among x ys

pub weave-among : (h : ℕ) (x : Tree) (its cs : List Tree) (yss : List (List Tree)) → Among x (weave its yss) → Pairs (Kid (Node h)) cs yss
    → Among x its ⊎ Within h cs x
weave-among h x its [] [] a p = inl a
weave-among h x its [] (ys ∷ yss) a p = absurd p
weave-among h x its (c ∷ cs) [] a p = absurd p
weave-among h x [] (c ∷ cs) (ys ∷ yss) a p = inr (record { child = c; ys = ys; inside = inl refl; kid = p.0; among = a })
weave-among h x (i ∷ its) (c ∷ cs) (ys ∷ yss) a p = ⊎_elim (λ (b : Among x ys). inr (record { child = c; ys = ys; inside = inl refl; kid = p.0; among = b }))
    (λ (b : Among x (i ∷ weave its yss)). ⊎_elim (λ (e : i ≡ x). inl (inl e)) (λ (d : Among x (weave its yss)). ⊎_elim (λ (f : Among x its). inl (inr f)) (λ
    (f : Within h cs x). inr (record { child = f.child; ys = f.ys; inside = inr f.inside; kid = f.kid; among = f.among }))
    (weave-among h x its cs yss d p.1)) b)
    (among-split x ys (i ∷ weave its yss) a)

-- whatever reaches the links of a node reaches the items below it
pub reach-node : (v : SeatView) (h kind n : ℕ) (us xs : List Tree) (x : Tree) → ((u : Tree) → Among u us → Reaches v u) → Node h kind n us xs → Among x xs
    → Reaches v x
reach-node v zero kind n us xs x f o a = f x (subst (Among x) (sym o.spread.links) (inr (among-front x (xs ++ replicate o.spread.free nil)
    ([] ++ replicate o.spread.room nil) (among-front x xs (replicate o.spread.free nil) a))))
reach-node v (suc h) kind n us xs x f o a = ⊎_elim
    (λ (b : Among x o.its). f x (subst (Among x) (sym o.spread.links) (inr (among-front x (o.its ++ replicate o.spread.free nil)
    (o.cs ++ replicate o.spread.room nil) (among-front x o.its (replicate o.spread.free nil) b)))))
    (λ (w : Within h o.cs x). let up = f w.child (subst (Among w.child) (sym o.spread.links) (inr (among-back w.child (o.its ++ replicate o.spread.free nil)
    (o.cs ++ replicate o.spread.room nil) (among-front w.child o.cs (replicate o.spread.room nil) w.inside)))) in
    reach-node v h (word w.child 1) (word w.child 2) (children w.child) w.ys x (λ u b. up-below v w.child u up b) w.kid.node w.among)
    (weave-among h x o.its o.cs o.yss (subst (Among x) o.list a) o.below)

pub leaf-many : (h kind n : ℕ) (us xs : List Tree) → Node h kind n us xs → h ≡ 0 → length xs ≡ n
leaf-many h kind n us xs o e = (subst (λ k. Node k kind n us xs) e o).spread.count

-- ---- a root without items
pub record Bare (h : ℕ) (us ys : List Tree) : Type 0 where
  pub top : Tree
  pub c : Tree
  pub links : us ≡ (top ∷ replicate 31 nil) ++ c ∷ replicate 31 nil
  pub fits : IsLatch top
  pub kid : Kid (Node h) c ys

pub bare : (h kind : ℕ) (us ys : List Tree) → Body (suc h) kind 0 us ys → Led us → Bare h us ys
bare h kind us ys b l = go b.its b.cs b.yss b.spread.count b.many b.spread.links b.list b.below
  where
    free_is : b.spread.free ≡ 31
    free_is = let a = b.spread.items in omega arith

    go : (its cs : List Tree) (yss : List (List Tree)) → length its ≡ 0 → length cs ≡ 1
        → us ≡ b.top ∷ ((its ++ replicate b.spread.free nil) ++ (cs ++ replicate b.spread.room nil)) → ys ≡ weave its yss → Pairs (Kid (Node h)) cs yss
        → Bare h us ys
    go (i ∷ its) cs yss c d links list p = absurd (omega arith)
    go [] [] yss c d links list p = absurd (omega arith)
    go [] (k ∷ j ∷ cs) yss c d links list p = absurd (omega arith)
    go [] (k ∷ []) [] c d links list p = absurd p
    go [] (k ∷ []) (zs ∷ ws ∷ yss) c d links list p = absurd p.1
    go [] (k ∷ []) (zs ∷ []) c d links list p =
        let room_is : b.spread.room ≡ 31 = (let a = b.spread.children in let e = b.many in omega arith) in
        let same : l.top ≡ b.top = head-same l.top b.top l.tail ((replicate b.spread.free nil) ++ ((k ∷ []) ++ replicate b.spread.room nil)) (sym l.links
        ∙ links) in
        record {
          top = b.top;
          c = k;
          links = links ∙ (λ i. b.top ∷ (replicate (free_is i) nil ++ ((k ∷ []) ++ replicate (room_is i) nil)));
          fits = subst IsLatch same l.fits;
          kid = subst (Kid (Node h) k) (sym list) p.0;
        }

pub standing : (h level : ℕ) (w : SeatView) (t : Tree) (root kind n : ℕ) (us ys rest : List Tree) → level ≡ h → h ≤ 2 → IsNodeRow t root kind n us
    → Node h kind n us ys → 1 ≤ n → Sorted ys → w.refs ≡ t ∷ rest → Standing w root (level + 1) ys rest
standing h level w t root kind n us ys rest e low s o some_items sorted refs = record {
  tree = t;
  here = s.here;
  is = record {
    level = h;
    levels = (omega arith);
    low = low;
    stands = subst (λ (z : ℕ × (ℕ × List Tree)). Node h z.0 z.1.0 z.1.1 ys) (λ i. (sym s.kind_is i, (sym s.count i, sym s.links i))) o;
    some_items = (let a = s.count in omega arith);
    sorted = sorted;
  };
  refs = refs;
}

pub standing-kid : (h level : ℕ) (w : SeatView) (c : Tree) (root : ℕ) (ys rest : List Tree) → level ≡ h → h ≤ 2 → tree_word c ≡ suc root → Kid (Node h) c ys
    → Sorted ys → w.refs ≡ c ∷ rest → Standing w root (level + 1) ys rest
standing-kid h level w c root ys rest e low here k sorted refs = record {
  tree = c;
  here = here;
  is = record {
    level = h;
    levels = (omega arith);
    low = low;
    stands = k.node;
    some_items = (let a = k.least in omega arith);
    sorted = sorted;
  };
  refs = refs;
}

-- a tree of one item
pub only-one : (it : Tree) (xs : List Tree) → length xs ≡ 1 → Among it xs → Removed it xs []
only-one it [] e a = absurd a
only-one it (x ∷ y ∷ xs) e a = absurd (omega arith)
only-one it (x ∷ []) e a = ⊎_elim (λ (p : x ≡ it). record { front = []; back = []; old = ap (λ z. z ∷ []) p; new = refl }) (λ (p : Among it []). absurd p) a

-- ---- the last item goes
pub item-reached : (v : SeatView) (root height : ℕ) (xs : List Tree) (it : Tree) → RefersTo v (Some root) height xs → Among it xs → Reaches v it
item-reached v root height xs it r a = let t : Tree = tree_of root v.refs in
    reach-node v r.1.level (word t 1) (word t 2) (children t) xs it (λ u b. up-below v t u (root-reached v root r.0) b) r.1.stands a

-- beside a reference to an item the root's is still there, whichever row the item has
pub root-beside : (root : ℕ) (it : Tree) (refs : List Tree) → tree_word (tree_of root refs) ≡ suc root → tree_word (tree_of root (it ∷ refs)) ≡ suc root
root-beside root it refs here = ⊎_elim (λ t. rw t.0 t.1) (λ t. rw t.0 here) (eqb_tells (tree_word it) (suc root))

-- when the root's is given up the item's is there, and when that is given up too, just the root's is gone
pub item-left : (root item : ℕ) (it : Tree) (refs : List Tree) → tree_word (tree_of root refs) ≡ suc root → tree_word it ≡ suc item
    → (tree_word (tree_of item (without_tree root (it ∷ refs))) ≡ suc item) × (without_tree item (without_tree root (it ∷ refs)) ≡ without_tree root refs)
item-left root item it refs here is = ⊎_elim
    (λ t. let same : root ≡ item = (let a = t.1 in omega arith) in
    rw t.0 (subst (λ r. tree_word (tree_of r refs) ≡ suc r) same here, ap (λ r. without_tree r refs) (sym same)))
    (λ t. rw t.0 (
      ap tree_word (tree_of-first item it (without_tree root refs) is) ∙ is,
      without_tree-first item it (without_tree root refs) is,
    )) (eqb_tells (tree_word it) (suc root))

-- a reference more uses no row
pub held-grows : (v a : SeatView) (t : Tree) (c : Chain) → a ≡ with_ref t v → ChainGrows v a c c
held-grows v a t c held = subst (λ x. ChainGrows v x c c) (sym held) (grows-none v (with_ref t v) c refl
    (record { number = refl; out = refl; size = refl }))

-- and the two that are given up bring rows
pub uprooted : (v a b w : SeatView) (t : Tree) (c d e : Chain) (rs : List ℕ) → a ≡ with_ref t v → ChainGrows a b c d → ChainGrows b w d e → IsChain v c rs
    → Spends 0 [] [] rs v w e
uprooted v a b w t c d e rs held f g h =
    let one = spends-grows v a c c [] rs (held-grows v a t c held) h in
    let two = spends-join 0 0 [] [] [] rs v a b c d one (spends-grows a b c d [] one.left f one.chain) in
    spends-join 0 0 [] [] [] rs v b w d e two (spends-grows b w d e [] two.left g two.chain)

-- ---- the item of a node that is named
pub named-item : (v : SeatView) (h row kind n item : ℕ) (us xs : List Tree) (it : Tree) → OwnsNode v row kind n us → Node h kind n us xs
    → (tree_word it ≡ suc item) × Among it xs → ReachesItem v it item
named-item v h row kind n item us xs it o nd (here, among) =
    (reach-node v h kind n us xs it (λ u a. up-owned v row kind n us u o a) nd among, here, each-among IsLatch it xs among (node-items h kind n us xs nd))

pub stood-over : {h kind n row : ℕ} {v w : SeatView} {ys : List Tree} → ((us : List Tree) → OwnsNode v row kind n us → OwnsNode w row kind n us)
    → Stood h v row kind n ys → Stood h w row kind n ys
stood-over f s = record { us = s.us; owns = f s.us s.owns; body = s.body; whole = s.whole; led = s.led }

-- ---- the root
pub leaving : (v : SeatView) (root height item : ℕ) (xs : List Tree) (it : Tree) (g : ℕ) → RefersTo v (Some root) height xs → g ≡ height - 1 → 2 ≤ length xs
    → Among it xs → tree_word it ≡ suc item → length v.refs < 2 ^ 31 → Leaving g v root item xs it
leaving v root height item xs it g (here, r) e many among is few =
    let same : r.level ≡ g = (let a = r.levels in omega arith) in
    record {
      here = here;
      stands = subst (λ k. Stands k (tree_of root v.refs) xs) same r.stands;
      some_items = r.some_items;
      sorted = r.sorted;
      many = many;
      among = among;
      is = is;
      low = (let a = r.low in omega arith);
      few = few;
    }

pub leaving-aimed : (h : ℕ) (v b : SeatView) (root item node : ℕ) (xs : List Tree) (it : Tree) → Leaving h v root item xs it
    → OwnsNode b node (word (tree_of root v.refs) 1) (word (tree_of root v.refs) 2) (children (tree_of root v.refs)) → b.refs ≡ without_tree root v.refs
    → Aimed h b node (Some item) (word (tree_of root v.refs) 1) (word (tree_of root v.refs) 2) (children (tree_of root v.refs)) xs it (without_tree root v.refs)
leaving-aimed h v b root item node xs it l o refs =
    let t : Tree = tree_of root v.refs in
    record {
      owns = o;
      node = l.stands;
      some_items = l.some_items;
      leaf = (λ z. let a = leaf-many h (word t 1) (word t 2) (children t) xs l.stands z in let b = l.many in omega arith);
      sorted = l.sorted;
      aim = (l.is, l.among);
      refs = refs;
      few = (let a = without_tree-length root v.refs in let c = l.few in omega arith);
    }

pub left-of-root : (h : ℕ) (v b d w : SeatView) (root item node kind n gone : ℕ) (us xs : List Tree) (it : Tree) → Leaving h v root item xs it
    → Aimed h b node (Some item) kind n us xs it (without_tree root v.refs) → (s : Shrunk h d node kind n xs it gone (without_tree root v.refs))
    → Stood h w node kind s.many s.ys → w.refs ≡ without_tree root v.refs → Left h w node xs it (without_tree root v.refs)
left-of-root h v b d w root item node kind n gone us xs it l a s stood refs = record {
  kind = kind;
  many = s.many;
  ys = s.ys;
  stood = stood;
  gone = s.gone;
  sorted = removed-sorted it xs s.ys s.gone l.sorted;
  leaf = (λ z. let p = a.leaf z in let q = s.least in omega arith);
  low = l.low;
  refs = refs;
  few = (let p = without_tree-length root v.refs in let q = l.few in omega arith);
}

-- a reference less
pub one-less : (r : ℕ) (ts : List Tree) → tree_word (tree_of r ts) ≡ suc r → suc (length (without_tree r ts)) ≡ length ts
one-less r [] h = absurd (omega arith)
one-less r (t ∷ ts) h = ⊎_elim (λ b. rw b.0 refl) (λ b. let e : tree_word (tree_of r ts) ≡ suc r = rw b.0 at h in let k = one-less r ts e in rw b.0 (ap suc k))
    (eqb_tells (tree_word t) (suc r))
