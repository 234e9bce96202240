-- What a node's list and links are made of, and how deep they are.
use Rattle.std.proofs.Common.{◌≡◌, ⊎_elim, ℕ, zero, suc, ◌≤◌, List, [], ◌∷◌, ◌++◌, replicate, sym, subst, arith}
use mathlib.Core.Option.{some, some-injective, some-ne-none}
use lib.ListN.{get_elem?}
use Rattle.row_pool.specs.Trees.{Tree, Trees, children, children_of, depth, depths, nil, row, next, none as no_trees}
use Rattle.latch_item.specs.Items.{IsLatch, word}
use Rattle.latch_item.specs.Shape.{Among, Each, Kid, Node, Pairs, Spread, weave}
use Rattle.interval_tree.proofs.Lists.{each-join, each-map}

pub each-among : (P : Tree → Type 0) (x : Tree) (xs : List Tree) → Among x xs → Each P xs → P x
each-among P x [] a h = absurd a
each-among P x (y ∷ ys) a h = ⊎_elim (λ (e : y ≡ x). subst P e h.0) (λ b. each-among P x ys b h.1) a

pub each-get : (P : Tree → Type 0) (xs : List Tree) (k : ℕ) (x : Tree) → Each P xs → get_elem? xs k ≡ some x → P x
each-get P [] k x h e = absurd (some-ne-none x (sym e))
each-get P (y ∷ ys) zero x h e = subst P (some-injective y x e) h.0
each-get P (y ∷ ys) (suc k) x h e = each-get P ys k x h.1 e

pub each-weave : (P : Tree → Type 0) (R : Tree → List Tree → Type 0) → ((c : Tree) (ys : List Tree) → R c ys → Each P ys)
    → (its cs : List Tree) (yss : List (List Tree)) → Each P its → Pairs R cs yss → Each P (weave its yss)
each-weave P R f its [] [] a p = a
each-weave P R f its [] (ys ∷ yss) a p = absurd p
each-weave P R f its (c ∷ cs) [] a p = a
each-weave P R f [] (c ∷ cs) (ys ∷ yss) a p = f c ys p.0
each-weave P R f (x ∷ its) (c ∷ cs) (ys ∷ yss) a p = each-join P ys (x ∷ weave its yss) (f c ys p.0) (a.0, each-weave P R f its cs yss a.1 p.1)

pub node-items : (h kind n : ℕ) (us xs : List Tree) → Node h kind n us xs → Each IsLatch xs
node-items zero kind n us xs o = o.items
node-items (suc h) kind n us xs o = subst (Each IsLatch) (sym o.list)
    (each-weave IsLatch (Kid (Node h)) (λ c ys k. node-items h (word c 1) (word c 2) (children c) ys k.node) o.its o.cs o.yss o.items o.below)

depths-most : (d : ℕ) (ts : Trees) → Each (λ u. depth u ≤ d) (children_of ts) → depths ts ≤ d
depths-most d no_trees h = omega arith
depths-most d (next t ts) h = let a = h.0 in let b = depths-most d ts h.1 in omega arith

pub depth-kids : (t : Tree) (d : ℕ) → Each (λ u. depth u ≤ d) (children t) → depth t ≤ suc d
depth-kids nil d h = omega arith
depth-kids (row r ws ks) d h = let a = depths-most d ks h in omega arith

pub depth-item : (t : Tree) → IsLatch t → depth t ≤ 1
depth-item t i = depth-kids t 0 (subst (Each (λ u. depth u ≤ 0)) (sym i.leaf) tt)

each-gaps : (d m : ℕ) → Each (λ u. depth u ≤ d) (replicate m nil)
each-gaps d zero = tt
each-gaps d (suc m) = (omega arith, each-gaps d m)

shallow-kids : (h d : ℕ) → ((c : Tree) (ys : List Tree) → Kid (Node h) c ys → depth c ≤ d) → (cs : List Tree) (yss : List (List Tree))
    → Pairs (Kid (Node h)) cs yss → Each (λ u. depth u ≤ d) cs
shallow-kids h d f [] yss p = tt
shallow-kids h d f (c ∷ cs) [] p = absurd p
shallow-kids h d f (c ∷ cs) (ys ∷ yss) p = (f c ys p.0, shallow-kids h d f cs yss p.1)

spread-each : (P : Tree → Type 0) (n : ℕ) (us : List Tree) (top : Tree) (its cs : List Tree) → ((m : ℕ) → Each P (replicate m nil)) → Spread n us top its cs
    → P top → Each P its → Each P cs → Each P us
spread-each P n us top its cs g s t i c = subst (Each P) (sym s.links) (
  t,
  each-join P (its ++ replicate s.free nil) (cs ++ replicate s.room nil)
      (each-join P its (replicate s.free nil) i (g s.free)) (each-join P cs (replicate s.room nil) c (g s.room)),
)

-- no way down from a link of a node of level h has more than h + 1 rows
pub node-shallow : (h kind n : ℕ) (us xs : List Tree) → Node h kind n us xs → Each (λ u. depth u ≤ suc h) us
node-shallow zero kind n us xs o =
    spread-each (λ u. depth u ≤ 1) n us o.top xs [] (each-gaps 1) o.spread (depth-item o.top (each-among IsLatch o.top xs o.greatest.among o.items))
    (each-map xs (λ x i. depth-item x i) o.items) tt
node-shallow (suc h) kind n us xs o =
    let top : IsLatch o.top = each-among IsLatch o.top xs o.greatest.among (node-items (suc h) kind n us xs o) in
    spread-each (λ u. depth u ≤ suc (suc h)) n us o.top o.its o.cs (each-gaps (suc (suc h))) o.spread (let a = depth-item o.top top in omega arith)
    (each-map o.its (λ x i. let a = depth-item x i in low a) o.items)
    (shallow-kids h (suc (suc h)) (λ c ys k. depth-kids c (suc h) (node-shallow h (word c 1) (word c 2) (children c) ys k.node)) o.cs o.yss o.below)
  where
    low : {d : ℕ} → d ≤ 1 → d ≤ suc (suc h)
    low a = omega arith
