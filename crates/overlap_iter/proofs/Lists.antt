-- Lists of items, and the lists of nodes that are made of them.
use Rattle.std.proofs.Common.{◌≡◌, ⊎_elim, ℕ, zero, suc, List, [], ◌∷◌, ◌++◌, sym, refl, subst, append-nil}
use Rattle.row_pool.specs.Trees.{Tree, children}
use Rattle.latch_item.specs.Items.{word, IsLatch}
use Rattle.latch_item.specs.Shape.{Each, Pairs, Among, Sorted, Kid, Node, weave}
use Rattle.overlap_iter.specs.Walks.{behind}

module _ (P : Tree → Type 0) where
  pub each-join : (xs ys : List Tree) → Each P xs → Each P ys → Each P (xs ++ ys)
  each-join [] ys a b = b
  each-join (x ∷ xs) ys a b = (a.0, each-join xs ys a.1 b)

  pub each-among : (x : Tree) (xs : List Tree) → Among x xs → Each P xs → P x
  each-among x [] a h = absurd a
  each-among x (y ∷ ys) a h = ⊎_elim (λ (e : y ≡ x). subst P e h.0) (λ b. each-among x ys b h.1) a

  each-weave : (R : Tree → List Tree → Type 0) → ((c : Tree) (ys : List Tree) → R c ys → Each P ys) → (its cs : List Tree) (yss : List (List Tree))
      → Each P its → Pairs R cs yss → Each P (weave its yss)
  each-weave R f its [] [] a p = a
  each-weave R f its [] (ys ∷ yss) a p = absurd p
  each-weave R f its (c ∷ cs) [] a p = a
  each-weave R f [] (c ∷ cs) (ys ∷ yss) a p = f c ys p.0
  each-weave R f (x ∷ its) (c ∷ cs) (ys ∷ yss) a p = each-join ys (x ∷ weave its yss) (f c ys p.0) (a.0, each-weave R f its cs yss a.1 p.1)

-- a node's list has items of latches alone
pub node-latches : (level kind n : ℕ) (us xs : List Tree) → Node level kind n us xs → Each IsLatch xs
node-latches zero kind n us xs o = o.items
node-latches (suc l) kind n us xs o = subst (Each IsLatch) (sym o.list)
    (each-weave IsLatch (Kid (Node l)) (λ c ys k. node-latches l (word c 1) (word c 2) (children c) ys k.node) o.its o.cs o.yss o.items o.below)

pub sorted-back : (xs ys : List Tree) → Sorted (xs ++ ys) → Sorted ys
sorted-back [] ys h = h
sorted-back (x ∷ xs) ys h = sorted-back xs ys h.1

-- the list of a node, from its first child on
pub weave-behind : (its : List Tree) (ys : List Tree) (yss : List (List Tree)) → weave its (ys ∷ yss) ≡ ys ++ behind its yss
weave-behind [] ys yss = sym (append-nil ys)
weave-behind (x ∷ its) ys yss = refl
