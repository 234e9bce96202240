-- The newest reference is the first that is found, and the one before it the second.
use Rattle.std.proofs.Common.{◌≡◌, ◌≢◌, ℕ, suc, List, ◌∷◌, ap, eq-eqb, ne_eqb}
use Rattle.row_pool.specs.Trees.{Tree, tree_word}
use Rattle.row_pool.specs.Changes.{tree_of, without_tree}

pub tree_of-first : (r : ℕ) (t : Tree) (ts : List Tree) → tree_word t ≡ suc r → tree_of r (t ∷ ts) ≡ t
tree_of-first r t ts h = rw (eq-eqb (tree_word t) (suc r) h)

pub without_tree-first : (r : ℕ) (t : Tree) (ts : List Tree) → tree_word t ≡ suc r → without_tree r (t ∷ ts) ≡ ts
without_tree-first r t ts h = rw (eq-eqb (tree_word t) (suc r) h)

pub without_tree-second : (r : ℕ) (t u : Tree) (ts : List Tree) → tree_word t ≢ suc r → tree_word u ≡ suc r → without_tree r (t ∷ u ∷ ts) ≡ t ∷ ts
without_tree-second r t u ts n h = rw (ne_eqb (tree_word t) (suc r) n) (ap (λ ts. t ∷ ts) (without_tree-first r u ts h))
