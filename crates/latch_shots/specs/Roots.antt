-- References of a seat that are just those of some roots.
use Rattle.std.specs.Prelude.{◌≡◌, ℕ, suc, List, [], ◌∷◌, Option, None, Some}
use Rattle.row_pool.specs.Trees.{Tree, tree_word}
use Rattle.row_pool.specs.Changes.{tree_of, without_tree}
use Rattle.latch_item.specs.Shape.{IsTree}

-- The root of a tree or of a shot: its row, none where there are no items, its height, and its items in order.
pub record Root : Type 0 where
  pub row : Option ℕ
  pub height : ℕ
  pub items : List Tree

-- The references have one to this root, which stands for its tree, and those that are left without it are as P says.
abbrev pub HasRoot : Option ℕ → ℕ → List Tree → (List Tree → Type 0) → List Tree → Type 0
HasRoot None height items P refs = (items ≡ []) × P refs
HasRoot (Some root) height items P refs = (tree_word (tree_of root refs) ≡ suc root) × IsTree (tree_of root refs) height items × P (without_tree root refs)

-- Just one reference for each of these roots, and none besides.
abbrev pub AreRoots : List Root → List Tree → Type 0
AreRoots [] refs = refs ≡ []
AreRoots (r ∷ rs) refs = HasRoot r.row r.height r.items (AreRoots rs) refs
