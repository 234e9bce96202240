-- What the trees and the list of one scope have.
use Rattle.std.specs.Prelude.{◌≡◌, ◌⊎◌, ◌==◌, ◌&&◌, ℕ, Bool, not, List, [], ◌∷◌, ◌++◌, map}
use Rattle.row_pool.specs.Trees.{Tree as Row}
use Rattle.latch_item.specs.Items.{Item, item_of}
use Rattle.latch_model.specs.Histories.{HeldLatch}
use Rattle.latch_model.specs.declared.latch.Access.{Access}
use Rattle.latch_shots.specs.Held.{held_as}
use Rattle.held_latches.specs.Stock.{Placed}

-- P holds of each
abbrev pub EachOf : {X : Type 0} → (X → Type 0) → List X → Type 0
EachOf P [] = Unit {0}
EachOf P (x ∷ xs) = P x × EachOf P xs

-- x is one of them
abbrev pub IsIn : {X : Type 0} → X → List X → Type 0
IsIn x [] = ⊥
IsIn x (y ∷ ys) = (y ≡ x) ⊎ IsIn x ys

-- The items of the tree of writes, those of the tree of reads, and the loose items in the list of pending reads.
pub record Content : Type 0 where
  pub writes : List Row
  pub reads : List Row
  pub pending : List Placed

abbrev pub items_in : List Row → List Item
items_in ts = map item_of ts

abbrev pub placed_items : List Placed → List Item
placed_items ps = map (λ (p : Placed). p.item) ps

-- the items of all reads
abbrev pub read_items : Content → List Item
read_items c = items_in c.reads ++ placed_items c.pending

-- the held latches that items say
abbrev pub held_of : Access → List Item → List HeldLatch
held_of access xs = map (held_as access) xs

-- Items of different requests, or of different places of one.
abbrev pub Apart : Item → Item → Type 0
Apart x y = x.id ≡ y.id → x.place ≡ y.place → ⊥

abbrev pub AllApart : List Item → Type 0
AllApart [] = Unit {0}
AllApart (x ∷ xs) = EachOf (Apart x) xs × AllApart xs

-- whether a held latch is another than this place of a request
abbrev pub is_other : ℕ → ℕ → HeldLatch → Bool
is_other id place y = not ((y.by == id) && (y.place == place))
