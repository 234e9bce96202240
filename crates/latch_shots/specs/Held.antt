-- Held latches as items of trees.
use Rattle.std.specs.Prelude.{ℕ, ◌==◌, not, List, map}
use Rattle.std.specs.List.{filter}
use Rattle.latch_model.specs.Histories.{HeldLatch}
use Rattle.latch_model.specs.declared.latch.Access.{Access}
use Rattle.row_pool.specs.Trees.{Tree}
use Rattle.latch_item.specs.Items.{Item, item_of}

-- The held latch that an item says. Its access is that of the tree in which the item stands.
abbrev pub held_as : Access → Item → HeldLatch
held_as access x = record { by = x.id; lane = x.lane; place = x.place; latch = record { access = access; span = x.span; stamp = x.stamp } }

-- the held latches that a tree's items say
abbrev pub held_in : Access → List Tree → List HeldLatch
held_in access ts = map (λ t. held_as access (item_of t)) ts

-- held latches but for those of one request
abbrev pub others : ℕ → List HeldLatch → List HeldLatch
others id xs = filter (λ x. not (x.by == id)) xs
