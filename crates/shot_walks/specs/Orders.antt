-- Latches by their places in the waiting order.
use Rattle.std.specs.Prelude.{◌≡◌, ℕ, ◌<◌, List, [], length, map, slice_index_or}
use Rattle.std.specs.List.{All}
use Rattle.hlc_stamp.specs.Stamps.{empty_stamp}
use Rattle.latch_model.specs.Histories.{in_waiting_order}
use Rattle.latch_model.specs.declared.latch.Access.TheVariants.{Read}
use Rattle.latch_model.specs.declared.latch.Latch.{Latch}

-- What stands where a list has no such place. No promise rests on it.
abbrev pub no_latch : Latch
no_latch = record { access = Read; span = ([], []); stamp = empty_stamp }

-- latch number n of a request
abbrev pub latch_at : List Latch → ℕ → Latch
latch_at ls n = slice_index_or ls n no_latch

-- These are the places of the latches in the waiting order, and each is a place of one.
abbrev pub IsOrder : List ℕ → List Latch → Type 0
IsOrder order ls = (map (latch_at ls) order ≡ in_waiting_order ls) × All (λ k. k < length ls) order
