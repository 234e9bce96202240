-- Held latches that were met.
use Rattle.std.specs.Prelude.{◌≡◌, ℕ, ◌==◌, ◌&&◌, not, Bool}
use Rattle.latch_model.specs.Histories.{HeldLatch}
use Rattle.latch_model.specs.Latches.{interfere, normal}
use Rattle.latch_model.specs.declared.latch.Latch.{Latch}
use Rattle.row_pool.specs.SeatView.{SeatView}
use Rattle.latch_item.specs.Items.{Item, HasItem}
use Rattle.latch_shots.specs.Held.{held_as}
use Rattle.latch_shots.specs.declared.met.MetLatch.{MetLatch}

-- whether a latch and a held one, whose spans overlap and lie in one scope, get in each other's way by their accesses and stamps
abbrev pub stamps_meet : Latch → HeldLatch → Bool
stamps_meet l x = interfere l.access (normal l) x.latch.access x.latch.stamp

-- whether it counts for a request of this number: it isn't the request's own, and they do
abbrev pub counts : ℕ → Latch → HeldLatch → Bool
counts own l x = not (x.by == own) && stamps_meet l x

-- This held latch was met: whose it is, its place there, the lane, its stamp and its access are told, and its row says all of it.
pub record IsMet (v : SeatView) (m : MetLatch) (x : HeldLatch) : Type 0 where
  pub whose : m.by ≡ x.by
  pub which : m.place ≡ x.place
  pub runs_in : m.lane ≡ x.lane
  pub stamp_is : m.stamp ≡ x.latch.stamp
  pub access_is : m.access ≡ x.latch.access
  pub item : Item
  pub here : HasItem v m.row item
  pub says : held_as m.access item ≡ x
