-- What the values that stand for a request keep of what its seat knows.
use Rattle.std.specs.Prelude.{◌≡◌, ℕ, List, Option, Some, None}
use Rattle.atomic_table.specs.Seated.{TableId}
use Rattle.latch_model.specs.Declaration.{Declaration}
use Rattle.latch_model.specs.Histories.{HeldLatch}
use Rattle.latch_model.specs.declared.history.Fault.{Fault}
use Rattle.latch_model.specs.declared.history.Grant.{Grant}
use Rattle.latch_model.specs.declared.latch.Latch.{Latch}
use Rattle.latch_model.specs.declared.latch.Mode.{Mode}
use Rattle.latch_model.specs.declared.latch.Mode.TheVariants.{Optimistic}
use Rattle.latch_shots.specs.Shots.{AreShots, IsReturned, content_of}
use Rattle.latch_shots.specs.declared.shots.Returned.{Returned}
use Rattle.latch_shots.specs.declared.shots.Shots.{Shots}
use Rattle.shot_walks.specs.Orders.{IsOrder}
use Rattle.shot_walks.specs.Places.{Stands}
use Rattle.shot_walks.specs.declared.place.Place.{Place}
use Rattle.signal_board.specs.Says.{LaneSays}
use Rattle.signal_board.specs.Steps.{FaultGiven, GrantGiven}
use Rattle.signal_board.specs.Views.{RequestView}
use Rattle.waiter.specs.Met.{held_of}
use Rattle.waiter.specs.Says.{Last, LastGiven, PassedGiven, Unpolled, Ready, Blocked, Poisoned}
use Rattle.waiter.specs.declared.mark.Met.{Met}

-- the held latch at which a waiting request stands after its last poll
abbrev pub stood_at : Last → Option HeldLatch
stood_at Unpolled = None
stood_at Ready = None
stood_at (Blocked x) = Some x
stood_at (Poisoned x) = Some x

-- That latch is the one that is kept.
abbrev pub IsKept : Last → Met → Type 0
IsKept last met = (x : HeldLatch) → stood_at last ≡ Some x → held_of met ≡ x

-- The shots of a waiting request show its snapshot, and it stands in its walk over them where its last poll left it.
pub record WalkKept (r : RequestView) (shots : Shots) (order : List ℕ) (place : Place) (last : Last) : Type 0 where
  pub order_is : IsOrder order r.request.latches
  pub stands : Stands (content_of shots) place r (stood_at last)

-- What is left of the shots of a request, of the pool of this core: it refers to nothing any more.
abbrev pub IsBack : TableId → Returned → Type 0
IsBack rows returned = (number : ℕ) × IsReturned rows number returned

-- A request that has begun.
pub record OpenedKept (who : ℕ) (mode : Mode) (request : Declaration) (shots : Shots) (s : LaneSays) : Type 0 where
  pub who_is : who ≡ s.r.who
  pub mode_is : mode ≡ s.r.mode
  pub request_is : request ≡ s.r.request
  pub shows : AreShots shots s.r.shot

-- A waiting request.
pub record WaitingKept (who : ℕ) (mode : Mode) (request : Declaration) (shots : Shots) (turns : ℕ) (last : Last) (order : List ℕ) (place : Place)
    (s : LaneSays) : Type 0 where
  pub who_is : who ≡ s.r.who
  pub mode_is : mode ≡ s.r.mode
  pub request_is : request ≡ s.r.request
  pub given : LastGiven s.r turns last
  pub walk : WalkKept s.r shots order place last

-- An optimistic request.
pub record OptimistKept (who : ℕ) (request : Declaration) (shots : Shots) (passed : Option (List Latch)) (s : LaneSays) : Type 0 where
  pub who_is : who ≡ s.r.who
  pub mode_is : s.r.mode ≡ Optimistic
  pub request_is : request ≡ s.r.request
  pub shows : AreShots shots s.r.shot
  pub given : PassedGiven s.r.request.latches s.r.shot passed

-- A granted request.
pub record GrantedKept (who : ℕ) (mode : Mode) (request : Declaration) (grant : Grant) (returned : Returned) (s : LaneSays) : Type 0 where
  pub who_is : who ≡ s.r.who
  pub mode_is : mode ≡ s.r.mode
  pub request_is : request ≡ s.r.request
  pub given : GrantGiven s.r grant
  pub back : IsBack returned.seat.table returned

-- A request that is to end.
pub record EndingKept (who : ℕ) (mode : Mode) (request : Declaration) (grant : Grant) (fault : Fault) (returned : Returned) (s : LaneSays) : Type 0 where
  pub who_is : who ≡ s.r.who
  pub mode_is : mode ≡ s.r.mode
  pub request_is : request ≡ s.r.request
  pub given : GrantGiven s.r grant
  pub fault_given : FaultGiven s.r grant fault
  pub back : IsBack returned.seat.table returned
