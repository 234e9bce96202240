-- What calls answer that begin a request and wait for it.
use Rattle.std.specs.Prelude.{◌≡◌, ℕ, Option}
use Rattle.latch_model.specs.Declaration.{Declaration}
use Rattle.latch_model.specs.declared.latch.Mode.{Mode}
use Rattle.signal_board.specs.Says.{PassSays}
use Rattle.waiter.specs.Says.{EndingSays, GrantedSays, OpenedSays, WaitingSays}
use Rattle.latch_manager.specs.Making.{Began, Finished, Made, done_with, unpolled}
use Rattle.latch_manager.specs.Declining.{Declined}
use Rattle.latch_manager.specs.Patience.{Refused}
use Rattle.latch_manager.specs.Waiting.{WaitGrants, WaitMeets, WaitStops}
use Rattle.latch_manager.specs.declared.manager.AcquireFault.{AcquireFault}
use Rattle.latch_manager.specs.declared.manager.AcquireFault.TheVariants as acquire_fault
use Rattle.latch_manager.specs.declared.wait.WaitFault.{WaitFault}
use Rattle.latch_manager.specs.declared.wait.WaitFault.TheVariants as wait_fault

-- How a wait failed, by its fault: the request is to end as that says, and where the patience refused its count shows it.
abbrev pub WaitFailsAs : WaitingSays → EndingSays → ℕ → ℕ → Option ℕ → WaitFault → Type 0
WaitFailsAs waiting ending before now limit (wait_fault.Poisoned mark) = WaitMeets waiting mark ending
WaitFailsAs waiting ending before now limit (wait_fault.Cancelled turns) = WaitStops waiting turns limit ending × Refused before now

-- the fault of a wait, as that of an acquisition
abbrev pub as_acquire_fault : WaitFault → AcquireFault
as_acquire_fault (wait_fault.Poisoned mark) = acquire_fault.Poisoned mark
as_acquire_fault (wait_fault.Cancelled turns) = acquire_fault.Cancelled turns

-- A wait failed, and its request was ended.
pub record WaitEnds (made : Made) (old : PassSays) (waiting : WaitingSays) (before now : ℕ) (limit : Option ℕ) (fault : WaitFault) (new : PassSays) : Type 0
  where
    pub ending : EndingSays
    pub fails : WaitFailsAs waiting ending before now limit fault
    pub finished : Finished made old ending new

-- A request was begun and granted.
pub record Acquires (made : Made) (old : PassSays) (request : Declaration) (mode : Mode) (granted : GrantedSays) (new : PassSays) : Type 0 where
  pub opened : OpenedSays
  pub began : Began made old mode request opened new
  pub grants : WaitGrants (unpolled opened) granted

-- A request was begun, its wait failed, and it was ended.
pub record AcquireEnds (made : Made) (old : PassSays) (request : Declaration) (mode : Mode) (before now : ℕ) (limit : Option ℕ) (fault : WaitFault)
    (new : PassSays) : Type 0 where
  pub opened : OpenedSays
  pub mid : PassSays
  pub began : Began made old mode request opened mid
  pub ends : WaitEnds made mid (unpolled opened) before now limit fault new

-- Why nothing was granted: the request didn't begin and is handed back; or its wait failed, after which it was ended.
abbrev pub AcquireFails : Made → PassSays → Declaration → Mode → ℕ → ℕ → Option ℕ → AcquireFault → PassSays → Type 0
AcquireFails made old request mode before now limit (acquire_fault.Seq refusal) new =
    Declined made old mode request refusal.fault new × (refusal.request ≡ request)
AcquireFails made old request mode before now limit (acquire_fault.Poisoned mark) new =
    AcquireEnds made old request mode before now limit (wait_fault.Poisoned mark) new
AcquireFails made old request mode before now limit (acquire_fault.Cancelled turns) new =
    AcquireEnds made old request mode before now limit (wait_fault.Cancelled turns) new

-- A look was begun, granted and ended.
pub record Looks (made : Made) (old : PassSays) (request : Declaration) (mode : Mode) (id : ℕ) (new : PassSays) : Type 0 where
  pub granted : GrantedSays
  pub mid : PassSays
  pub acquires : Acquires made old request mode granted mid
  pub finished : Finished made mid (done_with granted) new
  pub number : id ≡ acquires.opened.r.id
