-- What contracts see of a request between its begin and its end: opened, waiting, optimistic, granted, or ending.
use Rattle.std.specs.Prelude.{◌≡◌, ℕ, ◌≤◌, List, [], Option, Some, None}
use Rattle.std.specs.List.{All, Any, Contains}
use Rattle.atomic_table.specs.Seated.{TableId}
use Rattle.latch_model.specs.Histories.{HeldLatch, Snapshot, met_in}
use Rattle.latch_model.specs.Latches.{LiesInLatch}
use Rattle.latch_model.specs.declared.history.Fault.{Fault}
use Rattle.latch_model.specs.declared.history.Fault.TheVariants as fault
use Rattle.latch_model.specs.declared.history.Grant.{Grant}
use Rattle.latch_model.specs.declared.latch.Latch.{Latch}
use Rattle.latch_model.specs.declared.latch.Policy.TheVariants.{Error}
use Rattle.shot_walks.specs.Waits.{waits_for}
use Rattle.signal_board.specs.Steps.{IsReady}
use Rattle.signal_board.specs.Views.{RequestView}
use Rattle.waiter.specs.declared.mark.Mark.{Mark}
use Rattle.waiter.specs.declared.shared.Core.{Core}

-- To which core something belongs: its table of signals and its pool of rows.
pub record CoreId : Type 0 where
  pub signals : TableId
  pub rows : TableId

abbrev pub id_of : Core → CoreId
id_of core = record { signals = core.board.table; rows = core.rows }

-- What the last poll of a waiting request answered, and the held latch that it met.
pub data Last : Type 0 where
  Unpolled : Last
  Ready : Last
  Blocked : HeldLatch → Last
  Poisoned : HeldLatch → Last

-- A request that has begun: its core, and what it knows.
pub record OpenedSays : Type 0 where
  pub core : CoreId
  pub r : RequestView

-- A request that waits: its core, what it knows, how many of its polls were Blocked, and its last poll.
pub record WaitingSays : Type 0 where
  pub core : CoreId
  pub r : RequestView
  pub turns : ℕ
  pub last : Last

-- An optimistic request: the held latch that the last check met, if one met, and the latches of the check that passed, if it stands.
pub record OptimistSays : Type 0 where
  pub core : CoreId
  pub r : RequestView
  pub met : Option HeldLatch
  pub passed : Option (List Latch)

-- A granted request, and how it was granted.
pub record GrantedSays : Type 0 where
  pub core : CoreId
  pub r : RequestView
  pub grant : Grant

-- A request that is to end, and with what.
pub record EndingSays : Type 0 where
  pub core : CoreId
  pub r : RequestView
  pub grant : Grant
  pub fault : Fault

-- The mark of a held latch: whose it is, its place in that request, its span and its normal stamp.
abbrev pub Shows : Mark → HeldLatch → Type 0
Shows mark x = (mark.by ≡ x.by) × (mark.place ≡ x.place) × (mark.span ≡ x.latch.span) × (mark.stamp ≡ x.latch.stamp)

-- There is no mark of a waiting request that wasn't polled or was Ready; else it is that of the latch of the last poll.
abbrev pub ShowsLast : Option Mark → Last → Type 0
ShowsLast mark Unpolled = mark ≡ None
ShowsLast mark Ready = mark ≡ None
ShowsLast mark (Blocked x) = (m : Mark) × (mark ≡ Some m) × Shows m x
ShowsLast mark (Poisoned x) = (m : Mark) × (mark ≡ Some m) × Shows m x

-- The mark of an optimistic request is that of the latch that the last check met.
abbrev pub ShowsMet : Option Mark → Option HeldLatch → Type 0
ShowsMet mark None = mark ≡ None
ShowsMet mark (Some x) = (m : Mark) × (mark ≡ Some m) × Shows m x

-- What the last poll left behind: where it was Ready, each prerequisite is known ended; else the latch is one that the request waits
-- for; where it was Poisoned, the policy is Error and that request is known poisoned.
abbrev pub LastGiven : RequestView → ℕ → Last → Type 0
LastGiven r turns Unpolled = Unit {0}
LastGiven r turns Ready = IsReady r
LastGiven r turns (Blocked x) = Contains (waits_for r) x × (1 ≤ turns)
LastGiven r turns (Poisoned x) = Contains (waits_for r) x × (r.request.policy ≡ Error) × Contains r.poisoned x.by

-- A check that passed: each latch lies in a declared one, and none meets a latch of the snapshot.
abbrev pub PassedGiven : List Latch → Snapshot → Option (List Latch) → Type 0
PassedGiven declared shot None = Unit {0}
PassedGiven declared shot (Some ls) = All (λ l. Any (LiesInLatch l) declared) ls × (met_in shot ls ≡ [])

-- A waiting request may end with no fault; as poisoned by the request of the last poll, where that was Poisoned; and as cancelled after
-- as many turns as it has, where the last poll was Blocked.
abbrev pub MayAbandon : WaitingSays → Fault → Type 0
MayAbandon w fault.None = Unit {0}
MayAbandon w (fault.Poisoned p) = (x : HeldLatch) × (w.last ≡ Poisoned x) × (x.by ≡ p)
MayAbandon w (fault.Cancelled n) = (n ≡ w.turns) × ((x : HeldLatch) × (w.last ≡ Blocked x))
