-- What a request waits for, and what it knows of the ends of that.
use Rattle.std.specs.Prelude.{◌≡◌, ℕ, false, List, ◌∷◌, ◌++◌, Option, Some, None}
use Rattle.std.specs.List.{Contains}
use Rattle.latch_model.specs.Histories.{HeldLatch, has_ended, met_in}
use Rattle.signal_board.specs.Says.{LaneSays}
use Rattle.signal_board.specs.Views.{RequestView}

-- The held latches that a request waits for, in the waiting order: those that its own latches meet in its snapshot.
abbrev pub waits_for : RequestView → List HeldLatch
waits_for r = met_in r.shot r.request.latches

-- A request waits for each of these.
abbrev pub WaitsForEach : RequestView → List HeldLatch → Type 0
WaitsForEach r xs = (x : HeldLatch) → Contains xs x → Contains (waits_for r) x

-- A request that another waits for, by its number.
abbrev pub IsWaitedFor : RequestView → ℕ → Type 0
IsWaitedFor r by = (x : HeldLatch) × Contains (waits_for r) x × (x.by ≡ by)

-- Each of these held latches is of a request that is known ended.
abbrev pub AllEnded : List ℕ → List HeldLatch → Type 0
AllEnded ended xs = (x : HeldLatch) → Contains xs x → Contains ended x.by

-- Of the held latches `all`, those in front of `ahead` are of requests that are known ended.
pub record Passed (ended : List ℕ) (all ahead : List HeldLatch) : Type 0 where
  pub front : List HeldLatch
  pub parted : all ≡ front ++ ahead
  pub over : AllEnded ended front

-- A seat has learnt of ends, and nothing else.
abbrev pub Learns : LaneSays → LaneSays → Type 0
Learns old new =
    (new ≡ record old { r = record old.r { ended = new.r.ended } })
    × ((p : ℕ) → Contains old.r.ended p → Contains new.r.ended p)

-- The first held latch that a request waits for and whose request hasn't ended: each in front of it is of a request that is then known ended, and the end of
-- its own isn't in what the request has been shown.
pub record FirstOpen (old new : RequestView) (x : HeldLatch) : Type 0 where
  pub rest : List HeldLatch
  pub passed : Passed new.ended (waits_for old) (x ∷ rest)
  pub not_shown : has_ended old.shown x.by ≡ false

-- Of these held latches, the last whose request hasn't ended: each behind it is of a request that is then known ended, and the end of its own isn't in what the
-- request has been shown.
pub record LastOpen (old new : RequestView) (xs : List HeldLatch) (x : HeldLatch) : Type 0 where
  pub front : List HeldLatch
  pub rest : List HeldLatch
  pub parted : xs ≡ front ++ x ∷ rest
  pub over : AllEnded new.ended rest
  pub not_shown : has_ended old.shown x.by ≡ false

-- The number of its request, or none where each of them is of a request that is then known ended.
abbrev pub IsLastOpen : RequestView → RequestView → List HeldLatch → Option ℕ → Type 0
IsLastOpen old new xs None = AllEnded new.ended xs
IsLastOpen old new xs (Some by) = (x : HeldLatch) × LastOpen old new xs x × (x.by ≡ by)
