-- What a turn of a waiting request answers, by the poll that was made.
use Rattle.std.specs.Prelude.{◌≡◌, ℕ, Bool, true, false, not}
use Rattle.latch_model.specs.Histories.{HeldLatch}
use Rattle.latch_model.specs.declared.history.Cause.{Cause}
use Rattle.waiter.specs.Says.{Blocked, Poisoned, Ready, WaitingSays}
use Rattle.waiter.specs.declared.waiting.Polled.{Polled}
use Rattle.waiter.specs.declared.waiting.Polled.TheVariants as polled
use Rattle.step_run.specs.State.{Named, State}
use Rattle.step_run.specs.Lives.{is_none}
use Rattle.step_run.specs.Runs.{AskedBlocked, AskedPoisoned, AskedReady}

abbrev pub Asked : State → Named → WaitingSays → WaitingSays → Polled → Type 0
Asked s n old new polled.Ready = AskedReady s n old new
Asked s n old new (polled.Blocked by place) = AskedBlocked s n by old new
Asked s n old new (polled.Poisoned by place) = AskedPoisoned s n by old new

-- the number of the request that is in the way, or 0
abbrev pub blocker : Polled → ℕ
blocker polled.Ready = 0
blocker (polled.Blocked by place) = by
blocker (polled.Poisoned by place) = by

-- Whether that request may have been found poisoned, by the answer and by the cause of the polled one after it: where a poll finds it so and
-- answers Blocked, the polled one is poisoned too.
abbrev pub may_be_poisoned : Polled → Cause → Bool
may_be_poisoned polled.Ready cause = false
may_be_poisoned (polled.Blocked by place) cause = not (is_none cause)
may_be_poisoned (polled.Poisoned by place) cause = true

-- what the last poll of a request answered
abbrev pub LastIs : WaitingSays → Polled → Type 0
LastIs w polled.Ready = w.last ≡ Ready
LastIs w (polled.Blocked by place) = (x : HeldLatch) × (w.last ≡ Blocked x)
LastIs w (polled.Poisoned by place) = (x : HeldLatch) × (w.last ≡ Poisoned x) × (x.by ≡ by)
