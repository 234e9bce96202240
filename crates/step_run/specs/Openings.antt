-- What stands for a request that has begun just now.
use Rattle.std.specs.Prelude.{ℕ, ◌≤◌, ◌++◌, List, [], ◌∷◌, map, Option, Some, None, codes, decimal}
use Rattle.latch_model.specs.Declaration.{Declaration}
use Rattle.latch_model.specs.Histories.{ascending}
use Rattle.latch_model.specs.declared.history.Entry.{Entry}
use Rattle.latch_model.specs.declared.latch.Mode.{Mode}
use Rattle.latch_model.specs.declared.latch.Mode.TheVariants.{Acquire, Optimistic as optimistic_mode, Look}
use Rattle.report.specs.Words.{numbers_text}
use Rattle.script.specs.declared.limits.TheConstants.{TURN_LIMIT}
use Rattle.sequence_core.specs.Says.{next_entry}
use Rattle.shot_walks.specs.Waits.{waits_for}
use Rattle.signal_board.specs.Says.{shown_to}
use Rattle.signal_board.specs.Steps.{new_request}
use Rattle.signal_board.specs.Views.{RequestView}
use Rattle.waiter.specs.Says.{CoreId, OptimistSays, Unpolled, WaitingSays}
use Rattle.step_run.specs.Lives.{LiveSays}
use Rattle.step_run.specs.declared.live.Value.{Value}
use Rattle.step_run.specs.declared.live.Value.TheVariants.{Optimist, Waiting, Granted, Over}
use Rattle.step_run.specs.declared.open.Opening.{Opening}

abbrev pub begun_request : List Entry → ℕ → Mode → Declaration → RequestView
begun_request log who mode request =
    let e : Entry = next_entry log who mode request in
    shown_to (log ++ e ∷ []) (new_request log e)

abbrev pub new_waiting : CoreId → RequestView → WaitingSays
new_waiting core r = record { core = core; r = r; turns = 0; last = Unpolled }

abbrev pub new_optimist : CoreId → RequestView → OptimistSays
new_optimist core r = record { core = core; r = r; met = None; passed = None }

abbrev pub begun_value : CoreId → Mode → RequestView → Value
begun_value core Acquire r = Waiting (new_waiting core r)
begun_value core optimistic_mode r = Optimist (new_optimist core r)
begun_value core Look r = Waiting (new_waiting core r)

abbrev pub opening_of : Opening → Value → LiveSays
opening_of o v = record { name = o.name.now; session = o.session; mode = o.mode; turns = o.turns; value = v }

-- A value stands for a request that checks or waits.
abbrev pub IsBegun : Value → Type 0
IsBegun (Optimist o) = Unit {0}
IsBegun (Waiting w) = Unit {0}
IsBegun (Granted g) = ⊥
IsBegun Over = ⊥

-- its number, and those of its prerequisites
abbrev pub request_text : RequestView → List ℕ
request_text r = decimal r.id ++ codes " before " ++ numbers_text (ascending (map (λ x. x.by) (waits_for r)))

abbrev pub opening_text : Value → List ℕ
opening_text (Optimist o) = request_text o.r
opening_text (Waiting w) = request_text w.r
opening_text (Granted g) = []
opening_text Over = []

abbrev pub TurnsRange : Option ℕ → Type 0
TurnsRange None = Unit {0}
TurnsRange (Some n) = (1 ≤ n) × (n ≤ TURN_LIMIT)
