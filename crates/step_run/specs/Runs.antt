-- What contracts see of a run, when it can go on and be closed, and when it stands at a state of the definition.
use Rattle.std.specs.Prelude.{◌≡◌, ◌≢◌, ℕ, zero, suc, ◌+◌, ◌^◌, ◌<◌, ◌-◌, min, Bool, true, false, not, ◌||◌, List, [], ◌∷◌, ◌++◌, length}
use Rattle.std.specs.Prelude.{Option, Some, None, slice_get}
use Rattle.std.specs.List.{filter}
use Rattle.latch_model.specs.Histories.{HeldLatch, has_ended, latches_of, met, shot}
use Rattle.latch_model.specs.Latches.{normal}
use Rattle.latch_model.specs.declared.history.Entry.{Entry}
use Rattle.latch_model.specs.declared.history.Grant.TheVariants.{Waited}
use Rattle.latch_model.specs.declared.history.Sizes.{Sizes}
use Rattle.latch_model.specs.declared.latch.Policy.TheVariants.{Wait, Error}
use Rattle.latch_model.proofs.Elements.{Each}
use Rattle.script.specs.declared.limits.TheConstants.{SESSION_LIMIT}
use Rattle.signal_board.specs.Rule.{open_count}
use Rattle.signal_board.specs.Says.{PassSays}
use Rattle.signal_board.specs.Views.{RequestView}
use Rattle.waiter.specs.Says.{Blocked, CoreId, Poisoned, Ready, WaitingSays}
use Rattle.step_run.specs.State.{Granted, Named, Optimistic, Over, Pending, Phase, State, is_poisoned_in}
use Rattle.step_run.specs.Steps.{Step, spread_to}
use Rattle.step_run.specs.Valid.{Valid}
use Rattle.step_run.specs.Lives.{HasNoCause, IsLive, LiveSays, cause_of, has_open, is_none, with_value}
use Rattle.step_run.specs.declared.live.Value.{Value}
use Rattle.step_run.specs.declared.live.Value.TheVariants.{Optimist, Waiting, Granted as GrantedValue, Over as OverValue}

-- A run: its core and that of its desk, the desk's sizes, how many passes it gave and its history, the passes and the live names, and whether
-- some live request may have a cause.
pub record RunSays : Type 0 where
  pub core : CoreId
  pub desk : CoreId
  pub sizes : Sizes
  pub given : ℕ
  pub log : List Entry
  pub passes : List PassSays
  pub lives : List LiveSays
  pub some_cause : Bool

-- The sizes at which the program runs a script.
abbrev pub program_sizes : Sizes
program_sizes = record { latches = 1024; lanes = 64; rows = 98304 }

-- Sizes with the latches and lanes of the program, and with any number of rows.
pub record HasProgramRoom (sizes : Sizes) : Type 0 where
  pub latches : sizes.latches ≡ program_sizes.latches
  pub lanes : sizes.lanes ≡ program_sizes.lanes

-- Pass number i, from 0, is of session i + 1. It has no open request where no live name of the session has one; of one session that is left
-- open.
pub record IsPass (core : CoreId) (lent : ℕ) (ls : List LiveSays) (i : ℕ) (p : PassSays) : Type 0 where
  pub table : p.table ≡ core.signals
  pub who : p.p.who ≡ i + 1
  pub idle : i + 1 ≢ lent → has_open (i + 1) ls ≡ false → open_count p.p.mine ≡ 0

-- All that a run needs to go on and to be closed. The request of one session, or of none where that is 0, may be lent to a call. Where no live
-- request may have a cause, none has.
pub record Sound (lent : ℕ) (r : RunSays) : Type 0 where
  pub core : r.desk ≡ r.core
  pub sizes : HasProgramRoom r.sizes
  pub given : r.given ≡ SESSION_LIMIT
  pub count : length r.passes ≡ SESSION_LIMIT
  pub passes : (i : ℕ) (p : PassSays) → slice_get r.passes i ≡ Some p → IsPass r.core lent r.lives i p
  pub lives : Each (IsLive r.core) r.lives
  pub causes : r.some_cause ≡ false → Each HasNoCause r.lives

-- The live name at a place is of this session, and its value is lent to a call.
pub record IsLent (i who : ℕ) (r : RunSays) : Type 0 where
  pub live : LiveSays
  pub at : slice_get r.lives i ≡ Some live
  pub over : live.value ≡ OverValue
  pub session : live.session ≡ who

-- The run after a value is given back to its place: some live request may have a cause from then on, if its has one.
abbrev pub given_back : ℕ → Value → RunSays → RunSays
given_back i v r = record r { lives = with_value i v r.lives; some_cause = r.some_cause || not (is_none (cause_of v)) }

-- Two lists of the same length whose elements go together, all but those at one place.
abbrev pub Pairs : {X Y : Type 0} → (X → Y → Type 0) → List X → List Y → Type 0
Pairs P [] [] = Unit {0}
Pairs P (x ∷ xs) (y ∷ ys) = P x y × Pairs P xs ys
Pairs P xs ys = ⊥

abbrev pub PairsBut : {X Y : Type 0} → ℕ → (X → Y → Type 0) → (X → Y → Type 0) → List X → List Y → Type 0
PairsBut i P Q [] [] = Unit {0}
PairsBut zero P Q (x ∷ xs) (y ∷ ys) = Q x y × Pairs P xs ys
PairsBut (suc i) P Q (x ∷ xs) (y ∷ ys) = P x y × PairsBut i P Q xs ys
PairsBut i P Q xs ys = ⊥

-- What a request knows of its begin is what the history says, and its cause is that of the name.
pub record FitsRequest (h : List Entry) (n : Named) (r : RequestView) : Type 0 where
  pub id : r.id ≡ n.id
  pub policy : r.request.policy ≡ n.policy
  pub latches : r.request.latches ≡ latches_of h n.id
  pub shot : r.shot ≡ shot h n.id
  pub cause : r.cause ≡ n.cause

-- Where a request has a number of turns, they have been counted as its polls were, and it has some left.
pub record HasTurns (turns counted polls : ℕ) : Type 0 where
  pub same : polls ≡ counted
  pub left : counted < turns
  pub few : turns < 2 ^ 32

abbrev pub FitsTurns : Option ℕ → ℕ → ℕ → Type 0
FitsTurns None counted polls = Unit {0}
FitsTurns (Some turns) counted polls = HasTurns turns counted polls

-- The value that stands for a name is one of its phase.
abbrev pub FitsValue : List Entry → Named → Phase → Value → Type 0
FitsValue h n Optimistic (Optimist o) = FitsRequest h n o.r × (o.passed ≡ n.passed) × FitsTurns n.turns n.counted 0
FitsValue h n Pending (Waiting w) = FitsRequest h n w.r × FitsTurns n.turns n.counted w.turns
FitsValue h n (Granted front) (GrantedValue g) = FitsRequest h n g.r × (g.grant ≡ Waited front)
FitsValue h n Over OverValue = Unit {0}
FitsValue h n phase value = ⊥

pub record FitsName (n : Named) (l : LiveSays) : Type 0 where
  pub name : l.name ≡ n.name
  pub session : l.session ≡ n.session
  pub mode : l.mode ≡ n.mode
  pub turns : l.turns ≡ n.turns

abbrev pub Fits : List Entry → Named → LiveSays → Type 0
Fits h n l = FitsName n l × FitsValue h n n.phase l.value

-- A run stands at a state, or does so but for the value of one live name.
pub record Stands (s : State) (r : RunSays) : Type 0 where
  pub history : r.log ≡ s.history
  pub valid : Valid s.history s.names
  pub names : Pairs (Fits s.history) s.names r.lives

pub record StandsBut (i : ℕ) (s : State) (r : RunSays) : Type 0 where
  pub history : r.log ≡ s.history
  pub valid : Valid s.history s.names
  pub names : PairsBut i (Fits s.history) FitsName s.names r.lives

-- What is written is that of a step, and the run stands at the state after it.
pub record Makes (t : Step) (r : RunSays) (before after : List ℕ) : Type 0 where
  pub written : after ≡ before ++ t.written
  pub stands : Stands t.state r

-- The open ones of the held latches that a request meets.
abbrev pub met_open : State → Named → List HeldLatch
met_open s n = filter (λ x. not (has_ended s.history x.by)) (met s.history n.id (latches_of s.history n.id))

-- What a turn of a waiting request answers: nothing is left to wait for; or the first open one of the latches that it meets, whose request
-- has a cause or not. A request with the policy to wait then has that cause.
abbrev pub spread_if : Bool → Named → ℕ → Named
spread_if true n p = spread_to n p
spread_if false n p = n

pub record AskedReady (s : State) (n : Named) (old new : WaitingSays) : Type 0 where
  pub last : new.last ≡ Ready
  pub nothing : met_open s n ≡ []
  pub fits : FitsRequest s.history n new.r
  pub shown : new.r.shown ≡ s.history

pub record AskedBlocked (s : State) (n : Named) (by : ℕ) (old new : WaitingSays) : Type 0 where
  pub latch : HeldLatch
  pub rest : List HeldLatch
  pub whose : by ≡ latch.by
  pub last : new.last ≡ Blocked latch
  pub first : met_open s n ≡ latch ∷ rest
  pub shown_normal : normal latch.latch ≡ latch.latch.stamp
  pub turns : new.turns ≡ min (old.turns + 1) (2 ^ 64 - 1)
  pub policy : is_poisoned_in s.names latch.by ≡ true → n.policy ≡ Wait
  pub fits : FitsRequest s.history (spread_if (is_poisoned_in s.names latch.by) n latch.by) new.r

pub record AskedPoisoned (s : State) (n : Named) (by : ℕ) (old new : WaitingSays) : Type 0 where
  pub latch : HeldLatch
  pub rest : List HeldLatch
  pub whose : by ≡ latch.by
  pub last : new.last ≡ Poisoned latch
  pub first : met_open s n ≡ latch ∷ rest
  pub shown_normal : normal latch.latch ≡ latch.latch.stamp
  pub poisoned : is_poisoned_in s.names latch.by ≡ true
  pub policy : n.policy ≡ Error
  pub fits : FitsRequest s.history n new.r

-- A name in another form, which says the same of how its request was opened.
pub record IsSame (n m : Named) : Type 0 where
  pub id : m.id ≡ n.id
  pub name : m.name ≡ n.name
  pub session : m.session ≡ n.session
  pub mode : m.mode ≡ n.mode
  pub turns : m.turns ≡ n.turns

-- A poll has counted one turn more, where the request has a number of them.
abbrev pub HasCounted : Option ℕ → ℕ → ℕ → Type 0
HasCounted None counted polls = Unit {0}
HasCounted (Some turns) counted polls = (polls ≡ counted + 1) × (counted < turns) × (turns < 2 ^ 32)
