-- What a session does with one command, and where it stands in front of each.
use Rattle.std.specs.Prelude.{◌≡◌, ◌≢◌, ℕ, zero, suc, ◌+◌, ◌<◌, ◌≤◌, List, [], ◌∷◌, ◌++◌, Option, Some, None, IfSome, length, map}
use Rattle.std.specs.Prelude.{slice_get, take}
use Rattle.atomic_table.specs.Seated.{TableId}
use Rattle.latch_model.specs.declared.latch.Latch.{Latch}
use Rattle.latch_model.specs.declared.latch.Mode.{Mode}
use Rattle.latch_model.specs.declared.latch.Policy.{Policy}
use Rattle.latch_model.specs.declared.latch.TheConstants.Latches.{LIMIT}
use Rattle.script.specs.Follows.{Block, Follows}
use Rattle.script.specs.declared.command.Command.{Command}
use Rattle.script.specs.declared.command.Command.TheVariants.{Begin, Wait, Check, Poison, Release, Metrics}
use Rattle.signal_board.specs.Rule.{open_count, own}
use Rattle.signal_board.specs.Says.{PassSays}
use Rattle.waiter.specs.Says.{CoreId}
use Rattle.replay.specs.Blocks.{GrowsBy, LiveName, blocks_until, new_block}
use Rattle.replay.specs.Sessions.{Hand, Idle, Standing, TurnsOf}
-- The sizes at which the program runs a script.
pub use Rattle.step_run.specs.Runs.{program_sizes}

-- A pass of a new desk, of a session from 1 on: it has no entry yet, and was shown none.
abbrev pub Fresh : TableId → PassSays → Type 0
Fresh table pass = (pass.table ≡ table) × (pass.p.shown ≡ []) × (pass.p.mine ≡ []) × (1 ≤ pass.p.who)

-- A pass stays that of its board and of its session.
abbrev pub Keeps : PassSays → PassSays → Type 0
Keeps old new = (new.table ≡ old.table) × (new.p.who ≡ old.p.who)

-- What a command of the session makes of its blocks: an opening, for which the session has nothing in hand, adds one; a command on the live name
-- goes into the last one, whose request is in hand.
abbrev pub RunsTo : ℕ → Option ℕ → Command → Hand → List Block → List Block → Type 0
RunsTo line turns (Begin session name mode policy own latches) hand bs ds = (hand ≡ Idle) × (ds ≡ bs ++ new_block line mode policy own latches ∷ [])
RunsTo line turns (Wait name) hand bs ds = (hand ≢ Idle) × GrowsBy (Wait name) bs ds × TurnsOf bs turns
RunsTo line turns (Check name latches) hand bs ds = (hand ≢ Idle) × GrowsBy (Check name latches) bs ds
RunsTo line turns (Poison name) hand bs ds = (hand ≢ Idle) × GrowsBy (Poison name) bs ds
RunsTo line turns (Release name) hand bs ds = (hand ≢ Idle) × GrowsBy (Release name) bs ds
RunsTo line turns Metrics hand bs ds = ⊥

-- What running a command does to a session that stands at its blocks.
abbrev pub Ran : CoreId → ℕ → Option ℕ → Command → PassSays → Hand → PassSays → Hand → Type 0
Ran core line turns c old hand new next =
    (bs ds : List Block) → RunsTo line turns c hand bs ds → Standing core old.p bs hand → Standing core new.p ds next

-- What is in hand then: nothing behind a release, and something behind every other command on a live name.
abbrev pub NextHand : Command → Hand → Hand → Type 0
NextHand (Begin session name mode policy turns latches) hand next = next ≢ Idle
NextHand (Wait name) hand next = hand ≢ Idle → next ≢ Idle
NextHand (Check name latches) hand next = hand ≢ Idle → next ≢ Idle
NextHand (Poison name) hand next = hand ≢ Idle → next ≢ Idle
NextHand (Release name) hand next = next ≡ Idle
NextHand Metrics hand next = Unit {0}

-- The live name of a session in front of command i: none, with nothing in hand; or the one that command k opened, whose turns are those of the last
-- block.
abbrev pub IsLiveAt : List Command → ℕ → ℕ → Option ℕ → List Block → Hand → Type 0
IsLiveAt cs w i None bs hand = LiveName (take i cs) w None × (hand ≡ Idle)
IsLiveAt cs w i (Some k) bs hand =
    (name : List ℕ) × (mode : Mode) × (policy : Policy) × (turns : Option ℕ) × (latches : List Latch)
    × (slice_get cs k ≡ Some (Begin w name mode policy turns latches)) × LiveName (take i cs) w (Some name) × TurnsOf bs turns × (hand ≢ Idle)

-- Where a session stands in front of command i.
pub record IsAt (cs : List Command) (core : CoreId) (w i : ℕ) (pass : PassSays) (live : Option ℕ) (hand : Hand) : Type 0 where
  pub board : pass.table ≡ core.signals
  pub session : pass.p.who ≡ w
  pub standing : Standing core pass.p (blocks_until cs w i) hand
  pub named : IsLiveAt cs w i live (blocks_until cs w i) hand

-- the place of the opening of the live name behind a command of the session
abbrev pub live_behind : Option ℕ → ℕ → Command → Option ℕ
live_behind live i (Begin session name mode policy turns latches) = Some i
live_behind live i (Wait name) = live
live_behind live i (Check name latches) = live
live_behind live i (Poison name) = live
live_behind live i (Release name) = None
live_behind live i Metrics = live

-- the turns of the block that an opening begins
abbrev pub turns_of : Option Command → Option ℕ
turns_of None = None
turns_of (Some (Begin session name mode policy turns latches)) = turns
turns_of (Some (Wait name)) = None
turns_of (Some (Check name latches)) = None
turns_of (Some (Poison name)) = None
turns_of (Some (Release name)) = None
turns_of (Some Metrics) = None

abbrev pub turns_at : List Command → Option ℕ → Option ℕ
turns_at cs None = None
turns_at cs (Some k) = turns_of (slice_get cs k)

-- A number of turns that a script gives is at least 1.
abbrev pub SomeTurns : Option ℕ → Type 0
SomeTurns turns = IfSome turns (λ n. 1 ≤ n)

-- A command of a script has at most so many latches, and its turns, where it has a number of them, are at least 1.
abbrev pub IsFit : Command → Type 0
IsFit (Begin session name mode policy turns latches) = SomeTurns turns × (length latches ≤ LIMIT)
IsFit (Wait name) = Unit {0}
IsFit (Check name latches) = Unit {0}
IsFit (Poison name) = Unit {0}
IsFit (Release name) = Unit {0}
IsFit Metrics = Unit {0}

-- In a list of the sessions of commands none is w from place i up to place k; and the place of the next one that is, from place i on.
abbrev pub NoneBetween : List ℕ → ℕ → ℕ → ℕ → Type 0
NoneBetween ss w i k = (j : ℕ) → i ≤ j → j < k → slice_get ss j ≢ Some w

abbrev pub IsNext : List ℕ → ℕ → ℕ → Option ℕ → Type 0
IsNext ss w i None = NoneBetween ss w i (length ss)
IsNext ss w i (Some k) = (i ≤ k) × (slice_get ss k ≡ Some w) × NoneBetween ss w i k

-- The numbers of some passes, in order.
abbrev pub whos : List PassSays → List ℕ
whos passes = map (λ (p : PassSays). p.p.who) passes

-- A pass whose session was run: it has no open request, and its entries are its own in what it has been shown.
abbrev pub Rested : TableId → PassSays → Type 0
Rested table pass = (pass.table ≡ table) × (open_count pass.p.mine ≡ 0) × (pass.p.mine ≡ own pass.p.who pass.p.shown)

-- What a pass has been shown follows the commands of its session.
abbrev pub FollowsIn : List Command → PassSays → Type 0
FollowsIn cs pass = Follows pass.p.shown pass.p.who cs

-- The numbers of so many passes, from 1 in their order.
abbrev pub numbers_from : ℕ → ℕ → List ℕ
numbers_from n zero = []
numbers_from n (suc k) = (n + 1) ∷ numbers_from (n + 1) k

abbrev pub lane_numbers : ℕ → List ℕ
lane_numbers k = numbers_from 0 k
