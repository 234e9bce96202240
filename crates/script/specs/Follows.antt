-- When a history follows a script: the commands of each session fall into blocks, each from an opening through its release, and each block
-- makes one begin and one end, in the order of the blocks.
use Rattle.std.specs.Prelude.{◌≡◌, ℕ, Bool, true, false, not, ◌==◌, if◌then◌else◌, IsTrue, List, [], ◌∷◌, Option, Some, None}
use Rattle.std.specs.Bool.{MatchBool}
use Rattle.std.specs.List.{All, enumerate_from, filter, list_all, list_any, take_while}
use Rattle.latch_model.specs.Declaration.{Declaration}
use Rattle.latch_model.specs.Histories.{Begin as BeginEntry, HeldLatch, in_front, latches_held}
use Rattle.latch_model.specs.Latches.{conflict, lies_in_latch}
use Rattle.latch_model.specs.declared.history.Cause.{Cause}
use Rattle.latch_model.specs.declared.history.Cause.TheVariants.{None as no_cause, Called, From}
use Rattle.latch_model.specs.declared.history.Entry.{Entry}
use Rattle.latch_model.specs.declared.history.Entry.TheVariants.{Begun, Ended}
use Rattle.latch_model.specs.declared.history.Fault.{Fault}
use Rattle.latch_model.specs.declared.history.Fault.TheVariants.{None as no_fault, Poisoned, Cancelled}
use Rattle.latch_model.specs.declared.history.Grant.{Grant}
use Rattle.latch_model.specs.declared.history.Grant.TheVariants.{Never, Waited, Checked}
use Rattle.latch_model.specs.declared.latch.Latch.{Latch}
use Rattle.latch_model.specs.declared.latch.Mode.{Mode}
use Rattle.latch_model.specs.declared.latch.Mode.TheVariants.{Acquire, Optimistic, Look}
use Rattle.latch_model.specs.declared.latch.Policy.{Policy}
use Rattle.script.specs.Commands.{opens_for}
use Rattle.script.specs.declared.command.Command.{Command}
use Rattle.script.specs.declared.command.Command.TheVariants.{Begin, Wait, Check, Poison, Release, Metrics}

-- A block: the line of its opening and what that says, and the commands on its name through its release.
pub record Block : Type 0 where
  pub line : ℕ
  pub mode : Mode
  pub policy : Policy
  pub turns : Option ℕ
  pub latches : List Latch
  pub more : List Command

-- whether a command of the script is one of this session: it opens a request of the session, or is on a name that the session opened
abbrev pub is_of : List Command → ℕ → Command → Bool
is_of cs w (Begin session name mode policy turns latches) = session == w
is_of cs w (Wait name) = list_any (opens_for w name) cs
is_of cs w (Check name latches) = list_any (opens_for w name) cs
is_of cs w (Poison name) = list_any (opens_for w name) cs
is_of cs w (Release name) = list_any (opens_for w name) cs
is_of cs w Metrics = false

-- the commands of a session with their lines, in order
abbrev pub commands_of : List Command → ℕ → List (ℕ × Command)
commands_of cs w = filter (λ (p : ℕ × Command). is_of cs w p.1) (enumerate_from 2 cs)

-- The blocks of commands with lines, behind the commands that stand in front of the first opening.
abbrev pub with_command : ℕ → Command → List Command × List Block → List Command × List Block
with_command n (Begin session name mode policy turns latches) rest =
    ([], record { line = n; mode = mode; policy = policy; turns = turns; latches = latches; more = rest.0 } ∷ rest.1)
with_command n (Wait name) rest = (Wait name ∷ rest.0, rest.1)
with_command n (Check name latches) rest = (Check name latches ∷ rest.0, rest.1)
with_command n (Poison name) rest = (Poison name ∷ rest.0, rest.1)
with_command n (Release name) rest = (Release name ∷ rest.0, rest.1)
with_command n Metrics rest = (Metrics ∷ rest.0, rest.1)

abbrev pub in_blocks : List (ℕ × Command) → List Command × List Block
in_blocks [] = ([], [])
in_blocks (p ∷ ps) = with_command p.0 p.1 (in_blocks ps)

abbrev pub blocks_of : List Command → ℕ → List Block
blocks_of cs w = (in_blocks (commands_of cs w)).1

abbrev pub is_wait : Command → Bool
is_wait (Begin session name mode policy turns latches) = false
is_wait (Wait name) = true
is_wait (Check name latches) = false
is_wait (Poison name) = false
is_wait (Release name) = false
is_wait Metrics = false

abbrev pub is_poison : Command → Bool
is_poison (Begin session name mode policy turns latches) = false
is_poison (Wait name) = false
is_poison (Check name latches) = false
is_poison (Poison name) = true
is_poison (Release name) = false
is_poison Metrics = false

-- whether a block has a `wait`, whether it has a `poison`, and whether a `poison` stands in front of its first `wait`
abbrev pub has_wait : Block → Bool
has_wait b = list_any is_wait b.more

abbrev pub is_called : Block → Bool
is_called b = list_any is_poison b.more

abbrev pub is_early : Block → Bool
is_early b = list_any is_poison (take_while (λ c. not (is_wait c)) b.more)

-- What the checks of a block passed. It begins as nothing and goes through the checks in their order: one that asks for a latch that
-- lies in no declared one changes nothing; one that asks for a latch in conflict with one that was held in front of the begin leaves
-- nothing; every other leaves the asked latches.
abbrev pub passed_check : List Latch → List HeldLatch → List Latch → Option (List Latch) → Option (List Latch)
passed_check declared held asked before =
    if list_all (λ l. list_any (lies_in_latch l) declared) asked
    then (if list_any (λ l. list_any (λ (x : HeldLatch). conflict l x.latch) held) asked then None else Some asked)
    else before

abbrev pub passed_behind : List Latch → List HeldLatch → Command → Option (List Latch) → Option (List Latch)
passed_behind declared held (Begin session name mode policy turns latches) before = before
passed_behind declared held (Wait name) before = before
passed_behind declared held (Check name asked) before = passed_check declared held asked before
passed_behind declared held (Poison name) before = before
passed_behind declared held (Release name) before = before
passed_behind declared held Metrics before = before

abbrev pub passed_from : List Latch → List HeldLatch → Option (List Latch) → List Command → Option (List Latch)
passed_from declared held before [] = before
passed_from declared held before (c ∷ cs) = passed_from declared held (passed_behind declared held c before) cs

-- In the history h, where request k was begun by the block.
abbrev pub passed_in : List Entry → ℕ → Block → Option (List Latch)
passed_in h k b = passed_from b.latches (latches_held (in_front h k)) None b.more

-- The end of a request: its number, how its latches were granted, why it was poisoned, and what failed.
pub record EndEntry : Type 0 where
  pub id : ℕ
  pub grant : Grant
  pub cause : Cause
  pub fault : Fault

-- The three ways in which a request that waited may end, each with the causes that it may have: it was granted; it failed, for it met a
-- latch of a poisoned request; or it was cancelled at the last of its turns, of which it had a number.
abbrev pub WaitEnds : Option ℕ → (Cause → Type 0) → (Cause → Type 0) → (Cause → Type 0) → Grant → Fault → Cause → Type 0
WaitEnds turns granted failed cancelled (Waited n) no_fault cause = granted cause
WaitEnds turns granted failed cancelled Never (Poisoned p) cause = failed cause
WaitEnds turns granted failed cancelled Never (Cancelled n) cause = (turns ≡ Some n) × cancelled cause
WaitEnds turns granted failed cancelled Never no_fault cause = ⊥
WaitEnds turns granted failed cancelled (Waited n) (Poisoned p) cause = ⊥
WaitEnds turns granted failed cancelled (Waited n) (Cancelled m) cause = ⊥
WaitEnds turns granted failed cancelled (Checked asked) fault cause = ⊥

-- The causes: none; the block's own `poison`; another request, or none; another request or else, exactly where the block has a
-- `poison`, that one.
abbrev pub NoCause : Cause → Type 0
NoCause cause = cause ≡ no_cause

abbrev pub OwnCause : Cause → Type 0
OwnCause cause = cause ≡ Called

abbrev pub CauseOfAnother : Cause → Type 0
CauseOfAnother no_cause = Unit {0}
CauseOfAnother Called = ⊥
CauseOfAnother (From p) = Unit {0}

abbrev pub AnyCause : Bool → Cause → Type 0
AnyCause called no_cause = called ≡ false
AnyCause called Called = called ≡ true
AnyCause called (From p) = Unit {0}

-- How the request of an `acquire` ends, of a `look`, and of an `optimistic`. Without a `wait` the last ends by what its checks passed; with
-- one it ends as that of an `acquire`, but that a `poison` in front of the first `wait` is its cause in any case.
abbrev pub AcquireEnds : Block → Grant → Fault → Cause → Type 0
AcquireEnds b = WaitEnds b.turns (AnyCause (is_called b)) NoCause CauseOfAnother

abbrev pub LookEnds : Block → Grant → Fault → Cause → Type 0
LookEnds b = WaitEnds b.turns CauseOfAnother NoCause CauseOfAnother

abbrev pub passed_grant : Option (List Latch) → Grant
passed_grant None = Never
passed_grant (Some asked) = Checked asked

abbrev pub called_cause : Bool → Cause
called_cause true = Called
called_cause false = no_cause

abbrev pub OptimisticEnds : Block → Option (List Latch) → Grant → Fault → Cause → Type 0
OptimisticEnds b passed grant fault cause =
    MatchBool (has_wait b)
    (MatchBool (is_early b) (WaitEnds b.turns OwnCause OwnCause OwnCause grant fault cause) (AcquireEnds b grant fault cause))
    ((grant ≡ passed_grant passed) × (fault ≡ no_fault) × (cause ≡ called_cause (is_called b)))

abbrev pub EndsAs : Mode → Block → Option (List Latch) → Grant → Fault → Cause → Type 0
EndsAs Acquire b passed = AcquireEnds b
EndsAs Optimistic b passed = OptimisticEnds b passed
EndsAs Look b passed = LookEnds b

-- what the request of a block declares
abbrev pub declaration_of : Block → Declaration
declaration_of b = record { tag = b.line; policy = b.policy; latches = b.latches }

-- One block, what its checks passed, and the begin and the end that it made.
pub record MadeBy (b : Block) (passed : Option (List Latch)) (begun : BeginEntry) (ended : EndEntry) : Type 0 where
  pub mode : begun.mode ≡ b.mode
  pub declared : begun.request ≡ declaration_of b
  pub same_request : ended.id ≡ begun.id
  pub ends : EndsAs b.mode b passed ended.grant ended.fault ended.cause

-- All blocks of a session and its entries: a begin and an end of each block, block by block, and nothing else. What the checks of a block
-- passed is told by the number of its request.
abbrev pub AllMadeBy : (ℕ → Block → Option (List Latch)) → List Block → List Entry → Type 0
AllMadeBy passed [] [] = Unit {0}
AllMadeBy passed (b ∷ bs) (Begun id lane who mode request ∷ Ended k session grant cause fault ∷ es) =
    MadeBy b (passed id b) (record { id = id; lane = lane; who = who; mode = mode; request = request })
    (record { id = k; grant = grant; cause = cause; fault = fault })
    × AllMadeBy passed bs es
AllMadeBy passed bs es = ⊥

-- the session of an entry, and the entries of a session
abbrev pub session_of : Entry → ℕ
session_of (Begun id lane who mode request) = who
session_of (Ended id who grant cause fault) = who

abbrev pub entries_of : ℕ → List Entry → List Entry
entries_of w h = filter (λ e. session_of e == w) h

-- The entries of session w in the history follow the commands of the session.
abbrev pub Follows : List Entry → ℕ → List Command → Type 0
Follows h w cs = AllMadeBy (passed_in h) (blocks_of cs w) (entries_of w h)

-- the sessions of a script are those that open a request in it
abbrev pub opens_in : ℕ → Command → Bool
opens_in w (Begin session name mode policy turns latches) = session == w
opens_in w (Wait name) = false
opens_in w (Check name latches) = false
opens_in w (Poison name) = false
opens_in w (Release name) = false
opens_in w Metrics = false

abbrev pub is_session_of : List Command → ℕ → Bool
is_session_of cs w = list_any (opens_in w) cs

-- No entry is of another: the session of each is one of the script.
abbrev pub HasNoOthers : List Entry → List Command → Type 0
HasNoOthers h cs = All (λ e. IsTrue (is_session_of cs (session_of e))) h

-- A history follows a script: the entries of each of its sessions follow that session's commands, and no entry is of another.
pub record FollowsScript (h : List Entry) (cs : List Command) : Type 0 where
  pub each : (w : ℕ) → IsTrue (is_session_of cs w) → Follows h w cs
  pub no_others : HasNoOthers h cs
