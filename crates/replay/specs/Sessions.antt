-- Where a session stands: what its entries are, and what it has in hand, after some of its commands.
use Rattle.std.specs.Prelude.{◌≡◌, ℕ, ◌≤◌, true, false, List, [], ◌∷◌, ◌++◌, Option, Some, None}
use Rattle.std.specs.Bool.{MatchBool}
use Rattle.latch_model.specs.Histories.{Begin, begin_with, entry_of, shot}
use Rattle.latch_model.specs.declared.history.Cause.{Cause}
use Rattle.latch_model.specs.declared.history.Entry.{Entry}
use Rattle.latch_model.specs.declared.history.Entry.TheVariants.{Begun, Ended}
use Rattle.latch_model.specs.declared.history.Fault.{Fault}
use Rattle.latch_model.specs.declared.history.Grant.{Grant}
use Rattle.latch_model.specs.declared.history.Grant.TheVariants.{Waited}
use Rattle.latch_model.specs.declared.latch.Mode.{Mode}
use Rattle.latch_model.specs.declared.latch.Mode.TheVariants.{Acquire, Optimistic, Look}
use Rattle.script.specs.Follows.{AllMadeBy, AnyCause, Block, CauseOfAnother, EndEntry, LookEnds, NoCause, OwnCause, WaitEnds, called_cause, declaration_of}
use Rattle.script.specs.Follows.{has_wait, is_called, is_early, passed_in}
use Rattle.signal_board.specs.Rule.{begun_as, entries, open_count}
use Rattle.signal_board.specs.Views.{PassView}
use Rattle.waiter.specs.Says.{CoreId, GrantedSays, OptimistSays}
pub use Rattle.replay.specs.declared.hand.Hand.{Hand}
pub use Rattle.replay.specs.declared.hand.Hand.TheVariants.{Idle, Checking, Holding, Over}

-- The causes that a granted request of a block may have.
abbrev pub HeldCause : Mode → Block → Cause → Type 0
HeldCause Acquire b cause = AnyCause (is_called b) cause
HeldCause Optimistic b cause = (has_wait b ≡ true) × MatchBool (is_early b) (OwnCause cause) (AnyCause (is_called b) cause)
HeldCause Look b cause = ⊥

-- How a wait that failed ends.
abbrev pub FailedWait : Option ℕ → (Cause → Type 0) → (Cause → Type 0) → Grant → Fault → Cause → Type 0
FailedWait turns failed cancelled = WaitEnds turns (λ _. ⊥) failed cancelled

-- How a request of a block may have ended in front of its release.
abbrev pub OverBy : Mode → Block → Grant → Fault → Cause → Type 0
OverBy Acquire b grant fault cause = FailedWait b.turns NoCause CauseOfAnother grant fault cause
OverBy Optimistic b grant fault cause =
    (has_wait b ≡ true)
    × MatchBool (is_early b) (FailedWait b.turns OwnCause OwnCause grant fault cause) (FailedWait b.turns NoCause CauseOfAnother grant fault cause)
OverBy Look b grant fault cause = LookEnds b grant fault cause

-- An optimistic request of a block without a `wait`: its snapshot is that of the history, and its passed check is what the block's checks passed.
pub record IsChecking (h : List Entry) (b : Block) (o : OptimistSays) : Type 0 where
  pub begun : begin_with h o.r.id ≡ Some (begun_as o.r)
  pub mode : b.mode ≡ Optimistic
  pub is_optimistic : o.r.mode ≡ Optimistic
  pub declared : o.r.request ≡ declaration_of b
  pub waits : has_wait b ≡ false
  pub cause : o.r.cause ≡ called_cause (is_called b)
  pub shot_is : o.r.shot ≡ shot h o.r.id
  pub passed : o.passed ≡ passed_in h o.r.id b

-- A granted request of a block.
pub record IsHolding (h : List Entry) (b : Block) (g : GrantedSays) : Type 0 where
  pub begun : begin_with h g.r.id ≡ Some (begun_as g.r)
  pub mode : g.r.mode ≡ b.mode
  pub declared : g.r.request ≡ declaration_of b
  pub granted : (front : ℕ) × (g.grant ≡ Waited front)
  pub cause : HeldCause b.mode b g.r.cause

-- A request of a block that has ended in front of its release.
pub record IsOver (h : List Entry) (b : Block) (begun : Begin) (e : EndEntry) : Type 0 where
  pub begun_so : begin_with h begun.id ≡ Some begun
  pub mode : begun.mode ≡ b.mode
  pub declared : begun.request ≡ declaration_of b
  pub same_request : e.id ≡ begun.id
  pub ended : OverBy b.mode b e.grant e.fault e.cause

-- the entry of an end by a session
abbrev pub end_of : ℕ → EndEntry → Entry
end_of who e = Ended e.id who e.grant e.cause e.fault

-- The last block isn't released, and its request is the one in hand.
abbrev pub Unreleased : List Entry → ℕ → Block → List Entry → Hand → Type 0
Unreleased h who b es Idle = ⊥
Unreleased h who b es (Checking o) = IsChecking h b o × (es ≡ entry_of (begun_as o.r) ∷ [])
Unreleased h who b es (Holding g) = IsHolding h b g × (es ≡ entry_of (begun_as g.r) ∷ [])
Unreleased h who b es Over = (begun : Begin) × (e : EndEntry) × IsOver h b begun e × (es ≡ entry_of begun ∷ end_of who e ∷ [])

-- The released blocks with what they made, and the last one with what it has made so far.
pub record Busy (h : List Entry) (who : ℕ) (bs : List Block) (es : List Entry) (hand : Hand) : Type 0 where
  pub done : List Block
  pub last : Block
  pub before : List Entry
  pub own : List Entry
  pub blocks : bs ≡ done ++ last ∷ []
  pub all_entries : es ≡ before ++ own
  pub made : AllMadeBy (passed_in h) done before
  pub unreleased : Unreleased h who last own hand

-- After some commands of a session, which fall into these blocks, its entries in the history are these: those that the blocks made that
-- have been released, and then those of the last one, if it isn't released.
abbrev pub Stands : List Entry → ℕ → List Block → List Entry → Hand → Type 0
Stands h who bs es Idle = AllMadeBy (passed_in h) bs es
Stands h who bs es (Checking o) = Busy h who bs es (Checking o)
Stands h who bs es (Holding g) = Busy h who bs es (Holding g)
Stands h who bs es Over = Busy h who bs es Over

-- each request of these entries was begun in the history
abbrev pub EachBegun : List Entry → List Entry → Type 0
EachBegun h [] = Unit {0}
EachBegun h (Begun id lane who mode request ∷ es) = ((b : Begin) × (begin_with h id ≡ Some b)) × EachBegun h es
EachBegun h (Ended id who grant cause fault ∷ es) = EachBegun h es

-- The request in hand is one of this core.
abbrev pub HandAt : CoreId → Hand → Type 0
HandAt core Idle = Unit {0}
HandAt core (Checking o) = o.core ≡ core
HandAt core (Holding g) = g.core ≡ core
HandAt core Over = Unit {0}

-- The request in hand is one of this core and of this session; where there is none, the pass has no open request.
abbrev pub HandGiven : CoreId → PassView → Hand → Type 0
HandGiven core p Idle = open_count p.mine ≡ 0
HandGiven core p (Checking o) = (o.core ≡ core) × (o.r.who ≡ p.who)
HandGiven core p (Holding g) = (g.core ≡ core) × (g.r.who ≡ p.who)
HandGiven core p Over = open_count p.mine ≡ 0

-- A session after some of its commands, by what its pass has been shown and by its own entries.
pub record Standing (core : CoreId) (p : PassView) (bs : List Block) (hand : Hand) : Type 0 where
  pub each : EachBegun p.shown (entries p.mine)
  pub stands : Stands p.shown p.who bs (entries p.mine) hand
  pub given : HandGiven core p hand

-- The last block's request is open: what the released blocks made, and its begin.
pub record OpenBlock (p : PassView) (bs : List Block) (b : Begin) : Type 0 where
  pub done : List Block
  pub last : Block
  pub before : List Entry
  pub blocks : bs ≡ done ++ last ∷ []
  pub all_entries : entries p.mine ≡ before ++ entry_of b ∷ []
  pub each : EachBegun p.shown (entries p.mine)
  pub made : AllMadeBy (passed_in p.shown) done before
  pub begun : begin_with p.shown b.id ≡ Some b
  pub mode : b.mode ≡ last.mode
  pub declared : b.request ≡ declaration_of last
  pub session : b.who ≡ p.who

-- The patience of a block: without an end where it has no number of turns, so that nothing was ever refused; else with these as its limit.
abbrev pub PatienceOf : Option ℕ → ℕ → ℕ → Option ℕ → Type 0
PatienceOf None before now limit = (before ≡ 0) × (now ≡ 0)
PatienceOf (Some n) before now limit = (limit ≡ Some n) × (1 ≤ n)

-- The turns of the last block.
abbrev pub TurnsOf : List Block → Option ℕ → Type 0
TurnsOf bs turns = (done : List Block) (last : Block) → bs ≡ done ++ last ∷ [] → last.turns ≡ turns
