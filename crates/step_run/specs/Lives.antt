-- What contracts see of the live names of a run.
use Rattle.std.specs.Prelude.{◌≡◌, ◌≢◌, ℕ, zero, suc, ◌≤◌, Bool, true, false, ◌&&◌, ◌==◌, List, [], ◌∷◌, ◌++◌, Option, Some, None}
use Rattle.std.specs.List.{Contains, list_any}
use Rattle.latch_model.specs.declared.history.Cause.{Cause}
use Rattle.latch_model.specs.declared.history.Cause.TheVariants.{None as no_cause, Called, From}
use Rattle.latch_model.specs.declared.history.Fault.TheVariants.{None as no_fault}
use Rattle.latch_model.specs.declared.history.Grant.TheVariants.{Never}
use Rattle.latch_model.specs.declared.latch.Mode.{Mode}
use Rattle.latch_model.proofs.Elements.{Each}
use Rattle.script.specs.Follows.{passed_grant}
use Rattle.script.specs.declared.limits.TheConstants.{SESSION_LIMIT}
use Rattle.signal_board.specs.Says.{first_cause}
use Rattle.signal_board.specs.Steps.{warned}
use Rattle.signal_board.specs.Views.{RequestView}
use Rattle.waiter.specs.Says.{CoreId, EndingSays}
use Rattle.latch_model.specs.declared.history.Entry.{Entry}
use Rattle.sequence_core.specs.Says.{end_entry}
use Rattle.step_run.specs.declared.live.Live.{Live}
use Rattle.step_run.specs.declared.live.Value.{Value}
use Rattle.step_run.specs.declared.live.Value.TheVariants.{Optimist, Waiting, Granted, Over}

-- A live name: its session, how its request was opened, and the value that stands for the request.
pub record LiveSays : Type 0 where
  pub name : List ℕ
  pub session : ℕ
  pub mode : Mode
  pub turns : Option ℕ
  pub value : Value

abbrev pub seen_live : Live → LiveSays
seen_live n = record { name = n.name.now; session = n.session; mode = n.mode; turns = n.turns; value = n.value.value }

-- whether a request is open
abbrev pub is_held : Value → Bool
is_held (Optimist o) = true
is_held (Waiting w) = true
is_held (Granted g) = true
is_held Over = false

-- A value that stands for an open request is of this core, and its request of this session.
abbrev pub IsOf : CoreId → ℕ → Value → Type 0
IsOf core who (Optimist o) = (o.core ≡ core) × (o.r.who ≡ who)
IsOf core who (Waiting w) = (w.core ≡ core) × (w.r.who ≡ who)
IsOf core who (Granted g) = (g.core ≡ core) × (g.r.who ≡ who)
IsOf core who Over = Unit {0}

pub record IsLive (core : CoreId) (l : LiveSays) : Type 0 where
  pub low : 1 ≤ l.session
  pub high : l.session ≤ SESSION_LIMIT
  pub of : IsOf core l.session l.value

-- whether a live name of this session has an open request
abbrev pub has_open : ℕ → List LiveSays → Bool
has_open who ls = list_any (λ l. (l.session == who) && is_held l.value) ls

-- whether a session has a live name
abbrev pub has_name : ℕ → List LiveSays → Bool
has_name who ls = list_any (λ l. l.session == who) ls

-- the live names with another value at a place
abbrev pub with_value : ℕ → Value → List LiveSays → List LiveSays
with_value zero v [] = []
with_value (suc i) v [] = []
with_value zero v (l ∷ ls) = (record l { value = v }) ∷ ls
with_value (suc i) v (l ∷ ls) = l ∷ with_value i v ls

-- A value whose request also knows that these have a cause, and live names of which each knows so of some.
abbrev pub warned_value : List ℕ → Value → Value
warned_value ps (Optimist o) = Optimist (record o { r = warned ps o.r })
warned_value ps (Waiting w) = Waiting (record w { r = warned ps w.r })
warned_value ps (Granted g) = Granted (record g { r = warned ps g.r })
warned_value ps Over = Over

abbrev pub warned_live : List ℕ → LiveSays → LiveSays
warned_live ps l = record l { value = warned_value ps l.value }

abbrev pub AreWarned : List LiveSays → List LiveSays → Type 0
AreWarned [] [] = Unit {0}
AreWarned (l ∷ ls) (m ∷ ms) = ((ps : List ℕ) × (m ≡ warned_live ps l)) × AreWarned ls ms
AreWarned ls ms = ⊥

-- What holds of a value's request, if it is open, and of those of all live names.
abbrev pub OfRequest : (RequestView → Type 0) → Value → Type 0
OfRequest P (Optimist o) = P o.r
OfRequest P (Waiting w) = P w.r
OfRequest P (Granted g) = P g.r
OfRequest P Over = Unit {0}

abbrev pub EachRequest : (RequestView → Type 0) → List LiveSays → Type 0
EachRequest P ls = Each (λ l. OfRequest P l.value) ls

-- A request knows of another that it has a cause, if it has one.
abbrev pub KnowsOf : RequestView → RequestView → Type 0
KnowsOf new r = r.cause ≢ no_cause → Contains new.poisoned r.id

-- What a request knows after it has heard another: where the other has a cause, that it has; and where the other has this number, that it
-- has, if it was known to have one.
abbrev pub HeardOf : ℕ → RequestView → RequestView → RequestView → Type 0
HeardOf by old new r =
    KnowsOf new r × (r.id ≡ by → Contains old.poisoned by → r.cause ≢ no_cause)

abbrev pub Heard : ℕ → RequestView → RequestView → Value → Type 0
Heard by old new v = OfRequest (HeardOf by old new) v

abbrev pub AreHeard : ℕ → RequestView → RequestView → List LiveSays → Type 0
AreHeard by old new ls = EachRequest (HeardOf by old new) ls

-- whether there is no cause
abbrev pub is_none : Cause → Bool
is_none no_cause = true
is_none Called = false
is_none (From p) = false

-- The cause of a value's request, and a live name whose request has none.
abbrev pub cause_of : Value → Cause
cause_of (Optimist o) = o.r.cause
cause_of (Waiting w) = w.r.cause
cause_of (Granted g) = g.r.cause
cause_of Over = no_cause

abbrev pub HasNoCause : LiveSays → Type 0
HasNoCause l = cause_of l.value ≡ no_cause

-- Whether a value's request is open without a cause, and the value after a call for one.
abbrev pub may_poison : Value → Bool
may_poison (Optimist o) = is_none o.r.cause
may_poison (Waiting w) = is_none w.r.cause
may_poison (Granted g) = is_none g.r.cause
may_poison Over = false

abbrev pub called_request : RequestView → RequestView
called_request r = record r { cause = first_cause r.cause Called }

abbrev pub called_value : Value → Value
called_value (Optimist o) = Optimist (record o { r = called_request o.r })
called_value (Waiting w) = Waiting (record w { r = called_request w.r })
called_value (Granted g) = Granted (record g { r = called_request g.r })
called_value Over = Over

-- how the request of a value ends that is released
abbrev pub ending_of : Value → Option EndingSays
ending_of (Optimist o) = Some (record { core = o.core; r = o.r; grant = passed_grant o.passed; fault = no_fault })
ending_of (Waiting w) = Some (record { core = w.core; r = w.r; grant = Never; fault = no_fault })
ending_of (Granted g) = Some (record { core = g.core; r = g.r; grant = g.grant; fault = no_fault })
ending_of Over = None

-- the session whose request a value is, or 0 where it is over
abbrev pub lent_by : Value → ℕ
lent_by (Optimist o) = o.r.who
lent_by (Waiting w) = w.r.who
lent_by (Granted g) = g.r.who
lent_by Over = 0

-- the history with the end of a value's request, unless it is over
abbrev pub with_ending : Option EndingSays → List Entry → List Entry
with_ending None h = h
with_ending (Some e) h = h ++ end_entry e ∷ []

abbrev pub ended_with : Value → List Entry → List Entry
ended_with v h = with_ending (ending_of v) h
