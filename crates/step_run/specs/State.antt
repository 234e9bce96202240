-- The state of a step run: a history, and what is known of each live name.
use Rattle.std.specs.Prelude.{ℕ, Bool, false, if◌then◌else◌, List, [], ◌∷◌, ◌++◌, Option, ◌==◌}
use Rattle.std.specs.List.{list_any}
use Rattle.latch_model.specs.Checks.{has_cause}
use Rattle.latch_model.specs.declared.latch.Latch.{Latch}
use Rattle.latch_model.specs.declared.latch.Mode.{Mode}
use Rattle.latch_model.specs.declared.latch.Policy.{Policy}
use Rattle.latch_model.specs.declared.history.Cause.{Cause}
use Rattle.latch_model.specs.declared.history.Entry.{Entry}
use Rattle.latch_model.specs.declared.history.Entry.TheVariants.{Ended}
use Rattle.latch_model.specs.declared.history.Fault.{Fault}
use Rattle.latch_model.specs.declared.history.Grant.{Grant}

-- Where a request stands: optimistic, waiting for its latches, granted when so many entries had been made, or over.
pub data Phase : Type 0 where
  Optimistic : Phase
  Pending : Phase
  Granted : (front : ℕ) → Phase
  Over : Phase

-- A live name: the request that it opened, with its session, mode, policy and turns; how many turns have been counted; its phase; the
-- latches of the passed check, if one stands; and its cause.
pub record Named : Type 0 where
  pub name : List ℕ
  pub id : ℕ
  pub session : ℕ
  pub mode : Mode
  pub policy : Policy
  pub turns : Option ℕ
  pub counted : ℕ
  pub phase : Phase
  pub passed : Option (List Latch)
  pub cause : Cause

-- The history, the live names in the order of their opening, and the line on which the next command stands.
pub record State : Type 0 where
  pub history : List Entry
  pub names : List Named
  pub line : ℕ

abbrev pub start : State
start = record { history = []; names = []; line = 2 }

-- the state with another entry, with a name in its new form, and without a name
abbrev pub with_entry : Entry → State → State
with_entry e s = record { history = s.history ++ e ∷ []; names = s.names; line = s.line }

abbrev pub replaced : Named → List Named → List Named
replaced n [] = []
replaced n (m ∷ ms) = if m.id == n.id then n ∷ ms else m ∷ replaced n ms

abbrev pub with_name : Named → State → State
with_name n s = record { history = s.history; names = replaced n s.names; line = s.line }

abbrev pub without : ℕ → List Named → List Named
without id [] = []
without id (m ∷ ms) = if m.id == id then ms else m ∷ without id ms

-- whether the live name with this number has a cause
abbrev pub is_poisoned_in : List Named → ℕ → Bool
is_poisoned_in ns id = list_any (λ n. if n.id == id then has_cause n.cause else false) ns

-- The state after a request ends so: its end is in the history, and it is over.
abbrev pub ended : Grant → Fault → Named → State → State
ended grant fault n s =
    with_name (record n { phase = Over })
    (with_entry (Ended n.id n.session grant n.cause fault) s)
