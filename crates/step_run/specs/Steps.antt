-- The step output of a script: what each command writes, and the state that it leaves.
use Rattle.std.specs.Prelude.{ℕ, ◌+◌, Bool, true, false, not, ◌||◌, ◌==◌, if◌then◌else◌, List, [], ◌∷◌, ◌++◌, length, Option, Some, None, codes, decimal}
use Rattle.std.specs.List.{filter, find, position}
use Rattle.span_key.specs.declared.scopes.Scope.{Scope}
use Rattle.span_key.specs.declared.scopes.Scope.TheVariants.{Global, Local}
use Rattle.latch_model.specs.Checks.{has_cause, is_declared}
use Rattle.latch_model.specs.Histories.{HeldLatch, before, begins, free_lane, has_ended, latches_of, met}
use Rattle.latch_model.specs.Metrics.{held_count, pending_count}
use Rattle.latch_model.specs.declared.latch.Access.TheVariants.{Read, Write}
use Rattle.latch_model.specs.declared.latch.Latch.{Latch}
use Rattle.latch_model.specs.declared.latch.Mode.{Mode}
use Rattle.latch_model.specs.declared.latch.Mode.TheVariants.{Acquire, Optimistic as optimistic_mode, Look}
use Rattle.latch_model.specs.declared.latch.Policy.{Policy}
use Rattle.latch_model.specs.declared.latch.Policy.TheVariants.{Wait as policy_wait, Error as policy_error}
use Rattle.latch_model.specs.declared.history.Cause.TheVariants.{None as no_cause, Called, From}
use Rattle.latch_model.specs.declared.history.Entry.{Entry}
use Rattle.latch_model.specs.declared.history.Entry.TheVariants.{Begun}
use Rattle.latch_model.specs.declared.history.Fault.TheVariants.{None as no_fault, Poisoned, Cancelled}
use Rattle.latch_model.specs.declared.history.Grant.TheVariants.{Never, Waited}
use Rattle.report.specs.Words.{mark_text, numbers_text, summary_line}
use Rattle.script.specs.Follows.{passed_grant}
use Rattle.script.specs.Commands.{same_name}
use Rattle.script.specs.declared.command.Command.{Command}
use Rattle.script.specs.declared.command.Command.TheVariants.{Begin as Open, Wait, Check, Poison, Release, Metrics}
use Rattle.step_run.specs.State.{Granted, Named, Optimistic, Over, Pending, Phase, State, ended, is_poisoned_in, start, with_name, without}

-- What a command writes, and the state after it.
pub record Step : Type 0 where
  pub written : List ℕ
  pub state : State

-- nothing happens, and what is written first is put in front
abbrev pub silent : State → Step
silent s = record { written = []; state = s }

abbrev pub after : List ℕ → Step → Step
after line next = record { written = line ++ next.written; state = next.state }

-- the line of a name with these words
abbrev pub line : Named → List ℕ → List ℕ
line n words = n.name ++ 32 ∷ words ++ codes "\n"

-- A turn that did not end the wait is counted where the request has a number of turns; at the last of them the request is cancelled.
abbrev pub counted_turn : Named → State → ℕ → Step
counted_turn n s turns =
    if n.counted + 1 == turns
    then record { written = line n (codes "cancelled"); state = ended Never (Cancelled turns) (record n { counted = n.counted + 1 }) s }
    else silent (with_name (record n { counted = n.counted + 1 }) s)

abbrev pub spent_turn : Named → State → Option ℕ → Step
spent_turn n s None = silent (with_name n s)
spent_turn n s (Some turns) = counted_turn n s turns

-- blocked by a request that is not poisoned
abbrev pub blocked_line : Named → HeldLatch → List ℕ
blocked_line n x = line n (codes "blocked " ++ decimal x.by ++ 32 ∷ mark_text x.latch)

abbrev pub blocked : Named → State → HeldLatch → Step
blocked n s x = after (blocked_line n x) (spent_turn n s n.turns)

-- Blocked by a poisoned request. Under the policy to wait the poison spreads to a request without a cause, which stays blocked; under the
-- other the wait ends with an error.
abbrev pub spread_line : Named → ℕ → List ℕ
spread_line n p = if has_cause n.cause then [] else line n (codes "spreads " ++ decimal p)

abbrev pub spread_to : Named → ℕ → Named
spread_to n p = if has_cause n.cause then n else record n { cause = From p }

abbrev pub by_poisoned : Policy → Named → State → HeldLatch → Step
by_poisoned policy_wait n s x = after (spread_line n x.by) (blocked (spread_to n x.by) s x)
by_poisoned policy_error n s x =
    record {
      written = line n (codes "poisoned " ++ decimal x.by ++ 32 ∷ mark_text x.latch);
      state = ended Never (Poisoned x.by) n s;
    }

-- Nothing is left to wait for: the request is granted, and a look ends at once.
abbrev pub granted : Mode → Named → State → State
granted Acquire n s = with_name (record n { phase = Granted (length s.history) }) s
granted optimistic_mode n s = with_name (record n { phase = Granted (length s.history) }) s
granted Look n s = ended (Waited (length s.history)) no_fault n s

-- A turn: the first latch that the request meets in its snapshot whose request has not ended decides.
abbrev pub decided_by : Named → State → List HeldLatch → Step
decided_by n s [] = record { written = line n (codes "granted " ++ decimal (length s.history)); state = granted n.mode n s }
decided_by n s (x ∷ xs) = if is_poisoned_in s.names x.by then by_poisoned n.policy n s x else blocked n s x

abbrev pub turn : Named → State → Step
turn n s = decided_by n s (filter (λ x. not (has_ended s.history x.by)) (met s.history n.id (latches_of s.history n.id)))

-- Opening: the begin is in the history, in the least free lane, and what was held in front of it is listed.
abbrev pub first_phase : Mode → Phase
first_phase Acquire = Pending
first_phase optimistic_mode = Optimistic
first_phase Look = Pending

abbrev pub first_turn : Mode → Named → State → Step
first_turn Acquire n s = turn n s
first_turn optimistic_mode n s = silent s
first_turn Look n s = turn n s

abbrev pub opened : Named → State → Step
opened n s = after (line n (decimal n.id ++ codes " before " ++ numbers_text (before s.history n.id))) (first_turn n.mode n s)

abbrev pub new_begin : State → ℕ → Mode → Policy → List Latch → Entry
new_begin s session mode policy latches =
    Begun (length (begins s.history) + 1) (free_lane s.history) session mode (record { tag = s.line; policy = policy; latches = latches })

abbrev pub new_name : State → ℕ → List ℕ → Mode → Policy → Option ℕ → Named
new_name s session name mode policy turns = record {
  name = name;
  id = length (begins s.history) + 1;
  session = session;
  mode = mode;
  policy = policy;
  turns = turns;
  counted = 0;
  phase = first_phase mode;
  passed = None;
  cause = no_cause;
}

abbrev pub with_new : Entry → Named → State → State
with_new begun n s = record { history = s.history ++ begun ∷ []; names = s.names ++ n ∷ []; line = s.line }

abbrev pub opening : State → ℕ → List ℕ → Mode → Policy → Option ℕ → List Latch → Step
opening s session name mode policy turns latches =
    let named : Named = new_name s session name mode policy turns in
    opened named (with_new (new_begin s session mode policy latches) named s)

-- Waiting: an optimistic request gives up its check and waits like any other from then on.
abbrev pub waited : Phase → Named → State → Step
waited Optimistic n s = let m = record n { phase = Pending; passed = None } in turn m (with_name m s)
waited Pending n s = turn n s
waited (Granted front) n s = silent s
waited Over n s = silent s

-- Checking: the first asked latch that lies in no declared one is named, and else the first held latch that is met, ended or not. Where
-- nothing is met the check has passed.
abbrev pub met_first : Named → State → List Latch → List HeldLatch → Step
met_first n s asked [] = record { written = line n (codes "clear"); state = with_name (record n { passed = Some asked }) s }
met_first n s asked (x ∷ xs) = record {
  written = line n (codes "met " ++ decimal x.by ++ 32 ∷ mark_text x.latch);
  state = with_name
      (record n { passed = None }) s;
}

abbrev pub checked_unless : Option ℕ → Named → State → List Latch → Step
checked_unless (Some index) n s asked = record { written = line n (codes "undeclared " ++ decimal index); state = s }
checked_unless None n s asked = met_first n s asked (met s.history n.id asked)

abbrev pub checked : Named → State → List Latch → Step
checked n s asked = checked_unless (position (λ l. not (is_declared (latches_of s.history n.id) l)) asked) n s asked

-- Poisoning a request that is not over and has no cause yet.
abbrev pub is_over : Phase → Bool
is_over Optimistic = false
is_over Pending = false
is_over (Granted front) = false
is_over Over = true

abbrev pub poisoned : Named → State → Step
poisoned n s =
    if is_over n.phase || has_cause n.cause
    then silent s
    else record { written = line n (codes "poisons"); state = with_name (record n { cause = Called }) s }

-- Releasing: a request that is not over ends, with the grant that its phase gives it, and its name is no longer live.
abbrev pub released_state : Phase → Named → State → State
released_state Optimistic n s = ended (passed_grant n.passed) no_fault n s
released_state Pending n s = ended Never no_fault n s
released_state (Granted front) n s = ended (Waited front) no_fault n s
released_state Over n s = s

abbrev pub released : Named → State → Step
released n s =
    let t = released_state n.phase n s in
    record { written = line n (codes "ended"); state = record { history = t.history; names = without n.id t.names; line = t.line } }

-- Metrics: how many latches are held, by scope and access, and how many of the held reads are pending.
abbrev pub counts_text : Scope → List Entry → List ℕ
counts_text scope h =
    codes " read " ++ decimal (held_count scope Read h)
    ++ codes " pending " ++ decimal (pending_count scope h)
    ++ codes " write " ++ decimal (held_count scope Write h)

abbrev pub metrics_line : List Entry → List ℕ
metrics_line h = codes "metrics global" ++ counts_text Global h ++ codes " local" ++ counts_text Local h ++ codes "\n"

-- What is done on a name is done on the live one; in a script there is one.
abbrev pub on_found : State → Option Named → (Named → Step) → Step
on_found s None f = silent s
on_found s (Some n) f = f n

abbrev pub on_name : State → List ℕ → (Named → Step) → Step
on_name s name f = on_found s (find (λ n. same_name n.name name) s.names) f

-- One command.
abbrev pub one : State → Command → Step
one s (Open session name mode policy turns latches) = opening s session name mode policy turns latches
one s (Wait name) = on_name s name (λ n. waited n.phase n s)
one s (Check name latches) = on_name s name (λ n. checked n s latches)
one s (Poison name) = on_name s name (λ n. poisoned n s)
one s (Release name) = on_name s name (λ n. released n s)
one s Metrics = record { written = metrics_line s.history; state = s }

-- All commands in their order, each on the next line; then the last line.
abbrev pub next_line : State → State
next_line s = record { history = s.history; names = s.names; line = s.line + 1 }

abbrev pub run : State → List Command → Step
run s [] = silent s
run s (c ∷ cs) = let step = one s c in after step.written (run (next_line step.state) cs)

-- What the step run of a script writes.
abbrev pub step_output : List Command → List ℕ
step_output cs = let whole = run start cs in whole.written ++ summary_line whole.state.history
