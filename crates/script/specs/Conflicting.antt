-- Worked examples of following a script: histories of two requests that write one key, and of an optimistic one.
use Rattle.std.specs.Prelude.{ℕ, List, [], ◌∷◌, None, codes}
use Rattle.hlc_stamp.specs.Stamps.{empty_stamp}
use Rattle.latch_model.specs.declared.history.Cause.TheVariants.{None as no_cause}
use Rattle.latch_model.specs.declared.history.Entry.{Entry}
use Rattle.latch_model.specs.declared.history.Entry.TheVariants.{Begun, Ended}
use Rattle.latch_model.specs.declared.history.Fault.TheVariants.{None as no_fault}
use Rattle.latch_model.specs.declared.history.Grant.{Grant}
use Rattle.latch_model.specs.declared.history.Grant.TheVariants.{Waited}
use Rattle.latch_model.specs.declared.latch.Access.TheVariants.{Write}
use Rattle.latch_model.specs.declared.latch.Latch.{Latch}
use Rattle.latch_model.specs.declared.latch.Mode.{Mode}
use Rattle.latch_model.specs.declared.latch.Mode.TheVariants.{Acquire, Optimistic}
use Rattle.latch_model.specs.declared.latch.Policy.TheVariants.{Wait as policy_wait}
use Rattle.script.specs.declared.command.Command.{Command}
use Rattle.script.specs.declared.command.Command.TheVariants.{Begin, Check, Release}

-- w:61
abbrev pub written : List Latch
written = record { access = Write; span = (97 ∷ [], []); stamp = empty_stamp } ∷ []

-- an opening of a session and a name, and entries of a request, with its number, lane, session and line
abbrev pub opening : ℕ → List ℕ → Mode → Command
opening session name mode = Begin session name mode policy_wait None written

abbrev pub begun : ℕ → ℕ → ℕ → ℕ → Mode → List Latch → Entry
begun id lane session line mode latches = Begun id lane session mode (record { tag = line; policy = policy_wait; latches = latches })

abbrev pub ended : ℕ → ℕ → Grant → Entry
ended id session grant = Ended id session grant no_cause no_fault

-- acquire 1 a wait w:61, acquire 2 b wait w:61, release a, release b
abbrev pub two_sessions : List Command
two_sessions = opening 1 (codes "a") Acquire ∷ opening 2 (codes "b") Acquire ∷ Release (codes "a") ∷ Release (codes "b") ∷ []

-- Session 1 comes first: request 2 begins when request 1 has ended, or before that, and request 1 learns of its grant at once or late.
abbrev pub one_by_one : List Entry
one_by_one = begun 1 0 1 2 Acquire written ∷ ended 1 1 (Waited 1) ∷ begun 2 0 2 3 Acquire written ∷ ended 2 2 (Waited 3) ∷ []

abbrev pub waiting_behind : ℕ → List Entry
waiting_behind n = begun 1 0 1 2 Acquire written ∷ begun 2 1 2 3 Acquire written ∷ ended 1 1 (Waited n) ∷ ended 2 2 (Waited 3) ∷ []

-- what is not of that script: session 2 is missing; request 2 has no latches, or another line; the sessions are exchanged; request 2 has no
-- end; a third session has a request
abbrev pub without_session_two : List Entry
without_session_two = begun 1 0 1 2 Acquire written ∷ ended 1 1 (Waited 1) ∷ []

abbrev pub without_latches : List Entry
without_latches = begun 1 0 1 2 Acquire written ∷ ended 1 1 (Waited 1) ∷ begun 2 0 2 3 Acquire [] ∷ ended 2 2 (Waited 3) ∷ []

abbrev pub with_another_line : List Entry
with_another_line = begun 1 0 1 2 Acquire written ∷ ended 1 1 (Waited 1) ∷ begun 2 0 2 4 Acquire written ∷ ended 2 2 (Waited 3) ∷ []

abbrev pub with_sessions_exchanged : List Entry
with_sessions_exchanged = begun 1 0 2 2 Acquire written ∷ ended 1 2 (Waited 1) ∷ begun 2 0 1 3 Acquire written ∷ ended 2 1 (Waited 3) ∷ []

abbrev pub without_an_end : List Entry
without_an_end = begun 1 0 1 2 Acquire written ∷ ended 1 1 (Waited 1) ∷ begun 2 0 2 3 Acquire written ∷ []

abbrev pub with_session_three : List Entry
with_session_three =
    begun 1 0 1 2 Acquire written ∷ ended 1 1 (Waited 1) ∷ begun 2 0 2 3 Acquire written ∷ ended 2 2 (Waited 3)
    ∷ begun 3 0 3 3 Acquire written ∷ ended 3 3 (Waited 5) ∷ []

-- acquire 1 a wait w:61, release a, acquire 1 b wait w:61, release b: its two blocks in their order, and exchanged
abbrev pub one_session : List Command
one_session = opening 1 (codes "a") Acquire ∷ Release (codes "a") ∷ opening 1 (codes "b") Acquire ∷ Release (codes "b") ∷ []

abbrev pub two_blocks : ℕ → ℕ → List Entry
two_blocks first second = begun 1 0 1 first Acquire written ∷ ended 1 1 (Waited 1) ∷ begun 2 0 1 second Acquire written ∷ ended 2 1 (Waited 3) ∷ []

-- optimistic 1 a wait w:61, acquire 2 b wait w:61, check a w:61, release a, release b: the check passes where request a began first, and
-- else leaves nothing
abbrev pub checking : List Command
checking =
    opening 1 (codes "a") Optimistic ∷ opening 2 (codes "b") Acquire ∷ Check (codes "a") written ∷ Release (codes "a") ∷ Release (codes "b") ∷ []

abbrev pub checked_first : Grant → List Entry
checked_first grant = begun 1 0 1 2 Optimistic written ∷ begun 2 1 2 3 Acquire written ∷ ended 1 1 grant ∷ ended 2 2 (Waited 3) ∷ []

abbrev pub checked_second : Grant → List Entry
checked_second grant = begun 1 0 2 3 Acquire written ∷ begun 2 1 1 2 Optimistic written ∷ ended 2 1 grant ∷ ended 1 2 (Waited 1) ∷ []
