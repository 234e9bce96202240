-- The script of a number: an endless source of requests for tests and measurements, the same on each machine.
use Rattle.std.specs.Prelude.{ℕ, zero, suc, ◌+◌, ◌-◌, ◌*◌, ◌/◌, ◌%◌, Bool, false, ◌==◌, nat_le, if◌then◌else◌, List, [], ◌∷◌, ◌++◌, take}
use Rattle.std.specs.Prelude.{None, decimal}
use Rattle.hlc_stamp.specs.declared.Stamp.{Stamp}
use Rattle.latch_model.specs.declared.latch.Access.TheVariants.{Read, Write}
use Rattle.latch_model.specs.declared.latch.Latch.{Latch}
use Rattle.latch_model.specs.declared.latch.Mode.{Mode}
use Rattle.latch_model.specs.declared.latch.Mode.TheVariants.{Acquire, Optimistic, Look}
use Rattle.latch_model.specs.declared.latch.Policy.{Policy}
use Rattle.latch_model.specs.declared.latch.Policy.TheVariants.{Wait as policy_wait, Error}
use Rattle.script.specs.declared.command.Command.{Command}
use Rattle.script.specs.declared.command.Command.TheVariants.{Begin, Wait, Check, Poison, Release}

-- the number that is drawn after x
abbrev pub draw : ℕ → ℕ
draw x = (75 * x + 74) % 65537

-- a key of three bytes
abbrev pub drawn_key : ℕ → ℕ → List ℕ
drawn_key first n = first ∷ n / 256 ∷ n % 256 ∷ []

-- A latch by four draws: one in four writes, one key in sixteen is local, one span in three is a range of at most 50 keys, and one
-- stamp in eight is empty.
abbrev pub drawn_span : ℕ → ℕ → ℕ → List ℕ × List ℕ
drawn_span first k e = (drawn_key first (k % 4096), (if e % 3 == 0 then drawn_key first (k % 4096 + 1 + e % 50) else []))

abbrev pub drawn_stamp : ℕ → Stamp
drawn_stamp t = record { wall = if t % 8 == 0 then 0 else 1 + t % 1000; logical = 0 }

abbrev pub drawn_latch : ℕ → ℕ → ℕ → ℕ → Latch
drawn_latch d k e t = record {
  access = if d % 4 == 0 then Write else Read;
  span = drawn_span (if k % 16 == 0 then 1 else 97) k e;
  stamp = drawn_stamp t;
}

-- the next n latches after x, and the last number that was drawn
abbrev pub drawn_latches : ℕ → ℕ → List Latch × ℕ
drawn_latches zero x = ([], x)
drawn_latches (suc n) x =
    let d = draw x in let k = draw d in let e = draw k in let t = draw e in
    let more = drawn_latches n t in (drawn_latch d k e t ∷ more.0, more.1)

-- request i: its name, mode and policy
abbrev pub name_of : ℕ → List ℕ
name_of i = 113 ∷ decimal i

abbrev pub mode_of : ℕ → Mode
mode_of i = if i % 11 == 10 then Look else (if i % 5 == 4 then Optimistic else Acquire)

abbrev pub policy_of : ℕ → Policy
policy_of i = if i % 7 == 3 then Error else policy_wait

-- Closing request i: it waits, unless it is optimistic and i ends in 4, and is released.
abbrev pub skips_wait : Mode → ℕ → Bool
skips_wait Acquire i = false
skips_wait Optimistic i = i % 10 == 4
skips_wait Look i = false

abbrev pub closing : ℕ → List Command
closing i = if skips_wait (mode_of i) i then Release (name_of i) ∷ [] else Wait (name_of i) ∷ Release (name_of i) ∷ []

-- An optimistic request checks its first latch.
abbrev pub first_check : Mode → ℕ → List Latch → List Command
first_check Acquire i ls = []
first_check Optimistic i ls = Check (name_of i) (take 1 ls) ∷ []
first_check Look i ls = []

-- One request in 97 is poisoned.
abbrev pub poisoning : ℕ → List Command
poisoning i = if i % 97 == 50 then Poison (name_of i) ∷ [] else []

abbrev pub begin_command : ℕ → List Latch → Command
begin_command i ls = Begin (i % 64 + 1) (name_of i) (mode_of i) (policy_of i) None ls

-- Before request i is opened, the request 64 before it is closed, which was of the same session.
abbrev pub closed_before : ℕ → List Command
closed_before i = if nat_le 64 i then closing (i - 64) else []

abbrev pub opening_of : ℕ → List Latch → List Command
opening_of i ls = closed_before i ++ begin_command i ls ∷ [] ++ first_check (mode_of i) i ls ++ poisoning i

-- n requests from request i on, after x was drawn
abbrev pub openings_from : ℕ → ℕ → ℕ → List Command
openings_from zero i x = []
openings_from (suc n) i x =
    let c = draw x in let ls = drawn_latches (1 + c % 4) c in
    opening_of i ls.0 ++ openings_from n (i + 1) ls.1

-- the closings of n requests from request i on
abbrev pub closings_from : ℕ → ℕ → List Command
closings_from zero i = []
closings_from (suc n) i = closing i ++ closings_from n (i + 1)

-- the closings of those that are still open when n requests have been opened
abbrev pub last_closings : ℕ → List Command
last_closings n = if nat_le n 64 then closings_from n 0 else closings_from 64 (n - 64)

-- The script of n: n requests of 64 sessions in turn, of which each is closed when its session opens the next, and the others at the end.
abbrev pub generated : ℕ → List Command
generated n = openings_from n 0 n ++ last_closings n
