-- What a line spells: one command, or the first of its causes among 3 to 11.
use Rattle.std.specs.Prelude.{ℕ, nat_lt, if◌then◌else◌, List, [], ◌∷◌, length, Option, Some, None, Result, Ok, Err, codes}
use Rattle.std.specs.List.{slice_split}
use Rattle.std.specs.Str.{bytes_eq}
use Rattle.latch_model.specs.declared.latch.Latch.{Latch}
use Rattle.latch_model.specs.declared.latch.TheConstants.Latches.{LIMIT as latch_limit}
use Rattle.latch_model.specs.declared.latch.Mode.{Mode}
use Rattle.latch_model.specs.declared.latch.Mode.TheVariants.{Acquire, Optimistic, Look}
use Rattle.script.specs.Causes.{number_of}
use Rattle.script.specs.declared.fault.FaultCause.TheVariants.{ManyLatches, NoCommand, NoName, NoPolicy, NoSession, NoTurns}
use Rattle.script.specs.Fields.{◌>>=◌, or_cause, is_byte, number_at, name_at, policy_at, latch_at, begins_with, behind}
use Rattle.script.specs.declared.command.Command.{Command}
use Rattle.script.specs.declared.command.Command.TheVariants.{Begin, Wait, Check, Poison, Release, Metrics}
use Rattle.script.specs.declared.limits.TheConstants.{SESSION_LIMIT, TURN_LIMIT}

-- The fields of a line are what stands between its single spaces.
abbrev pub fields : List ℕ → List (List ℕ)
fields line = slice_split (is_byte 32) line

-- The latches of fields, or the first cause of the first field that spells none.
unfoldable pub latches_at : List (List ℕ) → Result (List Latch) ℕ
latches_at [] = Ok []
latches_at (f ∷ fs) = latch_at f >>= λ latch. latches_at fs >>= λ latches. Ok (latch ∷ latches)

-- The latches of a line's last fields: 11, there are too many of them.
unfoldable pub few_at : List (List ℕ) → Result (List Latch) ℕ
few_at fs = latches_at fs >>= λ latches. if nat_lt latch_limit (length latches) then Err (number_of ManyLatches) else Ok latches

-- The turns and the latches behind a policy: 7, the first of these fields begins with `turns=` and spells no number of turns.
unfoldable pub rest_at : List (List ℕ) → Result (Option ℕ × List Latch) ℕ
rest_at [] = Ok (None, [])
rest_at (f ∷ fs) =
    if begins_with (codes "turns=") f
    then (or_cause (number_of NoTurns) (number_at 1 TURN_LIMIT (behind (codes "turns=") f)) >>= λ turns. few_at fs >>= λ latches. Ok (Some turns, latches))
    else (few_at (f ∷ fs) >>= λ latches. Ok (None, latches))

-- An opening: 3, there are fewer than three fields behind the word; 4, 5 and 6, the session, the name and the policy.
unfoldable pub opening_at : Mode → List (List ℕ) → Result Command ℕ
opening_at mode (session ∷ name ∷ policy ∷ more) =
    or_cause (number_of NoSession) (number_at 1 SESSION_LIMIT session) >>= λ s. or_cause (number_of NoName) (name_at name) >>= λ n. or_cause
    (number_of NoPolicy) (policy_at policy) >>= λ p. rest_at more >>= λ r. Ok (Begin s n mode p r.0 r.1)
opening_at mode [] = Err (number_of NoCommand)
opening_at mode (session ∷ []) = Err (number_of NoCommand)
opening_at mode (session ∷ name ∷ []) = Err (number_of NoCommand)

-- the one field of a command that has a name alone
unfoldable pub named_at : List (List ℕ) → Result (List ℕ) ℕ
named_at (name ∷ []) = or_cause (number_of NoName) (name_at name)
named_at [] = Err (number_of NoCommand)
named_at (name ∷ f ∷ fs) = Err (number_of NoCommand)

unfoldable pub check_at : List (List ℕ) → Result Command ℕ
check_at [] = Err (number_of NoCommand)
check_at (name ∷ fs) = or_cause (number_of NoName) (name_at name) >>= λ n. few_at fs >>= λ latches. Ok (Check n latches)

unfoldable pub metrics_at : List (List ℕ) → Result Command ℕ
metrics_at [] = Ok Metrics
metrics_at (f ∷ fs) = Err (number_of NoCommand)

-- The command of a line of these fields, of which the first is a word. A line of several fields that begins with `end` has a wrong
-- number of them; the line `end` itself is no command.
unfoldable pub command_at : List (List ℕ) → Result Command ℕ
command_at [] = Err (number_of NoCommand)
command_at (word ∷ more) =
    if bytes_eq word (codes "acquire") then opening_at Acquire more else
    (if bytes_eq word (codes "optimistic") then opening_at Optimistic more else
    (if bytes_eq word (codes "look") then opening_at Look more else
    (if bytes_eq word (codes "wait") then (named_at more >>= λ n. Ok (Wait n)) else
    (if bytes_eq word (codes "check") then check_at more else
    (if bytes_eq word (codes "poison") then (named_at more >>= λ n. Ok (Poison n)) else
    (if bytes_eq word (codes "release") then (named_at more >>= λ n. Ok (Release n)) else
    (if bytes_eq word (codes "metrics") then metrics_at more else Err (number_of NoCommand))))))))
