-- How a command is spelled, and which commands may follow others.
use Rattle.std.specs.Prelude.{ℕ, ◌++◌, Bool, false, not, ◌&&◌, ◌==◌, nat_eq, if◌then◌else◌, List, [], ◌∷◌, map, Option, Some, None, codes, decimal}
use Rattle.std.specs.List.{list_any, join_with_byte}
use Rattle.std.specs.Cmp.Lexicographic.{pointwise}
use Rattle.latch_model.specs.declared.latch.Mode.{Mode}
use Rattle.latch_model.specs.declared.latch.Mode.TheVariants.{Acquire, Optimistic, Look}
use Rattle.latch_model.specs.declared.latch.Policy.{Policy}
use Rattle.latch_model.specs.declared.latch.Policy.TheVariants.{Wait as policy_wait, Error}
use Rattle.script.specs.Causes.{number_of}
use Rattle.script.specs.declared.fault.FaultCause.TheVariants.{BusySession, NoCheck, NoOpenName, UsedName}
use Rattle.script.specs.Texts.{latch_text}
use Rattle.script.specs.declared.command.Command.{Command}
use Rattle.script.specs.declared.command.Command.TheVariants.{Begin, Wait, Check, Poison, Release, Metrics}

abbrev pub mode_text : Mode → List ℕ
mode_text Acquire = codes "acquire"
mode_text Optimistic = codes "optimistic"
mode_text Look = codes "look"

abbrev pub policy_text : Policy → List ℕ
policy_text policy_wait = codes "wait"
policy_text Error = codes "error"

abbrev pub turns_fields : Option ℕ → List (List ℕ)
turns_fields None = []
turns_fields (Some n) = (codes "turns=" ++ decimal n) ∷ []

-- the fields of a command's line
abbrev pub fields_of : Command → List (List ℕ)
fields_of (Begin session name mode policy turns latches) = mode_text mode ∷ decimal session ∷ name ∷ policy_text
    policy ∷ (turns_fields turns ++ map latch_text latches)
fields_of (Wait name) = codes "wait" ∷ name ∷ []
fields_of (Check name latches) = codes "check" ∷ name ∷ map latch_text latches
fields_of (Poison name) = codes "poison" ∷ name ∷ []
fields_of (Release name) = codes "release" ∷ name ∷ []
fields_of Metrics = codes "metrics" ∷ []

-- A line is its fields with single spaces between them, and a line feed.
abbrev pub line_of : List (List ℕ) → List ℕ
line_of fields = join_with_byte 32 fields ++ 10 ∷ []

abbrev pub same_name : List ℕ → List ℕ → Bool
same_name a b = pointwise nat_eq a b

-- whether a command opens a name, waits for it, and releases it
abbrev pub opens : List ℕ → Command → Bool
opens n (Begin session name mode policy turns latches) = same_name name n
opens n (Wait name) = false
opens n (Check name latches) = false
opens n (Poison name) = false
opens n (Release name) = false
opens n Metrics = false

abbrev pub waits_for : List ℕ → Command → Bool
waits_for n (Begin session name mode policy turns latches) = false
waits_for n (Wait name) = same_name name n
waits_for n (Check name latches) = false
waits_for n (Poison name) = false
waits_for n (Release name) = false
waits_for n Metrics = false

abbrev pub releases : List ℕ → Command → Bool
releases n (Begin session name mode policy turns latches) = false
releases n (Wait name) = false
releases n (Check name latches) = false
releases n (Poison name) = false
releases n (Release name) = same_name name n
releases n Metrics = false

-- whether a command opens this name for this session
abbrev pub opens_for : ℕ → List ℕ → Command → Bool
opens_for s n (Begin session name mode policy turns latches) = (session == s) && same_name name n
opens_for s n (Wait name) = false
opens_for s n (Check name latches) = false
opens_for s n (Poison name) = false
opens_for s n (Release name) = false
opens_for s n Metrics = false

-- A name is used where it was opened, and live where it has not been released since.
abbrev pub is_used : List Command → List ℕ → Bool
is_used cs n = list_any (opens n) cs

abbrev pub is_live : List Command → List ℕ → Bool
is_live cs n = is_used cs n && not (list_any (releases n) cs)

-- whether a command is the opening of a live name by this session
abbrev pub opens_live : List Command → ℕ → Command → Bool
opens_live cs s (Begin session name mode policy turns latches) = (session == s) && is_live cs name
opens_live cs s (Wait name) = false
opens_live cs s (Check name latches) = false
opens_live cs s (Poison name) = false
opens_live cs s (Release name) = false
opens_live cs s Metrics = false

-- whether a session has a live name
abbrev pub is_busy : List Command → ℕ → Bool
is_busy cs s = list_any (opens_live cs s) cs

-- whether a command opens this name by `optimistic`
abbrev pub opens_optimistic : List ℕ → Command → Bool
opens_optimistic n (Begin session name Optimistic policy turns latches) = same_name name n
opens_optimistic n (Begin session name Acquire policy turns latches) = false
opens_optimistic n (Begin session name Look policy turns latches) = false
opens_optimistic n (Wait name) = false
opens_optimistic n (Check name latches) = false
opens_optimistic n (Poison name) = false
opens_optimistic n (Release name) = false
opens_optimistic n Metrics = false

-- whether a name can be checked: it was opened by `optimistic`, and has had no `wait`
abbrev pub is_checkable : List Command → List ℕ → Bool
is_checkable cs n = list_any (opens_optimistic n) cs && not (list_any (waits_for n) cs)

-- The cause for which a command may not follow the commands cs: 12, its session has a live name; 13, its name is used; 14, its name
-- isn't live; 15, its name can't be checked.
abbrev pub live_cause : List Command → List ℕ → Option ℕ
live_cause cs n = if is_live cs n then None else Some (number_of NoOpenName)

abbrev pub rule_cause : List Command → Command → Option ℕ
rule_cause cs (Begin session name mode policy turns latches) = if is_busy cs session then Some
    (number_of BusySession) else (if is_used cs name then Some (number_of UsedName) else None)
rule_cause cs (Wait name) = live_cause cs name
rule_cause cs (Check name latches) = if is_live cs name then (if is_checkable cs name then None else Some (number_of NoCheck)) else Some (number_of NoOpenName)
rule_cause cs (Poison name) = live_cause cs name
rule_cause cs (Release name) = live_cause cs name
rule_cause cs Metrics = None

-- whether a name that a command opens is live
abbrev pub leaves_live : List Command → Command → Bool
leaves_live cs (Begin session name mode policy turns latches) = is_live cs name
leaves_live cs (Wait name) = false
leaves_live cs (Check name latches) = false
leaves_live cs (Poison name) = false
leaves_live cs (Release name) = false
leaves_live cs Metrics = false

-- whether some name is live at the end
abbrev pub some_live : List Command → Bool
some_live cs = list_any (leaves_live cs) cs
