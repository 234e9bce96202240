-- What bytes spell: a script, or the line and the cause of the first rule that is broken. Lines count from 1.
use Rattle.std.specs.Prelude.{ℕ, ◌+◌, Bool, true, false, nat_lt, if◌then◌else◌, List, [], ◌∷◌, ◌++◌, length, Option, Some, None, Result, Ok, Err, codes}
use Rattle.std.specs.List.{slice_split}
use Rattle.std.specs.Result.{result_err}
use Rattle.std.specs.Str.{bytes_eq}
use Rattle.script.specs.Causes.{number_of}
use Rattle.script.specs.declared.fault.FaultCause.TheVariants.{BytesBehindEnd, NoEnd, OpenAtEnd, OtherFirstLine, TooLong}
use Rattle.script.specs.Commands.{rule_cause, some_live}
use Rattle.script.specs.Fields.{◌>>=◌, is_byte}
use Rattle.script.specs.Lines.{fields, command_at}
use Rattle.script.specs.declared.command.Command.{Command}
use Rattle.script.specs.declared.limits.TheConstants.{TEXT_LIMIT}

-- What stands before each line feed and, as the last part, what follows the last one: a line without a line feed.
abbrev pub lines : List ℕ → List (List ℕ)
lines bytes = slice_split (is_byte 10) bytes

-- a cause, where there is one, at line n
abbrev pub at_line : {A : Type 0} → ℕ → Result A ℕ → Result A (ℕ × ℕ)
at_line n (Ok x) = Ok x
at_line n (Err cause) = Err (n, cause)

abbrev pub ok_unless : {A : Type 0} → Option ℕ → A → Result A ℕ
ok_unless None x = Ok x
ok_unless (Some cause) x = Err cause

-- The command of a line behind the commands cs: the causes 3 to 11, and then 12 to 15.
unfoldable pub next_at : List Command → List ℕ → Result Command ℕ
next_at cs line = command_at (fields line) >>= λ c. ok_unless (rule_cause cs c) c

-- whether no byte follows a line feed, where these are the parts behind it
abbrev pub nothing_more : List (List ℕ) → Bool
nothing_more [] = true
nothing_more ([] ∷ []) = true
nothing_more ((b ∷ bs) ∷ parts) = false
nothing_more ([] ∷ part ∷ parts) = false

-- The end line, line n, and the parts behind it: 16, a name is live; 17, bytes follow.
unfoldable pub end_at : List Command → ℕ → List (List ℕ) → Result (List Command) (ℕ × ℕ)
end_at cs n more = if some_live cs then Err (n, number_of OpenAtEnd) else (if nothing_more more then Ok cs else Err (n + 1, number_of BytesBehindEnd))

-- The lines from line n on, behind the commands cs: 1, a line has no line feed.
unfoldable pub commands_at : List Command → ℕ → List (List ℕ) → Result (List Command) (ℕ × ℕ)
commands_at cs n [] = Err (n, number_of NoEnd)
commands_at cs n (last ∷ []) = Err (n, number_of NoEnd)
commands_at cs n (line ∷ next ∷ more) =
    if bytes_eq line (codes "end") then end_at cs n (next ∷ more)
    else (at_line n (next_at cs line) >>= λ c. commands_at (cs ++ c ∷ []) (n + 1) (next ∷ more))

-- All lines: 1, the first has no line feed; 2, it is another one.
unfoldable pub all_at : List (List ℕ) → Result (List Command) (ℕ × ℕ)
all_at [] = Err (1, number_of NoEnd)
all_at (last ∷ []) = Err (1, number_of NoEnd)
all_at (line ∷ next ∷ more) = if bytes_eq line (codes "latch script 1") then commands_at [] 2 (next ∷ more) else Err (1, number_of OtherFirstLine)

-- The script that bytes spell, or the line and the cause of what is wrong first: 18, there are too many bytes; the line is 0.
unfoldable pub script_at : List ℕ → Result (List Command) (ℕ × ℕ)
script_at bytes = if nat_lt TEXT_LIMIT (length bytes) then Err (0, number_of TooLong) else all_at (lines bytes)

abbrev pub fault : List ℕ → Option (ℕ × ℕ)
fault bytes = result_err (script_at bytes)
