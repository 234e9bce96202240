-- Scripts: which commands make one, and which bytes spell it.
use Rattle.std.specs.Prelude.{◌≡◌, ◌≢◌, ℕ, ◌<◌, ◌≤◌, ◌^◌, ◌++◌, Bool, false, ◌&&◌, ◌||◌, nat_le, IsTrue, List, [], ◌∷◌, length, take, slice_get, Option}
use Rattle.std.specs.Prelude.{Some, None, IfSome, codes}
use Rattle.std.specs.List.{All, list_all, flat_map}
use Rattle.span_key.specs.Spans.{IsSpan}
use Rattle.latch_model.specs.declared.latch.Latch.{Latch}
use Rattle.latch_model.specs.declared.latch.TheConstants.Latches.{LIMIT as latch_limit}
use Rattle.script.specs.Commands.{fields_of, line_of, rule_cause, some_live}
use Rattle.script.specs.declared.command.Command.{Command}
use Rattle.script.specs.declared.command.Command.TheVariants.{Begin, Wait, Check, Poison, Release, Metrics}
use Rattle.script.specs.declared.limits.TheConstants.{KEY_LIMIT, SESSION_LIMIT, TEXT_LIMIT, TURN_LIMIT}

-- A name has 1 to 16 characters: a lower-case letter, and then lower-case letters and digits.
abbrev pub is_letter : ℕ → Bool
is_letter c = nat_le 97 c && nat_le c 122

abbrev pub is_name_byte : ℕ → Bool
is_name_byte c = is_letter c || (nat_le 48 c && nat_le c 57)

abbrev pub is_name : List ℕ → Bool
is_name [] = false
is_name (c ∷ cs) = is_letter c && (list_all is_name_byte cs && nat_le (length cs) 15)

-- What a latch of a script keeps: a span whose key has at least one byte, with bounds that are not too long, and a stamp in range.
pub record IsScriptLatch (l : Latch) : Type 0 where
  pub span : IsSpan l.span
  pub key : l.span.0 ≢ []
  pub key_fits : length l.span.0 ≤ KEY_LIMIT
  pub end_fits : length l.span.1 ≤ KEY_LIMIT
  pub wall : l.stamp.wall < 2 ^ 64
  pub logical : l.stamp.logical < 2 ^ 32

pub record AreScriptLatches (ls : List Latch) : Type 0 where
  pub few : length ls ≤ latch_limit
  pub each : All IsScriptLatch ls

pub record IsOpening (session : ℕ) (name : List ℕ) (turns : Option ℕ) (latches : List Latch) : Type 0 where
  pub session_low : 1 ≤ session
  pub session_high : session ≤ SESSION_LIMIT
  pub name_spelled : IsTrue (is_name name)
  pub turns_range : IfSome turns (λ n. (1 ≤ n) × (n ≤ TURN_LIMIT))
  pub latches_fit : AreScriptLatches latches

-- What a command by itself keeps.
abbrev pub IsCommand : Command → Type 0
IsCommand (Begin session name mode policy turns latches) = IsOpening session name turns latches
IsCommand (Wait name) = IsTrue (is_name name)
IsCommand (Check name latches) = IsTrue (is_name name) × AreScriptLatches latches
IsCommand (Poison name) = IsTrue (is_name name)
IsCommand (Release name) = IsTrue (is_name name)
IsCommand Metrics = Unit {0}

-- Commands are a script where each is a command, each may follow those before it, and each opened name is released in the end.
pub record IsScript (cs : List Command) : Type 0 where
  pub commands : All IsCommand cs
  pub rules : (n : ℕ) (c : Command) → slice_get cs n ≡ Some c → rule_cause (take n cs) c ≡ None
  pub released : some_live cs ≡ false

-- The one spelling of commands: a first line, a line for each, and a last line.
abbrev pub text_of : List Command → List ℕ
text_of cs = codes "latch script 1\n" ++ (flat_map (λ c. line_of (fields_of c)) cs ++ codes "end\n")

-- Commands fit into a script where their spelling is not too long.
pub record FitsLimit (cs : List Command) : Type 0 where
  pub short : length (text_of cs) ≤ TEXT_LIMIT

-- These bytes spell this script: its commands keep the rules and fit, and the bytes are their spelling.
pub record Spells (bytes : List ℕ) (cs : List Command) : Type 0 where
  pub script : IsScript cs
  pub fits : FitsLimit cs
  pub spelled : bytes ≡ text_of cs
