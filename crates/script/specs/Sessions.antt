-- The session that each command of a script is of.
use Rattle.std.specs.Prelude.{◌≡◌, ℕ, true, ◌==◌, ◌≤◌, nat_eq, if◌then◌else◌, List, length, Option, Some, None, slice_get}
use Rattle.std.specs.HashMap.{HashMap, get}
use Rattle.std.specs.List.{list_any}
use Rattle.script.specs.Commands.{is_live, opens_for}
use Rattle.script.specs.Follows.{is_of}
use Rattle.script.specs.Names.{packed}
use Rattle.script.specs.Scripts.{is_name}
use Rattle.script.specs.declared.command.Command.{Command}
use Rattle.script.specs.declared.command.Command.TheVariants.{Begin, Wait, Check, Poison, Release, Metrics}

-- The number of a command's session: it is one of session w exactly where w is this number. A command of no session has 0, and sessions are
-- numbered from 1.
abbrev pub IsSessionOf : List Command → Command → ℕ → Type 0
IsSessionOf cs c s = (w : ℕ) → 1 ≤ w → is_of cs w c ≡ (s == w)

abbrev pub EachSession : List Command → List ℕ → Type 0
EachSession cs ss = (i s : ℕ) (c : Command) → slice_get cs i ≡ Some c → slice_get ss i ≡ Some s → IsSessionOf cs c s

-- A list of the sessions of a script's commands, one for each.
pub record AreSessions (cs : List Command) (ss : List ℕ) : Type 0 where
  pub size : length ss ≡ length cs
  pub each : EachSession cs ss

-- ---- what is kept while the sessions are found: that of each live name

-- what is kept of a name
abbrev pub kept : {S : Type 0} → HashMap ℕ ℕ S → List ℕ → Option ℕ
kept live name = if is_name name then get nat_eq live (packed name) else None

-- the session that is kept of a name, or none
abbrev pub owner : Option ℕ → ℕ
owner None = 0
owner (Some s) = s

-- the session of a command
abbrev pub session_in : (List ℕ → Option ℕ) → Command → ℕ
session_in known (Begin session name mode policy turns latches) = session
session_in known (Wait name) = owner (known name)
session_in known (Check name latches) = owner (known name)
session_in known (Poison name) = owner (known name)
session_in known (Release name) = owner (known name)
session_in known Metrics = 0

-- Of each live name the session is known that opened it.
abbrev pub KnowsOwners : (List ℕ → Option ℕ) → List Command → Type 0
KnowsOwners known cs = (name : List ℕ) → is_live cs name ≡ true → (s : ℕ) × (known name ≡ Some s) × (list_any (opens_for s name) cs ≡ true)
