-- The words behind the program's name, and what they ask for.
use Rattle.std.specs.Prelude.{ℕ, Bool, true, false, if◌then◌else◌, List, [], ◌∷◌, bytes_eq, codes}
use Rattle.std.specs.Option.{option_map_or}
use Rattle.script.specs.Fields.{number_at}
use Rattle.script.specs.declared.limits.TheConstants.{MAKE_LIMIT}
use Rattle.latch_tool.specs.declared.form.Form.{Form}
use Rattle.latch_tool.specs.declared.form.Form.TheVariants.{Step, Replay, Make, Help, Usage}
use Rattle.latch_tool.specs.declared.form.Layout.TheVariants.{Lines, Json}

-- what `replay` with this word asks for
abbrev pub replay_by : List ℕ → Form
replay_by word = if bytes_eq word (codes "--json") then Replay Json else Usage

-- what `make` with this word asks for: as many requests as the decimal number says, from 1 to the most that can be made
abbrev pub made_by : List ℕ → Form
made_by word = option_map_or Make (number_at 1 MAKE_LIMIT word) Usage

-- What a list of words asks for. Each form is one spelling, and every other list of words asks for the usage line.
abbrev pub form_of : List (List ℕ) → Form
form_of [] = Usage
form_of (word ∷ []) =
    if bytes_eq word (codes "step") then Step
    else (if bytes_eq word (codes "replay") then Replay Lines else (if bytes_eq word (codes "help") then Help else Usage))
form_of (word ∷ next ∷ []) =
    if bytes_eq word (codes "replay") then replay_by next else (if bytes_eq word (codes "make") then made_by next else Usage)
form_of (word ∷ next ∷ third ∷ more) = Usage

-- whether a form reads a script
abbrev pub reads : Form → Bool
reads Step = true
reads (Replay layout) = true
reads (Make requests) = false
reads Help = false
reads Usage = false

-- whether a form takes memory
abbrev pub takes_memory : Form → Bool
takes_memory Step = true
takes_memory (Replay layout) = true
takes_memory (Make requests) = true
takes_memory Help = false
takes_memory Usage = false

-- whether a form starts workers
abbrev pub starts_workers : Form → Bool
starts_workers Step = false
starts_workers (Replay layout) = true
starts_workers (Make requests) = false
starts_workers Help = false
starts_workers Usage = false
