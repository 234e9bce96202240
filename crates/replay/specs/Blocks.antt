-- The blocks of a session as far as its commands have been run.
use Rattle.std.specs.Prelude.{◌≡◌, ℕ, true, List, [], ◌∷◌, ◌++◌, Option, Some, None, take}
use Rattle.std.specs.List.{enumerate_from, filter, list_any}
use Rattle.latch_model.specs.declared.latch.Latch.{Latch}
use Rattle.latch_model.specs.declared.latch.Mode.{Mode}
use Rattle.latch_model.specs.declared.latch.Policy.{Policy}
use Rattle.script.specs.Commands.{is_live, opens_for}
use Rattle.script.specs.Follows.{Block, in_blocks, is_of}
use Rattle.script.specs.declared.command.Command.{Command}

-- of the first i commands of a script, those of a session with their lines, and their blocks
abbrev pub commands_until : List Command → ℕ → ℕ → List (ℕ × Command)
commands_until cs w i = filter (λ (p : ℕ × Command). is_of cs w p.1) (enumerate_from 2 (take i cs))

abbrev pub blocks_until : List Command → ℕ → ℕ → List Block
blocks_until cs w i = (in_blocks (commands_until cs w i)).1

-- a block of an opening alone
abbrev pub new_block : ℕ → Mode → Policy → Option ℕ → List Latch → Block
new_block line mode policy turns latches =
    record { line = line; mode = mode; policy = policy; turns = turns; latches = latches; more = [] }

-- a block with one more command
abbrev pub with_more : Block → Command → Block
with_more b c = record b { more = b.more ++ c ∷ [] }

-- One more command on the name of the last block.
abbrev pub GrowsBy : Command → List Block → List Block → Type 0
GrowsBy c bs ds = (done : List Block) (last : Block) → bs ≡ done ++ last ∷ [] → ds ≡ done ++ with_more last c ∷ []

-- A name that a session opened and that is live after some commands; and which one of the session is: none, or this alone.
abbrev pub IsLiveOf : List Command → ℕ → List ℕ → Type 0
IsLiveOf cs w n = (is_live cs n ≡ true) × (list_any (opens_for w n) cs ≡ true)

abbrev pub LiveName : List Command → ℕ → Option (List ℕ) → Type 0
LiveName cs w None = (n : List ℕ) → IsLiveOf cs w n → ⊥
LiveName cs w (Some n) = IsLiveOf cs w n × ((m : List ℕ) → IsLiveOf cs w m → m ≡ n)
