-- What the readers of a line keep, as lists.
use Rattle.std.specs.Prelude.{ℕ, List, [], ◌∷◌, ◌++◌, Option, Some, None, Result, Ok}
use Rattle.std.specs.Borrow.{Bor}
use Rattle.script.specs.Fields.{◌>>=◌}
use Rattle.script.specs.Lines.{fields}
use Rattle.script.specs.Reading.{next_at}
use Rattle.script.specs.declared.command.Command.{Command}

-- the fields that are left of a line: none, or those of a text
abbrev pub fields_left : Option (Bor (List ℕ)) → List (List ℕ)
fields_left None = []
fields_left (Some text) = fields text.now

-- the commands cs and that of one more line, or its cause
abbrev pub more_at : List Command → List ℕ → Result (List Command) ℕ
more_at cs line = next_at cs line >>= λ c. Ok (cs ++ c ∷ [])
