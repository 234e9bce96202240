-- What a reader of the code returned is what the definitions say, unless memory was refused. Values are seen by view.
use Rattle.std.specs.Prelude.{◌≡◌, ℕ, Result, Ok, Err}
use Rattle.script.specs.declared.fault.FieldFault.{FieldFault}
use Rattle.script.specs.declared.fault.FieldFault.TheVariants as fields
use Rattle.script.specs.declared.fault.ReadScript.{ReadScript}
use Rattle.script.specs.declared.fault.ReadScript.TheVariants as scripts

-- of a field or a line, which has a cause
abbrev pub FieldFails : {Y : Type 0} → FieldFault → Result Y ℕ → Type 0
FieldFails fields.Memory read = Unit {0}
FieldFails (fields.Bad cause) read = read ≡ Err cause

abbrev pub Gives : {X Y : Type 0} → (X → Y) → Result X FieldFault → Result Y ℕ → Type 0
Gives view (Ok x) read = read ≡ Ok (view x)
Gives view (Err e) read = FieldFails e read

-- of a script, which has a line and a cause
abbrev pub ScriptFails : {Y : Type 0} → ReadScript → Result Y (ℕ × ℕ) → Type 0
ScriptFails scripts.Memory read = Unit {0}
ScriptFails (scripts.Bad f) read = read ≡ Err (f.line, f.cause)

abbrev pub Reads : {X Y : Type 0} → (X → Y) → Result X ReadScript → Result Y (ℕ × ℕ) → Type 0
Reads view (Ok x) read = read ≡ Ok (view x)
Reads view (Err e) read = ScriptFails e read

-- a fault of a field or a line, at this line
abbrev pub IsAtLine : ℕ → FieldFault → ReadScript → Type 0
IsAtLine line fields.Memory f = f ≡ scripts.Memory
IsAtLine line (fields.Bad cause) f = f ≡ scripts.Bad (record { line = line; cause = cause })
