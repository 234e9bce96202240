use Rattle.std.proofs.Common.{◌≡◌, ◌&&◌, drop}
use Rattle.std.specs.List.{list_all}
use Rattle.script.specs.Fields.{is_hex}
use Rattle.script.proofs.field.is_hex.Given as goal

-- What is left decides the rest.
abbrev pub invariant-loop-byte : goal.invariant-loop-byte
invariant-loop-byte l = list_all is_hex l.fn.text ≡ (l.all && list_all is_hex (drop l.byte-index l.fn.text))
