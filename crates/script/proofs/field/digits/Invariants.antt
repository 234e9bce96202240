use Rattle.std.proofs.Common.{◌≡◌, drop}
use Rattle.std.specs.Char.{is_ascii_digit}
use Rattle.std.specs.List.{list_all}
use Rattle.std.specs.Str.Parse.{digits_value, digits_value_after}
use Rattle.script.proofs.field.digits.Given as goal

-- What is left decides whether all are digits, and goes on from the number so far.
abbrev pub invariant-loop-byte : goal.invariant-loop-byte
invariant-loop-byte l = (list_all is_ascii_digit l.fn.text ≡ list_all is_ascii_digit (drop l.byte-index l.fn.text))
    × (digits_value 10 l.fn.text ≡ digits_value_after 10 l.n (drop l.byte-index l.fn.text))
