-- A name is ASCII, and so text.
use Rattle.std.proofs.Common.{◌≡◌, ℕ, ◌<◌, true, ◌&&◌, leb, List, [], ◌∷◌, length, arith}
use Rattle.std.specs.List.{list_all}
use Rattle.std.specs.Str.{IsAscii, IsUtf8}
use Rattle.std.proofs.lemmas.Bool.Decides.{nat_tests}
use Rattle.std.proofs.lemmas.Str.{IsUtf8-from_ascii}
use Rattle.std.proofs.lemmas.Str.Ascii.{IsAscii-nil, IsAscii-cons}
use Rattle.script.specs.Scripts.{is_letter, is_name_byte, is_name}
use Rattle.script.proofs.Choices.{and_parts}

letter_low : (c : ℕ) → is_letter c ≡ true → c < 128
letter_low c e = grind (arith, nat_tests)

byte_low : (c : ℕ) → is_name_byte c ≡ true → c < 128
byte_low c e = grind (arith, nat_tests)

bytes_low : (cs : List ℕ) → list_all is_name_byte cs ≡ true → IsAscii cs
bytes_low [] e = IsAscii-nil
bytes_low (c ∷ cs) e =
    let h = and_parts (is_name_byte c) (list_all is_name_byte cs) e in
    IsAscii-cons c cs (byte_low c h.0) (bytes_low cs h.1)

pub name_is_text : (text : List ℕ) → is_name text ≡ true → IsUtf8 text
name_is_text [] e = absurd cc
name_is_text (c ∷ cs) e =
    let h = and_parts (is_letter c) (list_all is_name_byte cs && leb (length cs) 15) e in
    let k = and_parts (list_all is_name_byte cs) (leb (length cs) 15) h.1 in
    IsUtf8-from_ascii (c ∷ cs) (IsAscii-cons c cs (letter_low c h.0) (bytes_low cs k.0))
