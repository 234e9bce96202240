-- What a field of a line spells: a number, a name, a policy, or a latch, which has the causes 8, 9 and 10.
use Rattle.std.specs.Prelude.{ℕ, Bool, false, not, ◌&&◌, ◌||◌, ◌==◌, nat_eq, nat_le, nat_lt, if◌then◌else◌, List, [], ◌∷◌, length, drop, Option, Some}
use Rattle.std.specs.Prelude.{None, Result, Ok, Err, codes}
use Rattle.std.specs.Char.{is_ascii_digit}
use Rattle.std.specs.List.{list_any, list_all, before_first, after_first, starts_with}
use Rattle.std.specs.Result.{result_ok}
use Rattle.std.specs.Str.{bytes_eq}
use Rattle.std.specs.Str.Parse.{digits_value}
use Rattle.hex.specs.Hex.{decode_of}
use Rattle.hlc_stamp.specs.declared.Stamp.{Stamp}
use Rattle.span_key.specs.Spans.{Pair, key_lt}
use Rattle.latch_model.specs.declared.latch.Access.{Access}
use Rattle.latch_model.specs.declared.latch.Access.TheVariants.{Read, Write}
use Rattle.latch_model.specs.declared.latch.Latch.{Latch}
use Rattle.latch_model.specs.declared.latch.Policy.{Policy}
use Rattle.latch_model.specs.declared.latch.Policy.TheVariants.{Wait as policy_wait, Error}
use Rattle.script.specs.Causes.{number_of}
use Rattle.script.specs.declared.fault.FaultCause.TheVariants.{LongKey, NoLatch, Reversed}
use Rattle.script.specs.Scripts.{is_name}
use Rattle.script.specs.declared.limits.TheConstants.{KEY_LIMIT}

-- Steps that may find nothing, one after the other.
infixl 10 ◌>>?◌
abbrev pub ◌>>?◌ : {A B : Type 0} → Option A → (A → Option B) → Option B
(Some x) >>? f = f x
None >>? f = None

-- Steps that may end with a cause, one after the other.
infixl 10 ◌>>=◌
abbrev pub ◌>>=◌ : {A B C : Type 0} → Result A C → (A → Result B C) → Result B C
(Ok x) >>= f = f x
(Err e) >>= f = Err e

-- what was found, or this cause
abbrev pub or_cause : {A : Type 0} → ℕ → Option A → Result A ℕ
or_cause cause (Some x) = Ok x
or_cause cause None = Err cause

-- whether a byte stands in a text, and a test for being that byte
abbrev pub is_byte : ℕ → ℕ → Bool
is_byte c b = b == c

abbrev pub has_byte : ℕ → List ℕ → Bool
has_byte c text = list_any (is_byte c) text

-- A decimal number has one digit or more, no sign, and a leading zero only where it is zero.
abbrev pub is_decimal : List ℕ → Bool
is_decimal [] = false
is_decimal (c ∷ []) = is_ascii_digit c
is_decimal (c ∷ d ∷ ds) = not (c == 48) && list_all is_ascii_digit (c ∷ d ∷ ds)

-- the decimal number from low to high that a text spells
unfoldable pub number_at : ℕ → ℕ → List ℕ → Option ℕ
number_at low high text =
    if is_decimal text && (nat_le low (digits_value 10 text) && nat_le (digits_value 10 text) high) then Some (digits_value 10 text) else None

unfoldable pub name_at : List ℕ → Option (List ℕ)
name_at text = if is_name text then Some text else None

unfoldable pub policy_at : List ℕ → Option Policy
policy_at text = if bytes_eq text (codes "wait") then Some policy_wait else (if bytes_eq text (codes "error") then Some Error else None)

-- whether a text begins with these bytes, and what stands behind them
abbrev pub begins_with : List ℕ → List ℕ → Bool
begins_with start text = starts_with nat_eq text start

abbrev pub behind : List ℕ → List ℕ → List ℕ
behind start text = drop (length start) text

-- a hexadecimal digit; capital letters are none
abbrev pub is_hex : ℕ → Bool
is_hex c = (nat_le 48 c && nat_le c 57) || (nat_le 97 c && nat_le c 102)

-- the bytes, one or more, that a text spells by two hexadecimal digits each
unfoldable pub bytes_at : List ℕ → Option (List ℕ)
bytes_at [] = None
bytes_at (c ∷ cs) = if list_all is_hex (c ∷ cs) then result_ok (decode_of (c ∷ cs)) else None

-- a key, or a key and its end with a hyphen between
unfoldable pub span_at : List ℕ → Option Pair
span_at text =
    if has_byte 45 text
    then (bytes_at (before_first (is_byte 45) text) >>? λ key. bytes_at (after_first (is_byte 45) text) >>? λ end. Some (key, end))
    else (bytes_at text >>? λ key. Some (key, []))

-- what stands behind the `@` of a stamp: the wall part, or both parts with a dot between
unfoldable pub stamp_at : List ℕ → Option Stamp
stamp_at text =
    if has_byte 46 text
    then (number_at 0 18446744073709551615 (before_first (is_byte 46) text) >>? λ wall. number_at 1 4294967295
    (after_first (is_byte 46) text) >>? λ logical. Some (record { wall = wall; logical = logical }))
    else (number_at 1 18446744073709551615 text >>? λ wall. Some (record { wall = wall; logical = 0 }))

-- a span, and a stamp where there is an `@`
unfoldable pub timed_at : List ℕ → Option (Pair × Stamp)
timed_at text =
    if has_byte 64 text
    then (span_at (before_first (is_byte 64) text) >>? λ span. stamp_at (after_first (is_byte 64) text) >>? λ stamp. Some (span, stamp))
    else (span_at text >>? λ span. Some (span, record { wall = 0; logical = 0 }))

-- The access of a latch field. Two bytes spell it.
unfoldable pub access_at : List ℕ → Option Access
access_at text = if begins_with (codes "r:") text then Some Read else (if begins_with (codes "w:") text then Some Write else None)

-- whether the key or the end is too long for a script
abbrev pub is_long : Pair → Bool
is_long span = nat_lt KEY_LIMIT (length span.0) || nat_lt KEY_LIMIT (length span.1)

-- whether there is an end, and it is not greater than the key
abbrev pub is_reversed : Pair → Bool
is_reversed span = not (length span.1 == 0) && not (key_lt span.0 span.1)

-- The span of a key and an end: 9, one of them is too long; 10, the end is not greater than the key.
unfoldable pub bounded_at : Pair → Result Pair ℕ
bounded_at span = if is_long span then Err (number_of LongKey) else (if is_reversed span then Err (number_of Reversed) else Ok span)

-- The latch that a field spells, or its first cause: 8, it isn't spelled as a latch, where keys may have any length; then 9 and 10.
unfoldable pub latch_at : List ℕ → Result Latch ℕ
latch_at text =
    or_cause (number_of NoLatch) (access_at text) >>= λ access. or_cause (number_of NoLatch)
    (timed_at (drop 2 text)) >>= λ place. bounded_at place.0 >>= λ span.
    Ok (record { access = access; span = span; stamp = place.1 })
