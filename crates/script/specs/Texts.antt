-- How latches are spelled.
use Rattle.std.specs.Prelude.{ℕ, ◌++◌, ◌==◌, if◌then◌else◌, List, [], ◌∷◌, codes, decimal}
use Rattle.hex.specs.Hex.{encode_lower}
use Rattle.hlc_stamp.specs.Stamps.{is_empty_stamp}
use Rattle.hlc_stamp.specs.declared.Stamp.{Stamp}
use Rattle.span_key.specs.Spans.{Pair}
use Rattle.latch_model.specs.declared.latch.Access.{Access}
use Rattle.latch_model.specs.declared.latch.Access.TheVariants.{Read, Write}
use Rattle.latch_model.specs.declared.latch.Latch.{Latch}

-- A key is spelled by two hexadecimal digits a byte, a single key by itself, and a range by its key, a hyphen and its end.
abbrev pub span_text : Pair → List ℕ
span_text (key, []) = encode_lower key
span_text (key, b ∷ bs) = encode_lower key ++ (45 ∷ encode_lower (b ∷ bs))

-- The empty stamp is spelled by nothing, one with the logical part 0 by an `@` and its wall part, and another by both parts.
abbrev pub stamp_text : Stamp → List ℕ
stamp_text s =
    if is_empty_stamp s then [] else
    (if s.logical == 0 then 64 ∷ decimal s.wall else 64 ∷ decimal s.wall ++ (46 ∷ decimal s.logical))

-- both parts of a stamp
abbrev pub whole_stamp_text : Stamp → List ℕ
whole_stamp_text s = 64 ∷ decimal s.wall ++ (46 ∷ decimal s.logical)

abbrev pub access_text : Access → List ℕ
access_text Read = codes "r:"
access_text Write = codes "w:"

-- A latch is spelled by its access, its span and its declared stamp.
abbrev pub latch_text : Latch → List ℕ
latch_text l = access_text l.access ++ span_text l.span ++ stamp_text l.stamp
