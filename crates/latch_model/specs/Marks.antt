-- Marks: a number of 64 bits for each entry that tells at once, of most pairs of requests, that their latches share no key. Spans that share
-- a key share a bit of their marks: a single key has one bit, chosen by its bytes, and a range has all of them.
use Rattle.std.specs.Prelude.{◌≡◌, ℕ, ◌+◌, ◌-◌, ◌*◌, ◌%◌, ◌^◌, ◌==◌, if◌then◌else◌, List, [], ◌∷◌, map, Option, None, bit_and, bit_or}
use Rattle.span_key.specs.Spans.{Pair}
use Rattle.latch_model.specs.Carrying.{number_against}
use Rattle.latch_model.specs.declared.history.Entry.{Entry}
use Rattle.latch_model.specs.declared.history.Entry.TheVariants.{Begun, Ended}
use Rattle.latch_model.specs.declared.latch.Latch.{Latch}
use Rattle.latch_model.specs.declared.marks.Marked.{Marked}

-- the place among 64 that these bytes lead to from another place
unfoldable pub place_from : ℕ → List ℕ → ℕ
place_from place [] = place
place_from place (b ∷ bs) = place_from ((place * 5 + b) % 64) bs

-- the mark of a span: the bit of its key, or all bits of a range
abbrev pub span_mark : Pair → ℕ
span_mark (key, []) = 2 ^ place_from 0 key
span_mark (key, b ∷ bs) = 2 ^ 64 - 1

-- the bits of all spans of some latches
abbrev pub latches_mark : List Latch → ℕ
latches_mark [] = 0
latches_mark (l ∷ ls) = bit_or (latches_mark ls) (span_mark l.span)

-- the mark of an entry: the bits of what it declares where it begins a request
abbrev pub entry_mark : Entry → ℕ
entry_mark (Begun id lane who mode request) = latches_mark request.latches
entry_mark (Ended id who grant poison fault) = 0

-- the mark that an entry carries is its own
abbrev pub IsMarked : Marked → Type 0
IsMarked m = m.mark ≡ entry_mark m.entry.now

-- the entries of those that carry a mark
abbrev pub seen : List Marked → List Entry
seen ms = map (λ m. m.entry.now) ms

-- the number of the request that an entry begins, where its mark has a bit of this one and it holds a latch in conflict with one of these
abbrev pub number_by : List Latch → ℕ → Marked → Option ℕ
number_by ls mark m = if bit_and m.mark mark == 0 then None else number_against ls m.entry.now
