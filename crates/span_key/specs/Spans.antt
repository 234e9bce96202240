-- The keys of spans. A key is a list of bytes, of any length here, and keys are in lexicographic order.
-- A span is a pair (key, end): the keys from `key` up to the excluded `end`, or the single key `key` where
-- `end` is empty. What two spans have to do with each other is said by the keys that are in them. The tests
-- at the end answer the same by the bounds, so that a list of spans can be filtered by them.
use Rattle.std.specs.Prelude.{◌≡◌, ◌≢◌, ℕ, ◌<◌, ◌≤◌, ◌⊎◌, ◌==◌, ◌&&◌, Bool, true, false, IsTrue, List, [], ◌∷◌, ◌++◌, length, slice_index, Option, Some, None}
use Rattle.std.specs.Ordering.{nat_cmp, is_lt, is_le, ordering_then, bool_cmp}
use Rattle.std.specs.Cmp.Lexicographic.{slice_cmp}
use Rattle.std.specs.declared.cmp.Ordering.{Ordering}
use Rattle.span_key.specs.declared.keys.TheConstants.Key.{LIMIT}

-- a span as contracts see it: its key, and its end, which is empty where the span is the single key
abbrev pub Pair : Type 0
Pair = List ℕ × List ℕ

-- each element is a byte
abbrev pub IsBytes : List ℕ → Type 0
IsBytes k = (i : ℕ) → slice_index k i < 256

-- the lexicographic order of keys, by byte: a key is less than each longer key that begins with it
abbrev pub key_cmp : List ℕ → List ℕ → Ordering
key_cmp a b = slice_cmp nat_cmp a b

abbrev pub key_lt : List ℕ → List ℕ → Bool
key_lt a b = is_lt (key_cmp a b)

abbrev pub key_le : List ℕ → List ℕ → Bool
key_le a b = is_le (key_cmp a b)

-- a < b and a <= b as facts
abbrev pub KeyLess : List ℕ → List ℕ → Type 0
KeyLess a b = IsTrue (key_lt a b)

abbrev pub KeyUpTo : List ℕ → List ℕ → Type 0
KeyUpTo a b = IsTrue (key_le a b)

-- the key k is in the span: key <= k < end, or the end is empty and k is the key
abbrev pub IsIn : List ℕ → Pair → Type 0
IsIn k s = (KeyUpTo s.0 k × KeyLess k s.1) ⊎ ((s.1 ≡ []) × (k ≡ s.0))

-- some key is in both spans
abbrev pub Overlap : Pair → Pair → Type 0
Overlap s t = (k : List ℕ) × IsBytes k × IsIn k s × IsIn k t

-- each key of s is a key of t
abbrev pub LiesIn : Pair → Pair → Type 0
LiesIn s t = (k : List ℕ) → IsBytes k → IsIn k s → IsIn k t

-- the greatest length of a key that a program can hold
abbrev pub key_limit : ℕ
key_limit = LIMIT

-- what the value of a key keeps
pub record IsKey (k : List ℕ) : Type 0 where
  pub bytes : IsBytes k
  pub fits : length k ≤ key_limit

-- what the value of a span keeps: the end is empty or past the key
pub record IsSpan (s : Pair) : Type 0 where
  pub key : IsKey s.0
  pub end : IsKey s.1
  pub ordered : s.1 ≢ [] → KeyLess s.0 s.1

-- the key that comes next after k, since no key is between k and k with a byte 0 behind it
abbrev pub next_key : List ℕ → List ℕ
next_key k = k ++ 0 ∷ []

abbrev pub is_point : Pair → Bool
is_point (key, []) = true
is_point (key, b ∷ bs) = false

-- the least key past all keys of the span
abbrev pub past : Pair → List ℕ
past (key, []) = next_key key
past (key, b ∷ bs) = b ∷ bs

-- whether two spans overlap: each begins before the other ends
abbrev pub overlap : Pair → Pair → Bool
overlap s t = key_lt s.0 (past t) && key_lt t.0 (past s)

-- whether each key of s is a key of t: s begins no earlier and ends no later
abbrev pub lies_in : Pair → Pair → Bool
lies_in s t = key_le t.0 s.0 && key_le (past s) (past t)

-- a span is local where its first key begins with byte 1
abbrev pub is_local : Pair → Bool
is_local ([], end) = false
is_local (b ∷ key, end) = b == 1

-- the end of a span as contracts see it: empty where there is none
abbrev pub end_of : Option (List ℕ) → List ℕ
end_of (Some k) = k
end_of None = []

-- the upper bound of a span: the excluded end, or the included single key. Bounds are in the order of their
-- bytes, and where these are equal the included bound is the greater
abbrev pub bound_of : Pair → List ℕ
bound_of (key, []) = key
bound_of (key, b ∷ bs) = b ∷ bs

abbrev pub bound_cmp : Pair → Pair → Ordering
bound_cmp s t = ordering_then (key_cmp (bound_of s) (bound_of t)) (bool_cmp (is_point s) (is_point t))
