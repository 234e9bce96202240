-- Bytes in words, eight to a word, the first the most significant, with zeros after the end.
use Rattle.std.specs.Prelude.{◌≡◌, ℕ, zero, suc, ◌+◌, ◌*◌, ◌/◌, ◌%◌, ◌^◌, ◌<◌, List, [], ◌∷◌, ◌++◌}

-- the first byte, or 0, and the bytes behind it
abbrev pub byte : List ℕ → ℕ
byte [] = 0
byte (b ∷ bs) = b

abbrev pub rest : List ℕ → List ℕ
rest [] = []
rest (b ∷ bs) = bs

-- the number that the first m bytes spell, with zeros after the end
abbrev pub number : ℕ → List ℕ → ℕ
number zero bs = 0
number (suc m) bs = byte bs * 256 ^ m + number m (rest bs)

abbrev pub skip : ℕ → List ℕ → List ℕ
skip zero bs = bs
skip (suc m) bs = skip m (rest bs)

-- the word number i of a key
unfoldable pub key_word : List ℕ → ℕ → ℕ
key_word bytes i = number 8 (skip (i * 8) bytes)

-- the first n words of two keys are equal
pub record Agree (k l : List ℕ) (n : ℕ) : Type 0 where
  pub words : (j : ℕ) → j < n → key_word k j ≡ key_word l j

-- the m bytes of a number, the most significant first
abbrev pub spelled : ℕ → ℕ → List ℕ
spelled zero w = []
spelled (suc m) w = spelled m (w / 256) ++ (w % 256) ∷ []

abbrev pub bytes_of : List ℕ → List ℕ
bytes_of [] = []
bytes_of (w ∷ ws) = spelled 8 w ++ bytes_of ws
