-- The order of keys: its laws, and the key that comes next after another.
use Rattle.std.proofs.Common.{◌≡◌, ℕ, zero, suc, Bool, true, false, not, List, [], ◌∷◌, refl, sym, ◌∙◌, ap, Ordering, arith}
use Rattle.std.specs.declared.cmp.Ordering.TheVariants.{Less, Equal, Greater}
use Rattle.std.specs.Ordering.{nat_cmp, is_lt, is_le, is_eq, ordering_then, ordering_reverse}
use Rattle.std.proofs.lemmas.Cmp.{nat_list_cmp_total, tied_itself, alike_right}
use Rattle.std.proofs.lemmas.Map.Text.{is_eq-slice_cmp}
use Rattle.std.proofs.lemmas.Bool.Decides.{nat_tests}
use Rattle.std.proofs.lemmas.Slice.Eq.{bytes_eq-Decides}
use Rattle.span_key.specs.Spans.{key_cmp, key_lt, key_le, KeyLess, KeyUpTo, next_key}

nat_cmp-above : (x : ℕ) → nat_cmp (suc x) 0 ≡ Greater
nat_cmp-above x = grind (arith, nat_tests)

-- a key is before the next of another exactly where it is not past that other
pub key_lt-next_key : (a b : List ℕ) → key_lt a (next_key b) ≡ key_le a b
key_lt-next_key [] [] = refl
key_lt-next_key [] (y ∷ ys) = refl
key_lt-next_key (zero ∷ []) [] = refl
key_lt-next_key (zero ∷ y ∷ ys) [] = refl
key_lt-next_key (suc x ∷ xs) [] = ap (λ o. is_lt (ordering_then o (key_cmp xs []))) (nat_cmp-above x)
key_lt-next_key (x ∷ xs) (y ∷ ys) = by (nat_cmp x y) (key_lt-next_key xs ys)
  where
    by : (o : Ordering) → key_lt xs (next_key ys) ≡ key_le xs ys → is_lt (ordering_then o (key_cmp xs (next_key ys))) ≡ is_le (ordering_then o (key_cmp xs ys))
    by Less h = refl
    by Equal h = h
    by Greater h = refl

-- a <= b is that not b < a
pub key_le-not : (a b : List ℕ) → key_le a b ≡ not (key_lt b a)
key_le-not a b = ap is_le (nat_list_cmp_total.antisymm a b) ∙ by (key_cmp b a)
  where
    by : (o : Ordering) → is_le (ordering_reverse o) ≡ not (is_lt o)
    by Less = refl
    by Equal = refl
    by Greater = refl

-- what a < b says of the comparison
pub KeyLess-is : (a b : List ℕ) → KeyLess a b → key_cmp a b ≡ Less
KeyLess-is a b h = by (key_cmp a b) h
  where
    by : (o : Ordering) → is_lt o ≡ true → o ≡ Less
    by Less h = refl
    by Equal h = cc
    by Greater h = cc

pub KeyUpTo-itself : (a : List ℕ) → KeyUpTo a a
KeyUpTo-itself a = ap is_le (tied_itself nat_list_cmp_total a)

pub KeyLess-never_itself : (a : List ℕ) → KeyLess a a → ⊥
KeyLess-never_itself a h = let e = tied_itself nat_list_cmp_total a in let g = KeyLess-is a a h in cc

pub KeyUpTo-less : (a b : List ℕ) → KeyLess a b → KeyUpTo a b
KeyUpTo-less a b h = ap is_le (KeyLess-is a b h)

-- of two keys one is not past the other
pub KeyLess-else : (a b : List ℕ) → key_le a b ≡ false → KeyLess b a
KeyLess-else a b h = by (key_lt b a) (sym (key_le-not a b) ∙ h)
  where
    by : (t : Bool) → not t ≡ false → t ≡ true
    by true h = refl
    by false h = cc

pub KeyLess-trans : (a b c : List ℕ) → KeyLess a b → KeyLess b c → KeyLess a c
KeyLess-trans a b c h g = ap is_lt (nat_list_cmp_total.trans a b c (KeyLess-is a b h) (KeyLess-is b c g))

pub KeyLess-up_to_less : (a b c : List ℕ) → KeyUpTo a b → KeyLess b c → KeyLess a c
KeyLess-up_to_less a b c h g = by (key_cmp a b) refl h
  where
    by : (o : Ordering) → key_cmp a b ≡ o → is_le o ≡ true → KeyLess a c
    by Less e h = KeyLess-trans a b c (ap is_lt e) g
    by Equal e h = ap is_lt (nat_list_cmp_total.congr a b c e) ∙ g
    by Greater e h = cc

pub KeyLess-less_up_to : (a b c : List ℕ) → KeyLess a b → KeyUpTo b c → KeyLess a c
KeyLess-less_up_to a b c g h = by (key_cmp b c) refl h
  where
    by : (o : Ordering) → key_cmp b c ≡ o → is_le o ≡ true → KeyLess a c
    by Less e h = KeyLess-trans a b c g (ap is_lt e)
    by Equal e h = sym (ap is_lt (alike_right nat_list_cmp_total b c a e)) ∙ g
    by Greater e h = cc

pub KeyUpTo-trans : (a b c : List ℕ) → KeyUpTo a b → KeyUpTo b c → KeyUpTo a c
KeyUpTo-trans a b c h g = by (key_cmp a b) refl h
  where
    by : (o : Ordering) → key_cmp a b ≡ o → is_le o ≡ true → KeyUpTo a c
    by Less e h = KeyUpTo-less a c (KeyLess-less_up_to a b c (ap is_lt e) g)
    by Equal e h = ap is_le (nat_list_cmp_total.congr a b c e) ∙ g
    by Greater e h = cc

-- two keys of which neither is past the other are one
pub KeyUpTo-both : (a b : List ℕ) → KeyUpTo a b → KeyUpTo b a → a ≡ b
KeyUpTo-both a b h g = by (key_cmp a b) refl h
  where
    by : (o : Ordering) → key_cmp a b ≡ o → is_le o ≡ true → a ≡ b
    by Less e h = absurd (KeyLess-never_itself a (KeyLess-less_up_to a b a (ap is_lt e) g))
    by Equal e h = (bytes_eq-Decides a b).0 (sym (is_eq-slice_cmp a b) ∙ ap is_eq e)
    by Greater e h = cc

-- no key is before the empty one
pub KeyLess-no_empty : (a : List ℕ) → KeyLess a [] → ⊥
KeyLess-no_empty [] h = cc
KeyLess-no_empty (x ∷ xs) h = cc

pub KeyLess-next_key : (a : List ℕ) → KeyLess a (next_key a)
KeyLess-next_key a = key_lt-next_key a a ∙ KeyUpTo-itself a

-- the next key is not past another exactly where the key is less than that other
pub key_le-next_key : (a b : List ℕ) → key_le (next_key a) b ≡ key_lt a b
key_le-next_key a b = key_le-not (next_key a) b ∙ by (key_lt a b) (key_lt-next_key b a ∙ key_le-not b a)
  where
    by : (t : Bool) → key_lt b (next_key a) ≡ not t → not (key_lt b (next_key a)) ≡ t
    by true e = ap not e
    by false e = ap not e

-- a greater key is not past the next one only where it is the next one
pub KeyUpTo-next_key : (a b : List ℕ) → KeyLess a b → KeyUpTo b (next_key a) → b ≡ next_key a
KeyUpTo-next_key a b h g = KeyUpTo-both b (next_key a) g (key_le-next_key a b ∙ h)
