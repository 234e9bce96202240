-- Single keys in front of an item end no later than it.
use Rattle.std.proofs.Common.{◌≡◌, List, [], ◌∷◌, ◌++◌, refl, ap, Ordering, IsTrue}
use Rattle.std.specs.declared.cmp.Ordering.TheVariants.{Less, Equal, Greater}
use Rattle.std.specs.Ordering.{is_le, is_lt, nat_cmp, ordering_then}
use Rattle.span_key.specs.Spans.{IsSpan, KeyUpTo, Pair, bound_cmp, is_point, key_cmp}
use Rattle.span_key.proofs.KeyOrder.{KeyLess-less_up_to, KeyLess-never_itself, KeyLess-up_to_less}
use Rattle.row_pool.specs.Trees.{Tree}
use Rattle.latch_item.specs.Items.{Before, IsLatch, item_of}
use Rattle.latch_item.specs.Shape.{Each, Sorted}
use Rattle.interval_tree.proofs.Lists.{each-map, sorted-under}
use Rattle.interval_tree.specs.Steps.{SingleUpTo}

up-to : (o p : Ordering) → ordering_then o p ≡ Less → IsTrue (is_le o)
up-to Less p e = refl
up-to Equal p e = refl
up-to Greater p e = cc

strict : (o : Ordering) → ordering_then o Equal ≡ Less → o ≡ Less
strict Less e = refl
strict Equal e = cc
strict Greater e = cc

-- a span that begins at a single key or behind it has no lesser bound
pub single-bound : (s t : Pair) → IsSpan s → IsTrue (is_point t) → KeyUpTo t.0 s.0 → bound_cmp s t ≡ Less → ⊥
single-bound (j, []) (k, []) span single le e = KeyLess-never_itself k (KeyLess-up_to_less k j k le (ap is_lt (strict (key_cmp j k) e)))
single-bound (j, b ∷ bs) (k, []) span single le e = KeyLess-never_itself k
    (KeyLess-up_to_less k j k le (KeyLess-less_up_to j (b ∷ bs) k (span.ordered (λ z. cc)) (up-to (key_cmp (b ∷ bs) k) Less e)))
single-bound s (k, c ∷ cs) span single le e = cc

pub before-single : (x y : Tree) → IsLatch y → Before x y → SingleUpTo y x
before-single x y latch before single = single-bound (item_of y).span (item_of x).span latch.valid.span single (up-to
    (key_cmp (item_of x).span.0 (item_of y).span.0) (ordering_then (key_cmp (item_of x).span.1 (item_of y).span.1)
    (ordering_then (nat_cmp (item_of x).id (item_of y).id) (nat_cmp (item_of x).place (item_of y).place))) before)

-- of a node's items those in front of the last
pub singles-before : (its : List Tree) (last : Tree) → IsLatch last → Sorted (its ++ last ∷ []) → Each (SingleUpTo last) its
singles-before its last latch sorted = each-map its (λ x b. before-single x last latch b) (sorted-under its last [] sorted)
