-- The order of upper bounds: it is total, and a span whose bound is not the greater reaches no further.
use Rattle.std.proofs.Common.{◌≡◌, ℕ, true, false, List, [], ◌∷◌, refl, ◌∙◌, ap, Ordering, IsTrue}
use Rattle.std.specs.declared.cmp.Ordering.TheVariants.{Less, Equal, Greater}
use Rattle.std.specs.Cmp.{IsTotalOrder, bool_cmp_total}
use Rattle.std.specs.Ordering.{is_le, is_lt, ordering_then, bool_cmp}
use Rattle.std.proofs.lemmas.Cmp.{nat_list_cmp_total, on_total, then_total}
use Rattle.span_key.specs.Spans.{Pair, KeyLess, KeyUpTo, IsIn, key_cmp, next_key, past, bound_of, bound_cmp, is_point}
use Rattle.span_key.proofs.KeyOrder.{key_le-next_key, key_lt-next_key, KeyLess-next_key, KeyUpTo-less, KeyUpTo-trans, KeyLess-less_up_to}
use Rattle.span_key.proofs.SpanLaws.{in_bounds}

pub bound_cmp_total : IsTotalOrder bound_cmp
bound_cmp_total = then_total (on_total bound_of nat_list_cmp_total) (on_total is_point bool_cmp_total)

-- the first order decides up to equality
first_up_to : (o p : Ordering) → IsTrue (is_le (ordering_then o p)) → IsTrue (is_le o)
first_up_to Less p h = refl
first_up_to Equal p h = refl
first_up_to Greater p h = h

-- where the second order is Greater the first has to be Less
first_less : (o : Ordering) → IsTrue (is_le (ordering_then o Greater)) → o ≡ Less
first_less Less h = refl
first_less Equal h = cc
first_less Greater h = cc

pub past-up_to : (s t : Pair) → IsTrue (is_le (bound_cmp s t)) → KeyUpTo (past s) (past t)
past-up_to (a, []) (b, []) h = key_le-next_key a (next_key b) ∙ key_lt-next_key a b ∙ first_up_to (key_cmp a b) (bool_cmp true true) h
past-up_to (a, []) (b, y ∷ ys) h = key_le-next_key a (y ∷ ys) ∙ ap is_lt (first_less (key_cmp a (y ∷ ys)) h)
past-up_to (a, x ∷ xs) (b, []) h =
    KeyUpTo-trans (x ∷ xs) b (next_key b) (first_up_to (key_cmp (x ∷ xs) b) (bool_cmp false true) h) (KeyUpTo-less b (next_key b) (KeyLess-next_key b))
past-up_to (a, x ∷ xs) (b, y ∷ ys) h = first_up_to (key_cmp (x ∷ xs) (y ∷ ys)) (bool_cmp false false) h

-- no key of a span is past another span whose bound is not less
pub IsIn-up_to_bound : (k : List ℕ) (s t : Pair) → IsTrue (is_le (bound_cmp s t)) → IsIn k s → KeyLess k (past t)
IsIn-up_to_bound k s t h in_s = KeyLess-less_up_to k (past s) (past t) (in_bounds k s in_s).1 (past-up_to s t h)
