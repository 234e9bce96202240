-- How the span s of an item lies to a span t, by the order of their keys.
use Rattle.std.proofs.Common.{◌≡◌, ◌≢◌, true, false, [], sym, ap, ◌∙◌}
use Rattle.std.specs.Ordering.{is_lt, is_le, is_ge, is_gt}
use Rattle.std.specs.declared.cmp.Ordering.TheVariants.{Less, Equal, Greater}
use Rattle.span_key.specs.Spans.{Pair, IsSpan, key_cmp, key_lt, past, is_point as is_single}
use Rattle.span_key.proofs.KeyOrder.{KeyLess-up_to_less}
use Rattle.span_key.proofs.SpanLaws.{KeyLess-past}
use Rattle.latch_item.specs.declared.order.Side.{Side}
use Rattle.latch_item.specs.declared.order.Side.TheVariants.{Before, Overlaps, Past}
use Rattle.latch_item.specs.Sides.{side_between}
use Rattle.latch_item.proofs.Comparing.{before-range, before-point, turned-ge, reach-point, reach-range}

abbrev pub side : Pair → Pair → Side
side s t = side_between (key_lt t.0 (past s)) (key_lt s.0 (past t))

ends-before : (s t : Pair) → key_lt t.0 (past s) ≡ false → Before ≡ side s t
ends-before s t r = ap (λ z. side_between z (key_lt s.0 (past t))) (sym r)

meets : (s t : Pair) → key_lt t.0 (past s) ≡ true → key_lt s.0 (past t) ≡ true → Overlaps ≡ side s t
meets s t r b = λ i. side_between (sym r i) (sym b i)

begins-past : (s t : Pair) → key_lt t.0 (past s) ≡ true → key_lt s.0 (past t) ≡ false → Past ≡ side s t
begins-past s t r b = λ i. side_between (sym r i) (sym b i)

-- a span that begins no later begins before the other's end
begins : (s t : Pair) → IsSpan t → is_le (key_cmp s.0 t.0) ≡ true → key_lt s.0 (past t) ≡ true
begins s t ok h = KeyLess-up_to_less s.0 t.0 (past t) h (KeyLess-past t ok)

-- a span that begins no earlier reaches the other
reaches : (s t : Pair) → IsSpan s → is_ge (key_cmp s.0 t.0) ≡ true → key_lt t.0 (past s) ≡ true
reaches s t ok h = KeyLess-up_to_less t.0 s.0 (past s) (sym (turned-ge s.0 t.0) ∙ h) (KeyLess-past s ok)

-- ---- the item's key is less
pub less-point : (s t : Pair) → key_cmp s.0 t.0 ≡ Less → true ≡ is_single s → Before ≡ side s t
less-point s t e h = ends-before s t (sym (reach-point s t.0 h) ∙ ap is_ge e)

pub less-ends : (s t : Pair) → false ≡ is_single s → is_gt (key_cmp s.1 t.0) ≡ false → Before ≡ side s t
less-ends s t h o = ends-before s t (sym (reach-range s t.0 h) ∙ o)

pub less-meets : (s t : Pair) → IsSpan t → key_cmp s.0 t.0 ≡ Less → false ≡ is_single s → is_gt (key_cmp s.1 t.0) ≡ true → Overlaps ≡ side s t
less-meets s t ok e h o = meets s t (sym (reach-range s t.0 h) ∙ o) (begins s t ok (ap is_le e))

-- ---- the keys are equal
pub equal-meets : (s t : Pair) → IsSpan s → IsSpan t → key_cmp s.0 t.0 ≡ Equal → Overlaps ≡ side s t
equal-meets s t s_ok t_ok e = meets s t (reaches s t s_ok (ap is_ge e)) (begins s t t_ok (ap is_le e))

-- ---- the item's key is greater
pub greater-point : (s t : Pair) → IsSpan s → key_cmp s.0 t.0 ≡ Greater → t.1 ≡ [] → Past ≡ side s t
greater-point s t ok e h = begins-past s t (reaches s t ok (ap is_ge e)) (sym (before-point s t h) ∙ ap is_le e)

pub greater-past : (s t : Pair) → IsSpan s → key_cmp s.0 t.0 ≡ Greater → t.1 ≢ [] → is_lt (key_cmp s.0 t.1) ≡ false → Past ≡ side s t
greater-past s t ok e h o = begins-past s t (reaches s t ok (ap is_ge e)) (sym (before-range s t h) ∙ o)

pub greater-meets : (s t : Pair) → IsSpan s → key_cmp s.0 t.0 ≡ Greater → t.1 ≢ [] → is_lt (key_cmp s.0 t.1) ≡ true → Overlaps ≡ side s t
greater-meets s t ok e h o = meets s t (reaches s t ok (ap is_ge e)) (sym (before-range s t h) ∙ o)
