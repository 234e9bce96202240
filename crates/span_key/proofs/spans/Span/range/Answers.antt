use Rattle.std.proofs.Common.{◌≡◌, [], subst}
use Rattle.span_key.specs.Spans.{KeyLess}
use Rattle.span_key.proofs.KeyOrder.{KeyLess-no_empty}
use Rattle.span_key.proofs.spans.Span.range.Goals as goal

pub invariant_of-result : goal.invariant_of-result
invariant_of-result c =
    let less : KeyLess c.args.key c.args.end = cc in (
      record { key = c.bytes.ensures.valid; end = c.bytes-2.ensures.valid; ordered = λ _. less },
      λ e is empty. KeyLess-no_empty c.args.key (let it : c.args.end ≡ [] = cc in subst (KeyLess c.args.key) it less),
    )
