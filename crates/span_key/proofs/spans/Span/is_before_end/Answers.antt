use Rattle.std.proofs.Common.{arith}
use Rattle.span_key.proofs.KeyOrder.{key_lt-next_key}
use Rattle.span_key.proofs.spans.Span.is_before_end.Goals as goal

pub returns-in-None : goal.returns-in-None
returns-in-None c = grind (arith, key_lt-next_key)
