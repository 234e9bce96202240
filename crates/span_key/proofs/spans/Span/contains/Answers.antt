use Rattle.std.proofs.Common.{subst, rules}
use Rattle.span_key.specs.Spans.{IsSpan}
use Rattle.span_key.proofs.SpanLaws.{lies_in_answer}
use Rattle.span_key.proofs.spans.Span.contains.Goals as goal

pub returns-then-is_le-clause-points : goal.returns-then-is_le-clause-points
returns-then-is_le-clause-points c =
    lies_in_answer _ _ _ (subst IsSpan c.other.view_is c.other.invariant.0) (subst IsSpan c.self.view_is c.self.invariant.0) (search rules)

pub returns-else-is_le-clause-points : goal.returns-else-is_le-clause-points
returns-else-is_le-clause-points c =
    lies_in_answer _ _ _ (subst IsSpan c.other.view_is c.other.invariant.0) (subst IsSpan c.self.view_is c.self.invariant.0) (search rules)
