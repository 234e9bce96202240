use Rattle.std.proofs.Common.{subst, rules}
use Rattle.span_key.specs.Spans.{IsSpan}
use Rattle.span_key.proofs.SpanLaws.{overlap_answer}
use Rattle.span_key.proofs.spans.Span.overlaps.Goals as goal

pub returns-then-is_before_end-clause-points : goal.returns-then-is_before_end-clause-points
returns-then-is_before_end-clause-points c =
    overlap_answer _ _ _ (subst IsSpan c.self.view_is c.self.invariant.0) (subst IsSpan c.other.view_is c.other.invariant.0) (search rules)

pub returns-else-is_before_end-clause-points : goal.returns-else-is_before_end-clause-points
returns-else-is_before_end-clause-points c =
    overlap_answer _ _ _ (subst IsSpan c.self.view_is c.self.invariant.0) (subst IsSpan c.other.view_is c.other.invariant.0) (search rules)
