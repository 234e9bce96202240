use Rattle.std.proofs.Common.{◌≡◌, ◌∙◌, ap}
use Rattle.std.specs.Str.{bytes_eq}
use Rattle.span_key.specs.Spans.{overlap}
use Rattle.span_key.proofs.SpanLaws.{overlap_answer}
use Rattle.latch_model.proofs.LatchLaws.{single-keys}
use Rattle.latch_model.proofs.latch.overlap.Goals as goal
use Rattle.latch_model.proofs.latch.overlap.Goals.{After-same_bytes}

answer : (c : After-same_bytes) → c.same_bytes.result ≡ overlap c.args.a.now c.args.b.now
answer c =
    c.same_bytes.ensures ∙ ap (λ k. bytes_eq k c.bytes-in-None-None.result.now) (c.bytes.ensures.bytes ∙ c.key-key.ensures.key)
    ∙ ap (bytes_eq c.args.a.now.0) (c.bytes-in-None-None.ensures.bytes ∙ c.key-other.ensures.key)
    ∙ single-keys c.args.a.now c.args.b.now c.in-None-None.ensures.end c.in-None-None.ensures'.end

pub returns-in-None-None-clause-test : goal.returns-in-None-None-clause-test
returns-in-None-None-clause-test c = answer (goal.at.returns-in-None-None-clause-test c).After-same_bytes

pub returns-in-None-None-clause-points : goal.returns-in-None-None-clause-points
returns-in-None-None-clause-points c =
    overlap_answer c.same_bytes.result c.args.a.now c.args.b.now c.key-key.ensures.valid c.key-other.ensures.valid
    (answer (goal.at.returns-in-None-None-clause-points c).After-same_bytes)
