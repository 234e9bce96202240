use Rattle.std.proofs.Common.{sym, subst, ◌∙◌}
use Rattle.span_key.specs.Spans.{Pair, KeyLess}
use Rattle.latch_item.proofs.Rows.{kept, valid-of}
use Rattle.latch_item.proofs.read.item_span.Goals as goal

pub refill-requires-clause-ordered : goal.refill-requires-clause-ordered
refill-requires-clause-ordered c =
    let (x, b) = c.requires.item in
    let k = (c.read_bytes-key_len.ensures.bytes x b).1 in
    let e = (c.read_bytes-end_len.ensures.bytes x (kept c.args.seat.now c.read_bytes-key_len.new.seat c.args.a x
    c.read_bytes-key_len.ensures.same b)).1 in
    λ ne. let h : KeyLess x.span.0 x.span.1 = (valid-of c.args.seat.now.view c.args.a x b).span.ordered (λ z. ne (e ∙ z)) in
    subst (λ (p : Pair). KeyLess p.0 p.1) (λ i. (sym k i, sym e i)) h

pub returns-clause-span : goal.returns-clause-span
returns-clause-span c = λ x b.
    let k = (c.read_bytes-key_len.ensures.bytes x b).1 in
    let e = (c.read_bytes-end_len.ensures.bytes x (kept c.args.seat.now c.read_bytes-key_len.new.seat c.args.a x
    c.read_bytes-key_len.ensures.same b)).1 in
    c.refill.ensures.pair ∙ (λ i. (k i, e i))
