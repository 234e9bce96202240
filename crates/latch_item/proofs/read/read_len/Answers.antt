use Rattle.std.proofs.Common.{◌≡◌, length, ap, ◌∙◌, arith}
use Rattle.latch_item.specs.Items.{part, item_word}
use Rattle.latch_item.proofs.Rows.{valid-of}
use Rattle.latch_item.proofs.Comparing.{part-length, part-fits}
use Rattle.latch_item.proofs.read.read_len.Goals as goal

pub returns-clause-len : goal.returns-clause-len
returns-clause-len c = λ x b. c.read_word.ensures.word x b ∙ ap (item_word x) c.length_place.ensures ∙ part-length c.args.end x

pub returns-clause-low : goal.returns-clause-low
returns-clause-low c =
    let (x, b) = c.requires.item in
    let e : c.read_word.result ≡ length (part c.args.end x.span) = returns-clause-len c x b in
    let f = (part-fits c.args.end x.span (valid-of c.args.seat.now.view c.args.a x b).span).fits in omega arith
