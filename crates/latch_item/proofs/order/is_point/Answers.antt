use Rattle.std.proofs.Common.{ap, ◌∙◌, eqb}
use Rattle.latch_item.proofs.Comparing.{single-by}
use Rattle.latch_item.proofs.order.is_point.Goals as goal

pub returns-clause-point : goal.returns-clause-point
returns-clause-point c = λ x b. ap (λ n. eqb n 0) (c.read_word.ensures.word x b) ∙ single-by x.span
