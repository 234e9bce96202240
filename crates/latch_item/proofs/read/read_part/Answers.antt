use Rattle.std.proofs.Common.{◌+◌, sym, ap, subst, ◌∙◌, arith}
use Rattle.latch_item.specs.Items.{IsItemPlace, item_word}
use Rattle.latch_item.proofs.Comparing.{part-place, part-word}
use Rattle.latch_item.proofs.read.read_part.Goals as goal

pub overflow_add-first_place : goal.overflow_add-first_place
overflow_add-first_place c = let e = (part-place c.args.end c.args.i c.requires.low).1 in let f = c.first_place.ensures in omega arith

pub read_word-requires-clause-place : goal.read_word-requires-clause-place
read_word-requires-clause-place c = subst (λ k. IsItemPlace (k + c.args.i)) (sym c.first_place.ensures) (part-place c.args.end c.args.i c.requires.low)

pub returns-clause-word : goal.returns-clause-word
returns-clause-word c = λ x b. c.read_word.ensures.word x b ∙ ap (λ k. item_word x (k + c.args.i)) c.first_place.ensures
    ∙ part-word c.args.end x c.args.i c.requires.low
