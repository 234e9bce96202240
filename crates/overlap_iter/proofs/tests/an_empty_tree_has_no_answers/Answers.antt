use Rattle.std.proofs.Common.{[], refl}
use Rattle.overlap_iter.proofs.tests.an_empty_tree_has_no_answers.Goals as goal

pub overlapping-found-requires-clause-shot : goal.overlapping-found-requires-clause-shot
overlapping-found-requires-clause-shot g c = ([], refl)
