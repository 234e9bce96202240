use Rattle.std.proofs.Common.{rules, not}
use Rattle.std.proofs.lemmas.Fn.{filter_same}
use Rattle.latch_model.specs.Histories.{is_begin}
use Rattle.latch_model.proofs.marks.let_go.Goals as goal

pub returns : goal.returns
returns c = filter_same _ (λ m. not (is_begin c.args.id m.entry.now)) _ (λ x b f k. search rules) _ _ c.retain.ensures.filtered
