use Rattle.std.proofs.Common.{ap, sym, ◌∙◌}
use Rattle.latch_model.specs.Histories.{list_of}
use Rattle.latch_model.specs.declared.latch.Access.TheVariants.{Write}
use Rattle.held_latches.specs.Lists.{taken_if}
use Rattle.held_latches.proofs.Capturing.{some-captured}
use Rattle.held_latches.proofs.held.HeldLatches.shows_writes.Goals as goal

pub returns-then-has_any : goal.returns-then-has_any
returns-then-has_any c = λ s n holds.
    let xs = list_of s c.args.scope Write in
    some-captured c.counts-there_are.result.write xs (c.counts-there_are.ensures.write s n holds)
    ∙ ap (λ b. taken_if b xs) (sym c.if-has_any.true ∙ c.has_any.ensures)
