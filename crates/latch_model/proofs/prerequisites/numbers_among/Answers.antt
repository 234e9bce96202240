use Rattle.std.proofs.Common.{◌∙◌, ap, sym}
use Rattle.std.proofs.lemmas.Result.{IfOk-weaker}
use Rattle.latch_model.specs.Carrying.{numbers_against}
use Rattle.latch_model.specs.Histories.{begins}
use Rattle.latch_model.specs.Marks.{seen}
use Rattle.latch_model.proofs.Marking.{numbers_by_marks}
use Rattle.latch_model.proofs.Writers.{among_writers}
use Rattle.latch_model.proofs.prerequisites.numbers_among.Goals as goal

pub returns-then-some_write : goal.returns-then-some_write
returns-then-some_write c =
    IfOk-weaker c.numbers_by.result _ _
    (λ ids same. same ∙ numbers_by_marks c.args.latches.now c.args.mark c.requires.marked.2 c.args.open.now c.requires.marked.0) c.numbers_by.ensures

pub returns-else-some_write : goal.returns-else-some_write
returns-else-some_write c =
    let ls = c.args.latches.now in
    IfOk-weaker c.numbers_by-else-some_write.result _ _
    (λ ids same.
    same
    ∙ (numbers_by_marks ls c.args.mark c.requires.marked.2 c.args.writers.now c.requires.marked.1
    ∙ (ap (numbers_against ls) c.requires.writers
    ∙ among_writers ls (sym c.some_write.ensures ∙ c.if-some_write.false) (begins (seen c.args.open.now)))))
    c.numbers_by-else-some_write.ensures
