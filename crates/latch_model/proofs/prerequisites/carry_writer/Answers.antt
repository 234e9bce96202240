use Rattle.std.proofs.Common.{◌∙◌, ap, sym}
use Rattle.std.proofs.lemmas.Result.{on_ok_weaker}
use Rattle.latch_model.specs.Carrying.{carried}
use Rattle.latch_model.proofs.Writers.{writers_carried}
use Rattle.latch_model.proofs.prerequisites.carry_writer.Goals as goal

pub returns-clause-carried_on : goal.returns-clause-carried_on
returns-clause-carried_on c =
    on_ok_weaker c.carry_marked.result (λ kept bs same.
    let e = c.args.next.now.entry.now in
    kept ∙ (ap (λ xs. carried xs e) same ∙ writers_carried bs e (sym c.begins_reader.ensures ∙ c.if-begins_reader.false)))
    c.carry_marked.ensures.carried_on
