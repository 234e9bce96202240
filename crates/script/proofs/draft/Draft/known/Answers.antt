use Rattle.std.proofs.Common.{◌∙◌}
use Rattle.script.proofs.Maps.{found_at}
use Rattle.script.proofs.draft.Draft.known.Goals as goal

pub returns : goal.returns
returns c = c.copied.ensures ∙ c.get.ensures.value
    ∙ found_at c.args.self.now.opened c.packed.result c.args.name.now c.packed.ensures.number c.packed.ensures.spelled
