use Rattle.script.specs.Names.{with_wait}
use Rattle.script.proofs.Maps.{changed_by}
use Rattle.script.proofs.draft.Draft.wait.Goals as goal

pub returns-clause-opened : goal.returns-clause-opened
returns-clause-opened c =
    changed_by c.args.self.now.opened c.mark_waited.new.opened c.packed.result c.args.name.now with_wait c.packed.ensures.number c.packed.ensures.spelled
    c.mark_waited.ensures
