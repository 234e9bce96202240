use Rattle.std.proofs.Common.{Some}
use Rattle.script.proofs.Maps.{changed}
use Rattle.script.proofs.draft.Draft.open.Goals as goal

pub returns-clause-opened : goal.returns-clause-opened
returns-clause-opened c =
    changed c.args.self.now.opened c.insert.new.self c.packed.result c.args.name.now (Some c.args.opened) c.packed.ensures.number c.packed.ensures.spelled
    c.in_ok-insert.ensures.updates.0
