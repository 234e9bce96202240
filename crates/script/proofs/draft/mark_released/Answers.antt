use Rattle.std.proofs.Common.{rules, sym}
use Rattle.script.specs.Names.{with_release}
use Rattle.script.proofs.Maps.{marked}
use Rattle.script.proofs.draft.mark_released.Goals as goal

pub returns-in-Some-clause-opened : goal.returns-in-Some-clause-opened
returns-in-Some-clause-opened c =
    let w = with_release c.in-Some.known.now in
    marked c.args.opened.now (c.get_mut.follows.lender w) c.args.name with_release c.in-Some.known.now (sym c.in-Some.ensures.value)
    ((c.get_mut.follows.holds w).3 (search rules)).0
