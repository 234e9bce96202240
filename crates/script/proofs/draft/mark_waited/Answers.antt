use Rattle.std.proofs.Common.{rules, sym}
use Rattle.script.specs.Names.{with_wait}
use Rattle.script.proofs.Maps.{marked}
use Rattle.script.proofs.draft.mark_waited.Goals as goal

pub returns-in-Some : goal.returns-in-Some
returns-in-Some c =
    let w = with_wait c.in-Some.known.now in
    marked c.args.opened.now (c.get_mut.follows.lender w) c.args.name with_wait c.in-Some.known.now (sym c.in-Some.ensures.value)
    ((c.get_mut.follows.holds w).3 (search rules)).0
