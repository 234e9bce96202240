use Rattle.latch_manager.proofs.Declines.{declines}
use Rattle.latch_manager.proofs.manager.begin.Goals as goal

pub returns-clause-declined : goal.returns-clause-declined
returns-clause-declined g c =
    declines g.N.Making.made c.args.locked.now.desk c.begin-begun.new.self c.args.pass.now c.begin-begun.new.pass c.args.mode c.args.request
    c.args.locked.now.is.0 c.args.locked.now.is.1 c.begin-begun.ensures.later c.begin-begun.ensures.goes_on c.begin-begun.result
    c.begin-begun.ensures.refused c.begin-begun.ensures.same
