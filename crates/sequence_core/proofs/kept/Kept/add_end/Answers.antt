use Rattle.sequence_core.proofs.kept.Kept.add_end.Goals as goal

pub returns-clause-holds : goal.returns-clause-holds
returns-clause-holds c log sizes b may is = c.end.ensures.holds log sizes c.args.entry b may is
