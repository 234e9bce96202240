use Rattle.library_example.proofs.kept_the_rules.Goals as goal

pub returns-clause-exclusive : goal.returns-clause-exclusive
returns-clause-exclusive c = λ legal. c.exclusion.ensures c.args.entries.now c.args.sizes.now (c.legal_so_far.ensures.0 legal)
