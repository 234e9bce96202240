use Rattle.std.proofs.Common.{◌∙◌}
use Rattle.script.proofs.Generating.{generated_script}
use Rattle.script.proofs.Measured.{generated_fits}
use Rattle.script.proofs.make.make_script.Goals as goal

pub of-requires-clause-rules : goal.of-requires-clause-rules
of-requires-clause-rules c = rw (c.in_ok-close_last.ensures, c.in_ok-open_all.ensures, c.new-commands.ensures.items) (generated_script c.args.n c.requires)

pub of-requires-clause-fits : goal.of-requires-clause-fits
of-requires-clause-fits c = rw (c.in_ok-close_last.ensures, c.in_ok-open_all.ensures, c.new-commands.ensures.items) (generated_fits c.args.n c.requires)

pub returns : goal.returns
returns c = c.of.ensures ∙ rw (c.in_ok-close_last.ensures, c.in_ok-open_all.ensures, c.new-commands.ensures.items)
