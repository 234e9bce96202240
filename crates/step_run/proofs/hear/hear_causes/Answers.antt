use Rattle.std.proofs.Common.{map, refl}
use Rattle.step_run.specs.Lives.{seen_live}
use Rattle.step_run.proofs.Hearing.{knows_heard, knows_none}
use Rattle.step_run.proofs.Lives.{all_themselves}
use Rattle.step_run.proofs.hear.hear_causes.Goals as goal

pub returns-then-some_cause-clause-knows : goal.returns-then-some_cause-clause-knows
returns-then-some_cause-clause-knows c =
    knows_heard 0 c.args.waiting.now.r c.hear_some.new.waiting.r (map seen_live c.args.lives.now.items) c.hear_some.ensures.heard

pub returns-else-some_cause-clause-lives : goal.returns-else-some_cause-clause-lives
returns-else-some_cause-clause-lives c = let ls = map seen_live c.args.lives.now.items in all_themselves ls ls refl

pub returns-else-some_cause-clause-knows : goal.returns-else-some_cause-clause-knows
returns-else-some_cause-clause-knows c = knows_none c.args.waiting.now.r (map seen_live c.args.lives.now.items) (c.requires.causes c.if-some_cause.false)
