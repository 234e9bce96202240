use Rattle.std.proofs.Common.{refl, subst}
use Rattle.script.specs.declared.command.Command.TheVariants.{Check}
use Rattle.replay.specs.Sessions.{Hand, Standing}
use Rattle.replay.proofs.Checks.{checks-stand}
use Rattle.replay.proofs.Turns.{holding-stays, over-stays}
use Rattle.replay.proofs.hand.check_these.Goals as goal

pub returns-in-Checking-clause-stands : goal.returns-in-Checking-clause-stands
returns-in-Checking-clause-stands g c p bs ds name busy grows s =
    checks-stand g.N.Making.made.core p bs ds name c.args.asked grows c.in-Checking.optimist c.check-answer.new.self c.check-answer.result
    c.check-answer.ensures (subst (λ (h : Hand). Standing g.N.Making.made.core p bs h) c.in-Checking.is s)

pub returns-in-Holding-clause-stands : goal.returns-in-Holding-clause-stands
returns-in-Holding-clause-stands g c p bs ds name busy grows s =
    holding-stays g.N.Making.made.core p bs ds (Check name c.args.asked) grows c.in-Holding.granted refl
    (subst (λ (h : Hand). Standing g.N.Making.made.core p bs h) c.in-Holding.is s)

pub returns-in-Over-clause-stands : goal.returns-in-Over-clause-stands
returns-in-Over-clause-stands g c p bs ds name busy grows s =
    over-stays g.N.Making.made.core p bs ds (Check name c.args.asked) grows (subst (λ (h : Hand). Standing g.N.Making.made.core p bs h) c.in-Over.is s)
