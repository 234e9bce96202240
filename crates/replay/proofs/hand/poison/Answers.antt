use Rattle.std.proofs.Common.{refl, sym, subst}
use Rattle.script.specs.declared.command.Command.TheVariants.{Poison}
use Rattle.waiter.specs.Says.{GrantedSays, OptimistSays}
use Rattle.replay.specs.Sessions.{Checking, Hand, Holding, Standing}
use Rattle.replay.proofs.Turns.{checking-called, holding-called, over-stays}
use Rattle.replay.proofs.hand.poison.Goals as goal

pub returns-in-Checking-clause-stands : goal.returns-in-Checking-clause-stands
returns-in-Checking-clause-stands g c p bs ds name busy grows s =
    subst (λ (o : OptimistSays). Standing g.N.Making.made.core p ds (Checking o)) (sym c.poison.ensures)
    (checking-called g.N.Making.made.core p bs ds (Poison name) grows c.in-Checking.optimist refl refl (λ declared held before. refl)
    (subst (λ (h : Hand). Standing g.N.Making.made.core p bs h) c.in-Checking.is s))

pub returns-in-Holding-clause-stands : goal.returns-in-Holding-clause-stands
returns-in-Holding-clause-stands g c p bs ds name busy grows s =
    subst (λ (x : GrantedSays). Standing g.N.Making.made.core p ds (Holding x)) (sym c.poison-in-Holding.ensures)
    (holding-called g.N.Making.made.core p bs ds (Poison name) grows c.in-Holding.granted refl
    (subst (λ (h : Hand). Standing g.N.Making.made.core p bs h) c.in-Holding.is s))

pub returns-in-Idle-clause-stands : goal.returns-in-Idle-clause-stands
returns-in-Idle-clause-stands g c p bs ds name busy grows s = absurd (busy c.in-Idle.is)

pub returns-in-Over-clause-stands : goal.returns-in-Over-clause-stands
returns-in-Over-clause-stands g c p bs ds name busy grows s =
    over-stays g.N.Making.made.core p bs ds (Poison name) grows (subst (λ (h : Hand). Standing g.N.Making.made.core p bs h) c.in-Over.is s)
