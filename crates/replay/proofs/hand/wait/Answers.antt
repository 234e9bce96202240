use Rattle.std.proofs.Common.{ℕ, Option, Some, None, refl, sym, ap, subst}
use Rattle.replay.specs.Running.{SomeTurns}
use Rattle.replay.specs.Sessions.{Hand, PatienceOf, Standing}
use Rattle.replay.proofs.Turns.{holding-stays, over-stays}
use Rattle.replay.proofs.hand.wait.Goals as goal

pub returns-in-None-clause-stands : goal.returns-in-None-clause-stands
returns-in-None-clause-stands g c bs ds k busy grows waits quiet has s =
    c.wait_with.ensures.stands bs ds k c.args.turns (subst (λ (t : Option ℕ). PatienceOf t 0 0 None) (sym c.in-None.is) (refl, refl)) grows waits quiet has
    (subst (λ (h : Hand). Standing g.N.Making.made.core c.args.pass.now.p bs h) c.in-Checking.is s)

pub returns-in-Some-clause-stands : goal.returns-in-Some-clause-stands
returns-in-Some-clause-stands g c bs ds k busy grows waits quiet has s =
    c.wait_with-in-Some.ensures.stands bs ds k c.args.turns
    (subst (λ (t : Option ℕ). PatienceOf t c.new.result.refused c.wait_with-in-Some.new.patience.refused (Some c.new.result.most)) (sym c.in-Some.is)
    (ap Some c.new.ensures.limit, subst SomeTurns c.in-Some.is c.requires.turns))
    grows waits quiet has (subst (λ (h : Hand). Standing g.N.Making.made.core c.args.pass.now.p bs h) c.in-Checking.is s)

pub returns-in-Holding-clause-stands : goal.returns-in-Holding-clause-stands
returns-in-Holding-clause-stands g c bs ds k busy grows waits quiet has s =
    holding-stays g.N.Making.made.core c.args.pass.now.p bs ds k grows c.in-Holding.granted quiet
    (subst (λ (h : Hand). Standing g.N.Making.made.core c.args.pass.now.p bs h) c.in-Holding.is s)

pub returns-in-Over-clause-stands : goal.returns-in-Over-clause-stands
returns-in-Over-clause-stands g c bs ds k busy grows waits quiet has s =
    over-stays g.N.Making.made.core c.args.pass.now.p bs ds k grows
    (subst (λ (h : Hand). Standing g.N.Making.made.core c.args.pass.now.p bs h) c.in-Over.is s)
