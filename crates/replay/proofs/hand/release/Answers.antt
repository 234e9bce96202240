use Rattle.std.proofs.Common.{◌≡◌, ◌≢◌, List, Option, Some, None, refl, sym, ap, subst}
use Rattle.latch_model.specs.declared.latch.Latch.{Latch}
use Rattle.script.specs.Follows.{passed_grant}
use Rattle.script.specs.declared.command.Command.TheVariants.{Release}
use Rattle.latch_model.specs.declared.history.Grant.TheVariants.{Checked, Never}
use Rattle.latch_model.specs.declared.history.Fault.TheVariants.{None as no_fault}
use Rattle.latch_manager.specs.Making.{Finished}
use Rattle.waiter.specs.Says.{EndingSays, GrantedSays}
use Rattle.replay.specs.Sessions.{Hand, Standing}
use Rattle.replay.proofs.Releases.{releases-checking, releases-holding, releases-over}
use Rattle.replay.proofs.hand.release.Goals as goal

none_passed : (passed : Option (List Latch)) → (passed ≢ None → ⊥) → passed ≡ None
none_passed None not_some = refl
none_passed (Some ls) not_some = absurd (not_some (λ e. cc))

pub returns-then-passed-clause-stands : goal.returns-then-passed-clause-stands
returns-then-passed-clause-stands g c bs ds name busy grows s =
    releases-checking g.N.Making.made c.args.pass.now c.release.new.pass bs ds (Release name) grows refl refl
    (λ declared held before. refl) c.in-Checking.optimist
    (subst (λ (h : Hand). Standing g.N.Making.made.core c.args.pass.now.p bs h) c.in-Checking.is s) (Checked c.confirm.ensures.0)
    (ap passed_grant (sym c.confirm.ensures.1))
    (subst (λ (x : GrantedSays). Finished g.N.Making.made c.args.pass.now
    (record { core = x.core; r = x.r; grant = x.grant; fault = no_fault }) c.release.new.pass)
    c.confirm.ensures.2 c.release.ensures.finished)

pub returns-else-passed-clause-stands : goal.returns-else-passed-clause-stands
returns-else-passed-clause-stands g c bs ds name busy grows s =
    releases-checking g.N.Making.made c.args.pass.now c.give_up.new.pass bs ds (Release name) grows refl refl
    (λ declared held before. refl) c.in-Checking.optimist
    (subst (λ (h : Hand). Standing g.N.Making.made.core c.args.pass.now.p bs h) c.in-Checking.is s) Never
    (ap passed_grant (sym (none_passed c.in-Checking.optimist.passed (λ some. let t = c.passed.ensures.1 some in let f = c.if-passed.false in cc))))
    (subst (λ (x : EndingSays). Finished g.N.Making.made c.args.pass.now x c.give_up.new.pass) c.abandon.ensures c.give_up.ensures.finished)

pub returns-in-Holding-clause-stands : goal.returns-in-Holding-clause-stands
returns-in-Holding-clause-stands g c bs ds name busy grows s =
    releases-holding g.N.Making.made c.args.pass.now c.release-in-Holding.new.pass bs ds (Release name) grows refl c.in-Holding.granted
    (subst (λ (h : Hand). Standing g.N.Making.made.core c.args.pass.now.p bs h) c.in-Holding.is s) c.release-in-Holding.ensures.finished

pub returns-in-Idle-clause-stands : goal.returns-in-Idle-clause-stands
returns-in-Idle-clause-stands g c bs ds name busy grows s = absurd (busy c.in-Idle.is)

pub returns-in-Over-clause-stands : goal.returns-in-Over-clause-stands
returns-in-Over-clause-stands g c bs ds name busy grows s =
    releases-over g.N.Making.made.core c.args.pass.now.p bs ds (Release name) grows
    (subst (λ (h : Hand). Standing g.N.Making.made.core c.args.pass.now.p bs h) c.in-Over.is s)
