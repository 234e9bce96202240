use Rattle.std.proofs.Common.{[], ◌∷◌, ◌++◌, None, Some, refl, sym, subst}
use Rattle.script.specs.Sessions.{KnowsOwners, kept}
use Rattle.script.specs.declared.command.Command.{Command}
use Rattle.script.proofs.Maps.{changed}
use Rattle.script.proofs.Owners.{knows-opened, knows-released, knows-still}
use Rattle.script.proofs.sessions.session_of.Goals as goal

pub returns-in_ok-insert-in-Begin-clause-follows : goal.returns-in_ok-insert-in-Begin-clause-follows
returns-in_ok-insert-in-Begin-clause-follows c cs k =
    let b = c.in-Begin in
    subst (λ (d : Command). KnowsOwners (kept c.insert.new.self) (cs ++ d ∷ [])) (sym b.is)
    (knows-opened (kept c.args.live.now) (kept c.insert.new.self) cs b.session b.name b.mode b.policy b.turns b.latches
    (changed c.args.live.now c.insert.new.self c.packed.result b.name (Some b.session) c.packed.ensures.number c.packed.ensures.spelled
    c.in_ok-insert-in-Begin.ensures.updates.0) k)

pub returns-in-Wait-clause-follows : goal.returns-in-Wait-clause-follows
returns-in-Wait-clause-follows c cs k =
    subst (λ (d : Command). KnowsOwners (kept c.args.live.now) (cs ++ d ∷ [])) (sym c.in-Wait.is)
    (knows-still (kept c.args.live.now) cs _ (λ q. refl) k)

pub returns-in-Check-clause-follows : goal.returns-in-Check-clause-follows
returns-in-Check-clause-follows c cs k =
    subst (λ (d : Command). KnowsOwners (kept c.args.live.now) (cs ++ d ∷ [])) (sym c.in-Check.is)
    (knows-still (kept c.args.live.now) cs _ (λ q. refl) k)

pub returns-in-Poison-clause-follows : goal.returns-in-Poison-clause-follows
returns-in-Poison-clause-follows c cs k =
    subst (λ (d : Command). KnowsOwners (kept c.args.live.now) (cs ++ d ∷ [])) (sym c.in-Poison.is)
    (knows-still (kept c.args.live.now) cs _ (λ q. refl) k)

pub returns-in-Release-clause-follows : goal.returns-in-Release-clause-follows
returns-in-Release-clause-follows c cs k =
    subst (λ (d : Command). KnowsOwners (kept c.remove.new.self) (cs ++ d ∷ [])) (sym c.in-Release.is)
    (knows-released (kept c.args.live.now) (kept c.remove.new.self) cs c.in-Release.name
    (changed c.args.live.now c.remove.new.self c.packed-in-Release.result c.in-Release.name None c.packed-in-Release.ensures.number
    c.packed-in-Release.ensures.spelled c.remove.ensures.updates.0) k)

pub returns-in-Metrics-clause-follows : goal.returns-in-Metrics-clause-follows
returns-in-Metrics-clause-follows c cs k =
    subst (λ (d : Command). KnowsOwners (kept c.args.live.now) (cs ++ d ∷ [])) (sym c.in-Metrics.is)
    (knows-still (kept c.args.live.now) cs _ (λ q. refl) k)
