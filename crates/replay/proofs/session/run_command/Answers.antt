use Rattle.std.proofs.Common.{refl, sym, subst}
use Rattle.std.proofs.lemmas.Result.{IfOk-weaker}
use Rattle.script.specs.declared.command.Command.{Command}
use Rattle.script.specs.declared.command.Command.TheVariants.{Wait}
use Rattle.replay.specs.Running.{NextHand, RunsTo}
use Rattle.std.specs.Prelude.{IfErr}
use Rattle.step_run.specs.Faults.{OpeningLacks, StopsBy}
use Rattle.replay.proofs.session.run_command.Goals as goal

pub returns-in-Begin-clause-tied : goal.returns-in-Begin-clause-tied
returns-in-Begin-clause-tied g c =
    IfOk-weaker c.open.result _ _ (λ next f. subst (λ (k : Command). NextHand k c.args.hand next) (sym c.in-Begin.is) f) c.open.ensures.some

pub returns-in-Wait-clause-ran : goal.returns-in-Wait-clause-ran
returns-in-Wait-clause-ran g c bs ds runs s =
    let r = subst (λ (k : Command). RunsTo c.args.line c.args.turns k c.args.hand bs ds) c.in-Wait.is runs in
    c.wait.ensures.stands bs ds (Wait c.in-Wait.name) r.0 r.1 refl refl r.2 s

pub returns-in_ok-check-in-Check-clause-ran : goal.returns-in_ok-check-in-Check-clause-ran
returns-in_ok-check-in-Check-clause-ran g c bs ds runs s =
    let r = subst (λ (k : Command). RunsTo c.args.line c.args.turns k c.args.hand bs ds) c.in-Check.is runs in
    c.in_ok-check-in-Check.ensures.stands bs ds c.in-Check.name r.0 r.1 s

pub returns-in-Poison-clause-given : goal.returns-in-Poison-clause-given
returns-in-Poison-clause-given g c = c.poison.ensures.given c.args.pass.now.p c.requires.given

pub returns-in-Poison-clause-ran : goal.returns-in-Poison-clause-ran
returns-in-Poison-clause-ran g c bs ds runs s =
    let r = subst (λ (k : Command). RunsTo c.args.line c.args.turns k c.args.hand bs ds) c.in-Poison.is runs in
    c.poison.ensures.stands c.args.pass.now.p bs ds c.in-Poison.name r.0 r.1 s

pub returns-in-Release-clause-ran : goal.returns-in-Release-clause-ran
returns-in-Release-clause-ran g c bs ds runs s =
    let r = subst (λ (k : Command). RunsTo c.args.line c.args.turns k c.args.hand bs ds) c.in-Release.is runs in
    c.release.ensures.stands bs ds c.in-Release.name r.0 r.1 s

pub returns-in-Begin-clause-stops : goal.returns-in-Begin-clause-stops
returns-in-Begin-clause-stops g c =
    subst (λ (k : Command). IfErr c.open.result (StopsBy (OpeningLacks k))) (sym c.in-Begin.is) c.open.ensures.stops
