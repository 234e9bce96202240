use Rattle.std.proofs.Common.{ℕ, ◌+◌, Option, refl, sym, subst}
use Rattle.std.proofs.lemmas.Option.{slice_get_read}
use Rattle.replay.specs.Running.{IsAt, Ran, SomeTurns}
use Rattle.replay.proofs.Commands.{at-own}
use Rattle.replay.proofs.Owning.{some-turns}
use Rattle.step_run.proofs.Stopping.{script_stops}
use Rattle.replay.proofs.session.run_own.Goals as goal

pub run_command-ran-requires-clause-turns : goal.run_command-ran-requires-clause-turns
run_command-ran-requires-clause-turns g c =
    subst SomeTurns (sym c.turns_of-turns.ensures) (some-turns c.args.commands.now c.requires.script c.args.live)

pub returns-in-Ok-clause-at : goal.returns-in-Ok-clause-at
returns-in-Ok-clause-at g c =
    subst
    (λ (l : Option ℕ). IsAt c.args.commands.now g.N.Making.made.core c.args.who (c.args.i + 1) c.run_command-ran.new.pass l c.in-Ok.next)
    (sym c.live_behind.ensures)
    (at-own c.args.commands.now c.requires.script g.N.Making.made.core c.args.who c.args.i c.args.pass.now c.run_command-ran.new.pass c.args.hand
    c.in-Ok.next c.in-Ok.ensures.keeps c.index-commands-i.result c.args.live
    (slice_get_read c.args.commands.now _ c.args.i c.index-commands-i.result refl c.requires.inside c.index-commands-i.is)
    (c.requires.own c.index-commands-i.result
    (slice_get_read c.args.commands.now _ c.args.i c.index-commands-i.result refl c.requires.inside c.index-commands-i.is))
    (subst
    (λ (t : Option ℕ). Ran g.N.Making.made.core (c.args.i + 2) t c.index-commands-i.result c.args.pass.now c.args.hand
    c.run_command-ran.new.pass c.in-Ok.next)
    c.turns_of-turns.ensures c.in-Ok.ensures.ran)
    c.in-Ok.ensures.tied c.requires.at)

pub returns-in-Err-clause-stops : goal.returns-in-Err-clause-stops
returns-in-Err-clause-stops g c =
    script_stops c.args.commands.now c.index-commands-i.result c.in-Err.fault (c.args.i, c.requires.inside, sym c.index-commands-i.is) c.in-Err.ensures.stops
