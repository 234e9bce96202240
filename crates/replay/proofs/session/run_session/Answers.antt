use Rattle.std.proofs.Common.{ℕ, sym, subst}
use Rattle.std.proofs.lemmas.Result.{on_ok_weaker}
use Rattle.script.specs.Follows.{Follows, blocks_of}
use Rattle.signal_board.specs.Says.{PassSays}
use Rattle.replay.specs.Sessions.{Idle, Standing}
use Rattle.replay.proofs.Following.{follows-shown}
use Rattle.replay.proofs.session.run_session.Goals as goal

pub returns-clause-follows : goal.returns-clause-follows
returns-clause-follows g c =
    on_ok_weaker c.run_commands-ran.result (λ s.
    subst (λ (p : PassSays). Follows p.p.shown p.p.who c.args.commands.now) (sym c.look_back.ensures.pass.1)
    (follows-shown g.N.Making.made.core c.run_commands-ran.new.pass.p c.args.commands.now c.look_back.ensures.own
    (subst (λ (w : ℕ). Standing g.N.Making.made.core c.run_commands-ran.new.pass.p (blocks_of c.args.commands.now w) Idle)
    (sym c.run_commands-ran.ensures.keeps.1) s))) c.run_commands-ran.ensures.stands
