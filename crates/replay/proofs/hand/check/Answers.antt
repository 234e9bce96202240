use Rattle.std.proofs.Common.{List, sym, subst}
use Rattle.latch_model.specs.declared.latch.Latch.{Latch}
use Rattle.script.specs.declared.command.Command.TheVariants.{Check}
use Rattle.replay.specs.Blocks.{GrowsBy}
use Rattle.replay.proofs.hand.check.Goals as goal

pub returns-in-Ok-clause-stands : goal.returns-in-Ok-clause-stands
returns-in-Ok-clause-stands g c bs ds name busy grows s =
    c.check_these.ensures.stands c.args.pass.now.p bs ds name busy (subst (λ (ls : List Latch). GrowsBy (Check name ls) bs ds) (sym c.in-Ok.ensures) grows) s

pub returns-in-Ok-clause-given : goal.returns-in-Ok-clause-given
returns-in-Ok-clause-given g c = c.check_these.ensures.given c.args.pass.now.p c.requires.given
