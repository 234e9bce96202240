use Rattle.std.proofs.Common.{rules, ◌≡◌, All, List, length, sym, ◌∙◌, ap, subst}
use Rattle.signal_board.specs.Says.{PassSays}
use Rattle.replay.specs.Running.{Rested, whos}
use Rattle.replay.proofs.Closing.{lent-passes}
use Rattle.replay_rows.proofs.watched.within.Goals as goal

pub returns-clause-rested : goal.returns-clause-rested
returns-clause-rested g c =
    let n : c.args.passes.now.len ≡ length c.args.passes.now.items = search rules in
    let same : whos c.run_watched-ran.new.passes ≡ whos c.args.passes.now.items = c.run_watched-ran.ensures.whos ∙ ap whos c.as_mut_slice.ensures.value in
    subst (λ (ps : List PassSays). All (Rested g.N.Making.made.core.signals) ps)
    (sym (lent-passes c.args.passes.now.len c.run_watched-ran.new.passes c.args.passes.now.items n same)) c.run_watched-ran.ensures.rested
