use Rattle.std.proofs.Common.{rules, ◌≡◌, All, List, length, sym, ◌∙◌, ap, subst}
use Rattle.std.proofs.lemmas.Result.{on_ok_weaker}
use Rattle.signal_board.specs.Says.{PassSays}
use Rattle.replay.specs.Running.{FollowsIn, Rested, whos}
use Rattle.replay.proofs.Closing.{lent-passes}
use Rattle.replay.proofs.run.within.Goals as goal

pub returns-clause-rested : goal.returns-clause-rested
returns-clause-rested g c =
    let n : c.args.passes.now.len ≡ length c.args.passes.now.items = search rules in
    let same : whos c.sessions-ran.new.passes ≡ whos c.args.passes.now.items = c.sessions-ran.ensures.whos ∙ ap whos c.as_mut_slice.ensures.value in
    subst (λ (ps : List PassSays). All (Rested g.N.Making.made.core.signals) ps)
    (sym (lent-passes c.args.passes.now.len c.sessions-ran.new.passes c.args.passes.now.items n same)) c.sessions-ran.ensures.rested

pub returns-clause-follows : goal.returns-clause-follows
returns-clause-follows g c =
    let n : c.args.passes.now.len ≡ length c.args.passes.now.items = search rules in
    let same : whos c.sessions-ran.new.passes ≡ whos c.args.passes.now.items = c.sessions-ran.ensures.whos ∙ ap whos c.as_mut_slice.ensures.value in
    on_ok_weaker c.sessions-ran.result
    (λ f. subst (λ (ps : List PassSays). All (FollowsIn c.args.script.now) ps)
    (sym (lent-passes c.args.passes.now.len c.sessions-ran.new.passes c.args.passes.now.items n same)) f) c.sessions-ran.ensures.follows
