use Rattle.std.proofs.Common.{◌≡◌, Bool, true, sym, ap, ◌∙◌, subst}
use Rattle.latch_model.specs.declared.history.Cause.TheVariants.{From}
use Rattle.signal_board.specs.Says.{LaneSays, told_cause}
use Rattle.signal_board.specs.Steps.{MayHave}
use Rattle.signal_board.proofs.Lists.{contains_here}
use Rattle.signal_board.proofs.parallel.poisoned_by.Goals as goal

pub poison-requires-clause-cause : goal.poison-requires-clause-cause
poison-requires-clause-cause c =
    let found : c.poisoned.result ≡ true = cc in
    let old = c.args.seat.now in
    subst (λ (x : LaneSays). MayHave x.r (From c.args.id))
    (sym (c.poisoned.ensures.seat ∙ ap (λ (t : Bool). record old { r = told_cause t c.args.id old.r }) found))
    (c.requires.waits.0, (c.args.lane, c.requires.waits.1), contains_here old.r.poisoned c.args.id)
