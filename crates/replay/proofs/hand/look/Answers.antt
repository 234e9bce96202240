use Rattle.std.proofs.Common.{ℕ, Option, Some, None, refl, sym, ap, subst}
use Rattle.std.proofs.lemmas.Result.{IfOk-weaker}
use Rattle.replay.specs.Running.{SomeTurns}
use Rattle.replay.specs.Sessions.{PatienceOf}
use Rattle.replay.proofs.hand.look.Goals as goal

pub returns-in-None-clause-stands : goal.returns-in-None-clause-stands
returns-in-None-clause-stands g c =
    IfOk-weaker c.look_with.result _ _ (λ hand f bs line policy latches is s.
    f bs line policy c.args.turns latches (subst (λ (t : Option ℕ). PatienceOf t 0 0 None) (sym c.in-None.is) (refl, refl)) is s) c.look_with.ensures.stands

pub returns-in-Some-clause-stands : goal.returns-in-Some-clause-stands
returns-in-Some-clause-stands g c =
    IfOk-weaker c.look_with-in-Some.result _ _ (λ hand f bs line policy latches is s.
    f bs line policy c.args.turns latches
    (subst (λ (t : Option ℕ). PatienceOf t c.new.result.refused c.look_with-in-Some.new.patience.refused (Some c.new.result.most)) (sym c.in-Some.is)
    (ap Some c.new.ensures.limit, subst SomeTurns c.in-Some.is c.requires.turns)) is s)
    c.look_with-in-Some.ensures.stands
