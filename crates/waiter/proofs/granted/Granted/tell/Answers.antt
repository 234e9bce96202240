use Rattle.std.proofs.Common.{◌≡◌, ℕ, true, subst}
use Rattle.std.specs.List.{Contains}
use Rattle.latch_model.specs.Histories.{has_ended}
use Rattle.waiter.specs.Says.{GrantedSays}
use Rattle.waiter.proofs.Keeping.{granted_told}
use Rattle.waiter.proofs.granted.Granted.tell.Goals as goal

pub invariant_of-self : goal.invariant_of-self
invariant_of-self c =
    let w = c.self.inside in
    granted_told w.who w.mode w.request w.grant w.returned w.seat c.tell.new.seat c.args.desk.now.log c.tell.ensures.seat c.self.invariant

pub returns-clause-ended : goal.returns-clause-ended
returns-clause-ended c =
    subst (λ (x : GrantedSays). (p : ℕ) → Contains x.r.ended p → has_ended c.args.desk.now.log p ≡ true) c.self.view_is c.tell.ensures.ended
