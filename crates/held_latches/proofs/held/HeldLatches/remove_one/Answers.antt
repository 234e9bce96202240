use Rattle.std.proofs.Common.{◌≡◌, ◌∙◌, sym, subst}
use Rattle.span_key.specs.Scopes.{scope_of}
use Rattle.span_key.specs.declared.scopes.Scope.{Scope}
use Rattle.span_key.specs.declared.scopes.Scope.TheVariants.{Global, Local}
use Rattle.latch_model.specs.Histories.{list_of}
use Rattle.held_latches.specs.Content.{IsIn}
use Rattle.held_latches.specs.Holding.{HasSpare, own_latch}
use Rattle.held_latches.specs.Taking.{without_place}
use Rattle.held_latches.proofs.held.HeldLatches.remove_one.Goals as goal

pub returns-in-Global-clause-held : goal.returns-in-Global-clause-held
returns-in-Global-clause-held c = λ s n k o m.
    let l = c.args.latch.now in let is : scope_of l.span ≡ Global = sym c.scope.ensures ∙ c.in-Global.is in
    subst (λ (scope : Scope). HasSpare c.remove_global.new.self (without_place c.args.id c.args.place scope l.access s) n k) (sym is)
    (c.remove_global.ensures.held s n k o
    (subst (λ (scope : Scope). IsIn (own_latch c.args.id c.args.lane c.args.place l) (list_of s scope l.access)) is m))

pub returns-in-Local-clause-held : goal.returns-in-Local-clause-held
returns-in-Local-clause-held c = λ s n k o m.
    let l = c.args.latch.now in let is : scope_of l.span ≡ Local = sym c.scope.ensures ∙ c.in-Local.is in
    subst (λ (scope : Scope). HasSpare c.remove_local.new.self (without_place c.args.id c.args.place scope l.access s) n k) (sym is)
    (c.remove_local.ensures.held s n k o
    (subst (λ (scope : Scope). IsIn (own_latch c.args.id c.args.lane c.args.place l) (list_of s scope l.access)) is m))
