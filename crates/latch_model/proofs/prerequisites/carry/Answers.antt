use Rattle.std.proofs.Common.{◌∙◌, ◌∷◌, [], ◌++◌, ap, sym, subst, map, not}
use Rattle.std.proofs.lemmas.Result.{on_ok_weaker}
use Rattle.std.specs.List.{Contains}
use Rattle.latch_model.specs.Carrying.{carried}
use Rattle.latch_model.specs.Histories.{begins, is_begin, still_open}
use Rattle.latch_model.proofs.Carrying.{begins-let_go, filter-seen}
use Rattle.latch_model.proofs.Growing.{begins-append}
use Rattle.latch_model.proofs.Passing.{has_ended-Contains, still_open-end, still_open-let_go}
use Rattle.latch_model.proofs.prerequisites.carry.Goals as goal

pub returns-in-Begun-clause-carried_on : goal.returns-in-Begun-clause-carried_on
returns-in-Begun-clause-carried_on c =
    let items = c.args.open.now.items in
    let x = c.in-Begun in
    on_ok_weaker c.keep.result (λ kept.
    ap begins kept
    ∙ (begins-append (map (λ e. e.now) items) (c.args.entry.now ∷ [])
    ∙ (ap (λ e. begins (map (λ y. y.now) items) ++ begins (e ∷ [])) x.is ∙ ap (carried (begins (map (λ e. e.now) items))) (sym x.is)))) c.keep.ensures

pub returns-in-Begun-clause-in_whole : goal.returns-in-Begun-clause-in_whole
returns-in-Begun-clause-in_whole c = on_ok_weaker c.keep.result (λ kept h within. ap (still_open h) kept) c.keep.ensures

pub returns-in-Ended-clause-carried_on : goal.returns-in-Ended-clause-carried_on
returns-in-Ended-clause-carried_on c =
    let items = c.args.open.now.items in
    let id = c.in-Ended.id in
    ap (λ xs. begins (map (λ e. e.now) xs)) c.let_go.ensures
    ∙ (ap begins (filter-seen (λ e. e.now) (λ e. not (is_begin id e)) items)
    ∙ (begins-let_go (map (λ e. e.now) items) id ∙ ap (carried (begins (map (λ e. e.now) items))) (sym c.in-Ended.is)))

pub returns-in-Ended-clause-in_whole : goal.returns-in-Ended-clause-in_whole
returns-in-Ended-clause-in_whole c h within =
    let items = c.args.open.now.items in
    let e = c.in-Ended in
    let ended = has_ended-Contains h e.id e.who e.grant e.poison e.fault (subst (λ x. Contains h x) e.is within) in
    ap (λ xs. still_open h (map (λ x. x.now) xs)) c.let_go.ensures
    ∙ (ap (still_open h) (filter-seen (λ x. x.now) (λ x. not (is_begin e.id x)) items)
    ∙ (still_open-let_go h (map (λ x. x.now) items) e.id ended
    ∙ (sym (still_open-end h (map (λ x. x.now) items) e.id e.who e.grant e.poison e.fault)
    ∙ ap (λ x. still_open h (map (λ y. y.now) items ++ x ∷ [])) (sym e.is))))
