use Rattle.std.proofs.Common.{◌∙◌, ◌∷◌, [], ◌++◌, ap, sym, not}
use Rattle.std.proofs.lemmas.List.{map-append}
use Rattle.std.proofs.lemmas.List.Elements.{All-filter, All-same}
use Rattle.std.proofs.lemmas.Result.{on_ok_weaker}
use Rattle.latch_model.specs.Carrying.{carried}
use Rattle.latch_model.specs.Histories.{begins, is_begin}
use Rattle.latch_model.specs.Marks.{IsMarked, seen}
use Rattle.latch_model.specs.declared.marks.Marked.{Marked}
use Rattle.latch_model.proofs.Carrying.{begins-let_go, filter-seen}
use Rattle.latch_model.proofs.Growing.{begins-append}
use Rattle.latch_model.proofs.marks.carry_marked.Goals as goal

pub returns-in-Begun-clause-carried_on : goal.returns-in-Begun-clause-carried_on
returns-in-Begun-clause-carried_on c =
    let items = c.args.open.now.items in
    let next = c.args.next.now in
    let x = c.in-Begun in
    on_ok_weaker c.keep.result (λ kept.
    ap (λ ms. begins (seen ms)) kept
    ∙ (ap begins (map-append (λ (m : Marked). m.entry.now) items (next ∷ []))
    ∙ (begins-append (seen items) (next.entry.now ∷ [])
    ∙ (ap (λ e. begins (seen items) ++ begins (e ∷ [])) x.is ∙ ap (carried (begins (seen items))) (sym x.is))))) c.keep.ensures

pub returns-in-Ended-clause-carried_on : goal.returns-in-Ended-clause-carried_on
returns-in-Ended-clause-carried_on c =
    let items = c.args.open.now.items in
    let id = c.in-Ended.id in
    ap (λ ms. begins (seen ms)) c.let_go.ensures
    ∙ (ap begins (filter-seen (λ (m : Marked). m.entry.now) (λ e. not (is_begin id e)) items)
    ∙ (begins-let_go (seen items) id ∙ ap (carried (begins (seen items))) (sym c.in-Ended.is)))

pub returns-in-Ended-clause-marked : goal.returns-in-Ended-clause-marked
returns-in-Ended-clause-marked c own all =
    All-same IsMarked _ _ c.let_go.ensures (All-filter (λ m. not (is_begin c.in-Ended.id m.entry.now)) IsMarked c.args.open.now.items all)
