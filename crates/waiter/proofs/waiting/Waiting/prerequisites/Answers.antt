use Rattle.std.proofs.Common.{◌≡◌, ◌∙◌, List, [], map, sym, ap, rules}
use Rattle.std.proofs.lemmas.List.{nil_from_length}
use Rattle.latch_model.specs.Declaration.{Declaration}
use Rattle.latch_model.specs.Histories.{ascending, met_in}
use Rattle.latch_model.specs.declared.latch.Latch.{Latch}
use Rattle.shot_walks.specs.Waits.{waits_for}
use Rattle.waiter.specs.Met.{held_of, last_of}
use Rattle.waiter.proofs.Keeping.{waiting_ends, waiting_in}
use Rattle.waiter.proofs.waiting.Waiting.prerequisites.Goals as goal

pub invariant_of-self-then-is_empty : goal.invariant_of-self-then-is_empty
invariant_of-self-then-is_empty c =
    let w = c.self.inside in
    let g = c.self.invariant in
    let last = last_of w.stage (held_of w.met) in
    let latches : c.list.result.now ≡ w.seat.r.request.latches =
    c.list.ensures.list ∙ (c.latches.ensures ∙ ap (λ (d : Declaration). d.latches) g.request_is) in
    let empty : c.in_ok-ids.ids.items ≡ [] = nil_from_length c.in_ok-ids.ids.items (search rules) in
    let none : ascending (map (λ x. x.by) (waits_for w.seat.r)) ≡ [] =
    ap (λ (ls : List Latch). ascending (map (λ x. x.by) (met_in w.seat.r.shot ls))) (sym latches)
    ∙ (sym (c.in_ok-ids.ensures.numbers w.seat.r.shot g.walk.stands.shows) ∙ empty) in
    waiting_ends w.who w.mode w.request c.numbers_met.new.shots w.turns last w.order.items w.place c.end-self-inside.result w.seat none c.end-self-inside.ensures
    (waiting_in w.who w.mode w.request w.shots c.numbers_met.new.shots w.turns last w.order.items w.place w.seat c.numbers_met.ensures.same g)
