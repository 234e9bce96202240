use Rattle.std.proofs.Common.{◌≡◌, ◌∙◌, [], ◌∷◌, Some, None, refl, sym, ap, subst}
use Rattle.std.specs.List.{All, Any}
use Rattle.latch_model.specs.Histories.{HeldLatch, Snapshot, met_in}
use Rattle.latch_model.specs.Latches.{LiesInLatch}
use Rattle.atomic_table.specs.Seated.{TableId}
use Rattle.latch_shots.specs.Shots.{Content, ShowsSnapshot, table_of}
use Rattle.waiter.specs.Met.{held_of}
use Rattle.waiter.specs.Says.{OptimistSays}
use Rattle.waiter.proofs.optimist.Optimist.meet.Goals as goal

pub invariant_of-self : goal.invariant_of-self
invariant_of-self c =
    let w = c.self.inside in
    let g = c.self.invariant in
    let asked = c.args.asked in
    let none : met_in w.seat.r.shot asked ≡ [] = ap (met_in w.seat.r.shot) (sym c.list-2.ensures.list) ∙ c.in-None.ensures.first w.seat.r.shot g.shows in
    record {
      who_is = g.who_is;
      mode_is = g.mode_is;
      request_is = g.request_is;
      shows = subst (λ (x : Content). ShowsSnapshot x w.seat.r.shot) (sym c.first_met.ensures.same) g.shows;
      given = (subst (λ (o : OptimistSays). All (λ l. Any (LiesInLatch l) o.r.request.latches) asked) (sym c.self.view_is) c.requires.lie, none);
    }

pub keep-requires-clause-met : goal.keep-requires-clause-met
keep-requires-clause-met c =
    let first = c.in-Some.ensures.first c.self.inside.seat.r.shot c.self.invariant.shows in
    (first.0, first.3)

pub returns-in-Some : goal.returns-in-Some
returns-in-Some c =
    let w = c.self.inside in
    let asked = c.args.asked in
    let first = c.in-Some.ensures.first w.seat.r.shot c.self.invariant.shows in
    let y : HeldLatch = held_of c.keep.new.met in
    let kept : y ≡ first.0 = c.keep.ensures.kept first.0 first.3 in
    let shot : c.args.self.now.r.shot ≡ w.seat.r.shot = ap (λ (o : OptimistSays). o.r.shot) (sym c.self.view_is) in
    let rows = ap table_of c.keep.ensures.same ∙ ap (λ (x : Content). x.table) c.first_met.ensures.same in
    let found : OptimistSays =
    record { core = record { signals = w.seat.table; rows = table_of w.shots }; r = w.seat.r; met = Some y; passed = None } in (
      c.requires.declared,
      refl,
      (
        y,
        first.1,
        ap (λ (s : Snapshot). met_in s asked) shot ∙ (ap (met_in w.seat.r.shot) (sym c.list-2.ensures.list) ∙ (first.2
            ∙ ap (λ (z : HeldLatch). z ∷ first.1) (sym kept))),
        first.3.whose ∙ ap (λ (z : HeldLatch). z.by) (sym kept),
        first.3.which ∙ ap (λ (z : HeldLatch). z.place) (sym kept),
        ap (λ (t : TableId). record found { core = record { signals = w.seat.table; rows = t } }) rows
            ∙ ap (λ (o : OptimistSays). record o { met = Some y; passed = None }) c.self.view_is,
      ),
    )
