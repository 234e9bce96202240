use Rattle.std.proofs.Common.{sym, ap, ◌∙◌, subst, arith}
use Rattle.row_pool.specs.SeatState.{SeatState}
use Rattle.latch_item.specs.Items.{item_of}
use Rattle.latch_shots.specs.Held.{held_as}
use Rattle.latch_shots.specs.Walks.{Among, meeting}
use Rattle.latch_shots.proofs.Walking.{among-end, came-to, met-next, met-past}
use Rattle.latch_shots.proofs.walk.Walk.next_among.Goals as goal

pub next-requires-clause-walk : goal.next-requires-clause-walk
next-requires-clause-walk c = let (xs, o) = c.requires.walk in let s = c.loop-row.invariant.walk xs o in (s.1.root, s.0, s.1.work, s.1.reached, s.1.walks)

pub met_at-requires-clause-item : goal.met_at-requires-clause-item
met_at-requires-clause-item c =
    let (xs, o) = c.requires.walk in
    let (todo, a, so_far) = c.loop-row.invariant.walk xs o in
    let n = came-to c.loop-row.seat.view c.next.new.seat.view c.loop-row.self.cursor c.next.new.self c.args.asked.now.span todo c.in-Some.row
    c.loop-row.seat.follows c.next.new.seat.follows a c.next.ensures.same.1 (c.in-Some.ensures.next a.root todo a.work a.reached a.walks) in
    (item_of n.item, n.here)

pub returns-in-Some-met_at-clause-next : goal.returns-in-Some-met_at-clause-next
returns-in-Some-met_at-clause-next c = λ xs o.
    let (todo, a, so_far) = c.loop-row.invariant.walk xs o in
    let l = c.args.asked.now in
    let access = c.loop-row.self.access in
    let n = came-to c.loop-row.seat.view c.next.new.seat.view c.loop-row.self.cursor c.next.new.self l.span todo c.in-Some.row
    c.loop-row.seat.follows c.next.new.seat.follows a c.next.ensures.same.1 (c.in-Some.ensures.next a.root todo a.work a.reached a.walks) in
    let met = c.in-Some-met_at.ensures.met (item_of n.item) n.here in (
      held_as access (item_of n.item),
      n.rest,
      met-next c.args.own l c.args.self.now.access access xs todo n.rest n.item c.loop-row.invariant.access so_far n.next met.0,
      met.1,
      subst (λ (s : SeatState). Among s.view c.next.new.self l.span n.rest) (sym c.met_at.ensures.same) n.among,
    )

pub loop-row-preserved : goal.loop-row-preserved
loop-row-preserved c = record {
  table = ap (λ (s : SeatState). s.table) c.met_at.ensures.same ∙ c.next.ensures.same.0 ∙ c.loop-row.invariant.table;
  view = ap (λ (s : SeatState). s.view) c.met_at.ensures.same ∙ c.next.ensures.same.1 ∙ c.loop-row.invariant.view;
  access = c.loop-row.invariant.access;
  less = (let a = c.in-Some.ensures.ends in let b = c.loop-row.invariant.less in omega arith);
  walk = λ xs o.
      let (todo, a, so_far) = c.loop-row.invariant.walk xs o in
      let l = c.args.asked.now in
      let n = came-to c.loop-row.seat.view c.next.new.seat.view c.loop-row.self.cursor c.next.new.self l.span todo c.in-Some.row
      c.loop-row.seat.follows c.next.new.seat.follows a c.next.ensures.same.1 (c.in-Some.ensures.next a.root todo a.work a.reached a.walks) in (
        n.rest,
        subst (λ (s : SeatState). Among s.view c.next.new.self l.span n.rest) (sym c.met_at.ensures.same) n.among,
        met-past c.args.own l c.args.self.now.access c.loop-row.self.access xs todo n.rest n.item c.loop-row.invariant.access so_far n.next
            (c.in_default-met_at.ensures.met (item_of n.item) n.here),
      );
}

pub returns-clause-next : goal.returns-clause-next
returns-clause-next c = λ xs o.
    let (todo, a, so_far) = c.loop-row.invariant.walk xs o in
    let l = c.args.asked.now in
    let end = c.in_default.ensures.next a.root todo a.work a.reached a.walks in (
      so_far ∙ ap (meeting c.args.own l c.args.self.now.access) end.0,
      among-end c.loop-row.seat.view c.next.new.seat.view c.loop-row.self.cursor c.next.new.self l.span todo c.loop-row.seat.follows
          c.next.new.seat.follows a c.next.ensures.same.1 end.1,
    )
