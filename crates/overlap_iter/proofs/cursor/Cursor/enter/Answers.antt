use Rattle.std.proofs.Common.{◌≡◌, ℕ, ◌+◌, ◌-◌, ◌≤◌, List, ap, sym, ◌∙◌, arith}
use Rattle.row_pool.specs.Trees.{Tree}
use Rattle.row_pool.specs.SeatState.{SeatState}
use Rattle.latch_item.specs.Items.{item_of}
use Rattle.overlap_iter.specs.Overlaps.{reaches}
use Rattle.overlap_iter.specs.Walks.{HasRoot, Walks}
use Rattle.overlap_iter.proofs.Frames.{reached, root-stays}
use Rattle.overlap_iter.proofs.Entering.{enters, AtTop, at-top, skipped, entered}
use Rattle.overlap_iter.proofs.cursor.Cursor.enter.Goals as goal
use Rattle.overlap_iter.proofs.cursor.Cursor.enter.Goals.{After-reaches}

pub follow-top-requires-clause-link : goal.follow-top-requires-clause-link
follow-top-requires-clause-link c =
    let (root, todo, work, up, w) = c.requires.walk in
    let e = enters c.args.span.now root c.args.self.now c.args.row w.items work w.framed c.requires.node in (
      e.node,
      e.any.top,
      0,
      reached c.args.seat.now.view root e.node c.args.row up e.inside e.here,
      e.here,
      e.any.kind,
      omega arith,
      omega arith,
      e.top_at,
      let a = e.top_latch.here in omega arith,
    )

pub reaches-requires-clause-item : goal.reaches-requires-clause-item
reaches-requires-clause-item c =
    let (root, todo, work, up, w) = c.requires.walk in
    let q = at-top c.args.seat.now.view c.follow-top.new.seat.view c.args.span.now root c.args.self.now c.args.row w.items work c.follow-top.result up
    c.follow-top.ensures.same.1 (enters c.args.span.now root c.args.self.now c.args.row w.items work w.framed c.requires.node) c.follow-top.ensures.link in
    (item_of q.enters.any.top, q.has)

-- the same with the test
record Tested (c : After-reaches) (root : Tree) (items : List Tree) (work : ℕ) : Type 0 where
  at : AtTop c.follow-top.new.seat.view c.args.span.now root c.args.self.now c.args.row items work c.follow-top.result
  test : c.reaches.result ≡ reaches c.args.span.now at.enters.any.top
  up : HasRoot c.reaches.new.seat.view root
  follows : c.reaches.new.seat.follows ≤ c.args.seat.now.follows + 1

tested : (c : After-reaches) (root : Tree) (todo : List Tree) (work : ℕ) → HasRoot c.args.seat.now.view root
    → (w : Walks c.args.span.now root c.args.self.now todo work) → Tested c root w.items work
tested c root todo work up w =
    let v = c.args.seat.now.view in let e = enters c.args.span.now root c.args.self.now c.args.row w.items work w.framed c.requires.node in
    let q = at-top v c.follow-top.new.seat.view c.args.span.now root c.args.self.now c.args.row w.items work c.follow-top.result up
    c.follow-top.ensures.same.1 e c.follow-top.ensures.link in
    record {
      at = q;
      test = c.reaches.ensures.test (item_of q.enters.any.top) q.has;
      up = root-stays v c.reaches.new.seat.view root (ap (λ (s : SeatState). s.view) c.reaches.ensures.same ∙ c.follow-top.ensures.same.1) up;
      follows = (let a = ap (λ (s : SeatState). s.follows) c.reaches.ensures.same in let b = c.follow-top.ensures.count in omega arith);
    }

pub open-requires-clause-opens : goal.open-requires-clause-opens
open-requires-clause-opens c =
    let (root, todo, work, up, w) = c.requires.walk in
    let t = tested (goal.at.open-requires-clause-opens c).After-reaches root todo work up w in (
      c.args.span.now,
      root,
      w.items,
      work - 1,
      t.up,
      entered c.args.span.now root c.args.self.now c.args.row w.items work t.at.enters
          (sym t.test ∙ c.if-reaches.true),
    )

pub returns-then-reaches-clause-walk : goal.returns-then-reaches-clause-walk
returns-then-reaches-clause-walk c = λ root todo work up w.
    let t = tested (goal.at.returns-then-reaches-clause-walk c).After-reaches root todo work up w in
    let e = t.at.enters in
    let (left, f, paid) = c.open.ensures.framed c.args.span.now root w.items (work - 1) t.up
    (entered c.args.span.now root c.args.self.now c.args.row w.items work e (sym t.test ∙ c.if-reaches.true)) in
    record {
      work = left;
      walks = record { items = w.items; framed = f; sorted = w.sorted; todo_is = w.todo_is };
      paid = (let a = t.follows in let b = e.enough in omega arith);
    }

pub returns-else-reaches-clause-walk : goal.returns-else-reaches-clause-walk
returns-else-reaches-clause-walk c = λ root todo work up w.
    let t = tested (goal.at.returns-else-reaches-clause-walk c).After-reaches root todo work up w in
    let s = skipped c.args.span.now root c.args.self.now c.args.row w.items work t.at.enters (sym t.test ∙ c.if-reaches.false) in
    record {
      work = s.more;
      walks = record { items = s.rest; framed = s.framed; sorted = s.sorted w.sorted; todo_is = w.todo_is ∙ s.same };
      paid = (let a = t.follows in let b = s.paid in omega arith);
    }
