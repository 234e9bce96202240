use Rattle.std.proofs.Common.{ℕ, ◌+◌, ◌-◌, ◌≤◌, [], List, slice_index, ap, sym, refl, ◌∙◌, subst, inl, arith}
use Rattle.row_pool.specs.Trees.{Tree}
use Rattle.row_pool.specs.SeatState.{SeatState, kind_of}
use Rattle.row_pool.specs.Views.{Reaches}
use Rattle.latch_item.specs.Items.{item_of}
use Rattle.overlap_iter.specs.Overlaps.{found}
use Rattle.overlap_iter.specs.Walks.{HasRoot, Walks, steps_left}
use Rattle.overlap_iter.proofs.Frames.{reached, root-stays}
use Rattle.overlap_iter.proofs.Looking.{node-content, stand, place-low, item-work, left-node, leave-falls, counted, facing, Met, met, ended}
use Rattle.overlap_iter.proofs.Looking.{end-falls, passed, pass-falls}
use Rattle.overlap_iter.proofs.Looking.{before-it, overlaps-it, past-it, sorted-behind}
use Rattle.overlap_iter.proofs.cursor.Cursor.look.Goals as goal
use Rattle.overlap_iter.proofs.cursor.Cursor.look.Goals.{After-follow-item}

pub read-requires-clause-reachable : goal.read-requires-clause-reachable
read-requires-clause-reachable c =
    let (root, todo, work, up, w) = c.requires.walk in
    let s = stand c.args.span.now root c.args.self.now w.items work w.framed c.requires.more.0 c.requires.more.1 in
    let o = s.frame.node_rest in
    inl (
      s.frame.node,
      reached c.args.seat.now.view root s.frame.node (slice_index c.args.self.now.rows c.args.self.now.low) up s.frame.inside o.here,
      o.here,
      node-content (kind_of s.frame.node) o.kind,
    )

pub returns-then-read-place-clause-step : goal.returns-then-read-place-clause-step
returns-then-read-place-clause-step c = λ root todo work up w.
    let old = c.args.self.now in let span = c.args.span.now in
    let s = stand span root old w.items work w.framed c.requires.more.0 c.requires.more.1 in
    let n = counted c.args.seat.now.view span root old w.items work c.read.result up s c.read.ensures.tree in
    record {
      work = work;
      walks = record {
        items = w.items;
        framed = left-node span root old w.items work s (sym n ∙ c.if-read-place.true);
        sorted = w.sorted;
        todo_is = w.todo_is;
      };
      paid = (let a = ap (λ (s : SeatState). s.follows) c.read.ensures.same in omega arith);
    }

pub returns-then-read-place-clause-ends : goal.returns-then-read-place-clause-ends
returns-then-read-place-clause-ends c =
    let (root, todo, work, up, w) = c.requires.walk in
    leave-falls c.args.span.now root c.args.self.now w.items work
    (stand c.args.span.now root c.args.self.now w.items work w.framed c.requires.more.0 c.requires.more.1)

pub follow-item-requires-clause-link : goal.follow-item-requires-clause-link
follow-item-requires-clause-link c =
    let (root, todo, work, up, w) = c.requires.walk in
    let old = c.args.self.now in let v = c.args.seat.now.view in
    let q = facing v c.args.span.now root old w.items work c.read.result up
    (stand c.args.span.now root old w.items work w.framed c.requires.more.0 c.requires.more.1) c.read.ensures.tree c.if-read-place.false in
    let h = q.stand.frame in (
      h.node,
      q.advance.item,
      1 + slice_index old.places old.low,
      subst (λ (s : SeatState). Reaches s.view h.node) (sym c.read.ensures.same)
          (reached v root h.node (slice_index old.rows old.low) up h.inside h.node_rest.here),
      h.node_rest.here,
      h.node_rest.kind,
      omega arith,
      let a = q.advance.low in omega arith,
      q.advance.at,
      let a = q.advance.latch.here in omega arith,
    )

-- the item, once its row was read
record Read (c : After-follow-item) (root : Tree) (items : List Tree) (work : ℕ) : Type 0 where
  met : Met c.follow-item.new.seat.view c.args.span.now root c.args.self.now items work c.follow-item.result
  up : HasRoot c.follow-item.new.seat.view root
  follows : c.follow-item.new.seat.follows ≤ c.args.seat.now.follows + 1

item-read : (c : After-follow-item) (root : Tree) (todo : List Tree) (work : ℕ) → HasRoot c.args.seat.now.view root
    → (w : Walks c.args.span.now root c.args.self.now todo work) → Read c root w.items work
item-read c root todo work up w =
    let old = c.args.self.now in let span = c.args.span.now in
    let q = facing c.args.seat.now.view span root old w.items work c.read.result up
    (stand span root old w.items work w.framed c.requires.more.0 c.requires.more.1) c.read.ensures.tree c.if-read-place.false in
    let mid = root-stays c.args.seat.now.view c.read.new.seat.view root (ap (λ (s : SeatState). s.view) c.read.ensures.same) up in
    record {
      met = met c.read.new.seat.view c.follow-item.new.seat.view span root old w.items work c.follow-item.result mid c.follow-item.ensures.same.1 q
          c.follow-item.ensures.link;
      up = root-stays c.read.new.seat.view c.follow-item.new.seat.view root c.follow-item.ensures.same.1 mid;
      follows = (let a = ap (λ (s : SeatState). s.follows) c.read.ensures.same in let b = c.follow-item.ensures.count in omega arith);
    }

pub side_of-requires-clause-item : goal.side_of-requires-clause-item
side_of-requires-clause-item c =
    let (root, todo, work, up, w) = c.requires.walk in
    let m = (item-read (goal.at.side_of-requires-clause-item c).After-follow-item root todo work up w).met in (item_of m.at.advance.item, m.has)

pub open-requires-clause-opens : goal.open-requires-clause-opens
open-requires-clause-opens c =
    let (root, todo, work, up, w) = c.requires.walk in
    let r = item-read (goal.at.open-requires-clause-opens c).After-follow-item root todo work up w in let q = r.met.at in
    let (on, same) = before-it c.args.span.now root c.args.self.now w.items work q
    (sym (c.side_of.ensures.side (item_of q.advance.item) r.met.has) ∙ c.in-Before.is) in (
      c.args.span.now,
      root,
      q.rest,
      work - 1,
      subst (λ (s : SeatState). HasRoot s.view root) (sym c.side_of.ensures.same) r.up,
      passed c.args.span.now root c.args.self.now w.items work q on,
    )

pub open-requires-in-Overlaps-clause-opens : goal.open-requires-in-Overlaps-clause-opens
open-requires-in-Overlaps-clause-opens c =
    let (root, todo, work, up, w) = c.requires.walk in
    let r = item-read (goal.at.open-requires-in-Overlaps-clause-opens c).After-follow-item root todo work up w in let q = r.met.at in
    let (on, next) = overlaps-it c.args.span.now root c.args.self.now w.items work q
    (sym (c.side_of.ensures.side (item_of q.advance.item) r.met.has) ∙ c.in-Overlaps.is) in (
      c.args.span.now,
      root,
      q.rest,
      work - 1,
      subst (λ (s : SeatState). HasRoot s.view root) (sym c.side_of.ensures.same) r.up,
      passed c.args.span.now root c.args.self.now w.items work q on,
    )

pub overflow_add-place-in-Overlaps : goal.overflow_add-place-in-Overlaps
overflow_add-place-in-Overlaps c =
    let (root, todo, work, up, w) = c.requires.walk in
    let a = place-low c.args.span.now root c.args.self.now w.items work
    (stand c.args.span.now root c.args.self.now w.items work w.framed c.requires.more.0 c.requires.more.1) in omega arith

pub returns-in-Before-clause-step : goal.returns-in-Before-clause-step
returns-in-Before-clause-step c = λ root todo work up w.
    let r = item-read (goal.at.returns-in-Before-clause-step c).After-follow-item root todo work up w in let q = r.met.at in
    let (on, same) = before-it c.args.span.now root c.args.self.now w.items work q
    (sym (c.side_of.ensures.side (item_of q.advance.item) r.met.has) ∙ c.in-Before.is) in
    let o = passed c.args.span.now root c.args.self.now w.items work q on in
    let (left, f, paid) = c.open.ensures.framed c.args.span.now root q.rest (work - 1)
    (subst (λ (s : SeatState). HasRoot s.view root) (sym c.side_of.ensures.same) r.up) o in
    record {
      work = left;
      walks = record {
        items = q.rest;
        framed = f;
        sorted = sorted-behind c.args.span.now root c.args.self.now w.items work q w.sorted;
        todo_is = w.todo_is ∙ same;
      };
      paid = (let a = r.follows in let b = o.enough in let d = ap (λ (s : SeatState). s.follows) c.side_of.ensures.same in omega arith);
    }

pub returns-in-Overlaps-clause-step : goal.returns-in-Overlaps-clause-step
returns-in-Overlaps-clause-step c = λ root todo work up w.
    let r = item-read (goal.at.returns-in-Overlaps-clause-step c).After-follow-item root todo work up w in let q = r.met.at in
    let (on, next) = overlaps-it c.args.span.now root c.args.self.now w.items work q
    (sym (c.side_of.ensures.side (item_of q.advance.item) r.met.has) ∙ c.in-Overlaps.is) in
    let o = passed c.args.span.now root c.args.self.now w.items work q on in
    let (left, f, paid) = c.open-in-Overlaps.ensures.framed c.args.span.now root q.rest (work - 1)
    (subst (λ (s : SeatState). HasRoot s.view root) (sym c.side_of.ensures.same) r.up) o in
    record {
      item = q.advance.item;
      rest = found c.args.span.now q.rest;
      next = w.todo_is ∙ next;
      here = r.met.here;
      inside = q.inside;
      latch = q.advance.latch;
      walks = record {
        work = left;
        walks = record { items = q.rest; framed = f; sorted = sorted-behind c.args.span.now root c.args.self.now w.items work q w.sorted; todo_is = refl };
        paid = (let a = r.follows in let b = o.enough in let d = ap (λ (s : SeatState). s.follows) c.side_of.ensures.same in omega arith);
      };
    }

pub returns-in-Past-clause-step : goal.returns-in-Past-clause-step
returns-in-Past-clause-step c = λ root todo work up w.
    let r = item-read (goal.at.returns-in-Past-clause-step c).After-follow-item root todo work up w in let q = r.met.at in
    let none = past-it c.args.span.now root c.args.self.now w.items work q w.sorted
    (sym (c.side_of.ensures.side (item_of q.advance.item) r.met.has) ∙ c.in-Past.is) in
    record {
      work = 0;
      walks = record {
        items = [];
        framed = ended c.args.span.now root c.args.self.now w.items work w.framed c.requires.more.0;
        sorted = tt;
        todo_is = w.todo_is ∙ none;
      };
      paid = (
          let a = r.follows in
          let d = ap (λ (s : SeatState). s.follows) c.side_of.ensures.same in
          let b = item-work c.args.span.now root c.args.self.now w.items work q in
          omega arith
          );
    }

pub returns-in-Before-clause-ends : goal.returns-in-Before-clause-ends
returns-in-Before-clause-ends c =
    let (root, todo, work, up, w) = c.requires.walk in
    pass-falls c.args.span.now root c.args.self.now w.items work (steps_left c.open.new.self)
    (stand c.args.span.now root c.args.self.now w.items work w.framed c.requires.more.0 c.requires.more.1) c.open.ensures.ends

pub returns-in-Overlaps-clause-ends : goal.returns-in-Overlaps-clause-ends
returns-in-Overlaps-clause-ends c =
    let (root, todo, work, up, w) = c.requires.walk in
    pass-falls c.args.span.now root c.args.self.now w.items work (steps_left c.open-in-Overlaps.new.self)
    (stand c.args.span.now root c.args.self.now w.items work w.framed c.requires.more.0 c.requires.more.1) c.open-in-Overlaps.ensures.ends

pub returns-in-Past-clause-ends : goal.returns-in-Past-clause-ends
returns-in-Past-clause-ends c =
    let (root, todo, work, up, w) = c.requires.walk in
    end-falls c.args.span.now root c.args.self.now w.items work
    (stand c.args.span.now root c.args.self.now w.items work w.framed c.requires.more.0 c.requires.more.1)
