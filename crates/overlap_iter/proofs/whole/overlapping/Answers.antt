use Rattle.std.proofs.Common.{sym, ◌∙◌, subst, arith}
use Rattle.overlap_iter.specs.Walks.{root_of}
use Rattle.overlap_iter.proofs.Frames.{root-stays}
use Rattle.overlap_iter.proofs.WholeWalks.{SoFar, so-came, so-ended, shot-root}
use Rattle.overlap_iter.proofs.whole.overlapping.Goals as goal

pub next-requires-clause-walk : goal.next-requires-clause-walk
next-requires-clause-walk c =
    let (xs, o) = c.requires.shot in let shot = c.args.shot.now in let root = root_of c.args.seat.now.view shot.root in
    let s = c.loop-item.invariant.so_far xs o in (
      root,
      s.todo,
      s.walks.work,
      root-stays c.args.seat.now.view c.loop-item.seat.view root c.loop-item.invariant.view (shot-root c.args.seat.now.view shot.root shot.height xs o),
      s.walks.walks,
    )

pub loop-item-preserved : goal.loop-item-preserved
loop-item-preserved c = record {
  table = c.next.ensures.same.0 ∙ c.loop-item.invariant.table;
  view = c.next.ensures.same.1 ∙ c.loop-item.invariant.view;
  so_far = λ xs o.
      let s = c.loop-item.invariant.so_far xs o in let shot = c.args.shot.now in let root = root_of c.args.seat.now.view shot.root in
      let up = root-stays c.args.seat.now.view c.loop-item.seat.view root c.loop-item.invariant.view (shot-root c.args.seat.now.view shot.root shot.height xs o)
      in
      subst (λ z. SoFar c.args.span.now root c.next.new.self z xs shot.height c.args.seat.now.follows c.next.new.seat.follows) (sym c.in_ok-push.ensures.items)
      (so-came c.args.span.now root c.loop-item.cursor c.next.new.self c.loop-item.items.items xs shot.height c.in-Some.item c.args.seat.now.follows
      c.loop-item.seat.follows c.next.new.seat.follows s (c.in-Some.ensures.next root s.todo s.walks.work up s.walks.walks));
}

pub returns-in_err-push-clause-follows : goal.returns-in_err-push-clause-follows
returns-in_err-push-clause-follows c = λ xs o.
    let s = c.loop-item.invariant.so_far xs o in let shot = c.args.shot.now in let root = root_of c.args.seat.now.view shot.root in
    let up = root-stays c.args.seat.now.view c.loop-item.seat.view root c.loop-item.invariant.view
    (shot-root c.args.seat.now.view shot.root shot.height xs o) in
    let n = (c.in-Some.ensures.next root s.todo s.walks.work up s.walks.walks).walks.paid in let a = s.walks.paid in omega arith

-- the walk is at its end
pub returns-clause-items : goal.returns-clause-items
returns-clause-items c = λ xs o.
    let s = c.loop-item.invariant.so_far xs o in let shot = c.args.shot.now in let root = root_of c.args.seat.now.view shot.root in
    let up = root-stays c.args.seat.now.view c.loop-item.seat.view root c.loop-item.invariant.view
    (shot-root c.args.seat.now.view shot.root shot.height xs o) in
    so-ended c.args.span.now root c.loop-item.cursor c.loop-item.items.items xs shot.height c.args.seat.now.follows c.loop-item.seat.follows s
    (c.in_default.ensures.next root s.todo s.walks.work up s.walks.walks).0

pub returns-clause-follows : goal.returns-clause-follows
returns-clause-follows c = λ xs o.
    let s = c.loop-item.invariant.so_far xs o in let shot = c.args.shot.now in let root = root_of c.args.seat.now.view shot.root in
    let up = root-stays c.args.seat.now.view c.loop-item.seat.view root c.loop-item.invariant.view
    (shot-root c.args.seat.now.view shot.root shot.height xs o) in
    let n = (c.in_default.ensures.next root s.todo s.walks.work up s.walks.walks).1.paid in let a = s.walks.paid in omega arith
