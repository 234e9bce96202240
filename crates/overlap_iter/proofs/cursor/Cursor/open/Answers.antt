use Rattle.std.proofs.Common.{◌+◌, ◌-◌, slice_index, slice_set, arith}
use Rattle.overlap_iter.specs.Walks.{at_place}
use Rattle.overlap_iter.proofs.Frames.{reached}
use Rattle.overlap_iter.proofs.Entering.{opens-place, inner-child, opened-inner, opened-leaf}
use Rattle.overlap_iter.proofs.cursor.Cursor.open.Goals as goal

pub follow-requires-clause-link : goal.follow-requires-clause-link
follow-requires-clause-link c =
    let (span, root, bs, work, up, o) = c.requires.opens in
    let old = c.args.self.now in let j = opens-place span root old c.args.place bs work o in (
      o.node,
      o.child,
      32 + slice_index (slice_set old.places old.low c.args.place) old.low,
      reached c.args.seat.now.view root o.node (slice_index old.rows old.low) up o.inside o.here,
      o.here,
      o.kind,
      omega arith,
      let a = o.low_place in omega arith,
      o.at,
      let a = (inner-child span root (at_place old c.args.place) bs work o c.if-self-gt0.true).here in omega arith,
    )

pub returns-then-self-gt0-clause-framed : goal.returns-then-self-gt0-clause-framed
returns-then-self-gt0-clause-framed c = λ span root bs work up o.
    let old = c.args.self.now in let j = opens-place span root old c.args.place bs work o in
    let here = c.follow.ensures.link o.node o.child (32 + slice_index (slice_set old.places old.low c.args.place) old.low)
    (reached c.args.seat.now.view root o.node (slice_index old.rows old.low) up o.inside o.here) o.here o.kind (omega arith) o.at in
    let (f, some) = opened-inner span root (at_place old c.args.place) bs work c.follow.result o c.if-self-gt0.true here in
    (work - 1, f, let a = c.follow.ensures.count in omega arith)

pub returns-else-self-gt0-clause-framed : goal.returns-else-self-gt0-clause-framed
returns-else-self-gt0-clause-framed c = λ span root bs work up o.
    (work, opened-leaf span root (at_place c.args.self.now c.args.place) bs work o c.requires.none (let a = c.if-self-gt0.false in omega arith), omega arith)
