use Rattle.std.proofs.Common.{ap, refl, ◌∙◌}
use Rattle.latch_model.specs.Latches.{normal}
use Rattle.held_latches.specs.Scopes.{loose_with, roots_with}
use Rattle.held_latches.specs.Stock.{rows_of}
use Rattle.held_latches.specs.declared.pool.Pool.{Pool}
use Rattle.held_latches.proofs.OneLatch.{added-read, item_with, not-listed, same-item, same-then, still-listed}
use Rattle.held_latches.proofs.scopes.ScopeTrees.add_read.Goals as goal

pub push_back-requires-clause-list : goal.push_back-requires-clause-list
push_back-requires-clause-list c =
    let (d, a, h) = c.requires.adds in
    let mid = c.new_item-row.new.self in let row = c.new_item-row.result in
    let made = c.new_item-row.ensures.stock (roots_with c.args.self.now d a) (loose_with d a) h.stock in (
      rows_of d.pending,
      still-listed c.args.pool.now mid c.args.self.now d a h made.1,
      not-listed mid (roots_with c.args.self.now d a) d a row (item_with c.args.id c.args.place c.args.lane c.args.latch.now.span c.normal.result) made.0,
    )

pub push_back-requires-clause-item : goal.push_back-requires-clause-item
push_back-requires-clause-item c =
    let (d, a, h) = c.requires.adds in
    let owns = (c.new_item-row.ensures.stock (roots_with c.args.self.now d a) (loose_with d a) h.stock).0.items.0.owns in
    (owns.entry, owns.has, owns.kind)

pub returns-clause-same : goal.returns-clause-same
returns-clause-same c =
    let (d, a, h) = c.requires.adds in
    let mid = c.new_item-row.new.self in let row = c.new_item-row.result in
    let made = c.new_item-row.ensures.stock (roots_with c.args.self.now d a) (loose_with d a) h.stock in
    let o = c.push_back.ensures.list (rows_of d.pending) (still-listed c.args.pool.now mid c.args.self.now d a h made.1)
    (not-listed mid (roots_with c.args.self.now d a) d a row (item_with c.args.id c.args.place c.args.lane c.args.latch.now.span c.normal.result) made.0) in (
      c.push_back.ensures.same.0 ∙ c.new_item-row.ensures.same.0,
      same-then c.args.pool.now.seat.view mid.seat.view c.push_back.new.seat.view c.new_item-row.ensures.same.1 o.1.only.same_seat,
    )

pub returns-clause-added : goal.returns-clause-added
returns-clause-added c = λ d a h apart all.
    let s = c.args.self.now in let mid = c.new_item-row.new.self in let row = c.new_item-row.result in
    let x = item_with c.args.id c.args.place c.args.lane c.args.latch.now.span in
    let made = c.new_item-row.ensures.stock (roots_with s d a) (loose_with d a) h.stock in
    let new : Pool = record { seat = c.push_back.new.seat; chain = mid.chain } in
    let o = c.push_back.ensures.list (rows_of d.pending) (still-listed c.args.pool.now mid s d a h made.1)
    (not-listed mid (roots_with s d a) d a row (x c.normal.result) made.0) in
    added-read c.args.pool.now mid new s c.push_back.new.self d a row (x (normal c.args.latch.now)) h apart all
    (same-item mid (roots_with s d a) row (x c.normal.result) (x (normal c.args.latch.now)) (loose_with d a) (ap x c.normal.ensures) made.0) made.1
    c.new_item-row.ensures.spent refl o.0 o.1 c.push_back.ensures.items
