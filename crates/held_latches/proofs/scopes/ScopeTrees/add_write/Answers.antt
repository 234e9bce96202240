use Rattle.std.proofs.Common.{ap}
use Rattle.latch_model.specs.Latches.{normal}
use Rattle.held_latches.specs.Scopes.{loose_with, roots_with}
use Rattle.held_latches.proofs.OneLatch.{added-write, can-add-write, item_with, same-item}
use Rattle.held_latches.proofs.scopes.ScopeTrees.add_write.Goals as goal

pub grow-requires-clause-grows : goal.grow-requires-clause-grows
grow-requires-clause-grows c =
    let (d, a, h, apart, many) = c.requires.adds in
    let s = c.args.self.now in let mid = c.new_item-row.new.self in let row = c.new_item-row.result in
    let x = item_with c.args.id c.args.place c.args.lane c.args.latch.now.span in (
      _,
      _,
      _,
      _,
      _,
      can-add-write c.args.pool.now mid s d a row (x (normal c.args.latch.now)) h apart many
          (same-item mid (roots_with s d a) row (x c.normal.result) (x (normal c.args.latch.now)) (loose_with d a) (ap x c.normal.ensures)
          (c.new_item-row.ensures.stock (roots_with s d a) (loose_with d a) h.stock).0),
    )

pub returns-clause-added : goal.returns-clause-added
returns-clause-added c = λ d a h apart all many.
    let s = c.args.self.now in let mid = c.new_item-row.new.self in let row = c.new_item-row.result in
    let x = item_with c.args.id c.args.place c.args.lane c.args.latch.now.span in
    let made = c.new_item-row.ensures.stock (roots_with s d a) (loose_with d a) h.stock in
    added-write c.args.pool.now mid c.grow.new.self s c.grow.new.tree d a row (x (normal c.args.latch.now)) h apart all made.1 c.new_item-row.ensures.spent
    (c.grow.ensures.grown _ _ _ _ _ (can-add-write c.args.pool.now mid s d a row (x (normal c.args.latch.now)) h apart many
    (same-item mid (roots_with s d a) row (x c.normal.result) (x (normal c.args.latch.now)) (loose_with d a) (ap x c.normal.ensures) made.0)))
