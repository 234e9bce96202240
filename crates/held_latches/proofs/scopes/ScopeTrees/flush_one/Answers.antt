use Rattle.held_latches.specs.Stock.{rows_of}
use Rattle.held_latches.specs.declared.pool.Pool.{Pool}
use Rattle.std.proofs.Common.{refl}
use Rattle.held_latches.proofs.Flushes.{can-flush-first, first-pending, flushed-first}
use Rattle.held_latches.proofs.scopes.ScopeTrees.flush_one.Goals as goal

pub pop_front-requires-clause-list : goal.pop_front-requires-clause-list
pop_front-requires-clause-list c = let (d, a, h, apart, many, room) = c.requires.has in (rows_of d.pending, h.listed)

pub grow-requires-clause-grows : goal.grow-requires-clause-grows
grow-requires-clause-grows c =
    let (d, a, h, apart, many, room) = c.requires.has in
    let (qs, e, listed, only, out) = c.in-Some.ensures.list (rows_of d.pending) h.listed in
    let mid : Pool = record { seat = c.pop_front.new.seat; chain = c.args.pool.now.chain } in (
      _,
      _,
      _,
      _,
      _,
      can-flush-first c.args.pool.now mid c.args.self.now d c.in-Some.item qs a (first-pending d c.in-Some.item qs e) h apart many refl only
          c.in-Some.ensures.items,
    )

pub returns-in-Some-clause-flushed : goal.returns-in-Some-clause-flushed
returns-in-Some-clause-flushed c = λ d a h apart many.
    let (qs, e, listed, only, out) = c.in-Some.ensures.list (rows_of d.pending) h.listed in
    let mid : Pool = record { seat = c.pop_front.new.seat; chain = c.args.pool.now.chain } in
    let f = first-pending d c.in-Some.item qs e in
    flushed-first c.args.pool.now mid c.grow.new.self c.args.self.now c.pop_front.new.self c.grow.new.tree d c.in-Some.item qs a f h apart refl only listed
    (c.grow.ensures.grown _ _ _ _ _ (can-flush-first c.args.pool.now mid c.args.self.now d c.in-Some.item
    qs a f h apart many refl only c.in-Some.ensures.items))
