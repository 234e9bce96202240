use Rattle.std.proofs.Common.{refl, ◌∙◌}
use Rattle.held_latches.specs.Scopes.{loose_with, roots_with}
use Rattle.held_latches.specs.Stock.{rows_of}
use Rattle.held_latches.specs.declared.pool.Pool.{Pool}
use Rattle.held_latches.proofs.OneLatch.{list-parted, parted-at, roots-few, same-then, took-pending, unlinked, without_at}
use Rattle.held_latches.proofs.scopes.ScopeTrees.take_pending.Goals as goal

pub unlink-requires-clause-list : goal.unlink-requires-clause-list
unlink-requires-clause-list c =
    let (d, a, p, h, listed, here) = c.requires.takes in let o = parted-at p d.pending listed in
    (rows_of o.front, rows_of o.back, list-parted c.args.pool.now.seat.view c.args.self.now.pending p d.pending c.args.row o here h.listed)

pub free_item-requires-clause-stock : goal.free_item-requires-clause-stock
free_item-requires-clause-stock c =
    let (d, a, p, h, listed, here) = c.requires.takes in let o = parted-at p d.pending listed in
    let s = c.args.self.now in let old = c.args.pool.now in
    let mid : Pool = record { seat = c.unlink.new.seat; chain = old.chain } in
    let (now, only, out) = c.unlink.ensures.list (rows_of o.front) (rows_of o.back)
    (list-parted old.seat.view s.pending p d.pending c.args.row o here h.listed) in
    (roots_with s d a, p.item, loose_with (without_at d p o) a, unlinked old mid s d a p c.args.row h o here refl only c.unlink.ensures.items, roots-few s d a)

pub returns-clause-same : goal.returns-clause-same
returns-clause-same c =
    let (d, a, p, h, listed, here) = c.requires.takes in let o = parted-at p d.pending listed in
    let (now, only, out) = c.unlink.ensures.list (rows_of o.front) (rows_of o.back)
    (list-parted c.args.pool.now.seat.view c.args.self.now.pending p d.pending c.args.row o here h.listed) in (
      c.free_item.ensures.same.0 ∙ c.unlink.ensures.same.0,
      same-then c.args.pool.now.seat.view c.unlink.new.seat.view c.free_item.new.self.seat.view only.only.same_seat c.free_item.ensures.same.1,
    )

pub returns-clause-taken : goal.returns-clause-taken
returns-clause-taken c = λ d a p h all listed here.
    let s = c.args.self.now in let old = c.args.pool.now in let o = parted-at p d.pending listed in
    let mid : Pool = record { seat = c.unlink.new.seat; chain = old.chain } in
    let (now, only, out) = c.unlink.ensures.list (rows_of o.front) (rows_of o.back)
    (list-parted old.seat.view s.pending p d.pending c.args.row o here h.listed) in
    let freed = c.free_item.ensures.stock (roots_with s d a) p.item (loose_with (without_at d p o) a)
    (unlinked old mid s d a p c.args.row h o here refl only c.unlink.ensures.items) in
    took-pending old mid c.free_item.new.self s c.unlink.new.self d a p h all o refl only now freed.0 freed.1 c.free_item.ensures.spent
