use Rattle.std.proofs.Common.{◌+◌, ◌*◌, rules, arith}
use Rattle.span_key.specs.declared.scopes.Scope.TheVariants.{Local}
use Rattle.held_latches.specs.Holding.{own_latch}
use Rattle.held_latches.proofs.Removing.{found, may-take, removed, some-aside}
use Rattle.held_latches.proofs.Taken.{row-read}
use Rattle.held_latches.proofs.held.HeldLatches.remove_local.Goals as goal

pub index-row-requires : goal.index-row-requires
index-row-requires c =
    let (s, n, o, m) = c.requires.held in
    let f = found Local c.args.latch.now.access c.args.self.now s n o (own_latch c.args.id c.args.lane c.args.place c.args.latch.now) m in
    let low = f.within in let e = c.slot_of.ensures in first_of (omega arith, search rules)

pub take-requires-clause-takes : goal.take-requires-clause-takes
take-requires-clause-takes c =
    let (s, n, o, m) = c.requires.held in let h = c.args.self.now in
    let y = own_latch c.args.id c.args.lane c.args.place c.args.latch.now in let f = found Local c.args.latch.now.access h s n o y m in
    may-take Local c.args.latch.now.access h s n c.index-row.result.now o y m
    (row-read h.rows.items c.slot_of.result (c.args.lane * 16 + c.args.place) c.index-row.result.now c.slot_of.ensures f.within c.index-row.ensures)

pub take-requires-clause-room : goal.take-requires-clause-room
take-requires-clause-room c =
    let (s, n, o, m) = c.requires.held in
    some-aside Local c.args.latch.now.access c.args.self.now s n o (own_latch c.args.id c.args.lane c.args.place c.args.latch.now) m

pub returns-clause-held : goal.returns-clause-held
returns-clause-held c = λ s n k spare m.
    let h = c.args.self.now in let o = spare.holds in let access = c.args.latch.now.access in
    let y = own_latch c.args.id c.args.lane c.args.place c.args.latch.now in let f = found Local access h s n o y m in
    removed Local access h c.take.new.pool c.take.new.self s n k c.index-row.result.now o y m
    (row-read h.rows.items c.slot_of.result (c.args.lane * 16 + c.args.place) c.index-row.result.now c.slot_of.ensures f.within c.index-row.ensures)
    c.take.ensures.taken c.take.ensures.writer c.take.ensures.same spare.spare
