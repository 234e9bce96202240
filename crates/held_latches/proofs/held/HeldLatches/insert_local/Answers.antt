use Rattle.std.proofs.Common.{set, ap}
use Rattle.std.specs.Vec.{with_item}
use Rattle.span_key.specs.declared.scopes.Scope.TheVariants.{Local}
use Rattle.held_latches.proofs.Inserting.{came, may-add}
use Rattle.held_latches.proofs.held.HeldLatches.insert_local.Goals as goal

pub add-row-requires-clause-adds : goal.add-row-requires-clause-adds
add-row-requires-clause-adds c =
    let (s, n, more, m) = c.requires.may in may-add Local c.args.self.now s n more c.args.id c.args.lane c.args.place c.args.latch.now m

pub returns-clause-held : goal.returns-clause-held
returns-clause-held c = λ s n more m.
    let h = c.args.self.now in
    came Local h (record h { rows = with_item h.rows c.slot_of.result c.add-row.result }) c.add-row.new.pool c.add-row.new.self
    s n more c.args.id c.args.lane c.args.place c.add-row.result c.args.latch.now m c.requires.scope c.add-row.ensures.added c.add-row.ensures.same
    c.add-row.ensures.writer (ap (λ i. set h.rows.items i c.add-row.result) c.slot_of.ensures)
