use Rattle.std.proofs.Common.{arith}
use Rattle.tree_rows.proofs.Planting.{owns-same, twice, seat-kept}
use Rattle.tree_rows.proofs.tests.take_shot.Goals as goal

pub snapshot-requires-clause-few : goal.snapshot-requires-clause-few
snapshot-requires-clause-few c = let h = c.requires.stand.3 in let a = h.few in let b = h.low in omega arith

pub returns-clause-stand : goal.returns-clause-stand
returns-clause-stand c =
    let g = c.requires.stand in
    let h = g.3 in
    let o = c.snapshot.ensures.shot g.1 h.keeps in
    let k = seat-kept c.args.seat.now.view c.snapshot.new.seat.view c.snapshot.result.root c.snapshot.ensures.reference c.snapshot.ensures.empty in (
      g.0,
      g.1,
      record {
        owns = owns-same c.args.rows.now c.args.seat.now c.snapshot.new.seat c.args.chain.now g.0 h.owns c.snapshot.ensures.table k.owned;
        refers = o.0;
        twice = twice c.args.tree.now.root c.snapshot.result.root c.args.seat.now.view c.snapshot.new.seat.view c.args.tree.now.height c.snapshot.result.height
            g.1 h.keeps.refers h.refs o.0 c.snapshot.ensures.reference c.snapshot.ensures.empty;
      },
    )

pub returns-clause-same_seat : goal.returns-clause-same_seat
returns-clause-same_seat c =
    (seat-kept c.args.seat.now.view c.snapshot.new.seat.view c.snapshot.result.root c.snapshot.ensures.reference c.snapshot.ensures.empty).same_seat
