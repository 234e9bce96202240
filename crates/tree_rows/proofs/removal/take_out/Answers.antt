use Rattle.std.proofs.Common.{rules, IsTrue, ◌∙◌}
use Rattle.tree_rows.proofs.Shrinking.{found-item, planted-less, same-then, stays-same}
use Rattle.tree_rows.proofs.removal.take_out.Goals as goal

pub remove-requires-clause-tree : goal.remove-requires-clause-tree
remove-requires-clause-tree c =
    let s = c.args.seat.now in let m = c.list.new.seat in let same = c.list.ensures.same in
    let (n, g) = c.requires.stand in
    let h = (stays-same c.args.rows.now s m c.args.chain.now c.args.tree.now same.0 same.1).stand n g in
    let t : IsTrue c.is_among.result = search rules in
    let o = found-item s.view m.view c.args.tree.now h.1 c.args.row c.as_slice.result.now same.1 h.2.keeps
    (λ k. c.as_slice.ensures.value ∙ c.in-Ok.ensures.rows h.1 k) (c.is_among.ensures t) in
    (h.1, o.0, h.2.keeps, o.1, o.2)

pub returns : goal.returns
returns c =
    let p = c.args.rows.now in let s = c.args.seat.now in let m = c.list.new.seat in let same = c.list.ensures.same in
    let first = stays-same p s m c.args.chain.now c.args.tree.now same.0 same.1 in
    let t : IsTrue c.is_among.result = search rules in
    let k = (first.stand c.requires.stand.0 c.requires.stand.1).2 in
    record {
      stays = record {
        stand = λ n g.
            let h = first.stand n g in
            let o = found-item s.view m.view c.args.tree.now h.1 c.args.row c.as_slice.result.now same.1 h.2.keeps
            (λ k. c.as_slice.ensures.value ∙ c.in-Ok.ensures.rows h.1 k) (c.is_among.ensures t) in
            let (ys, less, keeps) = c.remove.ensures.tree h.1 o.0 h.2.keeps o.1 o.2 in
            let sp = c.remove.ensures.spends h.0 h.2.owns.chain in (
              sp.left,
              ys,
              planted-less p m c.remove.new.seat c.args.chain.now c.remove.new.chain c.args.tree.now c.remove.new.tree h.0 h.1 ys n o.0 h.2 less keeps
                  c.remove.ensures.table c.remove.ensures.references sp,
            );
        same_seat = same-then s.view m.view c.remove.new.seat.view first.same_seat (c.remove.ensures.spends _ k.owns.chain).frame.same_seat;
      };
    }
