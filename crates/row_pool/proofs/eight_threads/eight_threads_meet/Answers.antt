use Rattle.std.proofs.Common.{[], ◌∷◌, sym, ◌∙◌, arith}
use Rattle.row_pool.proofs.eight_threads.eight_threads_meet.Goals as goal

pub make_item-item-requires : goal.make_item-item-requires
make_item-item-requires g c = let h = c.in_ok-rows.ensures.stand in record { stand = ([], h.0, h.1, (let a = h.2 in omega arith), omega arith) }

pub make_leaf-row-requires : goal.make_leaf-row-requires
make_leaf-row-requires g c =
    let h = c.in_ok-rows.ensures.stand in
    let k = c.make_item-item.ensures.stand [] h.0 h.1 in
    record { stand = (k.0, [], k.1, k.4, k.2, k.5, (let a = h.2 in let b = k.3 in omega arith), omega arith) }

pub with_seven_snapshots-workers-requires-clause-stand : goal.with_seven_snapshots-workers-requires-clause-stand
with_seven_snapshots-workers-requires-clause-stand g c =
    let h = c.in_ok-rows.ensures.stand in
    let k = c.make_item-item.ensures.stand [] h.0 h.1 in
    let l = c.make_leaf-row.ensures.stand k.0 [] k.1 k.2 k.4 in
    (l.0, l.1, l.3, l.2)

pub take_all_back-first_seat-requires-clause-none : goal.take_all_back-first_seat-requires-clause-none
take_all_back-first_seat-requires-clause-none g c = λ i d low. let h = c.eight_meet-workers.ensures i d low in (h.rows, h.stand)

pub take_all_back-first_seat-requires-clause-numbers : goal.take_all_back-first_seat-requires-clause-numbers
take_all_back-first_seat-requires-clause-numbers g c = λ d.
    let n = c.with_seven_snapshots-workers.ensures.numbers d in (
      (c.eight_meet-workers.ensures 0 d (omega arith)).same_seat.number ∙ n.0,
      λ i high low. let e = (c.eight_meet-workers.ensures i d low).same_seat.number in let m = n.1 i high low in omega arith,
    )

pub take_all_back-first_seat-requires-clause-out : goal.take_all_back-first_seat-requires-clause-out
take_all_back-first_seat-requires-clause-out g c = λ d.
    let o = c.with_seven_snapshots-workers.ensures.out d in
    let n1 = (c.eight_meet-workers.ensures 1 d (omega arith)).same_seat.number in
    let n2 = (c.eight_meet-workers.ensures 2 d (omega arith)).same_seat.number in
    let n3 = (c.eight_meet-workers.ensures 3 d (omega arith)).same_seat.number in
    let n4 = (c.eight_meet-workers.ensures 4 d (omega arith)).same_seat.number in
    let n5 = (c.eight_meet-workers.ensures 5 d (omega arith)).same_seat.number in
    let n6 = (c.eight_meet-workers.ensures 6 d (omega arith)).same_seat.number in
    let n7 = (c.eight_meet-workers.ensures 7 d (omega arith)).same_seat.number in (
      o.0,
      (c.eight_meet-workers.ensures 0 d (omega arith)).same_seat.out ∙ o.1
          ∙ (λ i. (sym n7 i, o.0 7) ∷ (sym n6 i, o.0 6) ∷ (sym n5 i, o.0 5) ∷ (sym n4 i, o.0 4) ∷ (sym n3 i, o.0 3) ∷ (sym n2 i, o.0 2)
          ∷ (sym n1 i, o.0 1) ∷ []),
    )
