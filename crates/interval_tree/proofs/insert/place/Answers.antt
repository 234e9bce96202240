use Rattle.std.proofs.Common.{sym, subst, arith}
use Rattle.row_pool.specs.SeatState.{SeatState}
use Rattle.interval_tree.specs.Steps.{HasPlace, FindsPlace}
use Rattle.interval_tree.proofs.Leading.{whole-place}
use Rattle.interval_tree.proofs.insert.place.Goals as goal

pub overflow_cast-n : goal.overflow_cast-n
overflow_cast-n c =
    let (kind, n, u, its, ds, it, o, len, few, latches, sorted, up) = c.requires.node in let a = c.count_of-n.ensures.count kind n _ o in omega arith

pub place_between-requires-clause-between : goal.place_between-requires-clause-between
place_between-requires-clause-between c =
    let (kind, n, u, its, ds, it, o, len, few, latches, sorted, up) = c.requires.node in
    let a = c.count_of-n.ensures.count kind n _ o in
    subst (λ (s : SeatState). HasPlace s.view c.args.row c.args.item 0 c.count_of-n.result) (sym c.count_of-n.ensures.same)
    (kind, n, u, its, ds, it, o, (let z = len in omega arith), latches, sorted, up, whole-place it its c.count_of-n.result (let z = len in omega arith))

pub returns-clause-place : goal.returns-clause-place
returns-clause-place c = λ kind n u its ds it o len few latches sorted up.
    let a = c.count_of-n.ensures.count kind n _ o in
    subst (λ (s : SeatState). FindsPlace s.view c.args.row c.args.item 0 c.count_of-n.result c.place_between.result) c.count_of-n.ensures.same
    c.place_between.ensures.place kind n u its ds it o (let z = len in omega arith) latches sorted up
    (whole-place it its c.count_of-n.result (let z = len in omega arith))
