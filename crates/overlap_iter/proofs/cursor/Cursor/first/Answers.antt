use Rattle.std.proofs.Common.{sym, subst}
use Rattle.overlap_iter.proofs.WholeWalks.{IsHeight, begun}
use Rattle.overlap_iter.proofs.cursor.Cursor.first.Goals as goal
use Rattle.overlap_iter.proofs.cursor.Cursor.first.Goals.{in-Some, in-None}

pub returns-clause-walk : goal.returns-clause-walk
returns-clause-walk c = λ xs o.
    let shot = c.args.shot.now in
    let is : IsHeight shot.root shot.height c.match-shot.height = elim c.match-shot.branch [
      | in-Some w ↦ subst (λ r. IsHeight r shot.height c.match-shot.height) (sym w.in-Some.is) w.height-is
      | in-None w ↦ subst (λ r. IsHeight r shot.height c.match-shot.height) (sym w.in-None.is) w.height-is
    ] in
    begun c.args.seat.now.view c.args.span.now shot.root shot.height c.match-shot.height xs c.args.seat.now.follows o is
