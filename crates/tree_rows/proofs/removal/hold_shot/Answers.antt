use Rattle.std.proofs.Common.{[], ◌∷◌, ap, sym, ◌∙◌}
use Rattle.row_pool.specs.SeatView.{SeatView}
use Rattle.tree_rows.proofs.Shrinking.{held-none, held-some, out-held}
use Rattle.tree_rows.proofs.removal.hold_shot.Goals as goal

pub returns-in-None-clause-stand : goal.returns-in-None-clause-stand
returns-in-None-clause-stand c = λ n g.
    held-none c.args.rows.now c.args.seat.now c.snapshot-shot.new.seat c.split.new.seat c.args.chain.now c.args.tree.now n g
    (c.snapshot-shot.ensures.empty c.in-None.is) c.split.ensures.seat.2 (c.split.ensures.seat.0 ∙ c.snapshot-shot.ensures.table)

pub returns-in-None-clause-out : goal.returns-in-None-clause-out
returns-in-None-clause-out c =
    out-held c.args.seat.now.view c.snapshot-shot.new.seat.view c.split.new.seat.view c.split.result.view [] c.split.ensures.seat.2 c.split.ensures.new.2
    (ap (λ (v : SeatView). v.out) (c.snapshot-shot.ensures.empty c.in-None.is))

pub returns-in-Some-clause-stand : goal.returns-in-Some-clause-stand
returns-in-Some-clause-stand c = λ n g.
    held-some c.args.rows.now c.args.seat.now c.snapshot-shot.new.seat c.split-in-Some.new.seat c.args.chain.now c.args.tree.now n c.in-Some.root g
    (sym c.snapshot-shot.ensures.root ∙ c.in-Some.is) (c.snapshot-shot.ensures.reference c.in-Some.root c.in-Some.is) c.split-in-Some.ensures.seat.2
    (c.split-in-Some.ensures.seat.0 ∙ c.snapshot-shot.ensures.table)

pub returns-in-Some-clause-out : goal.returns-in-Some-clause-out
returns-in-Some-clause-out c =
    out-held c.args.seat.now.view c.snapshot-shot.new.seat.view c.split-in-Some.new.seat.view c.split-in-Some.result.view (c.in-Some.root ∷ [])
    c.split-in-Some.ensures.seat.2 c.split-in-Some.ensures.new.2
    (ap (λ (v : SeatView). v.out) (c.snapshot-shot.ensures.reference c.in-Some.root c.in-Some.is))
