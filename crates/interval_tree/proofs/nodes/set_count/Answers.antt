use Rattle.std.proofs.Common.{ap, arith}
use Rattle.row_pool.specs.SeatView.{SeatView}
use Rattle.row_pool.specs.Changes.{written}
use Rattle.interval_tree.proofs.Rows.{owns-counted, others-entry}
use Rattle.interval_tree.proofs.nodes.set_count.Goals as goal

pub returns-clause-same : goal.returns-clause-same
returns-clause-same c =
    let (kind, m, us, o) = c.requires.node in
    (c.write.ensures.same.0, ap (λ (v : SeatView). v.refs) (c.write.ensures.content (λ z. absurd (omega arith)) o.entry o.has))

pub returns-clause-node : goal.returns-clause-node
returns-clause-node c = λ kind m us o.
    owns-counted c.args.seat.now.view c.write.new.seat.view c.args.row kind m c.args.n us o (c.write.ensures.content (λ z. absurd (omega arith)) o.entry o.has)

pub returns-clause-others : goal.returns-clause-others
returns-clause-others c =
    let (kind, m, us, o) = c.requires.node in
    others-entry c.args.seat.now.view c.write.new.seat.view c.args.row (written 2 c.args.n o.entry)
    (c.write.ensures.content (λ z. absurd (omega arith)) o.entry o.has)
