use Rattle.tree_shrink.proofs.Gaps.{gap-back, gap-closed, gap-draws, none-closed}
use Rattle.tree_shrink.proofs.links.close_gap.Goals as goal

pub draw_link-requires-clause-links : goal.draw_link-requires-clause-links
draw_link-requires-clause-links c = gap-draws c.args.seat.now.view c.args.row c.args.k c.args.n c.requires.gap

pub returns-then-n-gt0-clause-same : goal.returns-then-n-gt0-clause-same
returns-then-n-gt0-clause-same c = (
  c.draw_link.ensures.table,
  gap-back c.args.seat.now.view c.draw_link.new.seat.view c.args.row c.args.k c.args.n c.draw_link.result c.requires.gap c.draw_link.ensures.drawn,
)

pub returns-then-n-gt0-clause-closed : goal.returns-then-n-gt0-clause-closed
returns-then-n-gt0-clause-closed c = gap-closed c.args.seat.now.view c.draw_link.new.seat.view c.args.row c.args.k c.args.n c.draw_link.result
    c.draw_link.ensures.drawn

pub returns-else-n-gt0-clause-closed : goal.returns-else-n-gt0-clause-closed
returns-else-n-gt0-clause-closed c = none-closed c.args.seat.now.view c.args.row c.args.k c.args.n c.if-n-gt0.false
