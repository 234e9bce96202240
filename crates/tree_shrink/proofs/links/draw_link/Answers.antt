use Rattle.tree_shrink.proofs.Gaps.{draw-shift, drawn-shift}
use Rattle.tree_shrink.proofs.links.draw_link.Goals as goal

pub shift_down-requires-clause-links : goal.shift_down-requires-clause-links
shift_down-requires-clause-links c = draw-shift c.args.seat.now.view c.args.row c.args.k c.args.n c.requires.links

pub returns-clause-drawn : goal.returns-clause-drawn
returns-clause-drawn c = drawn-shift c.args.seat.now.view c.shift_down.new.seat.view c.args.row c.args.k c.args.n c.shift_down.result
    c.shift_down.ensures.shifted
