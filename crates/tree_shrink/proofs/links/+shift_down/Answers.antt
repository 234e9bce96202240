use Rattle.std.proofs.Common.{arith, ◌≡◌, ◌∙◌}
use Rattle.tree_shrink.proofs.Gaps.{all-shifted, shift-next, shift-swap, shifted-last}
use Rattle.tree_shrink.proofs.links.+shift_down.Goals as goal

pub swap-next-requires-clause-link : goal.swap-next-requires-clause-link
swap-next-requires-clause-link t c = shift-swap c.args.seat.now.view c.args.row c.args.k c.args.n c.args.goal c.requires.links

pub returns-then-n-eq0-clause-shifted : goal.returns-then-n-eq0-clause-shifted
returns-then-n-eq0-clause-shifted t c = shifted-last c.args.seat.now.view c.swap-next.new.seat.view c.args.row c.args.k c.args.n c.args.goal
    c.swap-next.result c.if-n-eq0.true c.swap-next.ensures.node

pub shift_down-requires : goal.shift_down-requires
shift_down-requires t c = (
  let claim : c.args.n ≡ t = c.decreases in let low = c.if-n-eq0.false in omega arith,
  (
    c.swap-next.ensures.table ∙ c.requires.table,
    shift-next c.args.seat.now.view c.swap-next.new.seat.view c.args.row c.args.k c.args.n c.args.goal c.swap-next.result
        (let low = c.if-n-eq0.false in omega arith) c.requires.links c.swap-next.ensures.node,
  ),
)

pub returns-clause-shifted : goal.returns-clause-shifted
returns-clause-shifted t c = all-shifted c.args.seat.now.view c.swap-next.new.seat.view c.shift_down.new.seat.view c.args.row c.args.k c.args.n
    c.args.goal c.swap-next.result c.shift_down.result (let low = c.if-n-eq0.false in omega arith) c.swap-next.ensures.node
    c.shift_down.ensures.shifted
