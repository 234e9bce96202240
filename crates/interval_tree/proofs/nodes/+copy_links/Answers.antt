use Rattle.std.proofs.Common.{◌≡◌, ◌∙◌, arith}
use Rattle.interval_tree.proofs.Frames.{others-join, others-self}
use Rattle.interval_tree.proofs.Copying.{can-copy-first, can-copy-next, copies-more, copies-none}
use Rattle.interval_tree.proofs.nodes.+copy_links.Goals as goal

pub copy_link-requires-clause-links : goal.copy_link-requires-clause-links
copy_link-requires-clause-links t c = can-copy-first c.args.seat.now.view c.args.row c.args.copy c.args.k c.args.m c.if-m-gt0.true c.requires.links

pub copy_links-requires : goal.copy_links-requires
copy_links-requires t c = (
  let claim : c.args.m ≡ t = c.decreases in let low = c.if-m-gt0.true in omega arith,
  (
    c.copy_link.ensures.same.0 ∙ c.requires.table,
    can-copy-next c.args.seat.now.view c.copy_link.new.seat.view c.args.row c.args.copy c.args.k c.args.m c.if-m-gt0.true c.requires.links
        c.copy_link.ensures.node c.copy_link.ensures.same.1,
  ),
)

pub returns-then-m-gt0-clause-node : goal.returns-then-m-gt0-clause-node
returns-then-m-gt0-clause-node t c =
    copies-more c.args.seat.now.view c.copy_link.new.seat.view c.copy_links.new.seat.view c.args.row c.args.copy c.args.k c.args.m c.if-m-gt0.true
    c.copy_link.ensures.node c.copy_link.ensures.same.1 c.copy_links.ensures.node

pub returns-then-m-gt0-clause-others : goal.returns-then-m-gt0-clause-others
returns-then-m-gt0-clause-others t c =
    others-join c.args.seat.now.view c.copy_link.new.seat.view c.copy_links.new.seat.view c.args.copy c.copy_link.ensures.others c.copy_links.ensures.others

pub returns-else-m-gt0-clause-node : goal.returns-else-m-gt0-clause-node
returns-else-m-gt0-clause-node t c = copies-none c.args.seat.now.view c.args.row c.args.copy c.args.k c.args.m c.if-m-gt0.false

pub returns-else-m-gt0-clause-others : goal.returns-else-m-gt0-clause-others
returns-else-m-gt0-clause-others t c = others-self c.args.seat.now.view c.args.copy
