use Rattle.std.proofs.Common.{◌≡◌, ◌-◌, ◌∙◌, arith}
use Rattle.interval_tree.proofs.Frames.{others-join}
use Rattle.interval_tree.proofs.Shifting.{insert-first, insert-next, inserts-more, inserts-stops}
use Rattle.interval_tree.proofs.nodes.+insert_link.Goals as goal

pub swap-moved-requires-clause-link : goal.swap-moved-requires-clause-link
swap-moved-requires-clause-link t c = insert-first c.args.seat.now.view c.args.row c.args.k c.args.goal c.requires.link

pub insert_link-requires : goal.insert_link-requires
insert_link-requires t c =
    let (kind, n, us, bs, vs, u, R, o, len, nm, most, refs, is, few) = c.requires.link in (
      let claim : 65 - c.args.k ≡ t = c.decreases in omega arith,
      (
        c.swap-moved.ensures.table ∙ c.requires.table,
        insert-next c.args.seat.now.view c.swap-moved.new.seat.view c.args.row c.args.k c.args.goal c.swap-moved.result c.swap-moved.ensures.node
            c.if-moved-ne0.true c.requires.link,
      ),
    )

pub returns-then-moved-ne0-clause-node : goal.returns-then-moved-ne0-clause-node
returns-then-moved-ne0-clause-node t c =
    inserts-more c.args.seat.now.view c.swap-moved.new.seat.view c.insert_link.new.seat.view c.args.row c.args.k c.args.goal c.swap-moved.result
    c.swap-moved.ensures.node c.if-moved-ne0.true c.insert_link.ensures.node

pub returns-then-moved-ne0-clause-others : goal.returns-then-moved-ne0-clause-others
returns-then-moved-ne0-clause-others t c =
    others-join c.args.seat.now.view c.swap-moved.new.seat.view c.insert_link.new.seat.view c.args.row c.swap-moved.ensures.others c.insert_link.ensures.others

pub returns-else-moved-ne0-clause-node : goal.returns-else-moved-ne0-clause-node
returns-else-moved-ne0-clause-node t c =
    inserts-stops c.args.seat.now.view c.swap-moved.new.seat.view c.args.row c.args.k c.args.goal c.swap-moved.result c.swap-moved.ensures.node
    c.if-moved-ne0.false
