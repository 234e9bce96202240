use Rattle.std.proofs.Common.{◌≡◌, ◌∙◌, ◌∷◌, [], arith}
use Rattle.interval_tree.proofs.Frames.{spends-self}
use Rattle.interval_tree.proofs.Moving.{move-first, move-second, move-next, move-spends, all-moved, none-moved}
use Rattle.interval_tree.proofs.nodes.+move_links.Goals as goal

pub swap-moved-requires-clause-link : goal.swap-moved-requires-clause-link
swap-moved-requires-clause-link t c =
    move-first c.args.seat.now.view c.args.from c.args.to c.args.a c.args.b c.args.n c.if-n-gt0.true c.requires.links

pub swap-requires-clause-link : goal.swap-requires-clause-link
swap-requires-clause-link t c = move-second c.args.seat.now.view c.swap-moved.new.seat.view c.args.from c.args.to c.args.a c.args.b c.args.n
    c.swap-moved.result c.if-n-gt0.true c.requires.links c.swap-moved.ensures.node c.swap-moved.ensures.others

pub move_links-requires : goal.move_links-requires
move_links-requires t c = (
  let claim : c.args.n ≡ t = c.decreases in let low = c.if-n-gt0.true in omega arith,
  (
    c.swap.ensures.table ∙ c.swap-moved.ensures.table ∙ c.requires.table,
    (move-next c.args.seat.now.view c.swap-moved.new.seat.view c.swap.new.seat.view c.args.from c.args.to c.args.a c.args.b c.args.n c.swap-moved.result
        c.swap.result c.if-n-gt0.true c.requires.links c.swap-moved.ensures.node c.swap-moved.ensures.others c.swap.ensures.node c.swap.ensures.others).0,
  ),
)

pub returns-then-n-gt0-clause-same : goal.returns-then-n-gt0-clause-same
returns-then-n-gt0-clause-same t c = (
  c.move_links.ensures.same.0 ∙ c.swap.ensures.table ∙ c.swap-moved.ensures.table,
  c.move_links.ensures.same.1
      ∙ (move-next c.args.seat.now.view c.swap-moved.new.seat.view c.swap.new.seat.view c.args.from c.args.to c.args.a c.args.b c.args.n c.swap-moved.result
      c.swap.result c.if-n-gt0.true c.requires.links c.swap-moved.ensures.node c.swap-moved.ensures.others c.swap.ensures.node c.swap.ensures.others).1,
)

pub returns-then-n-gt0-clause-moved : goal.returns-then-n-gt0-clause-moved
returns-then-n-gt0-clause-moved t c = all-moved c.args.seat.now.view c.swap-moved.new.seat.view c.swap.new.seat.view c.move_links.new.seat.view c.args.from
    c.args.to c.args.a c.args.b c.args.n c.swap-moved.result c.swap.result c.swap-moved.ensures.node c.swap-moved.ensures.others c.swap.ensures.node
    c.swap.ensures.others c.if-n-gt0.true c.move_links.ensures.moved

pub returns-then-n-gt0-clause-spends : goal.returns-then-n-gt0-clause-spends
returns-then-n-gt0-clause-spends t c = λ rs chain h. move-spends c.args.seat.now.view c.swap-moved.new.seat.view c.swap.new.seat.view
    c.move_links.new.seat.view c.args.from c.args.to c.args.a c.args.b c.args.n c.swap-moved.result rs chain c.if-n-gt0.true c.requires.links
    c.swap-moved.ensures.node c.swap-moved.ensures.others c.swap.ensures.others h c.move_links.ensures.spends

pub returns-else-n-gt0-clause-moved : goal.returns-else-n-gt0-clause-moved
returns-else-n-gt0-clause-moved t c = none-moved c.args.seat.now.view c.args.from c.args.to c.args.a c.args.b c.args.n c.if-n-gt0.false

pub returns-else-n-gt0-clause-spends : goal.returns-else-n-gt0-clause-spends
returns-else-n-gt0-clause-spends t c = λ rs chain h. spends-self (c.args.from ∷ c.args.to ∷ []) rs c.args.seat.now.view chain h
