use Rattle.std.proofs.Common.{ap, subst, ◌≡◌, ◌∙◌, arith}
use mathlib.Core.Option.{some}
use Rattle.row_pool.specs.Trees.{Entry}
use Rattle.row_pool.specs.SeatView.{SeatView}
use Rattle.row_pool.specs.SeatState.{SeatState, OnlyEntryChanges, IsNewNode}
use Rattle.row_pool.specs.Lists.{find}
use Rattle.interval_tree.proofs.Fresh.{Made, made, room-first, fresh-spends}
use Rattle.interval_tree.proofs.nodes.fresh_node.Goals as goal
use Rattle.interval_tree.proofs.nodes.fresh_node.Goals.{After-write}

pub pop-row-requires-clause-chain : goal.pop-row-requires-clause-chain
pop-row-requires-clause-chain c = room-first c.args.seat.now.view c.args.chain.now c.requires.room

node-made : (c : After-write) → Made c.args.seat.now.view c.write.new.seat.view c.pop-row.result c.args.kind c.args.n
node-made c =
    let row = c.pop-row.result in let s = c.start_node.new.seat.view in
    let same = ap (λ (z : SeatState). z.view) c.pop-row.ensures.same in
    made c.args.seat.now.view s c.write.new.seat.view row c.args.kind c.args.n c.requires.kind.0 c.requires.kind.1 c.pop-row.ensures.free_row
    (subst (λ z. OnlyEntryChanges row z s) same c.start_node.ensures.only)
    (subst (λ (z : SeatView). (e : Entry) → find row z.owned ≡ some e → (d : Entry) × (find row s.owned ≡ some d) × IsNewNode c.args.kind e d) same
    c.start_node.ensures.node)
    (λ e has. c.write.ensures.content (λ z. absurd (omega arith)) e has)

pub returns-clause-same : goal.returns-clause-same
returns-clause-same c = (
  c.write.ensures.same.0 ∙ c.start_node.ensures.same.0 ∙ ap (λ (z : SeatState). z.table) c.pop-row.ensures.same,
  (node-made (goal.at.returns-clause-same c).After-write).refs,
)

pub returns-clause-node : goal.returns-clause-node
returns-clause-node c = (node-made (goal.at.returns-clause-node c).After-write).owns

pub returns-clause-spends : goal.returns-clause-spends
returns-clause-spends c = fresh-spends c.args.seat.now.view c.write.new.seat.view c.args.chain.now c.pop-row.new.self c.pop-row.result c.requires.room
    (λ r rs h. c.pop-row.ensures.row r rs h) (node-made (goal.at.returns-clause-spends c).After-write).others
