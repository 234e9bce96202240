use Rattle.std.proofs.Common.{◌<◌, length, ap, arith}
use Rattle.tree_rows.proofs.Planting.{keeps-refs, is-new, planted-more}
use Rattle.tree_rows.proofs.tests.add.Goals as goal

pub new_item-row-requires : goal.new_item-row-requires
new_item-row-requires c =
    let g = c.requires.stand in
    record { owns = (g.0, g.3.owns, (let a = c.len.ensures c.args.seat.now.view g.0 g.3.owns.chain in let t = c.if-len-lt8.false in omega arith)) }

pub insert-requires-clause-table : goal.insert-requires-clause-table
insert-requires-clause-table c = let g = c.requires.stand in (c.new_item-row.ensures.item g.0 g.3.owns).table

pub insert-requires-clause-tree : goal.insert-requires-clause-tree
insert-requires-clause-tree c =
    let g = c.requires.stand in
    let h = g.3 in
    let i = c.new_item-row.ensures.item g.0 h.owns in (
      g.1,
      i.item,
      keeps-refs c.args.seat.now.view c.new_item-row.new.seat.view c.args.tree.now g.1 i.refs h.keeps,
      is-new c.args.rows.now c.args.seat.now c.new_item-row.new.seat c.new_item-row.new.chain g.0 c.new_item-row.result c.args.id g.2 g.1 i h.ids g.4,
      (let a = c.len-else-len-lt8.ensures c.args.seat.now.view g.1 h.keeps in let t = c.if-len-ge8190.false in omega arith),
    )

pub insert-requires-clause-few : goal.insert-requires-clause-few
insert-requires-clause-few c =
    let g = c.requires.stand in
    let i = c.new_item-row.ensures.item g.0 g.3.owns in
    let a = ap (λ ts. length ts) i.refs in let b = g.3.few in let d = g.3.low in omega arith

pub insert-requires-clause-room : goal.insert-requires-clause-room
insert-requires-clause-room c =
    let g = c.requires.stand in
    let i = c.new_item-row.ensures.item g.0 g.3.owns in
    (i.left, i.chain, (let a = i.many in let b = c.len.ensures c.args.seat.now.view g.0 g.3.owns.chain in let t = c.if-len-lt8.false in omega arith))

pub returns-clause-stand : goal.returns-clause-stand
returns-clause-stand c = λ rs xs n h less.
    let i = c.new_item-row.ensures.item rs h.owns in
    let v = c.new_item-row.new.seat.view in
    let few : length xs < 8190 = (let a = c.len-else-len-lt8.ensures c.args.seat.now.view xs h.keeps in let t = c.if-len-ge8190.false in omega arith) in
    let t = c.insert.ensures.tree xs i.item (keeps-refs c.args.seat.now.view v c.args.tree.now xs i.refs h.keeps)
    (is-new c.args.rows.now c.args.seat.now c.new_item-row.new.seat c.new_item-row.new.chain rs c.new_item-row.result c.args.id n xs i h.ids less) few in
    let o = c.insert.ensures.spends i.left i.chain in (
      o.left,
      t.1,
      planted-more c.args.rows.now c.args.seat.now c.new_item-row.new.seat c.insert.new.seat c.args.chain.now c.new_item-row.new.chain c.insert.new.chain
          c.args.tree.now c.insert.new.self rs xs t.1 n c.new_item-row.result c.args.id t.0 h less i t.3 t.4 t.5 c.insert.ensures.table
          c.insert.ensures.references c.insert.ensures.few few o,
    )
