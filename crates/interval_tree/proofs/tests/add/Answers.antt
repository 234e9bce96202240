use Rattle.std.proofs.Common.{◌≡◌, ◌≤◌, ℕ, List, length, true, ap, refl, subst, ◌∙◌, arith}
use mathlib.Core.Option.{some}
use Rattle.row_pool.specs.Trees.{Tree as Row, Entry}
use Rattle.row_pool.specs.SeatView.{SeatView}
use Rattle.row_pool.specs.SeatState.{SeatState, OnlyEntryChanges}
use Rattle.row_pool.specs.Lists.{find, mem}
use Rattle.row_pool.specs.Chains.{IsChain}
use Rattle.latch_item.specs.Items.{Item}
use Rattle.row_pool.specs.declared.chain.Chain.{Chain}
use Rattle.interval_tree.specs.declared.tree.Tree.{Tree}
use Rattle.interval_tree.specs.TestTrees.{Growing}
use Rattle.interval_tree.specs.Trees.{other_refs}
use Rattle.interval_tree.proofs.TestGrowing.{first-row, Written, item-written, refs-few, growing-more, added}
use Rattle.interval_tree.proofs.TestShots.{shots-added}
use Rattle.interval_tree.proofs.tests.add.Goals as goal
use Rattle.interval_tree.proofs.tests.add.Goals.{After-pop-row, After-write_item}

pub returns-then-free-lt8 : goal.returns-then-free-lt8
returns-then-free-lt8 c = record {
  growing = λ roots g few. growing-more c.args.rows.now c.args.seat.now c.args.chain.now c.args.tree.now c.args.id roots g;
  others = λ roots g few root m. refl;
}

pub returns-then-many-ge8190 : goal.returns-then-many-ge8190
returns-then-many-ge8190 c = record {
  growing = λ roots g few. growing-more c.args.rows.now c.args.seat.now c.args.chain.now c.args.tree.now c.args.id roots g;
  others = λ roots g few root m. refl;
}

pub pop-row-requires-clause-chain : goal.pop-row-requires-clause-chain
pop-row-requires-clause-chain c =
    let (roots, g, few) = c.requires.growing in
    let (r, rs, e, room) = first-row c.args.chain.now c.args.seat.now.view g.rows c.len-free.result g.chain
    (c.len-free.ensures c.args.seat.now.view g.rows g.chain)
    (let a = c.if-free-lt8.false in omega arith) in
    (r, rs, subst (IsChain c.args.seat.now.view c.args.chain.now) e g.chain)

-- the item that was written, and the rows that are left
pub record Wrote (v w : SeatView) (tree : Tree) (d : Chain) (row n : ℕ) (items : List Row) : Type 0 where
  pub item : Item
  pub id : item.id ≡ n
  pub rs : List ℕ
  pub many : 7 ≤ length rs
  pub written : Written v w tree d row item items rs

wrote : (c : After-write_item) → 8 ≤ c.len-free.result → (roots : List ℕ)
    → (g : Growing c.args.rows.now c.args.seat.now c.args.chain.now c.args.tree.now c.args.id roots)
    → Wrote c.args.seat.now.view c.write_item.new.seat.view c.args.tree.now c.pop-row.new.self c.pop-row.result c.args.id g.items
wrote c low roots g =
    let v = c.args.seat.now.view in let w = c.write_item.new.seat.view in
    let (r, rs, e, room) = first-row c.args.chain.now v g.rows c.len-free.result g.chain (c.len-free.ensures v g.rows g.chain) low in
    let whole = subst (IsChain v c.args.chain.now) e g.chain in
    let (at, rest) = c.pop-row.ensures.row r rs whole in
    let same = ap (λ (z : SeatState). z.view) c.pop-row.ensures.same in
    record {
      item = _;
      id = refl;
      rs = rs;
      many = room;
      written = item-written v w c.args.tree.now c.args.chain.now c.pop-row.new.self c.pop-row.result r _ g.items rs c.args.id g.keeps g.ids refl at whole rest
          c.pop-row.ensures.free_row (subst (λ z. OnlyEntryChanges c.pop-row.result z w) same c.write_item.ensures.only) c.write_item.ensures.item
          (subst (λ (z : SeatView). (e : Entry) → find c.pop-row.result z.owned ≡ some e → (f : Entry) × (find c.pop-row.result w.owned ≡ some f)
          × (f.own ≡ e.own) × (f.linked ≡ e.linked)) same c.write_item.ensures.counts)
          (λ q x has. subst (λ l. mem q l ≡ true) e (g.all q x has));
    }

pub insert-requires-clause-tree : goal.insert-requires-clause-tree
insert-requires-clause-tree c =
    let (roots, g, few) = c.requires.growing in
    let w = wrote (goal.at.insert-requires-clause-tree c).After-write_item (let a = c.if-free-lt8.false in omega arith) roots g in
    let k = c.len-many.ensures c.args.seat.now.view g.items g.keeps in
    (g.items, w.item, w.written.keeps, w.written.new, let a = c.if-many-ge8190.false in omega arith)

pub insert-requires-clause-few : goal.insert-requires-clause-few
insert-requires-clause-few c =
    let (roots, g, few) = c.requires.growing in
    let w = wrote (goal.at.insert-requires-clause-few c).After-write_item (let a = c.if-free-lt8.false in omega arith) roots g in
    let a = ap length w.written.refs in let b = refs-few c.args.seat.now.view c.args.tree.now g.items roots g.keeps g.shots g.no_more in omega arith

pub insert-requires-clause-room : goal.insert-requires-clause-room
insert-requires-clause-room c =
    let (roots, g, few) = c.requires.growing in
    let w = wrote (goal.at.insert-requires-clause-room c).After-write_item (let a = c.if-free-lt8.false in omega arith) roots g in
    (w.rs, w.written.chain, w.many)

pub returns : goal.returns
returns c = record {
  growing = λ roots g few.
      let w = wrote (goal.at.returns c).After-write_item (let a = c.if-free-lt8.false in omega arith) roots g in
      let k = c.len-many.ensures c.args.seat.now.view g.items g.keeps in
      let (it, ys, here, is, more, keeps) = c.insert.ensures.tree g.items w.item w.written.keeps w.written.new (let a = c.if-many-ge8190.false in
      omega arith) in
      let same = ap (λ (z : SeatState). z.view) c.pop-row.ensures.same in
      added c.args.rows.now c.args.seat.now c.insert.new.seat c.write_item.new.seat.view c.args.tree.now c.insert.new.self c.pop-row.new.self c.insert.new.chain
      c.pop-row.result c.args.id w.item g.items ys it w.rs roots
      (c.insert.ensures.table ∙ c.write_item.ensures.same.0 ∙ ap (λ (z : SeatState). z.table) c.pop-row.ensures.same ∙ g.table) g.first g.alone g.ids g.shots
      g.no_more (c.write_item.ensures.only.same_seat.number ∙ ap (λ (z : SeatView). z.number) same)
      (c.write_item.ensures.only.same_seat.out ∙ ap (λ (z : SeatView). z.out) same) w.written w.id is more keeps c.insert.ensures.references
      (c.insert.ensures.spends w.rs w.written.chain);
  others = λ roots g few.
      let w = wrote (goal.at.returns c).After-write_item (let a = c.if-free-lt8.false in omega arith) roots g in
      shots-added c.args.seat.now.view c.insert.new.seat.view c.args.tree.now c.insert.new.self roots g.shots
      (c.insert.ensures.references ∙ ap (other_refs c.args.tree.now) w.written.refs) c.known.ensures c.known-2.ensures;
}
