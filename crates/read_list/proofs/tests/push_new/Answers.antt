use Rattle.std.proofs.Common.{ℕ, List, [], ◌∷◌, ◌++◌, ◌∙◌}
use Rattle.row_pool.proofs.Chains.{mem-here}
use Rattle.read_list.specs.Lists.{IsReadList}
use Rattle.read_list.specs.TestLists.{Stock}
use Rattle.read_list.proofs.Rows.{mem-differs}
use Rattle.read_list.proofs.Links.{list-stays}
use Rattle.read_list.proofs.TestLists.{stock-as, stock-links, last-on, last-back}
use Rattle.read_list.proofs.tests.push_new.Goals.{After-make_item-row}
use Rattle.read_list.proofs.tests.push_new.Goals as goal

-- the list is as it was when the item was made
kept : (c : After-make_item-row) (rs items : List ℕ) → Stock c.args.rows.now c.args.seat.now c.args.chain.now rs items
    → IsReadList c.args.seat.now.view c.args.list.now items → IsReadList c.make_item-row.new.seat.view c.args.list.now items
kept c rs items h l = list-stays c.args.seat.now.view c.make_item-row.new.seat.view c.args.list.now items
    (λ q m. c.make_item-row.ensures.others q (mem-differs q c.make_item-row.result items m (c.make_item-row.ensures.fresh rs items h))) l

pub make_item-row-requires : goal.make_item-row-requires
make_item-row-requires c = let g = c.requires.stock in record { stock = (g.0, g.1, g.2, g.4) }

pub push_back-requires-clause-list : goal.push_back-requires-clause-list
push_back-requires-clause-list c =
    let g = c.requires.stock in
    (g.1, kept (goal.at.push_back-requires-clause-list c).After-make_item-row g.0 g.1 g.2 g.3, c.make_item-row.ensures.fresh g.0 g.1 g.2)

pub push_back-requires-clause-item : goal.push_back-requires-clause-item
push_back-requires-clause-item c =
    let g = c.requires.stock in
    let h = c.make_item-row.ensures.stock g.0 g.1 g.2 in
    let b = h.2.bare c.make_item-row.result (mem-here c.make_item-row.result g.1) in
    (b.0, b.1, b.2.kind)

pub returns-clause-stock : goal.returns-clause-stock
returns-clause-stock c = λ rs items g l.
    let r = c.make_item-row.result in
    let h = c.make_item-row.ensures.stock rs items g in
    let p = c.push_back.ensures.list items (kept (goal.at.returns-clause-stock c).After-make_item-row rs items g l)
    (c.make_item-row.ensures.fresh rs items g) in (
      h.0,
      h.1,
      stock-as c.args.rows.now c.push_back.new.seat c.make_item-row.new.chain h.0 (r ∷ items) (items ++ r ∷ [])
          (stock-links c.args.rows.now c.make_item-row.new.seat c.push_back.new.seat c.make_item-row.new.chain h.0 (r ∷ items) (r ∷ items) h.2
          c.push_back.ensures.same.0 p.1 (λ q m. m)) (λ q m. last-on r q items m) (λ q m. last-back r q items m),
      p.0,
    )

pub returns-clause-same_seat : goal.returns-clause-same_seat
returns-clause-same_seat c =
    let g = c.requires.stock in
    let a = c.make_item-row.ensures.same_seat in
    let p = c.push_back.ensures.list g.1 (kept (goal.at.returns-clause-same_seat c).After-make_item-row g.0 g.1 g.2 g.3)
    (c.make_item-row.ensures.fresh g.0 g.1 g.2) in
    let b = p.1.only.same_seat in
    record { number = b.number ∙ a.number; out = b.out ∙ a.out; size = b.size ∙ a.size }

pub push_back-requires-clause-table : goal.push_back-requires-clause-table
push_back-requires-clause-table c = let g = c.requires.stock in (c.make_item-row.ensures.stock g.0 g.1 g.2).2.table
