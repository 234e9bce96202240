use Rattle.std.proofs.Common.{◌≡◌, ◌∷◌, length, ap, subst, sym, refl, ◌∙◌, arith}
use Rattle.row_pool.specs.Lists.{find}
use Rattle.row_pool.specs.SeatView.{SeatView}
use Rattle.row_pool.specs.Changes.{turned_into, with_entry}
use Rattle.row_pool.specs.SeatState.{SeatState}
use Rattle.row_pool.specs.Chains.{IsChain}
use Rattle.row_pool.proofs.Seats.{find-put}
use Rattle.row_pool.proofs.TestSeats.{split-first}
use Rattle.read_list.specs.TestLists.{Stock}
use Rattle.read_list.proofs.TestLists.{chain-length, stock-made, free-apart}
use Rattle.read_list.proofs.tests.make_item.Goals.{After-write}
use Rattle.read_list.proofs.tests.make_item.Goals as goal

pub pop-row-requires-clause-chain : goal.pop-row-requires-clause-chain
pop-row-requires-clause-chain c =
    let h = c.requires.stock in
    let o = split-first h.0 h.3 in
    (o.0, o.1, subst (IsChain c.args.seat.now.view c.args.chain.now) o.2 h.2.chain)

-- the row that was popped is an item now, and nothing else changed
turned : (c : After-write) → c.write.new.seat.view ≡ with_entry c.pop-row.result (turned_into 1 c.pop-row.ensures.free_row.0) c.args.seat.now.view
turned c =
    let e = c.pop-row.ensures.free_row in
    c.write.ensures.kind refl e.0 (ap (λ (s : SeatState). find c.pop-row.result s.view.owned) c.pop-row.ensures.same ∙ e.2)
    ∙ ap (λ (s : SeatState). with_entry c.pop-row.result (turned_into 1 e.0) s.view) c.pop-row.ensures.same

pub returns-clause-stock : goal.returns-clause-stock
returns-clause-stock c = λ rs items h.
    let g = c.requires.stock in
    let o = split-first g.0 g.3 in
    let p = split-first rs (chain-length c.args.rows.now c.args.seat.now c.args.chain.now g.0 rs g.1 items g.2 h g.3) in
    let k = subst (λ rs. Stock c.args.rows.now c.args.seat.now c.args.chain.now rs items) p.2 h in
    let r = c.pop-row.ensures.row p.0 p.1 k.chain in
    let e = c.pop-row.ensures.free_row in (
      p.1,
      ap length p.2,
      stock-made c.args.rows.now c.args.seat.now c.write.new.seat c.args.chain.now c.pop-row.new.self c.pop-row.result e.0 p.1 items
          (subst (λ q. Stock c.args.rows.now c.args.seat.now c.args.chain.now (q ∷ p.1) items) (sym r.0) k) r.1
          (let u = e.3.uncounted in omega arith)
          (c.write.ensures.same.0 ∙ ap (λ (s : SeatState). s.table) c.pop-row.ensures.same)
          (turned (goal.at.returns-clause-stock c).After-write),
    )

pub returns-clause-others : goal.returns-clause-others
returns-clause-others c = λ q ne.
    ap (λ (v : SeatView). find q v.owned) (turned (goal.at.returns-clause-others c).After-write)
    ∙ sym (find-put q c.pop-row.result (turned_into 1 c.pop-row.ensures.free_row.0) c.args.seat.now.view.owned ne)

pub returns-clause-fresh : goal.returns-clause-fresh
returns-clause-fresh c = λ rs items h.
    let e = c.pop-row.ensures.free_row in
    free-apart c.args.rows.now c.args.seat.now c.args.chain.now rs items c.pop-row.result e.0 h e.2 e.3.free

pub returns-clause-same_seat : goal.returns-clause-same_seat
returns-clause-same_seat c =
    let move = turned (goal.at.returns-clause-same_seat c).After-write in
    record { number = ap (λ (v : SeatView). v.number) move; out = ap (λ (v : SeatView). v.out) move; size = ap (λ (v : SeatView). v.size) move }
