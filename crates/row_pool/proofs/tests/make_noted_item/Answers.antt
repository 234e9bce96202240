use Rattle.std.proofs.Common.{length, ap, subst, ◌∙◌, arith}
use Rattle.row_pool.specs.Lists.{find}
use Rattle.row_pool.specs.SeatState.{SeatState, OnlyEntryChanges}
use Rattle.row_pool.specs.Chains.{IsChain}
use Rattle.row_pool.specs.TestSeats.{WentLive}
use Rattle.row_pool.proofs.Chains.{chain-one}
use Rattle.row_pool.proofs.TestSeats.{popped, split-first, stand-live, live-after}
use Rattle.row_pool.proofs.tests.make_noted_item.Goals.{After-item_goes_live}
use Rattle.row_pool.proofs.tests.make_noted_item.Goals as goal

-- the row that was popped and written went live
lives : (c : After-item_goes_live) → WentLive c.pop-row.result c.item_goes_live.ensures.live.0 c.args.seat.now.view.refs c.args.seat.now.view
    c.item_goes_live.new.seat.view
lives c =
    let only = subst (λ (z : SeatState). OnlyEntryChanges c.pop-row.result z.view c.write_and_note-noted.new.seat.view) c.pop-row.ensures.same
    c.write_and_note-noted.ensures.only in
    live-after c.args.seat.now.view c.write_and_note-noted.new.seat.view c.item_goes_live.new.seat.view c.pop-row.result c.item_goes_live.ensures.live.0 only
    c.item_goes_live.ensures.live.3

pub pop-row-requires-clause-chain : goal.pop-row-requires-clause-chain
pop-row-requires-clause-chain c =
    let h = c.requires.stand in
    let o = split-first h.1 h.3 in
    (o.0, o.1, subst (IsChain c.args.seat.now.view c.args.chain.now) o.2 h.2.chain)

pub item_goes_live-requires-clause-free_row : goal.item_goes_live-requires-clause-free_row
item_goes_live-requires-clause-free_row c =
    let e = c.pop-row.ensures.free_row in
    let d = c.write_and_note-noted.ensures.free_row e.0 (ap (λ (z : SeatState). find c.pop-row.result z.view.owned) c.pop-row.ensures.same ∙ e.2) in
    (d.0, d.1, d.2, d.3 ∙ (let u = e.3.uncounted in omega arith))

pub item_goes_live-requires-clause-room : goal.item_goes_live-requires-clause-room
item_goes_live-requires-clause-room c =
    let h = c.requires.stand in
    let k = ap (λ (z : SeatState). length z.view.refs) c.pop-row.ensures.same in
    let n = ap length c.write_and_note-noted.ensures.only.refs in
    let r = ap length h.2.refs in let room = h.4 in omega arith

pub returns-clause-stand : goal.returns-clause-stand
returns-clause-stand c = λ ts rs h.
    let g = c.requires.stand in
    let long = ap length (chain-one c.args.seat.now.view c.args.chain.now g.1 rs g.2.chain h.chain) in
    let p = c.args.rows.now in
    let r = c.pop-row.result in
    let o = popped p c.args.seat.now c.args.chain.now c.pop-row.new.self r ts rs (let a = g.3 in omega arith) h c.pop-row.ensures.row in
    let t = c.item_goes_live.ensures.live.0 in (
      t,
      o.0,
      c.item_goes_live.ensures.live.1,
      stand-live p c.args.seat.now c.item_goes_live.new.seat c.args.chain.now c.pop-row.new.self r t ts o.0 o.2 o.3
          (c.item_goes_live.ensures.same.0 ∙ c.write_and_note-noted.ensures.same.0 ∙ ap (λ (z : SeatState). z.table) c.pop-row.ensures.same)
          (lives (goal.at.returns-clause-stand c).After-item_goes_live),
    )

pub returns-clause-same_seat : goal.returns-clause-same_seat
returns-clause-same_seat c = (lives (goal.at.returns-clause-same_seat c).After-item_goes_live).same_seat
