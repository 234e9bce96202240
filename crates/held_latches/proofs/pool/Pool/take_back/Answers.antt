use Rattle.std.proofs.Common.{suc, ◌++◌, [], length, ap, sym, ◌∙◌, subst, arith}
use Rattle.row_pool.specs.Chains.{IsChain}
use Rattle.row_pool.specs.SeatView.{SeatView}
use Rattle.row_pool.proofs.Numbers.{without_first-length}
use Rattle.row_pool.proofs.TestSeats.{chain-first, chain-second, rows-apart}
use Rattle.held_latches.proofs.References.{roots-length}
use Rattle.held_latches.proofs.Stocks.{come-back}
use Rattle.std.proofs.lemmas.List.{length-append}
use Rattle.held_latches.proofs.pool.Pool.take_back.Goals as goal
use Rattle.held_latches.proofs.pool.Pool.take_back.Goals.{After-give}

pub join-requires-clause-first : goal.join-requires-clause-first
join-requires-clause-first c = let (trees, loose, s, few) = c.requires.stock in (s.first, c.requires.other.1)

pub join-requires-clause-room : goal.join-requires-clause-room
join-requires-clause-room c =
    let (trees, loose, s, few) = c.requires.stock in let a = roots-length trees c.args.self.now.seat.view.refs s.refs in
    let b = ap length (ap (λ l. c.args.self.now.seat.view.refs ++ l) c.requires.other.2) in
    let d = length-append c.args.self.now.seat.view.refs [] in omega arith

pub give-requires-clause-chains : goal.give-requires-clause-chains
give-requires-clause-chains c =
    let (trees, loose, s, few) = c.requires.stock in let o = c.requires.other.0 in
    let v : SeatView = c.args.self.now.seat.view in (
      s.free,
      o.rows,
      subst (λ (w : SeatView). IsChain w c.args.self.now.chain s.free) (sym c.join.ensures.view)
          (chain-first v c.args.seat.view c.args.self.now.chain s.free s.chained),
      chain-second v c.args.seat.view c.join.new.seat.view c.args.chain o.rows o.chain (λ r d f. (c.join.ensures.apart r d f).1),
      rows-apart v c.args.seat.view c.args.self.now.chain c.args.chain s.free o.rows s.chained o.chain (λ r d f. (c.join.ensures.apart r d f).0),
    )

-- the chain that comes back, as the first seat has it
second : (c : After-give) → IsChain c.join.new.seat.view c.args.chain c.requires.other.0.rows
second c = chain-second c.args.self.now.seat.view c.args.seat.view c.join.new.seat.view c.args.chain c.requires.other.0.rows c.requires.other.0.chain
    (λ r d f. (c.join.ensures.apart r d f).1)

pub returns-clause-same : goal.returns-clause-same
returns-clause-same c =
    let a = (c.give.ensures.only c.requires.other.0.rows (second c)).same_seat in
    (c.give.ensures.same.0 ∙ c.join.ensures.same.0, a.size ∙ ap (λ (v : SeatView). v.size) c.join.ensures.view)

pub returns-clause-out : goal.returns-clause-out
returns-clause-out c =
    let a = (c.give.ensures.only c.requires.other.0.rows (second c)).same_seat in
    let (cap, listed) = c.join.ensures.listed in
    ap (λ l. suc (length l)) (a.out ∙ ap (λ (v : SeatView). v.out) c.join.ensures.view)
    ∙ without_first-length c.args.seat.view.number cap c.args.self.now.seat.view.out listed

pub returns-clause-stock : goal.returns-clause-stock
returns-clause-stock c = λ trees loose s.
    let v = c.args.self.now.seat.view in let o = c.requires.other.0 in
    let first = subst (λ (w : SeatView). IsChain w c.args.self.now.chain s.free) (sym c.join.ensures.view)
    (chain-first v c.args.seat.view c.args.self.now.chain s.free s.chained) in
    let b = come-back v c.args.seat.view c.join.new.seat.view c.give.new.seat.view c.args.self.now.chain c.args.chain c.give.new.self
    trees loose s o c.requires.other.2
    c.join.ensures.view (λ r d f. (c.join.ensures.apart r d f).0) (c.give.ensures.only o.rows (second c))
    (c.give.ensures.chain s.free o.rows first (second c)) in
    (b.stock, b.stay)

pub returns-clause-spent : goal.returns-clause-spent
returns-clause-spent c =
    let (trees, loose, s, few) = c.requires.stock in
    let v = c.args.self.now.seat.view in let o = c.requires.other.0 in
    let first = subst (λ (w : SeatView). IsChain w c.args.self.now.chain s.free) (sym c.join.ensures.view)
    (chain-first v c.args.seat.view c.args.self.now.chain s.free s.chained) in
    (come-back v c.args.seat.view c.join.new.seat.view c.give.new.seat.view c.args.self.now.chain c.args.chain c.give.new.self
    trees loose s o c.requires.other.2
    c.join.ensures.view (λ r d f. (c.join.ensures.apart r d f).0) (c.give.ensures.only o.rows (second c))
    (c.give.ensures.chain s.free o.rows first (second c))).spent
