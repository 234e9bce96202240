use Rattle.std.proofs.Common.{◌∷◌, ap, sym, ◌∙◌, subst, arith}
use Rattle.row_pool.specs.Chains.{IsChain}
use Rattle.row_pool.specs.SeatState.{SeatState}
use Rattle.held_latches.proofs.Stocks.{first-free, item-made}
use Rattle.held_latches.proofs.pool.Pool.new_item.Goals as goal

pub pop-row-requires-clause-chain : goal.pop-row-requires-clause-chain
pop-row-requires-clause-chain c =
    let (roots, loose, s) = c.requires.stock in
    let (r, us, whole) = first-free c.args.self.now.seat.view c.args.self.now.chain s.free s.chained c.requires.room in
    (r, us, subst (IsChain c.args.self.now.seat.view c.args.self.now.chain) whole s.chained)

pub returns-clause-stock : goal.returns-clause-stock
returns-clause-stock c = λ roots loose s.
    let v = c.args.self.now.seat.view in let w = c.write_item.new.seat.view in
    let (r, us, whole) = first-free v c.args.self.now.chain s.free s.chained c.requires.room in
    let (is, rest) = c.pop-row.ensures.row r us (subst (IsChain v c.args.self.now.chain) whole s.chained) in
    let same = ap (λ (k : SeatState). k.view) c.pop-row.ensures.same in
    let o = item-made v w c.args.self.now.chain c.pop-row.new.self roots (record { row = c.pop-row.result; item = _ }) loose us s
    (whole ∙ ap (λ q. q ∷ us) (sym is)) rest c.pop-row.ensures.free_row
    (rw same at c.write_item.ensures.only) c.write_item.ensures.item (rw same at c.write_item.ensures.counts) in
    (o.stock, o.stay)

pub returns-clause-spent : goal.returns-clause-spent
returns-clause-spent c =
    let (roots, loose, s) = c.requires.stock in
    let v = c.args.self.now.seat.view in
    let (r, us, whole) = first-free v c.args.self.now.chain s.free s.chained c.requires.room in
    let now = subst (IsChain v c.args.self.now.chain) whole s.chained in
    let (is, rest) = c.pop-row.ensures.row r us now in
    let a = now.long in let b = rest.long in omega arith
