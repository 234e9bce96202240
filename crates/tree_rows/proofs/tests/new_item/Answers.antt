use Rattle.std.proofs.Common.{◌≡◌, ◌∷◌, length, ap, subst, sym, refl, ◌∙◌, arith}
use mathlib.Core.Option.{some}
use Rattle.row_pool.specs.Lists.{find}
use Rattle.row_pool.specs.Trees.{Entry}
use Rattle.row_pool.specs.SeatState.{SeatState, OnlyEntryChanges}
use Rattle.row_pool.specs.Chains.{IsChain}
use Rattle.row_pool.proofs.Chains.{chain-one}
use Rattle.row_pool.proofs.TestSeats.{split-first}
use Rattle.tree_rows.proofs.Planting.{new-item}
use Rattle.tree_rows.proofs.tests.new_item.Goals as goal

pub pop-row-requires-clause-chain : goal.pop-row-requires-clause-chain
pop-row-requires-clause-chain c =
    let h = c.requires.owns in
    let o = split-first h.0 h.2 in
    (o.0, o.1, subst (IsChain c.args.seat.now.view c.args.chain.now) o.2 h.1.chain)

pub write_item-requires-clause-free : goal.write_item-requires-clause-free
write_item-requires-clause-free c =
    let e = c.pop-row.ensures.free_row in
    (e.0, ap (λ (s : SeatState). find c.pop-row.result s.view.owned) c.pop-row.ensures.same ∙ e.2, e.3.free)

pub returns-clause-item : goal.returns-clause-item
returns-clause-item c = λ rs h.
    let g = c.requires.owns in
    let long = ap length (chain-one c.args.seat.now.view c.args.chain.now g.0 rs g.1.chain h.chain) in
    let p = split-first rs (let a = g.2 in omega arith) in
    let r = c.pop-row.ensures.row p.0 p.1 (subst (IsChain c.args.seat.now.view c.args.chain.now) p.2 h.chain) in
    let e = c.pop-row.ensures.free_row in
    let same = c.pop-row.ensures.same in
    new-item c.args.rows.now c.args.seat.now c.write_item.new.seat c.args.chain.now c.pop-row.new.self rs p.1 c.pop-row.result c.args.id e.0
    (record { id = c.args.id; place = 0; lane = 0; span = c.args.span.now; stamp = record { wall = c.args.id; logical = 0 } }) h
    (p.2 ∙ ap (λ r. r ∷ p.1) (sym r.0)) r.1 e.3.uncounted e.2 (c.write_item.ensures.same.0 ∙ ap (λ (s : SeatState). s.table) same)
    (subst (λ (s : SeatState). OnlyEntryChanges c.pop-row.result s.view c.write_item.new.seat.view) same c.write_item.ensures.only)
    c.write_item.ensures.item refl
    (subst (λ (s : SeatState). (e : Entry) → find c.pop-row.result s.view.owned ≡ some e → (d : Entry)
    × (find c.pop-row.result c.write_item.new.seat.view.owned ≡ some d) × (d.own ≡ e.own) × (d.linked ≡ e.linked)) same c.write_item.ensures.counts)
