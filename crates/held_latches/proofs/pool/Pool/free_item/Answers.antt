use Rattle.std.proofs.Common.{[], ap, ◌∙◌, arith}
use Rattle.row_pool.specs.SeatView.{SeatView}
use Rattle.row_pool.specs.Changes.{tree_of}
use Rattle.row_pool.specs.Trees.{tree_word}
use Rattle.row_pool.proofs.NewestRef.{tree_of-first}
use Rattle.held_latches.proofs.References.{roots-length}
use Rattle.held_latches.proofs.Stocks.{item-freed, live-chain}
use Rattle.held_latches.proofs.pool.Pool.free_item.Goals as goal

pub publish-requires-clause-room : goal.publish-requires-clause-room
publish-requires-clause-room c = λ e has z.
    let (roots, x, loose, s, few) = c.requires.stock in let a = roots-length roots c.args.self.now.seat.view.refs s.refs in omega arith

pub drop_ref-requires-clause-reference : goal.drop_ref-requires-clause-reference
drop_ref-requires-clause-reference c =
    let (roots, x, loose, s, few) = c.requires.stock in let o = s.items.0 in
    let (t, becomes, move) = c.publish.ensures.view o.owns.entry [] o.owns.has o.unlinked o.owns.links in
    let v = c.args.self.now.seat.view in
    let first = ap (λ (u : SeatView). tree_of c.args.item u.refs) move ∙ tree_of-first c.args.item t v.refs becomes.here in
    ap tree_word first ∙ becomes.here

pub drop_ref-requires-clause-chain : goal.drop_ref-requires-clause-chain
drop_ref-requires-clause-chain c =
    let (roots, x, loose, s, few) = c.requires.stock in let o = s.items.0 in
    let (t, becomes, move) = c.publish.ensures.view o.owns.entry [] o.owns.has o.unlinked o.owns.links in
    (s.free, live-chain c.args.self.now.seat.view c.publish.new.seat.view c.args.self.now.chain roots (record { row = c.args.item; item = x }) loose t s move)

pub returns-clause-same : goal.returns-clause-same
returns-clause-same c =
    let (roots, x, loose, s, few) = c.requires.stock in let o = s.items.0 in
    let (t, becomes, move) = c.publish.ensures.view o.owns.entry [] o.owns.has o.unlinked o.owns.links in
    let same = c.drop_ref.ensures.chain.owns_more.same_seat in (
      c.drop_ref.ensures.same.0 ∙ c.publish.ensures.same.0,
      record {
        number = same.number ∙ ap (λ (u : SeatView). u.number) move;
        out = same.out ∙ ap (λ (u : SeatView). u.out) move;
        size = same.size ∙ ap (λ (u : SeatView). u.size) move;
      },
    )

pub returns-clause-stock : goal.returns-clause-stock
returns-clause-stock c = λ roots x loose s.
    let o = s.items.0 in
    let (t, becomes, move) = c.publish.ensures.view o.owns.entry [] o.owns.has o.unlinked o.owns.links in
    let f = item-freed c.args.self.now.seat.view c.publish.new.seat.view c.drop_ref.new.seat.view c.args.self.now.chain c.drop_ref.new.chain roots
    (record { row = c.args.item; item = x }) loose t s becomes.here move c.drop_ref.ensures.refs c.drop_ref.ensures.chain in
    (f.stock, f.stay)

pub returns-clause-spent : goal.returns-clause-spent
returns-clause-spent c =
    let (roots, x, loose, s, few) = c.requires.stock in let o = s.items.0 in
    let (t, becomes, move) = c.publish.ensures.view o.owns.entry [] o.owns.has o.unlinked o.owns.links in
    (item-freed c.args.self.now.seat.view c.publish.new.seat.view c.drop_ref.new.seat.view c.args.self.now.chain c.drop_ref.new.chain roots
    (record { row = c.args.item; item = x }) loose t s becomes.here move c.drop_ref.ensures.refs c.drop_ref.ensures.chain).spent
