use Rattle.std.proofs.Common.{◌≡◌, suc, [], length, ap, sym, refl, ◌∙◌, inl, arith}
use mathlib.Core.Option.{some-ne-none}
use Rattle.row_pool.specs.Trees.{Tree, tree_word}
use Rattle.row_pool.specs.TestSeats.{WentLive}
use Rattle.row_pool.proofs.TestSeats.{went-live, first-named}
use Rattle.read_list.proofs.TestLists.{chain-beside, stock-dropped}
use Rattle.read_list.proofs.tests.drop_item.Goals.{After-publish}
use Rattle.read_list.proofs.tests.drop_item.Goals as goal

pub publish-requires-clause-whole : goal.publish-requires-clause-whole
publish-requires-clause-whole c =
    let h = c.requires.stock in
    let b = h.2.bare c.args.row h.3 in
    (b.0, [], b.1, (let k = b.2.kind in omega arith), b.2.links, (λ k u e. absurd (some-ne-none u (sym e))), inl b.2.unlinked)

pub publish-requires-clause-room : goal.publish-requires-clause-room
publish-requires-clause-room c = λ _ _ _. let r = ap length c.requires.stock.2.refs in omega arith

-- the item is live
record Live (c : After-publish) : Type 0 where
  tree : Tree
  is : tree_word tree ≡ suc c.args.row
  went : WentLive c.args.row tree [] c.args.seat.now.view c.publish.new.seat.view

live : (c : After-publish) → Live c
live c =
    let h = c.requires.stock in
    let b = h.2.bare c.args.row h.3 in
    let l = c.publish.ensures.view b.0 [] b.1 b.2.unlinked b.2.links in
    record {
      tree = l.0;
      is = l.1.here;
      went = went-live c.args.seat.now.view c.args.seat.now.view c.publish.new.seat.view c.args.row l.0 [] h.2.refs (λ q n. refl)
          (record { number = refl; out = refl; size = refl }) l.2;
    }

pub drop_ref-requires-clause-reference : goal.drop_ref-requires-clause-reference
drop_ref-requires-clause-reference c =
    let l = live (goal.at.drop_ref-requires-clause-reference c).After-publish in
    first-named c.publish.new.seat.view l.tree [] c.args.row l.went.refs l.is

pub drop_ref-requires-clause-chain : goal.drop_ref-requires-clause-chain
drop_ref-requires-clause-chain c =
    let l = live (goal.at.drop_ref-requires-clause-chain c).After-publish in
    let h = c.requires.stock in
    (h.0, chain-beside c.args.rows.now c.args.seat.now c.args.chain.now h.0 h.1 c.args.row l.tree c.publish.new.seat.view h.2 h.3 l.went)

pub returns-clause-stock : goal.returns-clause-stock
returns-clause-stock c = λ rs items left h i on back.
    let l = live (goal.at.returns-clause-stock c).After-publish in
    stock-dropped c.args.rows.now c.args.seat.now c.publish.new.seat c.drop_ref.new.seat c.args.chain.now c.drop_ref.new.chain c.args.row l.tree rs items left
    h i l.went l.is c.publish.ensures.same.0 c.drop_ref.ensures.same.0 c.drop_ref.ensures.refs c.drop_ref.ensures.chain on back

pub returns-clause-same_seat : goal.returns-clause-same_seat
returns-clause-same_seat c =
    let l = live (goal.at.returns-clause-same_seat c).After-publish in
    let a = l.went.same_seat in
    let b = c.drop_ref.ensures.chain.owns_more.same_seat in
    record { number = b.number ∙ a.number; out = b.out ∙ a.out; size = b.size ∙ a.size }
