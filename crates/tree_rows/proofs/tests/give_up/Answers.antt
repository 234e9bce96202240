use Rattle.std.proofs.Common.{◌∙◌}
use Rattle.tree_rows.proofs.Planting.{owns-grows, first-ref, second-ref, no-ref, is-twice}
use Rattle.tree_rows.proofs.tests.give_up.Goals as goal

pub drop_ref-requires-clause-reference : goal.drop_ref-requires-clause-reference
drop_ref-requires-clause-reference c =
    let h = c.requires.stand.2 in
    first-ref c.in-Some.root c.args.seat.now.view.refs (is-twice c.args.shot.now.root c.in-Some.root c.args.seat.now.view.refs c.in-Some.is h.twice)

pub drop_ref-requires-clause-table : goal.drop_ref-requires-clause-table
drop_ref-requires-clause-table c = c.requires.stand.2.owns.table

pub drop_ref-requires-clause-chain : goal.drop_ref-requires-clause-chain
drop_ref-requires-clause-chain c = let g = c.requires.stand in (g.0, g.2.owns.chain)

pub drop_ref-requires-in-Some-clause-reference : goal.drop_ref-requires-in-Some-clause-reference
drop_ref-requires-in-Some-clause-reference c =
    let h = c.requires.stand.2 in
    second-ref c.in-Some.root c.args.seat.now.view.refs c.drop_ref.new.seat.view.refs
    (is-twice c.args.shot.now.root c.in-Some.root c.args.seat.now.view.refs c.in-Some.is h.twice) c.drop_ref.ensures.refs

pub drop_ref-requires-in-Some-clause-table : goal.drop_ref-requires-in-Some-clause-table
drop_ref-requires-in-Some-clause-table c = c.drop_ref.ensures.same.0 ∙ c.requires.stand.2.owns.table

pub drop_ref-requires-in-Some-clause-chain : goal.drop_ref-requires-in-Some-clause-chain
drop_ref-requires-in-Some-clause-chain c =
    let g = c.requires.stand in
    let o = owns-grows c.args.rows.now c.args.seat.now c.drop_ref.new.seat c.args.chain.now c.drop_ref.new.chain g.0 g.2.owns c.drop_ref.ensures.same.0
    c.drop_ref.ensures.chain in
    (o.0, o.1.chain)

pub returns-in-Some-clause-owns : goal.returns-in-Some-clause-owns
returns-in-Some-clause-owns c =
    let g = c.requires.stand in
    let o = owns-grows c.args.rows.now c.args.seat.now c.drop_ref.new.seat c.args.chain.now c.drop_ref.new.chain g.0 g.2.owns c.drop_ref.ensures.same.0
    c.drop_ref.ensures.chain in
    let p = owns-grows c.args.rows.now c.drop_ref.new.seat c.drop_ref-in-Some.new.seat c.drop_ref.new.chain c.drop_ref-in-Some.new.chain o.0 o.1
    c.drop_ref-in-Some.ensures.same.0 c.drop_ref-in-Some.ensures.chain in (
      p.0,
      p.1,
      no-ref c.in-Some.root c.args.seat.now.view.refs c.drop_ref.new.seat.view.refs c.drop_ref-in-Some.new.seat.view.refs
          (is-twice c.args.shot.now.root c.in-Some.root c.args.seat.now.view.refs c.in-Some.is g.2.twice) c.drop_ref.ensures.refs
          c.drop_ref-in-Some.ensures.refs,
    )

pub returns-in-Some-clause-same_seat : goal.returns-in-Some-clause-same_seat
returns-in-Some-clause-same_seat c =
    let a = c.drop_ref.ensures.chain.owns_more.same_seat in
    let b = c.drop_ref-in-Some.ensures.chain.owns_more.same_seat in
    record { number = b.number ∙ a.number; out = b.out ∙ a.out; size = b.size ∙ a.size }
