use Rattle.std.proofs.Common.{sym, ◌∙◌}
use Rattle.tree_rows.proofs.Shrinking.{chain-joined, planted-back, planted-joined, returned}
use Rattle.tree_rows.proofs.removal.give_back.Goals as goal

pub drop_ref-requires-clause-reference : goal.drop_ref-requires-clause-reference
drop_ref-requires-clause-reference c =
    let (n, g) = c.requires.stand in
    (returned c.args.rows.now c.args.seat.now c.join.new.seat c.args.held c.args.chain.now c.args.tree.now c.args.kept.now n c.in-Some.root g c.requires.held
    c.join.ensures.view c.known.ensures (sym c.root.ensures ∙ c.in-Some.is)).found

pub drop_ref-requires-clause-chain : goal.drop_ref-requires-clause-chain
drop_ref-requires-clause-chain c =
    let (n, g) = c.requires.stand in (
      g.0,
      (chain-joined c.args.rows.now c.args.seat.now c.join.new.seat c.args.held c.args.chain.now c.args.tree.now c.args.kept.now n g c.requires.held
          c.join.ensures.same.0 c.join.ensures.view).chain,
    )

pub returns-in-Some-clause-stand : goal.returns-in-Some-clause-stand
returns-in-Some-clause-stand c = λ n g.
    planted-back c.args.rows.now c.args.seat.now c.join.new.seat c.args.held c.drop_ref.new.seat c.args.chain.now c.drop_ref.new.chain c.args.tree.now
    c.args.kept.now n c.in-Some.root g c.requires.held c.join.ensures.same.0 c.join.ensures.view c.known.ensures (sym c.root.ensures ∙ c.in-Some.is)
    c.drop_ref.ensures.same.0 c.drop_ref.ensures.refs c.drop_ref.ensures.chain

pub returns-in_default-clause-stand : goal.returns-in_default-clause-stand
returns-in_default-clause-stand c = λ n g.
    planted-joined c.args.rows.now c.args.seat.now c.join.new.seat c.args.held c.args.chain.now c.args.tree.now c.args.kept.now n g c.requires.held
    c.join.ensures.same.0 c.join.ensures.view (sym c.root.ensures ∙ c.in_default.is)
