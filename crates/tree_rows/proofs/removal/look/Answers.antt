use Rattle.tree_rows.proofs.Shrinking.{stays-then}
use Rattle.tree_rows.proofs.removal.look.Goals as goal

pub child_at-second-requires-clause-stand : goal.child_at-second-requires-clause-stand
child_at-second-requires-clause-stand c =
    let (n, g) = c.requires.stand in let chain = c.args.chain.now in (chain, n, (c.child_at-first.ensures.stays chain).stand n g)

pub child_at-third-requires-clause-stand : goal.child_at-third-requires-clause-stand
child_at-third-requires-clause-stand c =
    let (n, g) = c.requires.stand in let chain = c.args.chain.now in
    (chain, n, (c.child_at-second.ensures.stays chain).stand n ((c.child_at-first.ensures.stays chain).stand n g))

pub returns : goal.returns
returns c =
    let p = c.args.rows.now in let s = c.args.seat.now in let e = c.args.chain.now in let t = c.args.tree.now in
    record {
      stays = stays-then p s c.child_at-second.new.seat c.child_at-third.new.seat e e e t t t
          (stays-then p s c.child_at-first.new.seat c.child_at-second.new.seat e e e t t t (c.child_at-first.ensures.stays e)
          (c.child_at-second.ensures.stays e))
          (c.child_at-third.ensures.stays e);
    }
