use Rattle.tree_rows.proofs.Shrinking.{stays-then}
use Rattle.tree_rows.proofs.removal.shrink.Goals as goal

pub is_just-listed-requires : goal.is_just-listed-requires
is_just-listed-requires c =
    let (n, g) = c.requires.stand in
    record { stand = (c.go-went.new.chain, n, c.go-went.ensures.stays.stand n (c.loop-turn.invariant.stand n g)) }

pub loop-turn-preserved : goal.loop-turn-preserved
loop-turn-preserved c =
    let p = c.args.rows.now in let s = c.args.seat.now in let t = c.args.tree.now in
    stays-then p s c.go-went.new.seat c.is_just-listed.new.seat c.args.chain.now c.go-went.new.chain c.go-went.new.chain t c.go-went.new.tree
    c.go-went.new.tree
    (stays-then p s c.loop-turn.seat c.go-went.new.seat c.args.chain.now c.loop-turn.chain c.go-went.new.chain t c.loop-turn.tree c.go-went.new.tree
    c.loop-turn.invariant c.go-went.ensures.stays) (c.is_just-listed.ensures.stays c.go-went.new.chain)
