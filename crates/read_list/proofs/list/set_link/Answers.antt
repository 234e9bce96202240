use Rattle.std.proofs.Common.{arith}
use Rattle.read_list.proofs.Links.{named-low}
use Rattle.read_list.proofs.list.set_link.Goals as goal

pub overflow_cast-neighbour : goal.overflow_cast-neighbour
overflow_cast-neighbour c =
    let a = named-low c.args.seat.now.view c.args.neighbour c.known.ensures c.requires.neighbour in omega arith
