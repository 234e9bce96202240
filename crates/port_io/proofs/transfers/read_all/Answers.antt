use Rattle.std.proofs.Common.{arith}
use Rattle.port_io.proofs.Bytes.{Consumes-more}
use Rattle.port_io.proofs.transfers.read_all.Goals as goal

pub loop-filled-preserved : goal.loop-filled-preserved
loop-filled-preserved g c =
    let read = c.in_ok-n.ensures in
    let old = c.loop-filled.bytes.items in
    let new = c.read_more.new.bytes.items in
    let more = Consumes-more _ _ _ old new c.loop-filled.filled c.in_ok-n.n read.front c.loop-filled.invariant.2 read.taken in
    (read.within, read.bounded, more, omega (arith, read.never_falls))
