use Rattle.std.proofs.Common.{take, arith, subst}
use Rattle.std.proofs.lemmas.List.{take_rest}
use Rattle.std.specs.Io.KnownBytes.{Appends}
use Rattle.port_io.proofs.Bytes.{Appends-more}
use Rattle.port_io.proofs.transfers.write_piece.Goals as goal

pub loop-done-preserved : goal.loop-done-preserved
loop-done-preserved g c =
    let piece = c.args.piece.now in
    let n = c.in_ok-done.field-0 in
    let write = c.in_ok-done.ensures in
    let rest = take_rest piece c.loop-done.done in
    let next = subst (λ l. Appends (g.O.Sink.written c.loop-done.sink) (g.O.Sink.written c.write.new.self) (take n l)) rest write.appended in
    let more = Appends-more _ _ _ piece c.loop-done.done n c.loop-done.invariant.1 next in
    (omega (arith, write.within), more, omega (arith, write.never_falls))
