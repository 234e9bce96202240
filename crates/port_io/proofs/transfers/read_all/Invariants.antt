-- The first `filled` bytes of the list were taken, and the list is at most one byte longer than the limit.
use Rattle.std.proofs.Common.{◌+◌, ◌-◌, ◌≤◌, take, vec_len}
use Rattle.std.specs.Io.KnownBytes.{Consumes}
use Rattle.port_io.proofs.transfers.read_all.Given as goal

abbrev pub invariant-loop-filled : goal.invariant-loop-filled
invariant-loop-filled g l =
    (l.filled ≤ vec_len l.bytes) × (vec_len l.bytes ≤ l.limit + 1)
    × Consumes (g.S.Source.left l.initial.source) (g.S.Source.left l.source) (take l.filled l.bytes.items)
    × (g.S.Source.faults l.initial.source ≤ g.S.Source.faults l.source)

abbrev pub decreases-loop-filled : goal.decreases-loop-filled
decreases-loop-filled g l = l.limit + 1 - l.filled
