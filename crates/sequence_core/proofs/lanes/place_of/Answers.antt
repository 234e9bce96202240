use Rattle.std.proofs.Common.{refl, nat_lt, rules}
use Rattle.std.proofs.lemmas.List.Sorted.{IsPartitionPoint-from_clause}
use Rattle.sequence_core.specs.Lanes.{with_lane}
use Rattle.sequence_core.proofs.Inserting.{put_at}
use Rattle.sequence_core.proofs.LaneLists.{parted}
use Rattle.sequence_core.proofs.lanes.place_of.Goals as goal

pub returns-clause-place : goal.returns-clause-place
returns-clause-place c =
    let lane = c.args.lane in
    let point = IsPartitionPoint-from_clause (λ m. nat_lt lane m) c.args.free.now c.partition_point.result c.partition_point.ensures.partitioned
    (parted lane c.args.free.now c.requires) (λ x b f k. search rules) in
    put_at (λ m. nat_lt lane m) lane (with_lane lane) refl (λ y ys. refl) c.args.free.now c.partition_point.result c.partition_point.ensures.bound
    point.0 point.1
