-- Shots that captured nothing, in the tests.
use Rattle.std.specs.Prelude.{[]}
use Rattle.latch_model.specs.Histories.{Snapshot}

abbrev pub nothing : Snapshot
nothing = record { global_reads = []; global_writes = []; local_reads = []; local_writes = [] }
