-- The lines of a step run, as its functions write them.
use Rattle.std.specs.Prelude.{ℕ, Bool, true, false, List, [], ◌∷◌, ◌++◌, codes, decimal}
use Rattle.latch_model.specs.Histories.{HeldLatch}
use Rattle.report.specs.Words.{marked}
use Rattle.sequence_core.specs.declared.metrics.Counts.{Counts}

abbrev pub named_line : List ℕ → List ℕ → List ℕ
named_line name words = name ++ 32 ∷ words ++ codes "\n"

-- words, and a held latch as snapshots list it, with the number of its request
abbrev pub met_text : List ℕ → HeldLatch → List ℕ
met_text words x = words ++ decimal x.by ++ 32 ∷ marked x.latch.span x.latch.stamp

abbrev pub counts_line : Counts → List ℕ
counts_line c = codes " read " ++ decimal c.read ++ codes " pending " ++ decimal c.pending ++ codes " write " ++ decimal c.write

-- the line of a cause that spread, if one did
abbrev pub spread_text : Bool → List ℕ → ℕ → List ℕ
spread_text true name by = named_line name (codes "spreads " ++ decimal by)
spread_text false name by = []
