-- Where a list of latches is.
use Rattle.std.specs.Prelude.{List}
use Rattle.std.specs.Arc.{arc_value}
use Rattle.latch_model.specs.declared.latch.Home.{Home}
use Rattle.latch_model.specs.declared.latch.Home.TheVariants.{Own, Shared}
use Rattle.latch_model.specs.declared.latch.Latch.{Latch}

-- the latches, whether one owner has them or several
abbrev pub latches_at : Home → List Latch
latches_at (Own list) = list.items
latches_at (Shared list) = (arc_value list).items
