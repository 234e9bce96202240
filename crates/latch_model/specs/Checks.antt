-- What a check of latches and a cause of poison are asked.
use Rattle.std.specs.Prelude.{Bool, true, false, List}
use Rattle.std.specs.List.{list_any}
use Rattle.latch_model.specs.Latches.{lies_in_latch}
use Rattle.latch_model.specs.declared.history.Cause.{Cause}
use Rattle.latch_model.specs.declared.history.Cause.TheVariants.{None as no_cause, Called, From}
use Rattle.latch_model.specs.declared.latch.Latch.{Latch}

-- A latch may be asked for where it lies in one of the declared latches.
abbrev pub is_declared : List Latch → Latch → Bool
is_declared declared l = list_any (lies_in_latch l) declared

-- A request is poisoned where it has a cause.
abbrev pub has_cause : Cause → Bool
has_cause no_cause = false
has_cause Called = true
has_cause (From p) = true
