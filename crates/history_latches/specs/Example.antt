-- A history of three requests, as the tests run it.
use Rattle.std.specs.Prelude.{ℕ, List, [], ◌∷◌, ◌++◌}
use Rattle.latch_model.specs.Histories.{Begin, entry_of}
use Rattle.latch_model.specs.declared.history.Cause.TheVariants.{None as no_cause}
use Rattle.latch_model.specs.declared.history.Entry.{Entry}
use Rattle.latch_model.specs.declared.history.Entry.TheVariants.{Ended}
use Rattle.latch_model.specs.declared.history.Fault.TheVariants.{None as no_fault}
use Rattle.latch_model.specs.declared.history.Grant.TheVariants.{Never}
use Rattle.latch_model.specs.declared.history.Sizes.{Sizes}
use Rattle.latch_model.specs.declared.latch.Latch.{Latch}
use Rattle.latch_model.specs.declared.latch.Mode.{Mode}
use Rattle.latch_model.specs.declared.latch.Mode.TheVariants.{Acquire, Optimistic, Look}
use Rattle.latch_model.specs.declared.latch.Policy.TheVariants.{Wait}

-- place for two latches, and for three requests
abbrev pub three_sizes : Sizes
three_sizes = record { latches = 2; lanes = 3; rows = 208 }

-- a request of the session 1
abbrev pub asked : ℕ → ℕ → Mode → List Latch → Begin
asked id lane mode ls = record { id = id; lane = lane; who = 1; mode = mode; request = record { tag = 0; policy = Wait; latches = ls } }

-- its end without a grant
abbrev pub ended : ℕ → Entry
ended id = Ended id 1 Never no_cause no_fault

-- the first acquires its latches, the second is optimistic, and the third looks
abbrev pub one_begun : List Latch → List Entry
one_begun first = entry_of (asked 1 0 Acquire first) ∷ []

abbrev pub two_begun : List Latch → List Latch → List Entry
two_begun first second = one_begun first ++ entry_of (asked 2 1 Optimistic second) ∷ []

abbrev pub three_begun : List Latch → List Latch → List Latch → List Entry
three_begun first second look = two_begun first second ++ entry_of (asked 3 2 Look look) ∷ []

-- the first ends, then the look, and then the second
abbrev pub one_ended : List Latch → List Latch → List Latch → List Entry
one_ended first second look = three_begun first second look ++ ended 1 ∷ []

abbrev pub two_ended : List Latch → List Latch → List Latch → List Entry
two_ended first second look = one_ended first second look ++ ended 3 ∷ []

abbrev pub all_ended : List Latch → List Latch → List Latch → List Entry
all_ended first second look = two_ended first second look ++ ended 2 ∷ []
