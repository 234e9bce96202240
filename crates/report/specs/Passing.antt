-- For private clauses: a pass over a history beside the prerequisites of its requests.
use Rattle.std.specs.Prelude.{◌≡◌, ℕ, Bool, true, false, List, [], ◌∷◌}
use Rattle.latch_model.specs.Histories.{before}
use Rattle.latch_model.specs.declared.history.Entry.{Entry}
use Rattle.latch_model.specs.declared.history.Entry.TheVariants.{Begun, Ended}

-- these are the prerequisites of the request that an entry begins
abbrev pub ArePrerequisites : List Entry → List ℕ → Entry → Type 0
ArePrerequisites h ids (Begun id lane who mode request) = ids ≡ before h id
ArePrerequisites h ids (Ended id who grant poison fault) = Unit {0}

-- what stands between an object and the one before it
abbrev pub comma_unless : Bool → List ℕ
comma_unless true = []
comma_unless false = 44 ∷ []

-- whether nothing has been passed
abbrev pub is_nil : {X : Type 0} → List X → Bool
is_nil [] = true
is_nil (x ∷ xs) = false
