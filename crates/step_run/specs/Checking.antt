-- What a check of an optimistic request writes and leaves.
use Rattle.std.specs.Prelude.{◌≡◌, ℕ, not, List, [], ◌∷◌, ◌++◌, position, codes, decimal, Option, Some, None}
use Rattle.latch_model.specs.Checks.{is_declared}
use Rattle.latch_model.specs.Histories.{HeldLatch, met_in}
use Rattle.latch_model.specs.declared.latch.Latch.{Latch}
use Rattle.waiter.specs.Says.{OptimistSays}
use Rattle.step_run.specs.Texts.{met_text, named_line}

-- the latches of the check that stands afterwards, and the line
abbrev pub checked_met : List ℕ → List Latch → List HeldLatch → List ℕ
checked_met name asked [] = named_line name (codes "clear")
checked_met name asked (x ∷ xs) = named_line name (met_text (codes "met ") x)

abbrev pub passed_met : List Latch → List HeldLatch → Option (List Latch)
passed_met asked [] = Some asked
passed_met asked (x ∷ xs) = None

abbrev pub checked_text : OptimistSays → List ℕ → List Latch → Option ℕ → List ℕ
checked_text o name asked (Some index) = named_line name (codes "undeclared " ++ decimal index)
checked_text o name asked None = checked_met name asked (met_in o.r.shot asked)

abbrev pub passed_then : OptimistSays → List Latch → Option ℕ → Option (List Latch)
passed_then o asked (Some index) = o.passed
passed_then o asked None = passed_met asked (met_in o.r.shot asked)

abbrev pub undeclared : OptimistSays → List Latch → Option ℕ
undeclared o asked = position (λ l. not (is_declared o.r.request.latches l)) asked

pub record ChecksAs (old new : OptimistSays) (name : List ℕ) (asked : List Latch) (before after : List ℕ) : Type 0 where
  pub core : new.core ≡ old.core
  pub request : new.r ≡ old.r
  pub passed : new.passed ≡ passed_then old asked (undeclared old asked)
  pub written : after ≡ before ++ checked_text old name asked (undeclared old asked)
