use Rattle.std.proofs.Common.{◌≡◌, ℕ, ◌<◌, Some}
use Rattle.latch_manager.specs.Waiting.{StillWaits}
use Rattle.latch_manager.proofs.wait.until_granted.Given as goal

-- The request is the same but for what it learnt, the patience hasn't refused, and there are turns left where there is a limit.
abbrev pub invariant-loop : goal.invariant-loop
invariant-loop g l =
    (goal.iterator-loop g).can_next l.iterator' × (goal.iterator-loop g).is_finite l.iterator'
    × (l.waiting.core ≡ l.initial.waiting.core)
    × StillWaits l.initial.waiting.r l.waiting.r
    × (g.P.Patience.refusals l.patience ≡ g.P.Patience.refusals l.initial.patience)
    × (g.P.Patience.limit l.patience ≡ g.P.Patience.limit l.initial.patience)
    × ((n : ℕ) → g.P.Patience.limit l.initial.patience ≡ Some n → l.initial.waiting.turns < n → l.waiting.turns < n)
