-- The rows that are free and not set aside.
use Rattle.std.proofs.Common.{◌≡◌, ℕ, ◌+◌, ◌-◌, ◌≤◌, subst, arith}
use Rattle.span_key.specs.declared.scopes.Scope.TheVariants.{Global, Local}
use Rattle.latch_model.specs.Histories.{Snapshot}
use Rattle.held_latches.specs.Holding.{HasSpare, Holds, free_of}
use Rattle.held_latches.specs.declared.held.HeldLatches.{HeldLatches}
use Rattle.held_latches.proofs.Counting.{aside-many}
use Rattle.held_latches.proofs.Scoped.{has-content}

pub all_spare : (h : HeldLatches) (s : Snapshot) (n : ℕ) → Holds h s n → HasSpare h s n (free_of h)
all_spare h s n o =
    let a = aside-many h.global o.global (has-content Global h o.global o.local o.kept) in
    let b = aside-many h.local o.local (has-content Local h o.global o.local o.kept) in
    record { holds = o; spare = (let f = o.kept.set_aside in omega arith) }

pub most_spare : (h : HeldLatches) (s : Snapshot) (n k : ℕ) → HasSpare h s n k → k ≤ free_of h
most_spare h s n k o =
    let a = aside-many h.global o.holds.global (has-content Global h o.holds.global o.holds.local o.holds.kept) in
    let b = aside-many h.local o.holds.local (has-content Local h o.holds.global o.holds.local o.holds.kept) in
    let f = o.spare in
    omega arith

-- what is left beside those that are needed
pub needed_spare : (h : HeldLatches) (s : Snapshot) (n need : ℕ) → Holds h s n → need ≤ free_of h → HasSpare h s n (need + (free_of h - need))
needed_spare h s n need o enough =
    let all : free_of h ≡ need + (free_of h - need) = omega arith in
    subst (HasSpare h s n) all (all_spare h s n o)
