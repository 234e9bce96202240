use Rattle.std.proofs.Common.{[], arith, subst, suc, sym, ℕ, ◌-◌, ◌∷◌, ◌≡◌, ◌≤◌}
use Rattle.interval_tree.specs.Held.{HasRoom}
use Rattle.tree_shrink.proofs.Mending.{just-least, roomy-less, weigh-right, weighs-right}
use Rattle.tree_shrink.proofs.Seams.{right-of}
use Rattle.tree_shrink.specs.Steps.{FromRight, RightIs, SpendsAll}
use Rattle.tree_shrink.proofs.mend.mend_right.Goals as goal
use Rattle.tree_shrink.proofs.mend.mend_right.Goals.{After-is_rich}

pub is_rich-requires-clause-child : goal.is_rich-requires-clause-child
is_rich-requires-clause-child c =
    let (h, xs, ps, ys, qs, R, low, o, poor) = c.requires.poor in
    let r = right-of (suc h) c.args.n ps qs c.args.i o.slot c.requires.low.0 in
    weigh-right o r (let a = c.requires.low.1 in let b = c.requires.low.0 in omega arith)

pub from_right-requires-clause-state : goal.from_right-requires-clause-state
from_right-requires-clause-state c =
    let (h, xs, ps, ys, qs, R, low, o, poor) = c.requires.poor in
    let r = right-of (suc h) c.args.n ps qs c.args.i o.slot c.requires.low.0 in
    subst (λ v. (n : ℕ) × RightIs (λ k. 16 ≤ k) v c.args.row c.args.child c.args.i n) (sym c.is_rich.ensures.same.1)
    (c.args.n, (h, xs, ps, ys, qs, R, low, o, r, weighs-right (λ k. 16 ≤ k) o r (c.is_rich.ensures.rich c.if-is_rich.true), poor))

pub merge_right-requires-clause-state : goal.merge_right-requires-clause-state
merge_right-requires-clause-state c =
    let (h, xs, ps, ys, qs, R, low, o, poor) = c.requires.poor in
    let r = right-of (suc h) c.args.n ps qs c.args.i o.slot c.requires.low.0 in
    subst (λ v. RightIs (λ k. k ≡ 15) v c.args.row c.args.child c.args.i c.args.n) (sym c.is_rich.ensures.same.1)
    (h, xs, ps, ys, qs, R, low, o, r, just-least h r.part (weighs-right (λ k. k ≤ 15) o r (c.is_rich.ensures.poor c.if-is_rich.false)), poor)

pub from_right-requires-clause-room : goal.from_right-requires-clause-room
from_right-requires-clause-room c = subst (λ v. HasRoom 1 v c.args.chain.now) (sym c.is_rich.ensures.same.1) c.requires.room

pub merge_right-requires-clause-room : goal.merge_right-requires-clause-room
merge_right-requires-clause-room c = subst (λ v. HasRoom 1 v c.args.chain.now) (sym c.is_rich.ensures.same.1) c.requires.room

pub returns-then-is_rich-clause-roomy : goal.returns-then-is_rich-clause-roomy
returns-then-is_rich-clause-roomy c = λ h xs ps ys qs R low o poor.
    let r = right-of (suc h) c.args.n ps qs c.args.i o.slot c.requires.low.0 in
    let f = subst (λ v. (n : ℕ) → FromRight (λ k. 16 ≤ k) v c.from_right.new.seat.view c.args.row c.args.child c.args.i n n) c.is_rich.ensures.same.1
    c.from_right.ensures.roomy in
    roomy-less h c.from_right.new.seat.view c.args.row c.args.n (c.args.n - 1) c.args.child c.args.i xs ps ys qs R (omega arith)
    (f c.args.n h xs ps ys qs R low o r (weighs-right (λ k. 16 ≤ k) o r (c.is_rich.ensures.rich c.if-is_rich.true)) poor)

pub returns-then-is_rich-clause-spends : goal.returns-then-is_rich-clause-spends
returns-then-is_rich-clause-spends c = subst (λ v. SpendsAll 1 (c.args.row ∷ c.args.child ∷ []) (c.args.row ∷ c.args.child ∷ []) v c.from_right.new.seat.view
    c.args.chain.now c.from_right.new.chain) c.is_rich.ensures.same.1 c.from_right.ensures.spends

pub returns-else-is_rich-clause-roomy : goal.returns-else-is_rich-clause-roomy
returns-else-is_rich-clause-roomy c = λ h xs ps ys qs R low o poor.
    let r = right-of (suc h) c.args.n ps qs c.args.i o.slot c.requires.low.0 in
    let f = subst (λ v. FromRight (λ k. k ≡ 15) v c.merge_right.new.seat.view c.args.row c.args.child c.args.i c.args.n (c.args.n - 1)) c.is_rich.ensures.same.1
    c.merge_right.ensures.roomy in
    f h xs ps ys qs R low o r (just-least h r.part (weighs-right (λ k. k ≤ 15) o r (c.is_rich.ensures.poor c.if-is_rich.false))) poor

pub returns-else-is_rich-clause-spends : goal.returns-else-is_rich-clause-spends
returns-else-is_rich-clause-spends c = subst (λ v. SpendsAll 1 (c.args.row ∷ c.args.child ∷ []) (c.args.row ∷ c.args.child ∷ []) v c.merge_right.new.seat.view
    c.args.chain.now c.merge_right.new.chain) c.is_rich.ensures.same.1 c.merge_right.ensures.spends
