use Rattle.std.proofs.Common.{[], arith, subst, suc, sym, ℕ, ◌+◌, ◌-◌, ◌∷◌, ◌≡◌, ◌≤◌}
use Rattle.interval_tree.specs.Held.{HasRoom}
use Rattle.tree_shrink.proofs.Mending.{just-least, roomy-less, weigh-left, weighs-left}
use Rattle.tree_shrink.proofs.Seams.{left-of}
use Rattle.tree_shrink.specs.Steps.{FromLeft, IsPoor, LeftIs, Mends, SpendsAll}
use Rattle.tree_shrink.proofs.mend.mend_left.Goals as goal
use Rattle.tree_shrink.proofs.mend.mend_left.Goals.{After-is_rich}

pub is_rich-requires-clause-child : goal.is_rich-requires-clause-child
is_rich-requires-clause-child c =
    let (h, xs, ps, ys, qs, R, low, o, poor) = c.requires.poor in
    let l = left-of (suc h) c.args.n ps qs (c.args.b + 1) c.args.b o.slot (omega arith) in
    weigh-left o l (let a = c.requires.low.1 in let b = c.requires.low.0 in omega arith)

pub from_left-requires-clause-state : goal.from_left-requires-clause-state
from_left-requires-clause-state c =
    let (h, xs, ps, ys, qs, R, low, o, poor) = c.requires.poor in
    let l = left-of (suc h) c.args.n ps qs (c.args.b + 1) c.args.b o.slot (omega arith) in
    subst (λ v. (n : ℕ) × LeftIs (λ k. 16 ≤ k) v c.args.row c.args.child c.args.b n) (sym c.is_rich.ensures.same.1)
    (c.args.n, (h, xs, ps, ys, qs, R, low, o, l, weighs-left (λ k. 16 ≤ k) o l (c.is_rich.ensures.rich c.if-is_rich.true), poor))

pub merge_left-requires-clause-state : goal.merge_left-requires-clause-state
merge_left-requires-clause-state c =
    let (h, xs, ps, ys, qs, R, low, o, poor) = c.requires.poor in
    let l = left-of (suc h) c.args.n ps qs (c.args.b + 1) c.args.b o.slot (omega arith) in
    subst (λ v. LeftIs (λ k. k ≡ 15) v c.args.row c.args.child c.args.b c.args.n) (sym c.is_rich.ensures.same.1)
    (h, xs, ps, ys, qs, R, low, o, l, just-least h l.part (weighs-left (λ k. k ≤ 15) o l (c.is_rich.ensures.poor c.if-is_rich.false)), poor)

pub mend_right-requires-clause-poor : goal.mend_right-requires-clause-poor
mend_right-requires-clause-poor c = subst (λ v. IsPoor v c.args.row c.args.child (c.args.b + 1) c.args.n) (sym c.is_rich.ensures.same.1) c.requires.poor

pub from_left-requires-clause-room : goal.from_left-requires-clause-room
from_left-requires-clause-room c = subst (λ v. HasRoom 1 v c.args.chain.now) (sym c.is_rich.ensures.same.1) c.requires.room

pub merge_left-requires-clause-room : goal.merge_left-requires-clause-room
merge_left-requires-clause-room c = subst (λ v. HasRoom 1 v c.args.chain.now) (sym c.is_rich.ensures.same.1) c.requires.room

pub mend_right-requires-clause-room : goal.mend_right-requires-clause-room
mend_right-requires-clause-room c = subst (λ v. HasRoom 1 v c.args.chain.now) (sym c.is_rich.ensures.same.1) c.requires.room

pub returns-then-is_rich-clause-roomy : goal.returns-then-is_rich-clause-roomy
returns-then-is_rich-clause-roomy c = λ h xs ps ys qs R low o poor.
    let l = left-of (suc h) c.args.n ps qs (c.args.b + 1) c.args.b o.slot (omega arith) in
    let f = subst (λ v. (n : ℕ) → FromLeft (λ k. 16 ≤ k) v c.from_left.new.seat.view c.args.row c.args.child c.args.b n c.args.child (c.args.b + 1) n)
    c.is_rich.ensures.same.1 c.from_left.ensures.roomy in
    roomy-less h c.from_left.new.seat.view c.args.row c.args.n (c.args.n - 1) c.args.child (c.args.b + 1) xs ps ys qs R (omega arith)
    (f c.args.n h xs ps ys qs R low o l (weighs-left (λ k. 16 ≤ k) o l (c.is_rich.ensures.rich c.if-is_rich.true)) poor)

pub returns-then-is_rich-clause-spends : goal.returns-then-is_rich-clause-spends
returns-then-is_rich-clause-spends c = subst (λ v. SpendsAll 1 (c.args.row ∷ c.args.child ∷ []) (c.args.row ∷ c.args.child ∷ []) v c.from_left.new.seat.view
    c.args.chain.now c.from_left.new.chain) c.is_rich.ensures.same.1 c.from_left.ensures.spends

pub returns-then-b-n-clause-roomy : goal.returns-then-b-n-clause-roomy
returns-then-b-n-clause-roomy c = λ h xs ps ys qs R low o poor.
    let l = left-of (suc h) c.args.n ps qs (c.args.b + 1) c.args.b o.slot (omega arith) in
    let f = subst (λ v. FromLeft (λ k. k ≡ 15) v c.merge_left.new.seat.view c.args.row c.args.child c.args.b c.args.n c.merge_left.result c.args.b (c.args.n
    - 1))
    c.is_rich.ensures.same.1 c.merge_left.ensures.roomy in
    f h xs ps ys qs R low o l (just-least h l.part (weighs-left (λ k. k ≤ 15) o l (c.is_rich.ensures.poor c.if-is_rich.false))) poor

pub returns-clause-roomy : goal.returns-clause-roomy
returns-clause-roomy c = subst (λ v. Mends v c.mend_right.new.seat.view c.args.row c.args.child (c.args.b + 1) c.args.n c.args.child (c.args.b + 1))
    c.is_rich.ensures.same.1 c.mend_right.ensures.roomy

pub returns-then-b-n-clause-spends : goal.returns-then-b-n-clause-spends
returns-then-b-n-clause-spends c = subst (λ v. SpendsAll 1 (c.args.row ∷ c.args.child ∷ []) (c.args.row ∷ c.merge_left.result ∷ []) v c.merge_left.new.seat.view
    c.args.chain.now c.merge_left.new.chain) c.is_rich.ensures.same.1 c.merge_left.ensures.spends

pub returns-clause-spends : goal.returns-clause-spends
returns-clause-spends c = subst (λ v. SpendsAll 1 (c.args.row ∷ c.args.child ∷ []) (c.args.row ∷ c.args.child ∷ []) v c.mend_right.new.seat.view
    c.args.chain.now c.mend_right.new.chain) c.is_rich.ensures.same.1 c.mend_right.ensures.spends
