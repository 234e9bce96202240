use Rattle.std.proofs.Common.{List, ap, arith, subst, sym, ℕ, ◌-◌, ◌∙◌, ◌≡◌, ◌≤◌}
use Rattle.row_pool.specs.SeatState.{SeatState}
use Rattle.row_pool.specs.Trees.{Tree, nil}
use Rattle.interval_tree.specs.Held.{OwnsNode}
use Rattle.tree_shrink.proofs.Mending.{open-place, poor-open, roomy-now}
use Rattle.tree_shrink.specs.Slots.{slot_links}
use Rattle.tree_shrink.specs.Stages.{Open, Roomy}
use Rattle.tree_shrink.proofs.mend.roomy_below.Goals as goal
use Rattle.tree_shrink.proofs.mend.roomy_below.Goals.{After-count_of, After-count_of-n}

pub returns-then-count_of-gt-LEAST-clause-roomy : goal.returns-then-count_of-gt-LEAST-clause-roomy
returns-then-count_of-gt-LEAST-clause-roomy c = λ h n xs ps ys qs R low least o.
    subst (λ (s : SeatState). Roomy h s.view c.args.row (n - 1) c.args.child c.args.i xs ps ys qs R) (sym c.count_of.ensures.same)
    (roomy-now h c.args.seat.now.view c.args.row n c.args.child c.args.i xs ps ys qs R o
    (let a = c.count_of.ensures.count o.sort o.count o.below o.owns_child in let b = c.if-count_of-gt-LEAST.true in omega arith))

-- the child has 15 items, and the number of the node's was read
read : (c : After-count_of-n) → c.count_of.result ≤ 15 → (h n : ℕ) (xs ps ys qs R : List Tree)
    → (o : Open h c.args.seat.now.view c.args.row n c.args.child c.args.i xs ps ys qs R) → (c.count_of-n.result ≡ n)
    × (p : Open h c.count_of-n.new.seat.view c.args.row c.count_of-n.result c.args.child c.args.i xs ps ys qs R) × (p.count ≡ 15)
read c few h n xs ps ys qs R o =
    let e = c.count_of-n.ensures.count 3 n (slot_links o.slot o.top nil)
    (subst (λ (s : SeatState). OwnsNode s.view c.args.row 3 n (slot_links o.slot o.top nil)) (sym c.count_of.ensures.same) o.owns) in
    let z = poor-open h c.args.i xs ps ys qs R (ap (λ (s : SeatState). s.view) (c.count_of-n.ensures.same ∙ c.count_of.ensures.same)) e o
    (let a = c.count_of.ensures.count o.sort o.count o.below o.owns_child in let b = o.least in omega arith) in
    (e, z.0, z.1)

pub overflow_cast-n : goal.overflow_cast-n
overflow_cast-n c =
    let (h, n, xs, ps, ys, qs, R, low, least, o) = c.requires.state in
    let z = read (goal.at.overflow_cast-n c).After-count_of-n c.if-count_of-gt-LEAST.false h n xs ps ys qs R o in
    let a = z.0 in let b = (open-place h c.args.seat.now.view c.args.row n c.args.child c.args.i xs ps ys qs R o).1 in omega arith

pub mend-requires-clause-low : goal.mend-requires-clause-low
mend-requires-clause-low c =
    let (h, n, xs, ps, ys, qs, R, low, least, o) = c.requires.state in
    let e = (read (goal.at.mend-requires-clause-low c).After-count_of-n c.if-count_of-gt-LEAST.false h n xs ps ys qs R o).0 in
    let z = open-place h c.args.seat.now.view c.args.row n c.args.child c.args.i xs ps ys qs R o in
    (omega arith, (let a = z.0 in omega arith), (let a = z.1 in omega arith))

pub mend-requires-clause-poor : goal.mend-requires-clause-poor
mend-requires-clause-poor c =
    let (h, n, xs, ps, ys, qs, R, low, least, o) = c.requires.state in
    let z = read (goal.at.mend-requires-clause-poor c).After-count_of-n c.if-count_of-gt-LEAST.false h n xs ps ys qs R o in
    (h, xs, ps, ys, qs, R, low, z.1, z.2)

pub returns-clause-roomy : goal.returns-clause-roomy
returns-clause-roomy c = λ h n xs ps ys qs R low least o.
    let z = read (goal.at.returns-clause-roomy c).After-count_of-n c.if-count_of-gt-LEAST.false h n xs ps ys qs R o in
    subst (λ k. Roomy h c.mend.new.seat.view c.args.row (k - 1) c.mend.result.0 c.mend.result.1 xs ps ys qs R) z.0
    (c.mend.ensures.roomy h xs ps ys qs R low z.1 z.2)
