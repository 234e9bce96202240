use Rattle.std.proofs.Common.{List, [], ap, append-nil, arith, length, length-append, refl, replicate, subst, suc, sym, zero, ℕ, ◌++◌, ◌∙◌, ◌∷◌, ◌≡◌, ◌≤◌}
use Rattle.std.specs.Prelude.{None, Option, Some}
use Rattle.row_pool.specs.SeatView.{SeatView}
use Rattle.row_pool.specs.Trees.{Tree, nil, tree_word}
use Rattle.latch_item.specs.Shape.{Among, Sorted}
use Rattle.interval_tree.proofs.Fresh.{node-most}
use Rattle.interval_tree.proofs.Leading.{Cut, placed}
use Rattle.interval_tree.proofs.Weaves.{sorted-items}
use Rattle.interval_tree.specs.Held.{OwnsNode}
use Rattle.tree_shrink.proofs.Descending.{flat-lead, leaf-items}
use Rattle.tree_shrink.proofs.Finding.{found-here}
use Rattle.tree_shrink.proofs.Reaching.{leaf-many, named-item}
use Rattle.tree_shrink.proofs.Seams.{flat-of}
use Rattle.tree_shrink.specs.Slots.{Flat}
use Rattle.tree_shrink.specs.Stages.{Aim, Aimed, Last, Way}
use Rattle.tree_shrink.proofs.descent.way.Goals as goal
use Rattle.tree_shrink.proofs.descent.way.Goals.{After-place, After-count_of-n}

-- what is to go, where it is named
named : {h row kind n item : ℕ} {v : SeatView} {goal : Option ℕ} {us xs R : List Tree} {it : Tree} → goal ≡ Some item → Aimed h v row goal kind n us xs it R
    → (tree_word it ≡ suc item) × Among it xs
named {h} {row} {kind} {n} {item} {v} {goal} {us} {xs} {R} {it} e a = subst (λ g. Aim g it xs) e a.aim

-- and where it is the last one
last : {h row kind n : ℕ} {v : SeatView} {goal : Option ℕ} {us xs R : List Tree} {it : Tree} → goal ≡ None → Aimed h v row goal kind n us xs it R → Last it xs
last {h} {row} {kind} {n} {v} {goal} {us} {xs} {R} {it} e a = subst (λ g. Aim g it xs) e a.aim

flat-owns : {h row kind n : ℕ} {v : SeatView} {us xs : List Tree} → (f : Flat h kind n us xs) → OwnsNode v row kind n us
    → OwnsNode v row kind n (f.top ∷ (f.its ++ (replicate f.free nil ++ (f.ks ++ replicate f.free nil))))
flat-owns {h} {row} {kind} {n} {v} {us} {xs} f o = subst (OwnsNode v row kind n) (flat-lead h kind n us xs f) o

flat-sorted : {h kind n : ℕ} {us xs : List Tree} → (f : Flat h kind n us xs) → Sorted xs → Sorted f.its
flat-sorted f s = sorted-items f.its f.yss (subst Sorted f.list s)

pub place-requires-clause-node : goal.place-requires-clause-node
place-requires-clause-node c =
    let (kind, n, us, xs, it, R, a) = c.requires.aimed in
    let h = c.args.height in let f = flat-of h kind n us xs a.node in (
      kind,
      n,
      f.top,
      f.its,
      replicate f.free nil ++ (f.ks ++ replicate f.free nil),
      it,
      flat-owns f a.owns,
      f.count,
      (let b = f.full in omega arith),
      f.items,
      flat-sorted f a.sorted,
      named-item c.args.seat.now.view h c.args.row kind n c.in-Some.item us xs it a.owns a.node (named c.in-Some.is a),
    )

-- the place of the item among those of the node
found : (c : After-place) → (kind n : ℕ) (us xs : List Tree) (it : Tree) (R : List Tree) → (f : Flat c.args.height kind n us xs)
    → Aimed c.args.height c.args.seat.now.view c.args.row c.args.goal kind n us xs it R → Cut it f.its c.place.result
found c kind n us xs it R f a = placed it f.its c.place.result (c.place.ensures.place kind n f.top f.its
    (replicate f.free nil ++ (f.ks ++ replicate f.free nil)) it (flat-owns f a.owns) f.count (let b = f.full in omega arith) f.items (flat-sorted f a.sorted)
    (named-item c.args.seat.now.view c.args.height c.args.row kind n c.in-Some.item us xs it a.owns a.node (named c.in-Some.is a)))

-- in a leaf the item is at its place
in-leaf : (h kind n i : ℕ) (us xs : List Tree) (it : Tree) (f : Flat h kind n us xs) → h ≡ 0 → Among it xs → Sorted xs → Cut it f.its i
    → (is js : List Tree) × (xs ≡ is ++ it ∷ js) × (length is ≡ i)
in-leaf zero kind n i us xs it f z among sorted q =
    let whole : xs ≡ q.is ++ q.js = sym (leaf-items kind n us xs f) ∙ q.split in
    let here = found-here it q.is q.js (subst Sorted whole sorted) (subst (Among it) whole among) q.before q.stops in
    (q.is, here.0, whole ∙ ap (λ l. q.is ++ l) here.1, q.at)
in-leaf (suc h) kind n i us xs it f z among sorted q = absurd (omega arith)

pub returns-in-Some-clause-leaf : goal.returns-in-Some-clause-leaf
returns-in-Some-clause-leaf c = λ z kind n us xs it R a.
    let f = flat-of c.args.height kind n us xs a.node in
    in-leaf c.args.height kind n c.place.result us xs it f z (named c.in-Some.is a).1 a.sorted
    (found (goal.at.returns-in-Some-clause-leaf c).After-place kind n us xs it R f a)

pub returns-in-Some-clause-inner : goal.returns-in-Some-clause-inner
returns-in-Some-clause-inner c = λ z kind n us xs it R f a.
    let q = found (goal.at.returns-in-Some-clause-inner c).After-place kind n us xs it R f a in
    (q.is, q.js, q.split, q.at, subst (λ g. Way g it q.is q.js) (sym c.in-Some.is) (q.before, q.stops))

-- ---- the last one
counted : (c : After-count_of-n) → (kind n : ℕ) (us xs R : List Tree) (it : Tree)
    → Aimed c.args.height c.args.seat.now.view c.args.row c.args.goal kind n us xs it R → (c.count_of-n.result ≡ n) × (1 ≤ n) × (n ≤ 31)
counted c kind n us xs R it a =
    (c.count_of-n.ensures.count kind n us a.owns, a.some_items, node-most c.args.height kind n us xs a.node)

pub overflow_cast-n : goal.overflow_cast-n
overflow_cast-n c =
    let (kind, n, us, xs, it, R, a) = c.requires.aimed in
    let (e, low, most) = counted (goal.at.overflow_cast-n c).After-count_of-n kind n us xs R it a in omega arith

pub overflow_sub-result : goal.overflow_sub-result
overflow_sub-result c =
    let (kind, n, us, xs, it, R, a) = c.requires.aimed in
    let (e, low, most) = counted (goal.at.overflow_sub-result c).After-count_of-n kind n us xs R it a in omega arith

pub returns-then-height-eq0-clause-low : goal.returns-then-height-eq0-clause-low
returns-then-height-eq0-clause-low c =
    let (kind, n, us, xs, it, R, a) = c.requires.aimed in
    let (e, low, most) = counted (goal.at.returns-then-height-eq0-clause-low c).After-count_of-n kind n us xs R it a in omega arith

pub returns-else-height-eq0-clause-low : goal.returns-else-height-eq0-clause-low
returns-else-height-eq0-clause-low c =
    let (kind, n, us, xs, it, R, a) = c.requires.aimed in
    let (e, low, most) = counted (goal.at.returns-else-height-eq0-clause-low c).After-count_of-n kind n us xs R it a in omega arith

pub returns-then-height-eq0-clause-leaf : goal.returns-then-height-eq0-clause-leaf
returns-then-height-eq0-clause-leaf c = λ z kind n us xs it R a.
    let l = last c.in-None.is a in
    let (e, low, most) = counted (goal.at.returns-then-height-eq0-clause-leaf c).After-count_of-n kind n us xs R it a in
    (l.0, [], l.1, (let p = leaf-many c.args.height kind n us xs a.node z in let q = ap length l.1 in let r = length-append l.0 (it ∷ []) in omega arith))

pub returns-else-height-eq0-clause-inner : goal.returns-else-height-eq0-clause-inner
returns-else-height-eq0-clause-inner c = λ z kind n us xs it R f a.
    let (e, low, most) = counted (goal.at.returns-else-height-eq0-clause-inner c).After-count_of-n kind n us xs R it a in
    (f.its, [], sym (append-nil f.its), f.count ∙ sym e, subst (λ g. Way g it f.its []) (sym c.in-None.is) refl)
