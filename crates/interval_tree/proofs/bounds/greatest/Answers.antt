use Rattle.std.proofs.Common.{◌≡◌, ◌<◌, ◌-◌, ℕ, List, ◌∷◌, ◌++◌, length, ap, sym, subst, ◌∙◌, arith}
use Rattle.row_pool.specs.Trees.{Tree, tree_word}
use Rattle.row_pool.specs.SeatState.{SeatState}
use Rattle.latch_item.specs.Shape.{Sorted}
use Rattle.interval_tree.specs.Held.{OwnsNode}
use Rattle.interval_tree.specs.Nodes.{Body, Many}
use Rattle.interval_tree.specs.States.{Best}
use Rattle.interval_tree.specs.Steps.{LeadsTo, HasItems, BestItem, HasChildren, BestBelow}
use Rattle.interval_tree.proofs.Topping.{Meets, meets, body-most, meets-items, meets-best, meets-children, meets-found}
use Rattle.interval_tree.proofs.bounds.greatest.Goals as goal
use Rattle.interval_tree.proofs.bounds.greatest.Goals.{After-count_of-n, After-child_count-children, After-row_at-last, After-best_item-item}

-- the loads change nothing that the seat knows
after-count : (c : After-child_count-children) → c.child_count-children.new.seat.view ≡ c.args.seat.now.view
after-count c = ap (λ (s : SeatState). s.view) (c.child_count-children.ensures.same ∙ c.count_of-n.ensures.same)

after-last : (c : After-row_at-last) → c.row_at-last.new.seat.view ≡ c.args.seat.now.view
after-last c = c.row_at-last.ensures.same.1 ∙ ap (λ (s : SeatState). s.view) (c.child_count-children.ensures.same ∙ c.count_of-n.ensures.same)

after-item : (c : After-best_item-item) → c.best_item-item.new.seat.view ≡ c.args.seat.now.view
after-item c = c.best_item-item.ensures.same.1 ∙ c.row_at-last.ensures.same.1
    ∙ ap (λ (s : SeatState). s.view) (c.child_count-children.ensures.same ∙ c.count_of-n.ensures.same)

pub overflow_cast-n : goal.overflow_cast-n
overflow_cast-n c =
    let (h, kind, n, us, xs, o, b, some_items, sorted) = c.requires.node in
    let a = c.count_of-n.ensures.count kind n us o in let m = body-most h kind n us xs b in omega arith

pub child_count-children-requires-clause-node : goal.child_count-children-requires-clause-node
child_count-children-requires-clause-node c =
    subst (λ (s : SeatState). (h kind n : ℕ) × (us xs : List Tree) × OwnsNode s.view c.args.row kind n us × Body h kind n us xs) (sym c.count_of-n.ensures.same)
    (let (h, kind, n, us, xs, o, b, some_items, sorted) = c.requires.node in (h, kind, n, us, xs, o, b))

pub row_at-last-requires-clause-link : goal.row_at-last-requires-clause-link
row_at-last-requires-clause-link c =
    let (h, kind, n, us, xs, o, b, some_items, sorted) = c.requires.node in
    let m = meets h kind n us xs b some_items in
    let count = c.count_of-n.ensures.count kind n us o in
    subst (λ v. (kind n : ℕ) × (us vs : List Tree) × (u : Tree) × OwnsNode v c.args.row kind n (us ++ u ∷ vs) × (length us ≡ c.count_of-n.result)
    × (c.count_of-n.result < 64) × (0 < tree_word u))
    (sym (after-count (goal.at.row_at-last-requires-clause-link c).After-child_count-children)) (
      kind,
      n,
      m.top ∷ m.its,
      m.vs,
      m.last,
      subst (OwnsNode c.args.seat.now.view c.args.row kind n) m.one o,
      m.few ∙ sym count,
      (let a = m.low in omega arith),
      let a = m.latch.here in omega arith,
    )

pub overflow_sub-n : goal.overflow_sub-n
overflow_sub-n c =
    let (h, kind, n, us, xs, o, b, some_items, sorted) = c.requires.node in let a = c.count_of-n.ensures.count kind n us o in omega arith

-- the last item is at the place that the count says
leads : (c : After-row_at-last) → (n : ℕ) → c.count_of-n.result ≡ n → LeadsTo c.args.seat.now.view c.args.row n c.row_at-last.result
leads c n e = subst (λ k. LeadsTo c.args.seat.now.view c.args.row k c.row_at-last.result) e
    (subst (λ v. LeadsTo v c.args.row c.count_of-n.result c.row_at-last.result)
    (ap (λ (s : SeatState). s.view) (c.child_count-children.ensures.same ∙ c.count_of-n.ensures.same)) c.row_at-last.ensures.row)

pub best_item-item-requires-clause-links : goal.best_item-item-requires-clause-links
best_item-item-requires-clause-links c =
    let (h, kind, n, us, xs, o, b, some_items, sorted) = c.requires.node in
    let m = meets h kind n us xs b some_items in
    let at = (goal.at.best_item-item-requires-clause-links c).After-row_at-last in
    subst (λ v. HasItems v c.args.row 1 (c.count_of-n.result - 1) c.row_at-last.result) (sym (after-last at))
    (subst (λ k. HasItems c.args.seat.now.view c.args.row 1 (k - 1) c.row_at-last.result) (sym (c.count_of-n.ensures.count kind n us o))
    (meets-items c.args.seat.now.view c.args.row h kind n c.row_at-last.result us xs m o (leads at n (c.count_of-n.ensures.count kind n us o)) sorted))

-- the best of the node's items
best-of : (c : After-best_item-item) → (h kind n : ℕ) (us xs : List Tree) (m : Meets h kind n us xs) → OwnsNode c.args.seat.now.view c.args.row kind n us
    → Sorted xs → Best c.args.seat.now.view m.last m.its c.best_item-item.result
best-of c h kind n us xs m o sorted =
    let last : c.row_at-last.new.seat.view ≡ c.args.seat.now.view = c.row_at-last.ensures.same.1
    ∙ ap (λ (s : SeatState). s.view) (c.child_count-children.ensures.same ∙ c.count_of-n.ensures.same) in
    meets-best c.args.seat.now.view c.args.row h kind n c.row_at-last.result c.best_item-item.result us xs m o
    (subst (λ k. LeadsTo c.args.seat.now.view c.args.row k c.row_at-last.result) (c.count_of-n.ensures.count kind n us o)
    (subst (λ v. LeadsTo v c.args.row c.count_of-n.result c.row_at-last.result)
    (ap (λ (s : SeatState). s.view) (c.child_count-children.ensures.same ∙ c.count_of-n.ensures.same)) c.row_at-last.ensures.row)) sorted
    (subst (λ k. BestItem c.args.seat.now.view c.args.row 1 (k - 1) c.row_at-last.result c.best_item-item.result) (c.count_of-n.ensures.count kind n us o)
    (subst (λ v. BestItem v c.args.row 1 (c.count_of-n.result - 1) c.row_at-last.result c.best_item-item.result) last c.best_item-item.ensures.best))

children : (c : After-best_item-item) → (h kind n : ℕ) (us xs : List Tree) → OwnsNode c.args.seat.now.view c.args.row kind n us → Body h kind n us xs
    → Many h c.child_count-children.result n
children c h kind n us xs o b = c.child_count-children.ensures.count h kind n us xs
    (subst (λ (s : SeatState). OwnsNode s.view c.args.row kind n us) (sym c.count_of-n.ensures.same) o) b

pub best_below-requires-clause-links : goal.best_below-requires-clause-links
best_below-requires-clause-links c =
    let (h, kind, n, us, xs, o, b, some_items, sorted) = c.requires.node in
    let m = meets h kind n us xs b some_items in
    let at = (goal.at.best_below-requires-clause-links c).After-best_item-item in
    subst (λ v. HasChildren v c.args.row 32 c.child_count-children.result c.best_item-item.result) (sym (after-item at))
    (meets-children c.args.seat.now.view c.args.row h kind n c.child_count-children.result c.best_item-item.result us xs m o
    (children at h kind n us xs o b) (best-of at h kind n us xs m o sorted))

pub returns-clause-item : goal.returns-clause-item
returns-clause-item c = λ h kind n us xs o b some_items sorted.
    let m = meets h kind n us xs b some_items in
    let at = (goal.at.returns-clause-item c).After-best_item-item in
    meets-found c.args.seat.now.view c.args.row h kind n c.child_count-children.result c.best_item-item.result c.best_below.result us xs m o
    (children at h kind n us xs o b) (best-of at h kind n us xs m o sorted)
    (subst (λ v. BestBelow v c.args.row 32 c.child_count-children.result c.best_item-item.result c.best_below.result) (after-item at) c.best_below.ensures.best)
