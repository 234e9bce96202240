use Rattle.std.proofs.Common.{◌≡◌, ◌+◌, ◌-◌, ◌<◌, ℕ, List, suc, ap, sym, subst, ◌∙◌, arith}
use Rattle.row_pool.specs.Trees.{Tree, tree_word}
use Rattle.row_pool.specs.Views.{Reaches}
use Rattle.row_pool.specs.SeatState.{SeatState}
use Rattle.interval_tree.specs.Nodes.{LevelKid}
use Rattle.interval_tree.specs.States.{ReachesItem}
use Rattle.interval_tree.specs.Steps.{HasChildren, BestBelow}
use Rattle.interval_tree.proofs.Greatest.{Picks, TopOf, child-at, child-reached, both-tops, children-next, best-children, no-children}
use Rattle.interval_tree.proofs.bounds.+best_below.Goals as goal

pub row_at-child-requires-clause-link : goal.row_at-child-requires-clause-link
row_at-child-requires-clause-link t c =
    child-at c.args.seat.now.view c.args.row c.args.k c.args.n c.args.best (let a = c.if-n-eq0.false in omega arith) c.requires.links

pub top_of-top-requires-clause-child : goal.top_of-top-requires-clause-child
top_of-top-requires-clause-child t c =
    subst (λ v. (h : ℕ) × (x : Tree) × (ys : List Tree) × Reaches v x × (tree_word x ≡ suc c.row_at-child.result) × LevelKid h x ys)
    (sym c.row_at-child.ensures.same.1)
    (child-reached c.args.seat.now.view c.args.row c.args.k c.args.n c.args.best c.row_at-child.result (let a = c.if-n-eq0.false in omega arith)
    c.row_at-child.ensures.row c.requires.links)

pub greater-better-requires-clause-items : goal.greater-better-requires-clause-items
greater-better-requires-clause-items t c =
    let same = c.top_of-top.ensures.same.1 ∙ c.row_at-child.ensures.same.1 in
    subst (λ v. (s t : Tree) × ReachesItem v s c.args.best × ReachesItem v t c.top_of-top.result) (sym same)
    (both-tops c.args.seat.now.view c.args.row c.args.k c.args.n c.args.best c.row_at-child.result c.top_of-top.result
    (let a = c.if-n-eq0.false in omega arith) c.row_at-child.ensures.row
    (subst (λ v. TopOf v c.row_at-child.result c.top_of-top.result) c.row_at-child.ensures.same.1 c.top_of-top.ensures.top) c.requires.links)

pub best_below-requires : goal.best_below-requires
best_below-requires t c =
    let two = c.top_of-top.ensures.same.1 ∙ c.row_at-child.ensures.same.1 in
    let same = ap (λ (s : SeatState). s.view) c.greater-better.ensures.same ∙ two in
    let low : 0 < c.args.n = (let a = c.if-n-eq0.false in omega arith) in (
      let claim : c.args.n ≡ t = c.decreases in omega arith,
      (
        ap (λ (s : SeatState). s.table) c.greater-better.ensures.same ∙ c.top_of-top.ensures.same.0 ∙ c.row_at-child.ensures.same.0 ∙ c.requires.table,
        subst (λ v. HasChildren v c.args.row (c.args.k + 1) (c.args.n - 1) c.greater-better.result) (sym same)
            (children-next c.args.seat.now.view c.args.row c.args.k c.args.n c.args.best c.row_at-child.result c.top_of-top.result c.greater-better.result low
            c.row_at-child.ensures.row (subst (λ v. TopOf v c.row_at-child.result c.top_of-top.result) c.row_at-child.ensures.same.1 c.top_of-top.ensures.top)
            (subst (λ v. Picks v c.args.best c.top_of-top.result c.greater-better.result) two c.greater-better.ensures.best) c.requires.links),
      ),
    )

pub returns-then-n-eq0-clause-best : goal.returns-then-n-eq0-clause-best
returns-then-n-eq0-clause-best t c = no-children c.args.seat.now.view c.args.row c.args.k c.args.n c.args.best c.if-n-eq0.true

pub returns-clause-best : goal.returns-clause-best
returns-clause-best t c =
    let two = c.top_of-top.ensures.same.1 ∙ c.row_at-child.ensures.same.1 in
    let same = ap (λ (s : SeatState). s.view) c.greater-better.ensures.same ∙ two in
    best-children c.args.seat.now.view c.args.row c.args.k c.args.n c.args.best c.row_at-child.result c.top_of-top.result c.greater-better.result
    c.best_below.result (let a = c.if-n-eq0.false in omega arith) c.row_at-child.ensures.row
    (subst (λ v. TopOf v c.row_at-child.result c.top_of-top.result) c.row_at-child.ensures.same.1 c.top_of-top.ensures.top)
    (subst (λ v. Picks v c.args.best c.top_of-top.result c.greater-better.result) two c.greater-better.ensures.best)
    (subst (λ v. BestBelow v c.args.row (c.args.k + 1) (c.args.n - 1) c.greater-better.result c.best_below.result) same c.best_below.ensures.best)
