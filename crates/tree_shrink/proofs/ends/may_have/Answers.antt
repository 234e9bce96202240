use Rattle.std.proofs.Common.{List, subst, sym, ℕ, ⊎_elim, ◌∙◌, ◌≢◌}
use Rattle.row_pool.specs.Trees.{Tree}
use Rattle.latch_item.specs.Items.{HasItem, Item, item_of}
use Rattle.latch_item.specs.Shape.{Among}
use Rattle.interval_tree.proofs.Greatest.{has-item, item-at}
use Rattle.interval_tree.specs.States.{Greatest}
use Rattle.tree_shrink.proofs.Lending.{carried-kid, differs, lt-less, not-below, part-none}
use Rattle.tree_shrink.specs.Stages.{Carried}
use Rattle.tree_shrink.proofs.ends.may_have.Goals as goal
use Rattle.tree_shrink.proofs.ends.may_have.Goals.{After-top_of-best, After-bound_cmp}

pub top_of-best-requires-clause-child : goal.top_of-best-requires-clause-child
top_of-best-requires-clause-child c =
    let (h, t, m, u, l, R, up, o) = c.requires.items in let k = carried-kid o c.if-kid-eq0.false in (h, u, l, k.0, k.1, k.2)

best : (c : After-top_of-best) → c.args.kid ≢ 0 → (h : ℕ) (m u : Tree) (l R : List Tree) → Carried h c.args.seat.now.view m u l c.args.item c.args.kid R
    → Greatest c.args.seat.now.view l c.top_of-best.result
best c ne h m u l R o = let k = carried-kid o ne in c.top_of-best.ensures.top h u l k.0 k.1 k.2

pub bound_cmp-requires-clause-one : goal.bound_cmp-requires-clause-one
bound_cmp-requires-clause-one c =
    let (h, t, m, u, l, R, up, o) = c.requires.items in
    let g = best (goal.at.bound_cmp-requires-clause-one c).After-top_of-best c.if-kid-eq0.false h m u l R o in
    subst (λ v. (x : Item) × HasItem v c.top_of-best.result x) (sym c.top_of-best.ensures.same.1)
    (has-item c.args.seat.now.view g.item c.top_of-best.result g.reached)

pub bound_cmp-requires-clause-other : goal.bound_cmp-requires-clause-other
bound_cmp-requires-clause-other c =
    let (h, t, m, u, l, R, up, o) = c.requires.items in
    subst (λ v. (x : Item) × HasItem v c.args.top x) (sym c.top_of-best.ensures.same.1) (has-item c.args.seat.now.view t c.args.top up)

pub returns-then-kid-eq0-clause-not : goal.returns-then-kid-eq0-clause-not
returns-then-kid-eq0-clause-not c = λ no h t m u l R up o a. ⊎_elim (λ e. differs m t c.args.top c.args.item up.1 o.item_is c.if-top-item.false e)
    (λ b. subst (Among t) (part-none h u l o.part (o.kid_is ∙ c.if-kid-eq0.true)) b) a

pub returns-clause-not : goal.returns-clause-not
returns-clause-not c = λ no h t m u l R up o a.
    let v = c.args.seat.now.view in
    let g = best (goal.at.returns-clause-not c).After-top_of-best c.if-kid-eq0.false h m u l R o in
    let same = sym c.top_of-best.ensures.same.1 in
    let order = c.bound_cmp.ensures.order (item_of g.item) (item_of t) (subst (λ v. HasItem v c.top_of-best.result (item_of g.item)) same
    (item-at v g.item c.top_of-best.result g.reached)) (subst (λ v. HasItem v c.args.top (item_of t)) same (item-at v t c.args.top up)) in
    ⊎_elim (λ e. differs m t c.args.top c.args.item up.1 o.item_is c.if-top-item.false e)
    (λ b. not-below g.item t l g.greatest (sym order ∙ lt-less c.is_lt.result c.bound_cmp.result c.is_lt.ensures no) b) a
