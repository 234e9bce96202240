use Rattle.std.proofs.Common.{◌≡◌, ℕ, suc, Some, List, sym, refl, subst}
use Rattle.row_pool.specs.Trees.{Tree as Row, tree_word}
use Rattle.row_pool.specs.Views.{Reaches}
use Rattle.row_pool.specs.Changes.{tree_of, with_ref}
use Rattle.latch_item.specs.Shape.{RefersTo}
use Rattle.interval_tree.proofs.Growing.{root-reached, with-root}
use Rattle.interval_tree.proofs.tree.Tree.snapshot.Goals as goal
use Rattle.interval_tree.proofs.tree.Tree.snapshot.Goals.{After-hold}

-- the tree's root, which the seat refers to
pub hold-requires-clause-reach : goal.hold-requires-clause-reach
hold-requires-clause-reach c =
    let root = c.in-Some.root in let v = c.args.seat.now.view in
    let (xs, k) = c.requires.tree in
    let r = subst (λ r. RefersTo v r c.args.self.now.height xs) c.in-Some.is k.refers in (tree_of root v.refs, root-reached v root r.0, r.0)

pub returns-in-None-clause-shot : goal.returns-in-None-clause-shot
returns-in-None-clause-shot c = λ xs k.
    (subst (λ r. RefersTo c.args.seat.now.view r c.args.self.now.height xs) c.in-None.is k.refers, refl)

-- the view with the further reference, and what the seat then refers to
held : (c : After-hold) → (root : ℕ) (xs : List Row) → RefersTo c.args.seat.now.view (Some root) c.args.self.now.height xs
    → ((t : Row) → tree_word t ≡ suc root → Reaches c.args.seat.now.view t
    → c.hold.new.seat.view ≡ with_ref t c.args.seat.now.view) → RefersTo c.hold.new.seat.view (Some root) c.args.self.now.height xs
held c root xs r hold =
    let v = c.args.seat.now.view in
    with-root v c.hold.new.seat.view root c.args.self.now.height xs (hold (tree_of root v.refs) r.0 (root-reached v root r.0)) r

pub returns-in-Some-clause-shot : goal.returns-in-Some-clause-shot
returns-in-Some-clause-shot c = λ xs k.
    let r = subst (λ r. RefersTo c.args.seat.now.view r c.args.self.now.height xs) c.in-Some.is k.refers in
    (held (goal.at.returns-in-Some-clause-shot c).After-hold c.in-Some.root xs r c.hold.ensures.view, refl)

pub returns-in-Some-clause-tree : goal.returns-in-Some-clause-tree
returns-in-Some-clause-tree c = λ xs k.
    let r = subst (λ r. RefersTo c.args.seat.now.view r c.args.self.now.height xs) c.in-Some.is k.refers in
    record {
      refers = subst (λ r. RefersTo c.hold.new.seat.view r c.args.self.now.height xs) (sym c.in-Some.is)
          (held (goal.at.returns-in-Some-clause-tree c).After-hold c.in-Some.root xs r c.hold.ensures.view);
      many = k.many;
      low = k.low;
    }

pub returns-in-Some-clause-reference : goal.returns-in-Some-clause-reference
returns-in-Some-clause-reference c =
    let root = c.in-Some.root in let v = c.args.seat.now.view in
    let (xs, k) = c.requires.tree in
    let r = subst (λ r. RefersTo v r c.args.self.now.height xs) c.in-Some.is k.refers in
    λ q e. let here : root ≡ q = cc in
    subst (λ (z : ℕ). c.hold.new.seat.view ≡ with_ref (tree_of z v.refs) v) here (c.hold.ensures.view (tree_of root v.refs) r.0 (root-reached v root r.0))
