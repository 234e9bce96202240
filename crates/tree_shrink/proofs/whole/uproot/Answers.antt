use Rattle.std.proofs.Common.{List, ap, suc, ℕ, ◌++◌, ◌∙◌, ◌∷◌, ◌≡◌}
use Rattle.std.specs.Prelude.{Some}
use Rattle.row_pool.specs.Changes.{tree_of, with_ref, without_tree}
use Rattle.row_pool.specs.Trees.{Tree, tree_word}
use Rattle.latch_item.specs.Shape.{Among, RefersTo}
use Rattle.tree_shrink.proofs.Reaching.{held-grows, item-left, item-reached, root-beside, uprooted}
use Rattle.tree_shrink.proofs.whole.uproot.Goals as goal
use Rattle.tree_shrink.proofs.whole.uproot.Goals.{After-drop_ref, After-hold}

pub hold-requires-clause-reach : goal.hold-requires-clause-reach
hold-requires-clause-reach c =
    let (height, xs, it, r, among, is) = c.requires.tree in (it, item-reached c.args.seat.now.view c.args.root height xs it r among, is)

-- the item is held once more
held : (c : After-hold) → (height : ℕ) (xs : List Tree) (it : Tree) → RefersTo c.args.seat.now.view (Some c.args.root) height xs → Among it xs
    → tree_word it ≡ suc c.args.item → c.hold.new.seat.view ≡ with_ref it c.args.seat.now.view
held c height xs it r among is = c.hold.ensures.view it is (item-reached c.args.seat.now.view c.args.root height xs it r among)

-- and the root is given up
given : (c : After-drop_ref) → (height : ℕ) (xs : List Tree) (it : Tree) → RefersTo c.args.seat.now.view (Some c.args.root) height xs → Among it xs
    → tree_word it ≡ suc c.args.item → c.hold.new.seat.view ≡ with_ref it c.args.seat.now.view
    → c.drop_ref.new.seat.view.refs ≡ without_tree c.args.root (it ∷ c.args.seat.now.view.refs)
given c height xs it r among is e = c.drop_ref.ensures.refs ∙ ap (λ v. without_tree c.args.root v.refs) e

pub drop_ref-requires-clause-reference : goal.drop_ref-requires-clause-reference
drop_ref-requires-clause-reference c =
    let (height, xs, it, r, among, is) = c.requires.tree in
    let e = held (goal.at.drop_ref-requires-clause-reference c).After-hold height xs it r among is in
    ap (λ v. tree_word (tree_of c.args.root v.refs)) e ∙ root-beside c.args.root it c.args.seat.now.view.refs r.0

pub drop_ref-requires-clause-chain : goal.drop_ref-requires-clause-chain
drop_ref-requires-clause-chain c =
    let (height, xs, it, r, among, is) = c.requires.tree in let (rs, h) = c.requires.chain in
    let e = held (goal.at.drop_ref-requires-clause-chain c).After-hold height xs it r among is in
    let f = held-grows c.args.seat.now.view c.hold.new.seat.view it c.args.chain.now e in (f.more ++ rs, f.chain rs h)

pub drop_ref-requires-2-clause-reference : goal.drop_ref-requires-2-clause-reference
drop_ref-requires-2-clause-reference c =
    let (height, xs, it, r, among, is) = c.requires.tree in let at = goal.at.drop_ref-requires-2-clause-reference c in
    let g = given at.After-drop_ref height xs it r among is (held at.After-hold height xs it r among is) in
    ap (λ ts. tree_word (tree_of c.args.item ts)) g ∙ (item-left c.args.root c.args.item it c.args.seat.now.view.refs r.0 is).0

pub drop_ref-requires-2-clause-chain : goal.drop_ref-requires-2-clause-chain
drop_ref-requires-2-clause-chain c =
    let (height, xs, it, r, among, is) = c.requires.tree in let (rs, h) = c.requires.chain in
    let e = held (goal.at.drop_ref-requires-2-clause-chain c).After-hold height xs it r among is in
    let f = held-grows c.args.seat.now.view c.hold.new.seat.view it c.args.chain.now e in let g = c.drop_ref.ensures.chain in
    (g.more ++ (f.more ++ rs), g.chain (f.more ++ rs) (f.chain rs h))

pub returns-clause-same : goal.returns-clause-same
returns-clause-same c =
    let (height, xs, it, r, among, is) = c.requires.tree in let at = goal.at.returns-clause-same c in
    let g = given at.After-drop_ref height xs it r among is (held at.After-hold height xs it r among is) in (
      c.drop_ref-2.ensures.same.0 ∙ c.drop_ref.ensures.same.0 ∙ c.hold.ensures.same.0,
      c.drop_ref-2.ensures.refs ∙ ap (without_tree c.args.item) g ∙ (item-left c.args.root c.args.item it c.args.seat.now.view.refs r.0 is).1,
    )

pub returns-clause-spends : goal.returns-clause-spends
returns-clause-spends c = λ rs h.
    let (height, xs, it, r, among, is) = c.requires.tree in
    uprooted c.args.seat.now.view c.hold.new.seat.view c.drop_ref.new.seat.view c.drop_ref-2.new.seat.view it c.args.chain.now c.drop_ref.new.chain
    c.drop_ref-2.new.chain rs (held (goal.at.returns-clause-spends c).After-hold height xs it r among is) c.drop_ref.ensures.chain
    c.drop_ref-2.ensures.chain h
