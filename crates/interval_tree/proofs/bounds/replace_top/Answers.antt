use Rattle.std.proofs.Common.{◌≡◌, ◌≢◌, ℕ, suc, List, [], ◌∷◌, ◌∙◌}
use Rattle.row_pool.specs.Trees.{Tree, tree_word}
use Rattle.row_pool.specs.Views.{Reaches}
use Rattle.interval_tree.specs.Held.{OwnsNode}
use Rattle.interval_tree.proofs.Frames.{spends-others}
use Rattle.interval_tree.proofs.Topping.{Swapped, replace-swap, swapped-top, old-named, Replaced, replaced-some, replaced-none}
use Rattle.interval_tree.proofs.bounds.replace_top.Goals as goal
use Rattle.interval_tree.proofs.bounds.replace_top.Goals.{After-swap-old, After-drop_ref}

pub hold-requires-clause-reach : goal.hold-requires-clause-reach
hold-requires-clause-reach c = let (kind, n, u, us, t, o, up, here) = c.requires.node in (t, up, here)

pub swap-old-requires-clause-link : goal.swap-old-requires-clause-link
swap-old-requires-clause-link c =
    let (kind, n, u, us, t, o, up, here) = c.requires.node in
    replace-swap c.args.seat.now.view c.hold.new.seat.view c.args.row c.args.item kind n u t us o here (c.hold.ensures.view t here up) c.requires.few

swapped : (c : After-swap-old) → (kind n : ℕ) (u t : Tree) (us : List Tree) → OwnsNode c.args.seat.now.view c.args.row kind n (u ∷ us)
    → Reaches c.args.seat.now.view t → tree_word t ≡ suc c.args.item
    → Swapped c.args.seat.now.view c.swap-old.new.seat.view c.args.row kind n c.swap-old.result u t us
swapped c kind n u t us o up here = swapped-top c.args.seat.now.view c.hold.new.seat.view c.swap-old.new.seat.view c.args.row c.args.item kind n
    c.swap-old.result u t us o here (c.hold.ensures.view t here up) c.swap-old.ensures.node c.swap-old.ensures.others

pub drop_ref-requires-clause-reference : goal.drop_ref-requires-clause-reference
drop_ref-requires-clause-reference c =
    let (kind, n, u, us, t, o, up, here) = c.requires.node in
    old-named c.args.seat.now.view c.swap-old.new.seat.view c.args.row kind n c.swap-old.result u t us
    (swapped (goal.at.drop_ref-requires-clause-reference c).After-swap-old kind n u t us o up here) c.if-old-ne0.true

pub drop_ref-requires-clause-chain : goal.drop_ref-requires-clause-chain
drop_ref-requires-clause-chain c =
    let (kind, n, u, us, t, o, up, here) = c.requires.node in let (rs, h) = c.requires.chain in
    let s = swapped (goal.at.drop_ref-requires-clause-chain c).After-swap-old kind n u t us o up here in
    let a = spends-others c.args.seat.now.view c.swap-old.new.seat.view c.args.row kind n (u ∷ us) c.args.chain.now [] rs o s.others h in
    (a.left, a.chain)

replaced : (c : After-drop_ref) → c.swap-old.result ≢ 0 → (kind n : ℕ) (u t : Tree) (us : List Tree) → OwnsNode c.args.seat.now.view c.args.row kind n (u ∷ us)
    → Reaches c.args.seat.now.view t → tree_word t ≡ suc c.args.item
    → Replaced c.args.seat.now.view c.drop_ref.new.seat.view c.args.row kind n t us c.args.chain.now c.drop_ref.new.chain
replaced c ne kind n u t us o up here =
    let s = swapped-top c.args.seat.now.view c.hold.new.seat.view c.swap-old.new.seat.view c.args.row c.args.item kind n c.swap-old.result u t us o here
    (c.hold.ensures.view t here up) c.swap-old.ensures.node c.swap-old.ensures.others in
    replaced-some c.args.seat.now.view c.swap-old.new.seat.view c.drop_ref.new.seat.view c.args.row kind n c.swap-old.result u t us c.args.chain.now
    c.drop_ref.new.chain o s ne c.drop_ref.ensures.refs c.drop_ref.ensures.chain

pub returns-then-old-ne0-clause-same : goal.returns-then-old-ne0-clause-same
returns-then-old-ne0-clause-same c =
    let (kind, n, u, us, t, o, up, here) = c.requires.node in (
      c.drop_ref.ensures.same.0 ∙ c.swap-old.ensures.table ∙ c.hold.ensures.same.0,
      (replaced (goal.at.returns-then-old-ne0-clause-same c).After-drop_ref c.if-old-ne0.true kind n u t us o up here).refs,
    )

pub returns-then-old-ne0-clause-node : goal.returns-then-old-ne0-clause-node
returns-then-old-ne0-clause-node c = λ kind n u us t o up here.
    (replaced (goal.at.returns-then-old-ne0-clause-node c).After-drop_ref c.if-old-ne0.true kind n u t us o up here).owns

pub returns-then-old-ne0-clause-spends : goal.returns-then-old-ne0-clause-spends
returns-then-old-ne0-clause-spends c =
    let (kind, n, u, us, t, o, up, here) = c.requires.node in
    (replaced (goal.at.returns-then-old-ne0-clause-spends c).After-drop_ref c.if-old-ne0.true kind n u t us o up here).spends

gone : (c : After-swap-old) → c.swap-old.result ≡ 0 → (kind n : ℕ) (u t : Tree) (us : List Tree) → OwnsNode c.args.seat.now.view c.args.row kind n (u ∷ us)
    → Reaches c.args.seat.now.view t → tree_word t ≡ suc c.args.item
    → Replaced c.args.seat.now.view c.swap-old.new.seat.view c.args.row kind n t us c.args.chain.now c.args.chain.now
gone c e kind n u t us o up here = replaced-none c.args.seat.now.view c.swap-old.new.seat.view c.args.row kind n c.swap-old.result u t us c.args.chain.now o
    (swapped c kind n u t us o up here) e

pub returns-else-old-ne0-clause-same : goal.returns-else-old-ne0-clause-same
returns-else-old-ne0-clause-same c =
    let (kind, n, u, us, t, o, up, here) = c.requires.node in (
      c.swap-old.ensures.table ∙ c.hold.ensures.same.0,
      (gone (goal.at.returns-else-old-ne0-clause-same c).After-swap-old c.if-old-ne0.false kind n u t us o up here).refs,
    )

pub returns-else-old-ne0-clause-node : goal.returns-else-old-ne0-clause-node
returns-else-old-ne0-clause-node c = λ kind n u us t o up here.
    (gone (goal.at.returns-else-old-ne0-clause-node c).After-swap-old c.if-old-ne0.false kind n u t us o up here).owns

pub returns-else-old-ne0-clause-spends : goal.returns-else-old-ne0-clause-spends
returns-else-old-ne0-clause-spends c =
    let (kind, n, u, us, t, o, up, here) = c.requires.node in
    (gone (goal.at.returns-else-old-ne0-clause-spends c).After-swap-old c.if-old-ne0.false kind n u t us o up here).spends
