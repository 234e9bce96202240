use Rattle.std.proofs.Common.{◌≡◌, ◌<◌, ◌+◌, ◌^◌, ℕ, List, [], ◌∷◌, ◌++◌, length, replicate, ap, sym, refl, subst, ◌∙◌, arith}
use Rattle.row_pool.specs.Trees.{Tree, nil}
use Rattle.row_pool.specs.SeatState.{SeatState}
use Rattle.row_pool.specs.Chains.{IsChain}
use Rattle.interval_tree.specs.Held.{OwnsNode, Spends, HasRoom}
use Rattle.interval_tree.proofs.Frames.{Aside, owns-kept, apart-one}
use Rattle.interval_tree.proofs.Splitting.{cut, first-can, second-can, second-none, middle-can, middle-least, cut-spends}
use Rattle.interval_tree.proofs.bounds.cut_node.Goals as goal
use Rattle.interval_tree.proofs.bounds.cut_node.Goals.{After-kind_of-kind, After-fresh_node-right, After-set_count}

-- the row through the taking of a fresh one
kept : (c : After-fresh_node-right) → (kind : ℕ) (us : List Tree) → OwnsNode c.args.seat.now.view c.args.row kind 31 us
    → Aside c.fresh_node-right.new.seat.view c.args.row kind 31 us (c.fresh_node-right.result ∷ [])
kept c kind us o =
    let (rs, h, many) = c.requires.room in
    let same = ap (λ (s : SeatState). s.view) c.kind_of-kind.ensures.same in
    owns-kept 1 [] (c.fresh_node-right.result ∷ []) rs c.args.seat.now.view c.fresh_node-right.new.seat.view c.args.chain.now c.fresh_node-right.new.chain
    c.args.row kind 31 us h (subst (λ v. Spends 1 [] (c.fresh_node-right.result ∷ []) rs v c.fresh_node-right.new.seat.view c.fresh_node-right.new.chain) same
    (c.fresh_node-right.ensures.spends rs (subst (λ v. IsChain v c.args.chain.now rs) (sym same) h))) o refl

right-owned : (c : After-fresh_node-right) → (kind : ℕ) (us : List Tree) → OwnsNode c.args.seat.now.view c.args.row kind 31 us
    → OwnsNode c.fresh_node-right.new.seat.view c.fresh_node-right.result kind 15 (replicate 64 nil)
right-owned c kind us o = subst (λ k. OwnsNode c.fresh_node-right.new.seat.view c.fresh_node-right.result k 15 (replicate 64 nil))
    (c.kind_of-kind.ensures.kind kind 31 us o) c.fresh_node-right.ensures.node

fresh-refs : (c : After-fresh_node-right) → c.fresh_node-right.new.seat.view.refs ≡ c.args.seat.now.view.refs
fresh-refs c = c.fresh_node-right.ensures.same.1 ∙ ap (λ (s : SeatState). s.view.refs) c.kind_of-kind.ensures.same

few : (c : After-fresh_node-right) → length c.fresh_node-right.new.seat.view.refs + 1 < 2 ^ 32
few c = let a = ap length (fresh-refs c) in let b = c.requires.few in omega arith

pub kind_of-kind-requires-clause-node : goal.kind_of-kind-requires-clause-node
kind_of-kind-requires-clause-node c = let (h, kind, us, xs, o, b) = c.requires.node in (kind, 31, us, o)

pub fresh_node-right-requires-clause-kind : goal.fresh_node-right-requires-clause-kind
fresh_node-right-requires-clause-kind c =
    let (h, kind, us, xs, o, b) = c.requires.node in
    let k = c.kind_of-kind.ensures.kind kind 31 us o in let x = o.low in let y = o.high in (omega arith, omega arith)

pub fresh_node-right-requires-clause-room : goal.fresh_node-right-requires-clause-room
fresh_node-right-requires-clause-room c =
    subst (λ (s : SeatState). HasRoom 1 s.view c.args.chain.now) (sym c.kind_of-kind.ensures.same) c.requires.room

pub move_links-requires-clause-links : goal.move_links-requires-clause-links
move_links-requires-clause-links c =
    let (h, kind, us, xs, o, b) = c.requires.node in
    let at = (goal.at.move_links-requires-clause-links c).After-fresh_node-right in let k = kept at kind us o in
    first-can h c.fresh_node-right.new.seat.view c.args.row c.fresh_node-right.result kind us xs b k.owns (right-owned at kind us o)
    (apart-one c.args.row c.fresh_node-right.result k.apart) (few at)

pub move_children-requires-clause-links : goal.move_children-requires-clause-links
move_children-requires-clause-links c =
    let (h, kind, us, xs, o, b) = c.requires.node in
    let at = (goal.at.move_children-requires-clause-links c).After-fresh_node-right in let k = kept at kind us o in
    second-can h c.fresh_node-right.new.seat.view c.move_links.new.seat.view c.args.row c.fresh_node-right.result kind us xs b k.owns
    (right-owned at kind us o) (apart-one c.args.row c.fresh_node-right.result k.apart) c.move_links.ensures.moved c.move_links.ensures.same.1 (few at)

pub move_children-requires-clause-none : goal.move_children-requires-clause-none
move_children-requires-clause-none c = λ leaf.
    let (h, kind, us, xs, o, b) = c.requires.node in
    let at = (goal.at.move_children-requires-clause-none c).After-fresh_node-right in let k = kept at kind us o in
    second-none h c.fresh_node-right.new.seat.view c.move_links.new.seat.view c.args.row c.fresh_node-right.result kind us xs b
    (λ e. leaf (c.kind_of-kind.ensures.kind kind 31 us o ∙ e)) k.owns (right-owned at kind us o)
    (apart-one c.args.row c.fresh_node-right.result k.apart) c.move_links.ensures.moved

pub swap-middle-requires-clause-link : goal.swap-middle-requires-clause-link
swap-middle-requires-clause-link c =
    let (h, kind, us, xs, o, b) = c.requires.node in
    let at = (goal.at.swap-middle-requires-clause-link c).After-fresh_node-right in let k = kept at kind us o in
    middle-can h c.fresh_node-right.new.seat.view c.move_links.new.seat.view c.move_children.new.seat.view c.args.row c.fresh_node-right.result kind us xs b
    k.owns (right-owned at kind us o) (apart-one c.args.row c.fresh_node-right.result k.apart) c.move_links.ensures.moved c.move_links.ensures.same.1
    c.move_children.ensures.moved c.move_children.ensures.same.1 (few at)

pub set_count-requires-clause-node : goal.set_count-requires-clause-node
set_count-requires-clause-node c =
    let (h, kind, us, xs, o, b) = c.requires.node in
    let at = (goal.at.set_count-requires-clause-node c).After-fresh_node-right in let k = kept at kind us o in
    let z = middle-least h c.fresh_node-right.new.seat.view c.move_links.new.seat.view c.move_children.new.seat.view c.swap-middle.new.seat.view c.args.row
    c.fresh_node-right.result kind c.swap-middle.result us xs b k.owns (right-owned at kind us o)
    (apart-one c.args.row c.fresh_node-right.result k.apart) c.move_links.ensures.moved c.move_children.ensures.moved c.swap-middle.ensures.node
    c.swap-middle.ensures.others in
    (kind, 31, z.1.0, z.1.1)

pub overflow_sub-result : goal.overflow_sub-result
overflow_sub-result c =
    let (h, kind, us, xs, o, b) = c.requires.node in
    let at = (goal.at.overflow_sub-result c).After-fresh_node-right in let k = kept at kind us o in
    (middle-least h c.fresh_node-right.new.seat.view c.move_links.new.seat.view c.move_children.new.seat.view c.swap-middle.new.seat.view c.args.row
    c.fresh_node-right.result kind c.swap-middle.result us xs b k.owns (right-owned at kind us o)
    (apart-one c.args.row c.fresh_node-right.result k.apart) c.move_links.ensures.moved c.move_children.ensures.moved c.swap-middle.ensures.node
    c.swap-middle.ensures.others).0

pub returns-clause-parts : goal.returns-clause-parts
returns-clause-parts c = λ h kind us xs o b.
    let at = (goal.at.returns-clause-parts c).After-fresh_node-right in let k = kept at kind us o in
    cut h c.args.seat.now.view c.fresh_node-right.new.seat.view c.move_links.new.seat.view c.move_children.new.seat.view c.swap-middle.new.seat.view
    c.set_count.new.seat.view c.args.row c.fresh_node-right.result kind c.swap-middle.result us xs b k.owns (right-owned at kind us o)
    (apart-one c.args.row c.fresh_node-right.result k.apart) (fresh-refs at) c.move_links.ensures.moved c.move_links.ensures.same.1
    c.move_children.ensures.moved c.move_children.ensures.same.1 c.swap-middle.ensures.node c.swap-middle.ensures.others c.set_count.ensures.node
    c.set_count.ensures.others c.set_count.ensures.same.1

pub returns-clause-spends : goal.returns-clause-spends
returns-clause-spends c = λ rs chain_is.
    let (h, kind, us, xs, o, b) = c.requires.node in
    let at = (goal.at.returns-clause-spends c).After-fresh_node-right in let k = kept at kind us o in
    let apart = apart-one c.args.row c.fresh_node-right.result k.apart in
    let (skind, m, fs, bs, t, u, R, ob, at_is, low, refs_is, none_is, few_is) = middle-can h c.fresh_node-right.new.seat.view c.move_links.new.seat.view
    c.move_children.new.seat.view
    c.args.row c.fresh_node-right.result kind us xs b k.owns (right-owned at kind us o) apart c.move_links.ensures.moved c.move_links.ensures.same.1
    c.move_children.ensures.moved c.move_children.ensures.same.1 (few at) in
    let z = middle-least h c.fresh_node-right.new.seat.view c.move_links.new.seat.view c.move_children.new.seat.view c.swap-middle.new.seat.view c.args.row
    c.fresh_node-right.result kind c.swap-middle.result us xs b k.owns (right-owned at kind us o) apart c.move_links.ensures.moved
    c.move_children.ensures.moved c.swap-middle.ensures.node c.swap-middle.ensures.others in
    let same = ap (λ (s : SeatState). s.view) c.kind_of-kind.ensures.same in
    cut-spends c.args.seat.now.view c.fresh_node-right.new.seat.view c.move_links.new.seat.view c.move_children.new.seat.view c.swap-middle.new.seat.view
    c.set_count.new.seat.view c.args.row c.fresh_node-right.result skind kind m 31 (fs ++ t ∷ bs) z.1.0 rs c.args.chain.now c.fresh_node-right.new.chain
    (subst (λ v. Spends 1 [] (c.fresh_node-right.result ∷ []) rs v c.fresh_node-right.new.seat.view c.fresh_node-right.new.chain) same
    (c.fresh_node-right.ensures.spends rs (subst (λ v. IsChain v c.args.chain.now rs) (sym same) chain_is))) c.move_links.ensures.spends
    c.move_children.ensures.spends ob c.swap-middle.ensures.others z.1.1 c.set_count.ensures.others
