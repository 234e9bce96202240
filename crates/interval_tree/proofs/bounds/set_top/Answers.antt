use Rattle.std.proofs.Common.{◌<◌, ◌^◌, ℕ, List, [], ◌∷◌, ◌+◌, length, ap, sym, subst, ◌∙◌}
use Rattle.row_pool.specs.SeatView.{SeatView}
use Rattle.row_pool.specs.Chains.{IsChain}
use Rattle.row_pool.specs.Views.{Reaches}
use Rattle.interval_tree.specs.Held.{OwnsNode, Spends}
use Rattle.interval_tree.specs.Nodes.{Body}
use Rattle.interval_tree.proofs.Cutting.{node-of}
use Rattle.interval_tree.proofs.Topping.{meets}
use Rattle.interval_tree.proofs.bounds.set_top.Goals as goal

pub replace_top-requires-clause-node : goal.replace_top-requires-clause-node
replace_top-requires-clause-node c =
    let (h, kind, n, us, xs, o, b, some_items, sorted) = c.requires.node in
    let m = meets h kind n us xs b some_items in
    let g = c.greatest-item.ensures.item h kind n us xs o b some_items sorted in
    let same = sym c.greatest-item.ensures.same.1 in (
      kind,
      n,
      m.top,
      m.tail,
      g.item,
      subst (λ v. OwnsNode v c.args.row kind n (m.top ∷ m.tail)) same (subst (OwnsNode c.args.seat.now.view c.args.row kind n) m.whole o),
      subst (λ v. Reaches v g.item) same g.reached.0,
      g.reached.1,
    )

pub replace_top-requires-clause-few : goal.replace_top-requires-clause-few
replace_top-requires-clause-few c = subst (λ (v : SeatView). length v.refs + 1 < 2 ^ 32) (sym c.greatest-item.ensures.same.1) c.requires.few

pub replace_top-requires-clause-chain : goal.replace_top-requires-clause-chain
replace_top-requires-clause-chain c =
    subst (λ v. (rs : List ℕ) × IsChain v c.args.chain.now rs) (sym c.greatest-item.ensures.same.1) c.requires.chain

pub returns-clause-same : goal.returns-clause-same
returns-clause-same c = (
  c.replace_top.ensures.same.0 ∙ c.greatest-item.ensures.same.0,
  c.replace_top.ensures.same.1 ∙ ap (λ (v : SeatView). v.refs) c.greatest-item.ensures.same.1,
)

pub returns-clause-node : goal.returns-clause-node
returns-clause-node c = λ h kind n us xs o b some_items sorted.
    let m = meets h kind n us xs b some_items in
    let g = c.greatest-item.ensures.item h kind n us xs o b some_items sorted in
    let same = sym c.greatest-item.ensures.same.1 in (
      g.item ∷ m.tail,
      c.replace_top.ensures.node kind n m.top m.tail g.item
          (subst (λ v. OwnsNode v c.args.row kind n (m.top ∷ m.tail)) same (subst (OwnsNode c.args.seat.now.view c.args.row kind n) m.whole o))
          (subst (λ v. Reaches v g.item) same g.reached.0) g.reached.1,
      node-of h kind n m.top m.tail xs g.item (subst (λ us. Body h kind n us xs) m.whole b) g.greatest,
    )

pub returns-clause-spends : goal.returns-clause-spends
returns-clause-spends c = subst (λ v. (rs : List ℕ) → IsChain v c.args.chain.now rs
    → Spends 0 (c.args.row ∷ []) (c.args.row ∷ []) rs v c.replace_top.new.seat.view c.replace_top.new.chain) c.greatest-item.ensures.same.1
    c.replace_top.ensures.spends
