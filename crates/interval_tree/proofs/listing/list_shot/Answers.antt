use Rattle.std.proofs.Common.{rules, ◌≡◌, ℕ, ◌-◌, [], ◌++◌, ap, subst, ◌∙◌, arith}
use Rattle.row_pool.specs.Changes.{tree_of}
use Rattle.latch_item.specs.Shape.{RefersTo, Stands}
use Rattle.interval_tree.specs.Listings.{rows_of}
use Rattle.interval_tree.proofs.Growing.{root-reached}
use Rattle.interval_tree.proofs.InOrder.{rest-start}
use Rattle.interval_tree.proofs.listing.list_shot.Goals as goal

pub list_from-requires-clause-rest : goal.list_from-requires-clause-rest
list_from-requires-clause-rest c =
    let (xs, k) = c.requires.shot in
    let v = c.args.seat.now.view in let root : ℕ = c.in-Some.root in let height = c.args.shot.now.height in
    let r = subst (λ r. RefersTo v r height xs) c.in-Some.is k in
    let e : r.1.level ≡ height - 1 = (let a = r.1.levels in omega arith) in (
      tree_of root v.refs,
      xs,
      root-reached v root r.0,
      r.0,
      rest-start (height - 1) (tree_of root v.refs) xs (subst (λ j. Stands j (tree_of root v.refs) xs) e r.1.stands),
    )

pub list_from-requires-clause-low : goal.list_from-requires-clause-low
list_from-requires-clause-low c =
    let (xs, k) = c.requires.shot in
    let r = subst (λ r. RefersTo c.args.seat.now.view r c.args.shot.now.height xs) c.in-Some.is k in
    (let a = r.1.levels in let b = r.1.low in omega arith, omega arith)

pub returns-in_ok-list_from-in-Some-clause-rows : goal.returns-in_ok-list_from-in-Some-clause-rows
returns-in_ok-list_from-in-Some-clause-rows c = λ xs k.
    let v = c.args.seat.now.view in let root : ℕ = c.in-Some.root in let height = c.args.shot.now.height in
    let r = subst (λ r. RefersTo v r height xs) c.in-Some.is k in
    let e : r.1.level ≡ height - 1 = (let a = r.1.levels in omega arith) in
    let rest = rest-start (height - 1) (tree_of root v.refs) xs (subst (λ j. Stands j (tree_of root v.refs) xs) e r.1.stands) in
    let empty : c.new-out.result.items ≡ [] = search rules in
    c.in_ok-list_from-in-Some.ensures.rows (tree_of root v.refs) xs (root-reached v root r.0) r.0 rest ∙ ap (λ l. l ++ rows_of xs) empty
