use Rattle.std.proofs.Common.{◌≡◌, ℕ, List, ◌+◌, ◌≤◌, sym, subst, ◌∙◌, arith}
use Rattle.row_pool.specs.Trees.{Tree}
use Rattle.row_pool.specs.SeatState.{SeatState}
use Rattle.interval_tree.specs.Held.{OwnsNode}
use Rattle.interval_tree.specs.Nodes.{Many}
use Rattle.interval_tree.proofs.Topping.{many-inner, many-leaf, body-most}
use Rattle.interval_tree.proofs.bounds.child_count.Goals as goal
use Rattle.interval_tree.proofs.bounds.child_count.Goals.{After-count_of}

counted : (c : After-count_of) → (kind n : ℕ) (us : List Tree) → OwnsNode c.args.seat.now.view c.args.row kind n us → c.count_of.result ≡ n
counted c kind n us o = c.count_of.ensures.count kind n us
    (subst (λ (s : SeatState). OwnsNode s.view c.args.row kind n us) (sym c.kind_of-kind.ensures.same) o)

low : (c : After-count_of) → c.count_of.result ≤ 31
low c = let (h, kind, n, us, xs, o, b) = c.requires.node in let a = counted c kind n us o in let m = body-most h kind n us xs b in omega arith

pub overflow_cast-result : goal.overflow_cast-result
overflow_cast-result c = let a = low (goal.at.overflow_cast-result c).After-count_of in omega arith

pub overflow_add-result : goal.overflow_add-result
overflow_add-result c = let a = low (goal.at.overflow_add-result c).After-count_of in omega arith

pub returns-then-kind-eq3-clause-count : goal.returns-then-kind-eq3-clause-count
returns-then-kind-eq3-clause-count c = λ h kind n us xs o b.
    let a = counted (goal.at.returns-then-kind-eq3-clause-count c).After-count_of kind n us o in
    subst (λ m. Many h (m + 1) n) (sym a) (many-inner h kind n us xs b (sym (c.kind_of-kind.ensures.kind kind n us o) ∙ c.if-kind-eq3.true))

pub returns-else-kind-eq3-clause-count : goal.returns-else-kind-eq3-clause-count
returns-else-kind-eq3-clause-count c = λ h kind n us xs o b.
    many-leaf h kind n us xs b (λ e. c.if-kind-eq3.false (c.kind_of-kind.ensures.kind kind n us o ∙ e))
