use Rattle.std.proofs.Common.{◌≡◌, ◌∷◌, [], arith}
use Rattle.row_pool.specs.Changes.{with_entry, written}
use Rattle.read_list.specs.Lists.{IsCell, OnlyLinksChange}
use Rattle.read_list.proofs.Rows.{content}
use Rattle.read_list.proofs.Links.{once-set, both-set}
use Rattle.read_list.proofs.list.set_links.Goals as goal
use Rattle.read_list.proofs.list.set_links.Goals.{After-write-2}

pub write-requires-2-clause-owned : goal.write-requires-2-clause-owned
write-requires-2-clause-owned c =
    let (e, has, kind) = c.requires.item in (
      written 9 c.args.before e,
      once-set c.args.seat.now.view c.write.new.seat.view c.args.item c.args.before e (c.write.ensures.content (λ z. absurd (omega arith)) e has),
      content e.kind 10 kind (omega arith) (omega arith),
      λ z. absurd (omega arith),
    )

both : (c : After-write-2) → IsCell c.write-2.new.seat.view c.args.item c.args.before c.args.after
    × OnlyLinksChange (c.args.item ∷ []) c.args.seat.now.view c.write-2.new.seat.view
both c =
    let (e, has, kind) = c.requires.item in
    let u = c.args.seat.now.view in let v = c.write.new.seat.view in
    let first : v ≡ with_entry c.args.item (written 9 c.args.before e) u = c.write.ensures.content (λ z. absurd (omega arith)) e has in
    both-set u v c.write-2.new.seat.view c.args.item c.args.before c.args.after e has kind first
    (c.write-2.ensures.content (λ z. absurd (omega arith)) (written 9 c.args.before e) (once-set u v c.args.item c.args.before e first))

pub returns-clause-cell : goal.returns-clause-cell
returns-clause-cell c = (both (goal.at.returns-clause-cell c).After-write-2).0

pub returns-clause-only : goal.returns-clause-only
returns-clause-only c = (both (goal.at.returns-clause-only c).After-write-2).1
