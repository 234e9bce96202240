use Rattle.std.proofs.Common.{◌++◌, ◌∷◌, List, ℕ, inr, sym, refl, ◌∙◌, subst, arith}
use Rattle.row_pool.specs.SeatState.{SeatState, OwnsOrReachesAs}
use Rattle.row_pool.specs.Layout.{IsContent}
use Rattle.read_list.specs.Lists.{IsReadList, NamesItemRow, Relinks}
use Rattle.read_list.proofs.Rows.{content, item-stays}
use Rattle.read_list.proofs.Links.{at-item, neighbours, Halfway, half-way, unlinked}
use Rattle.read_list.proofs.list.ReadList.unlink.Goals as goal
use Rattle.read_list.proofs.list.ReadList.unlink.Goals.{After-set_link}

pub read-before-requires-clause-reachable : goal.read-before-requires-clause-reachable
read-before-requires-clause-reachable c =
    let (ps, qs, o) = c.requires.list in
    let k = (at-item c.args.seat.now.view c.args.self.now ps c.args.item qs o).cell in
    inr (k.entry, k.has, content k.entry.kind 9 k.kind (omega arith) (omega arith))

pub read-after-requires-clause-reachable : goal.read-after-requires-clause-reachable
read-after-requires-clause-reachable c =
    let (ps, qs, o) = c.requires.list in
    let k = (at-item c.args.seat.now.view c.args.self.now ps c.args.item qs o).cell in
    subst (λ (s : SeatState). OwnsOrReachesAs (λ kind. IsContent kind 10) s.view c.args.item) (sym c.read-before.ensures.same)
    (inr (k.entry, k.has, content k.entry.kind 10 k.kind (omega arith) (omega arith)))

pub set_link-requires-clause-neighbour : goal.set_link-requires-clause-neighbour
set_link-requires-clause-neighbour c =
    let (ps, qs, o) = c.requires.list in
    let n = neighbours c.args.seat.now c.read-before.new.seat c.args.self.now ps c.args.item qs c.read-before.result c.read-after.result o
    c.read-before.ensures.same c.read-before.ensures.known c.read-after.ensures.known in
    subst (λ (s : SeatState). NamesItemRow s.view c.read-before.result) (sym (c.read-after.ensures.same ∙ c.read-before.ensures.same)) n.front

-- the first of the two stores, and what the second one is to be
halfway : (c : After-set_link) (ps qs : List ℕ) → IsReadList c.args.seat.now.view c.args.self.now (ps ++ c.args.item ∷ qs)
    → Halfway c.args.seat.now.view c.set_link.new.seat.view ps c.args.item qs c.read-before.result c.read-after.result c.args.self.now.first c.set_link.new.end
halfway c ps qs o =
    let n = neighbours c.args.seat.now c.read-before.new.seat c.args.self.now ps c.args.item qs c.read-before.result c.read-after.result o
    c.read-before.ensures.same c.read-before.ensures.known c.read-after.ensures.known in
    half-way c.args.seat.now.view c.set_link.new.seat.view c.args.self.now ps c.args.item qs c.read-before.result c.read-after.result c.set_link.new.end o n
    (subst (λ (s : SeatState). Relinks 10 c.read-after.result c.read-before.result c.args.self.now.first c.set_link.new.end s.view c.set_link.new.seat.view)
    (c.read-after.ensures.same ∙ c.read-before.ensures.same) c.set_link.ensures.relinks)

pub set_link-requires-2-clause-neighbour : goal.set_link-requires-2-clause-neighbour
set_link-requires-2-clause-neighbour c =
    let (ps, qs, o) = c.requires.list in (halfway (goal.at.set_link-requires-2-clause-neighbour c).After-set_link ps qs o).behind

pub returns-clause-list : goal.returns-clause-list
returns-clause-list c = λ ps qs o.
    let h = halfway (goal.at.returns-clause-list c).After-set_link ps qs o in
    unlinked c.args.seat.now.view c.set_link.new.seat.view c.set_link-2.new.seat.view c.args.self.now _ ps c.args.item qs c.read-before.result
    c.read-after.result o h c.set_link-2.ensures.relinks refl

pub returns-clause-items : goal.returns-clause-items
returns-clause-items c = let (ps, qs, o) = c.requires.list in
    item-stays (ps ++ qs) c.args.seat.now.view c.set_link-2.new.seat.view (returns-clause-list c ps qs o).1
