use Rattle.std.proofs.Common.{◌∷◌, [], sym, refl, subst, arith}
use Rattle.read_list.specs.Lists.{NamesItemRow, last_link}
use Rattle.read_list.proofs.Rows.{item-stays}
use Rattle.read_list.proofs.Links.{last-named, named-after, list-short, pushed}
use Rattle.read_list.proofs.list.ReadList.push_back.Goals as goal

pub set_link-requires-clause-neighbour : goal.set_link-requires-clause-neighbour
set_link-requires-clause-neighbour c =
    let (rs, o, out) = c.requires.list in
    let u = c.args.seat.now.view in let v = c.set_links.new.seat.view in
    subst (λ l. NamesItemRow v l) (sym o.last_row) (named-after u v (c.args.item ∷ []) (last_link 0 rs) c.set_links.ensures.only
    (last-named u 0 rs 0 tt o.linked))

pub overflow_add-self : goal.overflow_add-self
overflow_add-self c =
    let (rs, o, out) = c.requires.list in
    let a = list-short c.args.seat.now.view c.args.self.now rs c.args.item c.known.ensures o out c.requires.item in omega arith

pub returns-clause-list : goal.returns-clause-list
returns-clause-list c = λ rs o out. pushed c.args.seat.now.view c.set_links.new.seat.view c.set_link.new.seat.view c.args.self.now _ rs c.args.item o out
    c.set_links.ensures.cell c.set_links.ensures.only c.set_link.ensures.relinks refl refl

pub returns-clause-items : goal.returns-clause-items
returns-clause-items c = let (rs, o, out) = c.requires.list in
    item-stays (c.args.item ∷ rs) c.args.seat.now.view c.set_link.new.seat.view (returns-clause-list c rs o out).1
