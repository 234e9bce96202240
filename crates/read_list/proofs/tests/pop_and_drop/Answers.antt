use Rattle.std.proofs.Common.{◌∷◌, length, ap, subst, sym, ⊎_elim, arith}
use Rattle.row_pool.proofs.Chains.{mem-head, mem-tail, mem-here}
use Rattle.read_list.specs.Lists.{IsReadList}
use Rattle.read_list.specs.TestLists.{Stock}
use Rattle.read_list.proofs.Rows.{mem-differs}
use Rattle.read_list.proofs.Links.{list-stays}
use Rattle.read_list.proofs.TestLists.{stock-links}
use Rattle.read_list.proofs.tests.pop_and_drop.Goals as goal

pub drop_item-requires : goal.drop_item-requires
drop_item-requires c =
    let g = c.requires.stock in
    let p = c.in-Some.ensures.list g.1 g.3 in
    let r = c.in-Some.row in
    let h = subst (Stock c.args.rows.now c.args.seat.now c.args.chain.now g.0) p.1 g.2 in
    record {
      stock = (
        g.0,
        r ∷ p.0,
        stock-links c.args.rows.now c.args.seat.now c.pop_front.new.seat c.args.chain.now g.0 (r ∷ p.0) p.0 h c.pop_front.ensures.same.0 p.3
            (λ q m. mem-tail q r p.0 m),
        mem-here r p.0,
      );
    }

pub returns-in-Some-clause-stock : goal.returns-in-Some-clause-stock
returns-in-Some-clause-stock c = λ rs items g l.
    let p = c.in-Some.ensures.list items l in
    let r = c.in-Some.row in
    let h = subst (Stock c.args.rows.now c.args.seat.now c.args.chain.now rs) p.1 g in
    let o = c.drop_item.ensures.stock rs (r ∷ p.0) p.0
    (stock-links c.args.rows.now c.args.seat.now c.pop_front.new.seat c.args.chain.now rs (r ∷ p.0) p.0 h c.pop_front.ensures.same.0 p.3
    (λ q m. mem-tail q r p.0 m)) (mem-here r p.0)
    (λ q m ne. ⊎_elim (λ z. absurd (ne (sym z))) (λ o. o.1) (mem-head q r p.0 m)) (λ q m. (mem-tail q r p.0 m, mem-differs q r p.0 m p.4)) in
    (o.0, p.0, (let z = ap length p.1 in omega arith), o.1, list-stays c.pop_front.new.seat.view c.drop_item.new.seat.view c.pop_front.new.self p.0 o.2 p.2)

pub returns-in-None-clause-stock : goal.returns-in-None-clause-stock
returns-in-None-clause-stock c = λ rs items g l.
    let p = c.in-None.ensures.list items l in (
      rs,
      items,
      (let z = ap length p.0 in omega arith),
      subst (λ s. Stock c.args.rows.now s c.args.chain.now rs items) (sym p.2) g,
      subst (λ s. IsReadList s.view c.pop_front.new.self items) (sym p.2) (subst (λ l. IsReadList c.args.seat.now.view l items) (sym p.1) l),
    )
