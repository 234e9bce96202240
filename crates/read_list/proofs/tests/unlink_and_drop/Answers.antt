use Rattle.std.proofs.Common.{◌∷◌, ◌++◌}
use Rattle.row_pool.proofs.Chains.{mem-here, mem-right}
use Rattle.read_list.proofs.Rows.{mem-differs}
use Rattle.read_list.proofs.Links.{list-stays}
use Rattle.read_list.proofs.TestLists.{stock-links, taken-on, taken-back}
use Rattle.read_list.proofs.tests.unlink_and_drop.Goals as goal

pub drop_item-requires : goal.drop_item-requires
drop_item-requires c =
    let g = c.requires.stock in
    let r = c.args.row in
    let p = c.unlink.ensures.list g.1 g.2 g.4 in
    record {
      stock = (
        g.0,
        g.1 ++ r ∷ g.2,
        stock-links c.args.rows.now c.args.seat.now c.unlink.new.seat c.args.chain.now g.0 (g.1 ++ r ∷ g.2) (g.1 ++ g.2) g.3 c.unlink.ensures.same.0 p.1
            (λ q m. taken-back g.1 g.2 r q m),
        mem-right r g.1 (r ∷ g.2) (mem-here r g.2),
      );
    }

pub returns-clause-stock : goal.returns-clause-stock
returns-clause-stock c = λ rs ps qs h l.
    let r = c.args.row in
    let p = c.unlink.ensures.list ps qs l in
    let o = c.drop_item.ensures.stock rs (ps ++ r ∷ qs) (ps ++ qs)
    (stock-links c.args.rows.now c.args.seat.now c.unlink.new.seat c.args.chain.now rs (ps ++ r ∷ qs) (ps ++ qs) h c.unlink.ensures.same.0 p.1
    (λ q m. taken-back ps qs r q m)) (mem-right r ps (r ∷ qs) (mem-here r qs)) (λ q m ne. taken-on ps qs r q m ne)
    (λ q m. (taken-back ps qs r q m, mem-differs q r (ps ++ qs) m p.2)) in
    (o.0, o.1, list-stays c.unlink.new.seat.view c.drop_item.new.seat.view c.unlink.new.self (ps ++ qs) o.2 p.0)
