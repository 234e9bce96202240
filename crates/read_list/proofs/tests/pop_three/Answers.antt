use Rattle.std.proofs.Common.{[], ◌∷◌, subst, arith}
use Rattle.read_list.specs.TestLists.{Stock}
use Rattle.read_list.proofs.TestLists.{none-left}
use Rattle.read_list.proofs.tests.pop_three.Goals as goal

pub pop_and_drop-second-requires : goal.pop_and_drop-second-requires
pop_and_drop-second-requires c =
    let g = c.requires.stock in
    let o = c.pop_and_drop-first.ensures.stock g.0 (c.args.a ∷ c.args.c ∷ []) g.1 g.2 in
    record { stock = (o.0, o.1, o.3, o.4) }

pub pop_and_drop-third-requires : goal.pop_and_drop-third-requires
pop_and_drop-third-requires c =
    let g = c.requires.stock in
    let o = c.pop_and_drop-first.ensures.stock g.0 (c.args.a ∷ c.args.c ∷ []) g.1 g.2 in
    let p = c.pop_and_drop-second.ensures.stock o.0 o.1 o.3 o.4 in
    record { stock = (p.0, p.1, p.3, p.4) }

pub returns-clause-stock : goal.returns-clause-stock
returns-clause-stock c =
    let g = c.requires.stock in
    let o = c.pop_and_drop-first.ensures.stock g.0 (c.args.a ∷ c.args.c ∷ []) g.1 g.2 in
    let p = c.pop_and_drop-second.ensures.stock o.0 o.1 o.3 o.4 in
    let q = c.pop_and_drop-third.ensures.stock p.0 p.1 p.3 p.4 in (
      q.0,
      subst (Stock c.args.rows.now c.pop_and_drop-third.new.seat c.pop_and_drop-third.new.chain q.0)
          (none-left q.1 (let a = o.2 in let b = p.2 in let d = q.2 in omega arith)) q.3,
    )
