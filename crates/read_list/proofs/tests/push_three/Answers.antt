use Rattle.std.proofs.Common.{[], ◌∷◌, arith}
use Rattle.read_list.proofs.tests.push_three.Goals as goal

pub push_new-b-requires : goal.push_new-b-requires
push_new-b-requires c =
    let g = c.requires.stock in
    let h = c.push_new-a.ensures.stock g.0 [] g.1 g.2 in
    record { stock = (h.0, c.push_new-a.result ∷ [], h.2, h.3, (let a = h.1 in let b = g.3 in omega arith)) }

pub push_new-c-requires : goal.push_new-c-requires
push_new-c-requires c =
    let g = c.requires.stock in
    let h = c.push_new-a.ensures.stock g.0 [] g.1 g.2 in
    let k = c.push_new-b.ensures.stock h.0 (c.push_new-a.result ∷ []) h.2 h.3 in
    record { stock = (k.0, c.push_new-a.result ∷ c.push_new-b.result ∷ [], k.2, k.3, (let a = h.1 in let b = g.3 in let d = k.1 in omega arith)) }

pub returns-clause-stock : goal.returns-clause-stock
returns-clause-stock c =
    let g = c.requires.stock in
    let h = c.push_new-a.ensures.stock g.0 [] g.1 g.2 in
    let k = c.push_new-b.ensures.stock h.0 (c.push_new-a.result ∷ []) h.2 h.3 in
    let l = c.push_new-c.ensures.stock k.0 (c.push_new-a.result ∷ c.push_new-b.result ∷ []) k.2 k.3 in
    (l.0, l.2, l.3)
