use Rattle.std.proofs.Common.{◌≡◌, ◌-◌, ◌∷◌, [], List, ℕ, refl, subst, arith}
use Rattle.read_list.specs.Lists.{IsReadList}
use Rattle.read_list.proofs.Links.{first-item, no-item}
use Rattle.read_list.proofs.list.ReadList.pop_front.Goals as goal
use Rattle.read_list.proofs.list.ReadList.pop_front.Goals.{After-known}

pub returns-then-self-eq0-clause-list : goal.returns-then-self-eq0-clause-list
returns-then-self-eq0-clause-list c = λ rs o. (no-item c.args.seat.now.view c.args.self.now rs o c.if-self-eq0.true, refl, refl)

-- the list begins with the row that the code takes
begins : (c : After-known) → (rs : List ℕ) → IsReadList c.args.seat.now.view c.args.self.now rs
    → (qs : List ℕ) × (rs ≡ (c.args.self.now.first - 1) ∷ qs) × IsReadList c.args.seat.now.view c.args.self.now ((c.args.self.now.first - 1) ∷ qs)
begins c rs o =
    let (qs, is) = first-item c.args.seat.now.view c.args.self.now rs o c.if-self-eq0.false in
    (qs, is, subst (IsReadList c.args.seat.now.view c.args.self.now) is o)

pub overflow_cast-item : goal.overflow_cast-item
overflow_cast-item c =
    let (qs, is, o) = begins (goal.at.overflow_cast-item c).After-known c.requires.list.0 c.requires.list.1 in
    let e = o.linked.0 in let a = (c.known.ensures.rows (c.args.self.now.first - 1) e.entry e.has).inside in let m = c.known.ensures.most in omega arith

pub unlink-requires-clause-list : goal.unlink-requires-clause-list
unlink-requires-clause-list c =
    let (qs, is, o) = begins (goal.at.unlink-requires-clause-list c).After-known c.requires.list.0 c.requires.list.1 in
    ([], qs, o)

pub returns-clause-list : goal.returns-clause-list
returns-clause-list c = λ rs o.
    let (qs, is, p) = begins (goal.at.returns-clause-list c).After-known rs o in
    let u = c.unlink.ensures.list [] qs p in (qs, is, u.0, u.1, u.2)
