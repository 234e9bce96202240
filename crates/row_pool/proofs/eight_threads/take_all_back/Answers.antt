use Rattle.std.proofs.Common.{ℕ, ◌<◌, List, length, [], ◌∷◌, ap, sym, ◌∙◌, subst, arith}
use Rattle.row_pool.specs.Numbers.{without_first}
use Rattle.row_pool.specs.SeatState.{SeatState}
use Rattle.row_pool.specs.TestSeats.{Holding}
use Rattle.row_pool.specs.declared.chain.Chain.{Chain}
use Rattle.row_pool.proofs.TestSeats.{without-newest, at-any}
use Rattle.row_pool.proofs.eight_threads.take_all_back.Goals as goal

pub take_two_back-requires-clause-stand : goal.take_two_back-requires-clause-stand
take_two_back-requires-clause-stand c =
    subst (λ w. (us : List ℕ) × Holding c.args.rows.now w.0 w.1 [] us) (sym c.first_seat-1.given.1)
    (c.requires.none 0 c.first_seat-1.given.0 (omega arith))

pub take_two_back-requires-clause-one : goal.take_two_back-requires-clause-one
take_two_back-requires-clause-one c =
    subst (λ w. (us : List ℕ) × Holding c.args.rows.now w.0 w.1 [] us) (sym c.six-1.given.1)
    (c.requires.none 6 c.six-1.given.0 (omega arith))

pub take_two_back-requires-clause-two : goal.take_two_back-requires-clause-two
take_two_back-requires-clause-two c =
    subst (λ w. (us : List ℕ) × Holding c.args.rows.now w.0 w.1 [] us) (sym c.seven-1.given.1)
    (c.requires.none 7 c.seven-1.given.0 (omega arith))

pub take_two_back-requires-2-clause-one : goal.take_two_back-requires-2-clause-one
take_two_back-requires-2-clause-one c =
    subst (λ w. (us : List ℕ) × Holding c.args.rows.now w.0 w.1 [] us) (sym c.four-1.given.1)
    (c.requires.none 4 c.four-1.given.0 (omega arith))

pub take_two_back-requires-2-clause-two : goal.take_two_back-requires-2-clause-two
take_two_back-requires-2-clause-two c =
    subst (λ w. (us : List ℕ) × Holding c.args.rows.now w.0 w.1 [] us) (sym c.five-1.given.1)
    (c.requires.none 5 c.five-1.given.0 (omega arith))

pub take_two_back-requires-3-clause-one : goal.take_two_back-requires-3-clause-one
take_two_back-requires-3-clause-one c =
    subst (λ w. (us : List ℕ) × Holding c.args.rows.now w.0 w.1 [] us) (sym c.two-1.given.1)
    (c.requires.none 2 c.two-1.given.0 (omega arith))

pub take_two_back-requires-3-clause-two : goal.take_two_back-requires-3-clause-two
take_two_back-requires-3-clause-two c =
    subst (λ w. (us : List ℕ) × Holding c.args.rows.now w.0 w.1 [] us) (sym c.three-1.given.1)
    (c.requires.none 3 c.three-1.given.0 (omega arith))

pub take_back-requires-clause-other : goal.take_back-requires-clause-other
take_back-requires-clause-other c =
    subst (λ w. (us : List ℕ) × Holding c.args.rows.now w.0 w.1 [] us) (sym c.one-1.given.1)
    (c.requires.none 1 c.one-1.given.0 (omega arith))

pub take_two_back-requires-clause-numbers : goal.take_two_back-requires-clause-numbers
take_two_back-requires-clause-numbers c =
    let n0 = ap (λ (w : SeatState × Chain). w.0.view.number) (sym c.first_seat-1.given.1) in
    let n6 = ap (λ (w : SeatState × Chain). w.0.view.number) (sym c.six-1.given.1) in
    let n7 = ap (λ (w : SeatState × Chain). w.0.view.number) (sym c.seven-1.given.1) in
    let m6 = (c.requires.numbers c.six-1.given.0).1 6 (omega arith) (omega arith) in
    let m7 = (c.requires.numbers c.seven-1.given.0).1 7 (omega arith) (omega arith) in
    (sym n0 ∙ (c.requires.numbers c.first_seat-1.given.0).0, omega arith, omega arith)

pub returns-clause-stand : goal.returns-clause-stand
returns-clause-stand c = let h = c.take_two_back-3.ensures.stand in c.take_back.ensures.stand [] h.0 h.1

pub returns-clause-first : goal.returns-clause-first
returns-clause-first c =
    let d = c.first_seat-1.given.0 in
    let low : (k : ℕ) → k < 8 → k < length c.args.workers = λ k small. let l = c.requires.many in omega arith in
    let o = c.requires.out d in
    let out = ap (λ (w : SeatState × Chain). w.0.view.out) (sym c.first_seat-1.given.1) in
    let n1 = ap (λ (w : SeatState × Chain). w.0.view.number) (at-any c.args.workers 1 d c.one-1.given.0 (low 1 (omega arith)) ∙ sym c.one-1.given.1) in
    let n2 = ap (λ (w : SeatState × Chain). w.0.view.number) (at-any c.args.workers 2 d c.two-1.given.0 (low 2 (omega arith)) ∙ sym c.two-1.given.1) in
    let n3 = ap (λ (w : SeatState × Chain). w.0.view.number) (at-any c.args.workers 3 d c.three-1.given.0 (low 3 (omega arith)) ∙ sym c.three-1.given.1) in
    let n4 = ap (λ (w : SeatState × Chain). w.0.view.number) (at-any c.args.workers 4 d c.four-1.given.0 (low 4 (omega arith)) ∙ sym c.four-1.given.1) in
    let n5 = ap (λ (w : SeatState × Chain). w.0.view.number) (at-any c.args.workers 5 d c.five-1.given.0 (low 5 (omega arith)) ∙ sym c.five-1.given.1) in
    let n6 = ap (λ (w : SeatState × Chain). w.0.view.number) (at-any c.args.workers 6 d c.six-1.given.0 (low 6 (omega arith)) ∙ sym c.six-1.given.1) in
    let n7 = ap (λ (w : SeatState × Chain). w.0.view.number) (at-any c.args.workers 7 d c.seven-1.given.0 (low 7 (omega arith)) ∙ sym c.seven-1.given.1) in
    let listed = sym out ∙ o.1
    ∙ (λ i. (n7 i, o.0 7) ∷ (n6 i, o.0 6) ∷ (n5 i, o.0 5) ∷ (n4 i, o.0 4) ∷ (n3 i, o.0 3) ∷ (n2 i, o.0 2) ∷ (n1 i, o.0 1) ∷ []) in
    let six = c.take_two_back.ensures.out _ _ _ listed in
    let four = c.take_two_back-2.ensures.out _ _ _ six in
    let two = c.take_two_back-3.ensures.out _ _ _ four in
    let a = c.take_back.ensures.same_seat in (
      a.number ∙ c.take_two_back-3.ensures.first,
      a.out ∙ ap (without_first c.one-1.given.0.0.view.number) two
          ∙ without-newest c.one-1.given.0.0.view.number (o.0 1) [],
    )
