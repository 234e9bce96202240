use Rattle.std.proofs.Common.{List, [], ◌∷◌, slice_index, ap, sym, ◌∙◌, arith}
use Rattle.row_pool.specs.TestSeats.{HoldsRow}
use Rattle.row_pool.specs.SeatState.{SeatState}
use Rattle.row_pool.specs.declared.chain.Chain.{Chain}
use Rattle.row_pool.proofs.TestSeats.{all-cons}
use Rattle.row_pool.proofs.eight_threads.with_seven_snapshots.Goals as goal

pub returns-clause-hold : goal.returns-clause-hold
returns-clause-hold c =
    let P : SeatState × Chain → Type 0 = λ w. HoldsRow c.args.rows.now c.args.row w in
    let g = c.two_snapshots-six.ensures.stand in
    let f : HoldsRow c.args.rows.now c.args.row (c.two_snapshots-six.new.first_seat, c.args.chain) = record {
      tree = g.0;
      rows = g.1;
      stand =
          g.2;
      is = g.3;
    } in
    let l7 : List (SeatState × Chain) = c.two_snapshots-six.result.1 ∷ [] in
    let l6 : List (SeatState × Chain) = c.two_snapshots-six.result.0 ∷ l7 in
    let l5 : List (SeatState × Chain) = c.two_snapshots-four.result.1 ∷ l6 in
    let l4 : List (SeatState × Chain) = c.two_snapshots-four.result.0 ∷ l5 in
    let l3 : List (SeatState × Chain) = c.two_snapshots-two.result.1 ∷ l4 in
    let l2 : List (SeatState × Chain) = c.two_snapshots-two.result.0 ∷ l3 in
    let l1 : List (SeatState × Chain) = c.snapshot-one.result ∷ l2 in
    let h7 = all-cons P c.two_snapshots-six.result.1 [] c.two_snapshots-six.ensures.shots.1 (λ k d l. absurd (omega arith)) in
    let h6 = all-cons P c.two_snapshots-six.result.0 l7 c.two_snapshots-six.ensures.shots.0 h7 in
    let h5 = all-cons P c.two_snapshots-four.result.1 l6 c.two_snapshots-four.ensures.shots.1 h6 in
    let h4 = all-cons P c.two_snapshots-four.result.0 l5 c.two_snapshots-four.ensures.shots.0 h5 in
    let h3 = all-cons P c.two_snapshots-two.result.1 l4 c.two_snapshots-two.ensures.shots.1 h4 in
    let h2 = all-cons P c.two_snapshots-two.result.0 l3 c.two_snapshots-two.ensures.shots.0 h3 in
    let h1 = all-cons P c.snapshot-one.result l2 c.snapshot-one.ensures.shot h2 in
    all-cons P (c.two_snapshots-six.new.first_seat, c.args.chain) l1 f h1

pub returns-clause-out : goal.returns-clause-out
returns-clause-out c = λ d.
    let o = c.snapshot-one.ensures.numbers in
    let t = c.two_snapshots-two.ensures.out in
    let f = c.two_snapshots-four.ensures.out in
    let s = c.two_snapshots-six.ensures.out in (
      slice_index (0 ∷ o.2.0 ∷ t.0 ∷ t.1 ∷ f.0 ∷ f.1 ∷ s.0 ∷ s.1 ∷ []),
      s.2 ∙ ap (λ l. (c.two_snapshots-six.result.1.0.view.number, s.1) ∷ (c.two_snapshots-six.result.0.0.view.number, s.0) ∷ l)
          (f.2 ∙ ap (λ l. (c.two_snapshots-four.result.1.0.view.number, f.1) ∷ (c.two_snapshots-four.result.0.0.view.number, f.0) ∷ l)
          (t.2 ∙ ap (λ l. (c.two_snapshots-two.result.1.0.view.number, t.1) ∷ (c.two_snapshots-two.result.0.0.view.number, t.0) ∷ l)
          (o.2.1 ∙ (λ i. (sym o.1 i, o.2.0) ∷ c.requires.first.1 i)))),
    )
