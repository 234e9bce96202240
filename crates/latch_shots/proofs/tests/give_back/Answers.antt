use Rattle.std.proofs.Common.{[], ◌++◌, ap, sym, subst, ◌∙◌}
use Rattle.row_pool.specs.SeatView.{SeatView}
use Rattle.row_pool.specs.Chains.{IsChain}
use Rattle.row_pool.specs.Numbers.{without_first}
use Rattle.row_pool.proofs.TestSeats.{chain-first, chain-second, rows-apart, stand-joined, without-newest}
use Rattle.latch_shots.proofs.TestShots.{holding-returned}
use Rattle.latch_shots.proofs.tests.give_back.Goals as goal

pub give-requires-clause-chains : goal.give-requires-clause-chains
give-requires-clause-chains c =
    let (rs, h) = c.requires.stand in
    let own = c.close-own.result.seat.view in
    let free = c.close-own.result.rows in
    let us = c.close-own.ensures.owns.rows in
    let theirs = c.close-own.ensures.owns.chain in
    let v : SeatView = c.args.seat.now.view in
    let chain = c.args.chain.now in
    let first : IsChain c.join.new.seat.view chain rs = subst (λ (w : SeatView). IsChain w chain rs) (sym c.join.ensures.view)
    (chain-first v own chain rs h.chain) in (
      rs,
      us,
      first,
      chain-second v own c.join.new.seat.view free us theirs (λ r d f. (c.join.ensures.apart r d f).1),
      rows-apart v own chain free rs us h.chain theirs (λ r d f. (c.join.ensures.apart r d f).0),
    )

pub returns-clause-stand : goal.returns-clause-stand
returns-clause-stand c =
    let (rs, h) = c.requires.stand in
    let own = c.close-own.result.seat in
    let free = c.close-own.result.rows in
    let us = c.close-own.ensures.owns.rows in
    let v : SeatView = c.args.seat.now.view in
    let chain = c.args.chain.now in
    let first : IsChain c.join.new.seat.view chain rs = subst (λ (w : SeatView). IsChain w chain rs) (sym c.join.ensures.view)
    (chain-first v own.view chain rs h.chain) in
    let second = chain-second v own.view c.join.new.seat.view free us c.close-own.ensures.owns.chain (λ r d f. (c.join.ensures.apart r d f).1) in (
      us ++ rs,
      stand-joined c.args.rows.now c.args.seat.now own c.join.new.seat c.give.new.seat chain free c.give.new.self [] rs us h
          (holding-returned c.args.rows.now c.args.shots.seat.view.number c.close-own.result c.close-own.ensures) c.join.ensures.same.0 c.give.ensures.same.0
          c.join.ensures.view (c.give.ensures.only us second) (c.give.ensures.chain rs us first second),
    )

pub returns-clause-first : goal.returns-clause-first
returns-clause-first c =
    let own = c.close-own.result.seat in
    let us = c.close-own.ensures.owns.rows in
    let v : SeatView = c.args.seat.now.view in
    let m = c.join.ensures.view in
    let second = chain-second v own.view c.join.new.seat.view c.close-own.result.rows us c.close-own.ensures.owns.chain
    (λ r d f. (c.join.ensures.apart r d f).1) in
    let same = (c.give.ensures.only us second).same_seat in
    let (cap, out) = c.requires.numbers.2 in (
      same.number ∙ ap (λ (v : SeatView). v.number) m ∙ c.requires.numbers.0,
      same.out ∙ ap (λ (v : SeatView). v.out) m ∙ ap (λ n. without_first n v.out) (c.close-own.ensures.same_number ∙ c.requires.numbers.1)
          ∙ ap (without_first 2) out ∙ without-newest 2 cap [],
    )
