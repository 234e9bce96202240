use Rattle.std.proofs.Common.{[], ◌∷◌, ℕ, ap, ◌∙◌}
use Rattle.row_pool.specs.Caps.{row_count}
use Rattle.row_pool.specs.Changes.{split_off}
use Rattle.row_pool.specs.Numbers.{next_number}
use Rattle.row_pool.specs.SeatView.{SeatView}
use Rattle.latch_shots.specs.TestShots.{nothing}
use Rattle.latch_shots.proofs.TestShots.{shown-nothing, stand-split_none}
use Rattle.latch_shots.proofs.tests.capture_nothing.Goals as goal

pub returns-clause-stand : goal.returns-clause-stand
returns-clause-stand c =
    let (rs, h) = c.requires.stand in
    (rs, stand-split_none c.args.rows.now c.args.seat.now c.split-own.new.seat c.args.chain.now [] rs h c.split-own.ensures.seat.0 c.split-own.ensures.seat.2)

pub returns-clause-numbers : goal.returns-clause-numbers
returns-clause-numbers c =
    let m = c.split-own.ensures.seat.2 in
    let v : SeatView = c.args.seat.now.view in
    let cap : ℕ = row_count v.size (split_off [] v) in (
      ap (λ (u : SeatView). u.number) m ∙ c.requires.first.0,
      c.new.ensures.number ∙ ap (λ (u : SeatView). u.number) c.split-own.ensures.new.2 ∙ ap next_number c.requires.first.1,
      (cap, ap (λ (u : SeatView). u.out) m ∙ (λ i. (next_number (c.requires.first.1 i), cap) ∷ c.requires.first.1 i)),
    )

pub returns-clause-shots : goal.returns-clause-shots
returns-clause-shots c =
    let (rs, h) = c.requires.stand in (
      c.new.ensures.table ∙ c.split-own.ensures.new.0 ∙ h.table,
      c.new.ensures.shown nothing (shown-nothing c.args.seat.now.view c.split-own.result.view c.split-own.ensures.new.2 c.requires.first.1),
    )
