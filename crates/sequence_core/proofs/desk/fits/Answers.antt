use Rattle.std.proofs.Common.{◌∙◌, sym, refl, arith}
use Rattle.sequence_core.proofs.desk.fits.Goals as goal

pub overflow_add-held_now : goal.overflow_add-held_now
overflow_add-held_now c =
    let h = c.requires.held in
    let is = c.total-held_now.ensures h.0 h.1 h.2 in
    let small = h.3 in
    let few = c.requires.few in
    omega arith

pub returns-then-held_now-asked-clause-refused : goal.returns-then-held_now-asked-clause-refused
returns-then-held_now-asked-clause-refused c log sizes holds =
    let is = c.total-held_now.ensures log sizes holds in
    let over = c.if-held_now-asked.true in
    (sym c.holds.ensures ∙ c.if-not-holds.false, is, refl, omega arith)

pub returns-then-free-need-clause-refused : goal.returns-then-free-need-clause-refused
returns-then-free-need-clause-refused c log sizes holds =
    let is = c.total-held_now.ensures log sizes holds in
    let within = c.if-held_now-asked.false in
    let free = c.free-free.ensures.free in
    let over = c.if-free-need.true in
    (λ it. omega arith, sym c.holds.ensures ∙ c.if-not-holds.false, free, refl, omega arith)

pub returns-clause-fits : goal.returns-clause-fits
returns-clause-fits c log sizes holds =
    let is = c.total-held_now.ensures log sizes holds in
    let within = c.if-held_now-asked.false in
    let free = c.free-free.ensures.free in
    let enough = c.if-free-need.false in
    (λ it. omega arith, λ it. omega arith)
