use Rattle.std.proofs.Common.{◌≡◌, ◌∙◌, true, false, sym, ap}
use Rattle.signal_board.specs.Says.{told_cause}
use Rattle.waiter.proofs.Polling.{judged_bad, judged_caused, judged_sound, may_have}
use Rattle.waiter.proofs.waiting.is_poisoned.Goals as goal

pub returns-then-not-poisoned : goal.returns-then-not-poisoned
returns-then-not-poisoned c =
    let no_word : c.poisoned.result ≡ false = c.if-not-poisoned.true in
    judged_sound c.args.policy c.args.seat.now c.poisoned.new.seat c.args.by
    (c.poisoned.ensures.seat ∙ ap (λ b. record c.args.seat.now { r = told_cause b c.args.by c.args.seat.now.r }) no_word) (c.poisoned.ensures.fell no_word)

pub poison-requires-clause-cause : goal.poison-requires-clause-cause
poison-requires-clause-cause c =
    let word : c.poisoned.result ≡ true = c.if-not-poisoned.false in
    may_have c.args.seat.now c.poisoned.new.seat c.args.by c.args.lane
    (c.poisoned.ensures.seat ∙ ap (λ b. record c.args.seat.now { r = told_cause b c.args.by c.args.seat.now.r }) word) (sym c.requires.policy ∙ c.in-Wait.is)
    c.requires.prerequisite

pub returns-in-Error : goal.returns-in-Error
returns-in-Error c =
    let word : c.poisoned.result ≡ true = c.if-not-poisoned.false in
    judged_bad c.args.policy c.args.seat.now c.poisoned.new.seat c.args.by
    (c.poisoned.ensures.seat ∙ ap (λ b. record c.args.seat.now { r = told_cause b c.args.by c.args.seat.now.r }) word) c.in-Error.is

pub returns-in-Wait : goal.returns-in-Wait
returns-in-Wait c =
    let word : c.poisoned.result ≡ true = c.if-not-poisoned.false in
    judged_caused c.args.policy c.args.seat.now c.poisoned.new.seat c.poison.new.seat c.args.by
    (c.poisoned.ensures.seat ∙ ap (λ b. record c.args.seat.now { r = told_cause b c.args.by c.args.seat.now.r }) word) c.poison.ensures c.in-Wait.is
