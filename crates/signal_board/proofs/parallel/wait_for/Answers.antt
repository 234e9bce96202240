use Rattle.std.proofs.Common.{◌≡◌, ℕ, ◌∷◌, Bool, true, refl, sym, ap, ◌∙◌, subst}
use Rattle.std.specs.List.{Contains}
use Rattle.signal_board.specs.Says.{LaneSays, told_end}
use Rattle.signal_board.specs.Steps.{IsReady}
use Rattle.signal_board.specs.Waits.{SameRequest}
use Rattle.signal_board.proofs.Lists.{contains_here}
use Rattle.signal_board.proofs.Waiting.{asks_as, same_back, same_then, same_told_end}
use Rattle.signal_board.proofs.parallel.wait_for.Goals as goal

pub done-requires-clause-prerequisite : goal.done-requires-clause-prerequisite
done-requires-clause-prerequisite c =
    asks_as c.args.seat.now c.loop-round.seat c.loop-round.invariant c.args.id c.args.lane c.requires.waits.1

pub stamp-requires-clause-ready : goal.stamp-requires-clause-ready
stamp-requires-clause-ready c =
    let found : c.done.result ≡ true = cc in
    let old = c.loop-round.seat in
    let back = same_back c.args.seat.now old c.loop-round.invariant in
    subst (λ (x : LaneSays). IsReady x.r) (sym (c.done.ensures.seat ∙ ap (λ (t : Bool). record old { r = told_end t c.args.id old.r }) found))
    (λ p lane asks. subst (λ (n : ℕ). Contains (c.args.id ∷ old.r.ended) n) (sym (c.requires.only p lane
    (asks_as old c.args.seat.now back p lane asks))) (contains_here old.r.ended c.args.id))

pub returns-then-done-clause-same : goal.returns-then-done-clause-same
returns-then-done-clause-same c =
    let old = c.loop-round.seat in
    let asked = subst (SameRequest old) (sym c.done.ensures.seat) (same_told_end c.done.result c.args.id old) in
    let stamped = subst (SameRequest c.done.new.seat) (sym c.stamp.ensures.seat) (refl, refl, refl) in
    same_then c.args.seat.now old c.stamp.new.seat c.loop-round.invariant (same_then old c.done.new.seat c.stamp.new.seat asked stamped)

pub poisoned_by-requires-clause-waits : goal.poisoned_by-requires-clause-waits
poisoned_by-requires-clause-waits c =
    let old = c.loop-round.seat in
    let asked = subst (SameRequest old) (sym c.done.ensures.seat) (same_told_end c.done.result c.args.id old) in
    let same = same_then c.args.seat.now old c.done.new.seat c.loop-round.invariant asked in
    (ap (λ b. b.request.policy) same.1 ∙ c.requires.waits.0, asks_as c.args.seat.now c.done.new.seat same c.args.id c.args.lane c.requires.waits.1)

pub loop-round-preserved : goal.loop-round-preserved
loop-round-preserved c =
    let old = c.loop-round.seat in
    let asked = subst (SameRequest old) (sym c.done.ensures.seat) (same_told_end c.done.result c.args.id old) in
    let same = same_then c.args.seat.now old c.done.new.seat c.loop-round.invariant asked in
    same_then c.args.seat.now c.done.new.seat c.poisoned_by.new.seat same c.poisoned_by.ensures.same
