use Rattle.std.proofs.Common.{◌≡◌, ◌<◌, length, true, sym, ◌∙◌, subst, arith}
use Rattle.script.specs.Commands.{same_name}
use Rattle.step_run.specs.Lives.{LiveSays, seen_live}
use Rattle.step_run.specs.declared.live.Live.{Live}
use Rattle.waiter.proofs.Firsts.{position_found, position_none}
use Rattle.step_run.proofs.Places.{position_map}
use Rattle.step_run.proofs.live.live_place.Goals as goal

pub returns-then-is-clause-place : goal.returns-then-is-clause-place
returns-then-is-clause-place c =
    let xs = c.args.lives.now.items in
    let name = c.args.name.now in
    let inside : c.loop-i.i < length xs = omega arith in
    sym (position_map seen_live (λ (n : LiveSays). same_name n.name name) xs
    ∙ position_found (λ (n : Live). same_name n.name.now name) xs c.loop-i.i c.index.result.now inside
    (λ k l. c.loop-i.invariant k c.index.result.now l)
    (let here : same_name c.index.result.now.name.now name ≡ true = cc in subst (λ (n : Live). same_name n.name.now name ≡ true) c.index.ensures here))

pub returns-clause-place : goal.returns-clause-place
returns-clause-place c =
    let xs = c.args.lives.now.items in
    let name = c.args.name.now in
    sym (position_map seen_live (λ (n : LiveSays). same_name n.name name) xs
    ∙ position_none (λ (n : Live). same_name n.name.now name) xs (λ k d l. c.loop-i.invariant k d (omega arith)))
