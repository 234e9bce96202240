use Rattle.std.proofs.Common.{◌≡◌, ◌+◌, ◌<◌, ◌≤◌, length, take, get_or, sym, ap, ◌∙◌, subst, arith}
use Rattle.step_run.specs.Seen.{seen_run}
use Rattle.script.specs.Scripts.{IsCommand}
use Rattle.latch_model.proofs.Elements.{take_whole}
use Rattle.std.proofs.lemmas.List.Elements.{All-contains}
use Rattle.std.proofs.lemmas.List.{length-take-le}
use Rattle.std.proofs.lemmas.Result.{err_from_is_err_and}
use Rattle.step_run.proofs.Lives.{get_there, no_items}
use Rattle.step_run.proofs.Runs.{StandsAfter, allowed_at, none_left, reached, stands_first, stands_next}
use Rattle.step_run.proofs.Stopping.{script_stops}
use Rattle.step_run.proofs.run_all.Goals as goal

pub loop-i-init : goal.loop-i-init
loop-i-init c = record { sound = c.requires.sound; stands = stands_first (seen_run c.args.run.now) c.args.out.now.items c.requires.start c.requires.empty }

pub step-requires-clause-allowed : goal.step-requires-clause-allowed
step-requires-clause-allowed c =
    let i = c.loop-i.i in
    let cs = c.args.script.now in
    let item = c.command-item.result in
    let same = c.commands-command-items.ensures.list in
    let inside : i < length c.commands-command-items.result.now = omega arith in
    let here : i < length cs = subst (λ ds. i < length ds) same inside in
    let at : item ≡ get_or cs i item = subst (λ ds. item ≡ get_or ds i item) same c.command-item.is in
    let rules = c.commands-command-items.ensures.rules in
    allowed_at (take i cs) item (seen_run c.loop-i.run) c.loop-i.out.items (All-contains IsCommand cs item rules.commands (i, here, sym at))
    (rules.rules i item (get_there cs i item at here)) c.loop-i.invariant.stands

pub loop-i-preserved : goal.loop-i-preserved
loop-i-preserved c =
    let i = c.loop-i.i in
    let cs = c.args.script.now in
    let item = c.command-item.result in
    let same = c.commands-command-items.ensures.list in
    let inside : i < length c.commands-command-items.result.now = omega arith in
    let here : i < length cs = subst (λ ds. i < length ds) same inside in
    let at : item ≡ get_or cs i item = subst (λ ds. item ≡ get_or ds i item) same c.command-item.is in
    let rules = c.commands-command-items.ensures.rules in
    let stands = c.loop-i.invariant.stands in
    let short : length (take i cs) ≡ i = length-take-le i cs (omega arith) in
    record {
      sound = c.in_ok-step.ensures.sound;
      stands = stands_next cs i item (seen_run c.loop-i.run) (seen_run c.step.new.run) c.loop-i.out.items c.step.new.out.items here at
          (rules.rules i item (get_there cs i item at here)) stands
          (c.in_ok-step.ensures.step (reached (take i cs)) stands.stands (stands.line ∙ ap (λ k. k + 2) short));
    }

pub returns-in_err-step-clause-stops : goal.returns-in_err-step-clause-stops
returns-in_err-step-clause-stops c =
    let i = c.loop-i.i in
    let cs = c.args.script.now in
    let item = c.command-item.result in
    let same = c.commands-command-items.ensures.list in
    let inside : i < length c.commands-command-items.result.now = omega arith in
    let here : i < length cs = subst (λ ds. i < length ds) same inside in
    let at : item ≡ get_or cs i item = subst (λ ds. item ≡ get_or ds i item) same c.command-item.is in
    let p = err_from_is_err_and c.from_residual.result c.from_residual.ensures.1 in
    rw (p.1, p.2) (script_stops cs item c.in_err-step.field-0.0 (i, here, sym at) c.in_err-step.ensures.stops)

pub returns : goal.returns
returns c =
    let cs = c.args.script.now in
    let i = c.loop-i.i in
    let past : length c.commands-command-items.result.now ≤ i = omega arith in
    let whole : take i cs ≡ cs = take_whole cs i (subst (λ ds. length ds ≤ i) c.commands-command-items.ensures.list past) in
    let stands = subst (λ ds. StandsAfter ds (seen_run c.loop-i.run) c.loop-i.out.items) whole c.loop-i.invariant.stands in
    record {
      sound = c.loop-i.invariant.sound;
      written = stands.written;
      history = stands.stands.history;
      lives = no_items c.loop-i.run.lives.items
          (none_left cs (seen_run c.loop-i.run) c.loop-i.out.items c.commands-command-items.ensures.rules.released stands);
      stops = tt;
    }
