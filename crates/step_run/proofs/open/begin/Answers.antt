use Rattle.std.proofs.Common.{◌≡◌, ◌+◌, ◌-◌, ◌<◌, [], ◌∷◌, ◌++◌, false, length, refl, sym, ap, ◌∙◌, subst, arith}
use Rattle.std.specs.Prelude.{slice_set}
use Rattle.waiter.specs.Says.{id_of}
use Rattle.step_run.specs.Runs.{RunSays, Sound}
use Rattle.step_run.specs.Seen.{seen_run}
use Rattle.sequence_core.specs.Says.{DeskState, next_entry}
use Rattle.step_run.specs.Openings.{begun_request, begun_value}
use Rattle.step_run.proofs.Values.{value_optimistic, value_waiting}
use Rattle.signal_board.specs.Rule.{open_count}
use Rattle.signal_board.specs.Says.{PassSays}
use Rattle.step_run.specs.Lives.{has_open}
use Rattle.step_run.proofs.Lives.{get_there}
use Rattle.step_run.proofs.Sounding.{sound_passed}
use Rattle.step_run.proofs.Stopping.{finds_place, lacks_rows}
use Rattle.step_run.proofs.open.begin.Goals as goal
use Rattle.step_run.proofs.open.begin.Goals.{in-Optimistic, in-Acquire}

pub begin-requires-clause-core : goal.begin-requires-clause-core
begin-requires-clause-core c =
    let p = c.index_mut.result.now in
    let inside : c.args.session - 1 < length c.args.run.now.passes.items = omega (arith, c.requires.sound.count, c.requires.session.1, c.requires.session.0) in
    let at = get_there c.args.run.now.passes.items (c.args.session - 1) p c.index_mut.ensures.value inside in
    (c.requires.sound.core, (c.requires.sound.passes (c.args.session - 1) p at).table)

pub begin-requires-clause-idle : goal.begin-requires-clause-idle
begin-requires-clause-idle c =
    let p = c.index_mut.result.now in
    let inside : c.args.session - 1 < length c.args.run.now.passes.items = omega (arith, c.requires.sound.count, c.requires.session.1, c.requires.session.0) in
    let at = get_there c.args.run.now.passes.items (c.args.session - 1) p c.index_mut.ensures.value inside in
    let back : c.args.session - 1 + 1 ≡ c.args.session = omega (arith, c.requires.session.0) in
    (c.requires.sound.passes (c.args.session - 1) p at).idle (λ z. absurd (omega arith))
    (subst (λ j. has_open j (seen_run c.args.run.now).lives ≡ false) (sym back) c.requires.idle)

pub returns-in-Err-clause-refused : goal.returns-in-Err-clause-refused
returns-in-Err-clause-refused c =
    let p = c.index_mut.result.now in
    let q = c.begin.new.pass in
    let r : RunSays = seen_run c.args.run.now in
    let inside : c.args.session - 1 < length c.args.run.now.passes.items = omega (arith, c.requires.sound.count, c.requires.session.1, c.requires.session.0) in
    let at = get_there c.args.run.now.passes.items (c.args.session - 1) p c.index_mut.ensures.value inside in
    let back : c.args.session - 1 + 1 ≡ c.args.session = omega (arith, c.requires.session.0) in
    let idle : open_count p.p.mine ≡ 0 = (c.requires.sound.passes (c.args.session - 1) p at).idle (λ z. absurd (omega arith))
    (subst (λ j. has_open j (seen_run c.args.run.now).lives ≡ false) (sym back) c.requires.idle) in
    subst (λ (d : DeskState). Sound 0 (record {
      core = r.core;
      desk = d.core;
      sizes = d.sizes;
      given = d.given;
      log = d.log;
      passes = slice_set r.passes (c.args.session - 1) q;
      lives = r.lives;
      some_cause = r.some_cause;
    })) (sym c.in-Err.ensures.same.0)
    (sound_passed r 0 0 c.args.session p q _ c.requires.session.0 at
    (ap (λ (y : PassSays). y.table) c.in-Err.ensures.same.2)
    (ap (λ (y : PassSays). y.p.who) c.in-Err.ensures.same.2)
    (λ d. ap (λ (y : PassSays). open_count y.p.mine) c.in-Err.ensures.same.2 ∙ idle)
    (λ j z d n. z)
    c.requires.sound)

pub returns-after-mode-clause-lent : goal.returns-after-mode-clause-lent
returns-after-mode-clause-lent c =
    let p = c.index_mut.result.now in
    let q = c.begin.new.pass in
    let r : RunSays = seen_run c.args.run.now in
    let inside : c.args.session - 1 < length c.args.run.now.passes.items = omega (arith, c.requires.sound.count, c.requires.session.1, c.requires.session.0) in
    let at = get_there c.args.run.now.passes.items (c.args.session - 1) p c.index_mut.ensures.value inside in
    subst (λ (d : DeskState). Sound c.args.session (record {
      core = r.core;
      desk = d.core;
      sizes = d.sizes;
      given = d.given;
      log = d.log;
      passes = slice_set r.passes (c.args.session - 1) q;
      lives = r.lives;
      some_cause = r.some_cause;
    })) (sym c.in-Ok.ensures.desk)
    (sound_passed r 0 c.args.session c.args.session p q _ c.requires.session.0 at
    (ap (λ (y : PassSays). y.table) c.in-Ok.ensures.pass)
    (ap (λ (y : PassSays). y.p.who) c.in-Ok.ensures.pass)
    (λ d. absurd (d refl))
    (λ j z d n. z)
    c.requires.sound)

pub returns-after-mode-clause-log : goal.returns-after-mode-clause-log
returns-after-mode-clause-log c =
    let p = c.index_mut.result.now in
    let inside : c.args.session - 1 < length c.args.run.now.passes.items = omega (arith, c.requires.sound.count, c.requires.session.1, c.requires.session.0) in
    let at = get_there c.args.run.now.passes.items (c.args.session - 1) p c.index_mut.ensures.value inside in
    let back : c.args.session - 1 + 1 ≡ c.args.session = omega (arith, c.requires.session.0) in
    let who : p.p.who ≡ c.args.session = (c.requires.sound.passes (c.args.session - 1) p at).who ∙ back in
    ap (λ (d : DeskState). d.log) c.in-Ok.ensures.desk
    ∙ ap (λ k. c.args.run.now.desk.log ++ next_entry c.args.run.now.desk.log k c.args.mode c.args.request ∷ []) who

pub returns-after-mode-clause-value : goal.returns-after-mode-clause-value
returns-after-mode-clause-value c =
    let p = c.index_mut.result.now in
    let inside : c.args.session - 1 < length c.args.run.now.passes.items = omega (arith, c.requires.sound.count, c.requires.session.1, c.requires.session.0) in
    let at = get_there c.args.run.now.passes.items (c.args.session - 1) p c.index_mut.ensures.value inside in
    let back : c.args.session - 1 + 1 ≡ c.args.session = omega (arith, c.requires.session.0) in
    let who : p.p.who ≡ c.args.session = (c.requires.sound.passes (c.args.session - 1) p at).who ∙ back in
    let log = c.args.run.now.desk.log in
    let same = ap (λ k. begun_value (id_of c.args.run.now.core) c.args.mode (begun_request log k c.args.mode c.args.request)) who in
    elim c.match-mode.branch [
      | in-Optimistic w ↦ w.result-is ∙ value_optimistic (id_of c.args.run.now.core) c.args.mode (begun_request log p.p.who c.args.mode c.args.request)
          w.optimist.result c.in-Ok.opened w.in-Optimistic.is w.optimist.ensures c.requires.sound.core c.in-Ok.ensures.opened ∙ same
      | in-Acquire w ↦ w.result-is ∙ value_waiting (id_of c.args.run.now.core) c.args.mode (begun_request log p.p.who c.args.mode c.args.request)
          w.waiting.result c.in-Ok.opened w.in-Acquire.is w.waiting.ensures c.requires.sound.core c.in-Ok.ensures.opened ∙ same
    ]

pub run_fault-requires : goal.run_fault-requires
run_fault-requires c =
    finds_place c.args.run.now.desk c.args.mode c.args.request.latches c.in-Err.refusal.fault c.requires.sound.sizes c.requires.few c.in-Err.ensures.refused

pub returns-in-Err-clause-stops : goal.returns-in-Err-clause-stops
returns-in-Err-clause-stops c =
    lacks_rows c.args.run.now.desk c.args.mode c.args.request.latches c.in-Err.refusal.fault c.run_fault.result c.in-Err.ensures.refused c.run_fault.ensures
