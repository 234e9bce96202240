use Rattle.std.proofs.Common.{◌≡◌, ◌+◌, ◌-◌, ◌<◌, ◌≤◌, length, sym, ap, ◌∙◌, subst, arith}
use Rattle.std.specs.Prelude.{slice_set}
use Rattle.sequence_core.specs.Says.{DeskState}
use Rattle.signal_board.specs.Says.{PassSays}
use Rattle.step_run.specs.Runs.{RunSays, Sound}
use Rattle.step_run.specs.Seen.{seen_run}
use Rattle.step_run.proofs.Lives.{get_there}
use Rattle.step_run.proofs.Sounding.{sound_passed}
use Rattle.step_run.proofs.run.end.Goals as goal

pub end-requires-clause-core : goal.end-requires-clause-core
end-requires-clause-core c =
    let p = c.index_mut.result.now in
    let inside : c.who.result - 1 < length c.args.run.now.passes.items =
    omega (arith, c.requires.sound.count, c.who.ensures, c.requires.session.1, c.requires.session.0) in
    let at = get_there c.args.run.now.passes.items (c.who.result - 1) p c.index_mut.ensures.value inside in
    (c.requires.sound.core, (c.requires.sound.passes (c.who.result - 1) p at).table, c.requires.core)

pub end-requires-clause-session : goal.end-requires-clause-session
end-requires-clause-session c =
    let p = c.index_mut.result.now in
    let inside : c.who.result - 1 < length c.args.run.now.passes.items =
    omega (arith, c.requires.sound.count, c.who.ensures, c.requires.session.1, c.requires.session.0) in
    let at = get_there c.args.run.now.passes.items (c.who.result - 1) p c.index_mut.ensures.value inside in
    let who : p.p.who ≡ c.who.result - 1 + 1 = (c.requires.sound.passes (c.who.result - 1) p at).who in
    let back : c.who.result - 1 + 1 ≡ c.who.result = omega (arith, c.who.ensures, c.requires.session.0) in
    sym (who ∙ back ∙ c.who.ensures)

pub returns-clause-sound : goal.returns-clause-sound
returns-clause-sound c =
    let p = c.index_mut.result.now in
    let q = c.end.new.pass in
    let r : RunSays = seen_run c.args.run.now in
    let inside : c.who.result - 1 < length c.args.run.now.passes.items =
    omega (arith, c.requires.sound.count, c.who.ensures, c.requires.session.1, c.requires.session.0) in
    let at = get_there c.args.run.now.passes.items (c.who.result - 1) p c.index_mut.ensures.value inside in
    let low : 1 ≤ c.who.result = omega (arith, c.who.ensures, c.requires.session.0) in
    subst (λ (d : DeskState). Sound 0 (record {
      core = r.core;
      desk = d.core;
      sizes = d.sizes;
      given = d.given;
      log = d.log;
      passes = slice_set r.passes (c.who.result - 1) q;
      lives = r.lives;
      some_cause = r.some_cause;
    })) (sym c.end.ensures.desk)
    (sound_passed r c.args.ending.r.who 0 c.who.result p q _ low at
    (ap (λ (y : PassSays). y.table) c.end.ensures.pass)
    (ap (λ (y : PassSays). y.p.who) c.end.ensures.pass)
    (λ d. c.end.ensures.idle)
    (λ j z d n g. n (g ∙ sym c.who.ensures))
    c.requires.sound)
