use Rattle.std.proofs.Common.{◌≡◌, ◌++◌, List, map, sym, ap, ◌∙◌, subst}
use Rattle.std.specs.Prelude.{OnOk}
use Rattle.waiter.specs.Says.{id_of}
use Rattle.step_run.specs.Lives.{IsLive, IsOf, LiveSays, seen_live, with_value}
use Rattle.step_run.specs.Runs.{RunSays}
use Rattle.step_run.specs.Seen.{seen_run}
use Rattle.step_run.specs.Openings.{IsBegun, opening_text}
use Rattle.step_run.specs.declared.live.Value.{Value}
use Rattle.step_run.specs.Texts.{named_line}
use Rattle.step_run.proofs.Commanding.{value_kept}
use Rattle.step_run.proofs.Lives.{inside_seen, seen_at, seen_get, set_value}
use Rattle.step_run.proofs.Places.{Each-at}
use Rattle.step_run.proofs.open.write_opening.Goals as goal

pub begun_line-requires-clause-begun : goal.begun_line-requires-clause-begun
begun_line-requires-clause-begun c =
    let begun = c.requires.begun in
    let same = seen_at c.args.run.now.lives.items c.args.i c.index_mut-live.result.now begun.0 begun.1 c.index_mut-live.ensures.value in
    subst (λ (v : Value). IsBegun v) (sym (c.deref_mut.ensures.value ∙ ap (λ (k : LiveSays). k.value) same)) begun.2

pub begun_line-requires-clause-core : goal.begun_line-requires-clause-core
begun_line-requires-clause-core c =
    let x = c.index_mut-live.result.now in
    let xs = c.args.run.now.lives.items in
    let at = seen_get xs c.args.i x c.index_mut-live.ensures.value (inside_seen xs c.args.i c.requires.begun.0 c.requires.begun.1) in (
      x.session,
      subst (λ (v : Value). IsOf (id_of c.args.run.now.core) x.session v) (sym c.deref_mut.ensures.value)
          (Each-at (IsLive (id_of c.args.run.now.core)) (seen_run c.args.run.now).lives c.args.i (seen_live x) at c.requires.sound.lives).of,
    )

pub returns-clause-line : goal.returns-clause-line
returns-clause-line c = λ l at.
    let x = c.index_mut-live.result.now in
    let xs = c.args.run.now.lives.items in
    let same = seen_at xs c.args.i x l at c.index_mut-live.ensures.value in
    subst (λ (k : LiveSays). OnOk c.begun_line.result (c.begun_line.new.out.items ≡ c.args.out.now.items ++ named_line k.name (opening_text k.value))) same
    (subst (λ (v : Value). OnOk c.begun_line.result (c.begun_line.new.out.items ≡ c.args.out.now.items ++ named_line x.name.now (opening_text v)))
    c.deref_mut.ensures.value c.begun_line.ensures.line)

pub returns-clause-run : goal.returns-clause-run
returns-clause-run c =
    let x = c.index_mut-live.result.now in
    let xs = c.args.run.now.lives.items in
    let at = seen_get xs c.args.i x c.index_mut-live.ensures.value (inside_seen xs c.args.i c.requires.begun.0 c.requires.begun.1) in
    ap (λ (ls : List LiveSays). let r : RunSays = record (seen_run c.args.run.now) { lives = ls } in r)
    (set_value xs c.args.i x c.begun_line.new.value c.index_mut-live.ensures.value
    ∙ ap (λ (v : Value). with_value c.args.i v (map seen_live xs)) (c.begun_line.ensures.value ∙ c.deref_mut.ensures.value)
    ∙ value_kept (map seen_live xs) c.args.i (seen_live x) at)
