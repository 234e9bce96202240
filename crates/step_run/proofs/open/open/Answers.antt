use Rattle.std.proofs.Common.{◌≡◌, [], ◌∷◌, ◌++◌, List, length, map, Some, sym, ap, ◌∙◌, subst, arith}
use Rattle.std.specs.Prelude.{slice_get}
use Rattle.std.specs.VecDeque.{deque_capacity, deque_len}
use Rattle.std.proofs.lemmas.List.{length-map}
use Rattle.waiter.specs.declared.shared.Core.{Core}
use Rattle.waiter.specs.Says.{id_of}
use Rattle.step_run.specs.Lives.{IsOf, LiveSays, has_open, seen_live}
use Rattle.sequence_core.specs.Says.{DeskState}
use Rattle.step_run.specs.Openings.{opening_of}
use Rattle.step_run.specs.Runs.{RunSays, Sound, Stands}
use Rattle.step_run.specs.Seen.{seen_run}
use Rattle.step_run.proofs.Opening.{begun_held, begun_none, begun_of, opens_as, pushed_at, pushed_sound}
use Rattle.step_run.proofs.Sounding.{no_open}
use Rattle.step_run.proofs.open.open.Goals as goal

pub begin_in-requires-clause-idle : goal.begin_in-requires-clause-idle
begin_in-requires-clause-idle c =
    ap (λ xs. has_open c.args.opening.session (map seen_live xs)) c.reserve.ensures.items
    ∙ no_open c.args.opening.session (seen_run c.args.run.now).lives c.requires.idle

pub push-requires : goal.push-requires
push-requires c =
    let a : deque_len c.begin_in.new.run.lives ≡ deque_len c.reserve.new.self = ap (λ v. deque_len v) c.in_ok-value.ensures.lives.0 in
    let b : deque_capacity c.begin_in.new.run.lives ≡ deque_capacity c.reserve.new.self = ap (λ v. deque_capacity v) c.in_ok-value.ensures.lives.0 in
    omega (arith, c.in_ok-reserve.ensures.ok)

pub write_opening-requires-clause-sound : goal.write_opening-requires-clause-sound
write_opening-requires-clause-sound c =
    let o = c.args.opening in
    let core = id_of c.args.run.now.core in
    let v = c.in_ok-value.value.value in
    let mid = c.begin_in.new.run in
    let same : mid.core ≡ c.args.run.now.core = c.in_ok-value.ensures.lives.1 in
    pushed_sound mid c.push.new.run (opening_of o v) c.push.ensures.others.0 c.push.ensures.others.1 c.push.ensures.others.2
    c.push.ensures.others.3 c.push.ensures.lives
    (record {
      low = c.requires.session.0;
      high = c.requires.session.1;
      of = subst (λ (k : Core). IsOf (id_of k) o.session v) (sym same)
          (begun_of core c.args.run.now.desk.log o.session o.mode c.args.request v c.in_ok-value.ensures.value);
    })
    (begun_none core c.args.run.now.desk.log o.session o.mode c.args.request v c.in_ok-value.ensures.value)
    (begun_held core o.mode _ v c.in_ok-value.ensures.value).0 c.in_ok-value.ensures.lent

pub write_opening-requires-clause-begun : goal.write_opening-requires-clause-begun
write_opening-requires-clause-begun c =
    let o = c.args.opening in
    let v = c.in_ok-value.value.value in
    let ls = (seen_run c.begin_in.new.run).lives in
    let place : length ls ≡ c.len-i.result =
    omega (arith, length-map c.begin_in.new.run.lives.items seen_live, c.begin_in.new.run.lives.ok.0, c.len-i.ensures) in (
      opening_of o v,
      ap (λ k. slice_get (seen_run c.push.new.run).lives k) (sym place) ∙ pushed_at ls (seen_run c.push.new.run).lives (opening_of o v) c.push.ensures.lives,
      (begun_held (id_of c.args.run.now.core) o.mode _ v c.in_ok-value.ensures.value).1,
    )

pub returns-clause-opened : goal.returns-clause-opened
returns-clause-opened c = λ s h line range.
    let o = c.args.opening in
    let v = c.in_ok-value.value.value in
    let r = seen_run c.args.run.now in
    let l : LiveSays = opening_of o v in
    let ls = (seen_run c.begin_in.new.run).lives in
    let kept : ls ≡ r.lives = ap (λ xs. map seen_live xs) (c.in_ok-value.ensures.lives.2 ∙ c.reserve.ensures.items) in
    let place : length ls ≡ c.len-i.result =
    omega (arith, length-map c.begin_in.new.run.lives.items seen_live, c.begin_in.new.run.lives.ok.0, c.len-i.ensures) in
    let here : length r.lives ≡ c.len-i.result = sym (ap (λ (xs : List LiveSays). length xs) kept) ∙ place in
    let a = opens_as s r (seen_run c.push.new.run) l (id_of c.args.run.now.core) c.args.request h line range
    (ap (λ (d : DeskState). d.log) c.push.ensures.others.1 ∙ c.in_ok-value.ensures.log) c.in_ok-value.ensures.value
    (c.push.ensures.lives ∙ ap (λ (xs : List LiveSays). xs ++ l ∷ []) kept) in
    let at : slice_get (seen_run c.push.new.run).lives c.len-i.result ≡ Some l =
    ap (λ k. slice_get (seen_run c.push.new.run).lives k) (sym place) ∙ pushed_at ls (seen_run c.push.new.run).lives l c.push.ensures.lives in
    a.makes (seen_run c.first_turn.new.run) c.args.out.now.items c.write_opening.new.out.items c.first_turn.new.out.items
    (c.in_ok-write_opening.ensures.line l at)
    (c.in_ok-first_turn.ensures.turn a.state a.name (subst (λ (q : RunSays). Stands a.state q) (sym c.in_ok-write_opening.ensures.run) a.stands)
    (ap (λ k. slice_get a.state.names k) (sym here) ∙ a.at) a.phase)

pub first_turn-requires-clause-sound : goal.first_turn-requires-clause-sound
first_turn-requires-clause-sound c =
    let o = c.args.opening in
    let core = id_of c.args.run.now.core in
    let v = c.in_ok-value.value.value in
    let mid = c.begin_in.new.run in
    let same : mid.core ≡ c.args.run.now.core = c.in_ok-value.ensures.lives.1 in
    subst (λ (q : RunSays). Sound 0 q) (sym c.in_ok-write_opening.ensures.run)
    (pushed_sound mid c.push.new.run (opening_of o v) c.push.ensures.others.0 c.push.ensures.others.1 c.push.ensures.others.2
    c.push.ensures.others.3 c.push.ensures.lives
    (record {
      low = c.requires.session.0;
      high = c.requires.session.1;
      of = subst (λ (k : Core). IsOf (id_of k) o.session v) (sym same)
          (begun_of core c.args.run.now.desk.log o.session o.mode c.args.request v c.in_ok-value.ensures.value);
    })
    (begun_none core c.args.run.now.desk.log o.session o.mode c.args.request v c.in_ok-value.ensures.value)
    (begun_held core o.mode _ v c.in_ok-value.ensures.value).0 c.in_ok-value.ensures.lent)

pub returns-in_err-write_opening-clause-sound : goal.returns-in_err-write_opening-clause-sound
returns-in_err-write_opening-clause-sound c =
    let o = c.args.opening in
    let core = id_of c.args.run.now.core in
    let v = c.in_ok-value.value.value in
    let mid = c.begin_in.new.run in
    let same : mid.core ≡ c.args.run.now.core = c.in_ok-value.ensures.lives.1 in
    subst (λ (q : RunSays). Sound 0 q) (sym c.write_opening.ensures.run)
    (pushed_sound mid c.push.new.run (opening_of o v) c.push.ensures.others.0 c.push.ensures.others.1 c.push.ensures.others.2
    c.push.ensures.others.3 c.push.ensures.lives
    (record {
      low = c.requires.session.0;
      high = c.requires.session.1;
      of = subst (λ (k : Core). IsOf (id_of k) o.session v) (sym same)
          (begun_of core c.args.run.now.desk.log o.session o.mode c.args.request v c.in_ok-value.ensures.value);
    })
    (begun_none core c.args.run.now.desk.log o.session o.mode c.args.request v c.in_ok-value.ensures.value)
    (begun_held core o.mode _ v c.in_ok-value.ensures.value).0 c.in_ok-value.ensures.lent)
