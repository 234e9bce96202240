use Rattle.std.proofs.Common.{◌≡◌, ℕ, ◌<◌, map, length, sym, ap, subst, add-one, arith}
use Rattle.std.proofs.lemmas.List.{length-map}
use Rattle.waiter.specs.Says.{WaitingSays, id_of}
use Rattle.step_run.specs.Lives.{IsLive, seen_live}
use Rattle.step_run.proofs.Lives.{HeardTo, WarnedTo, heard_all, heard_step, seen_there, warned_all, warned_len, warned_old, warned_step, warned_twice}
use Rattle.step_run.proofs.Places.{Each-at}
use Rattle.step_run.proofs.hear.hear_some.Goals as goal

pub hear_at-requires-clause-inside : goal.hear_at-requires-clause-inside
hear_at-requires-clause-inside c =
    let same : length (map seen_live c.loop-i.lives.items) ≡ length (map seen_live c.args.lives.now.items) =
    warned_len c.loop-i.i _ _ c.loop-i.invariant.lives in
    let a : length (map seen_live c.loop-i.lives.items) ≡ length c.loop-i.lives.items = length-map c.loop-i.lives.items seen_live in
    let b : length (map seen_live c.args.lives.now.items) ≡ length c.args.lives.now.items = length-map c.args.lives.now.items seen_live in
    omega (arith, c.args.lives.now.ok.0, c.len-i-end.ensures)

pub hear_at-requires-clause-live : goal.hear_at-requires-clause-live
hear_at-requires-clause-live c = λ l at.
    Each-at (IsLive (id_of c.args.core.now)) (map seen_live c.args.lives.now.items) c.loop-i.i l
    (warned_old c.loop-i.i _ _ l c.loop-i.invariant.lives at) c.requires.lives

pub loop-i-preserved : goal.loop-i-preserved
loop-i-preserved c =
    let i = c.loop-i.i in
    let ls = map seen_live c.args.lives.now.items in
    let inside : i < length c.loop-i.lives.items =
    let same : length (map seen_live c.loop-i.lives.items) ≡ length (map seen_live c.args.lives.now.items) = warned_len i _ _ c.loop-i.invariant.lives in
    let a : length (map seen_live c.loop-i.lives.items) ≡ length c.loop-i.lives.items = length-map c.loop-i.lives.items seen_live in
    let b : length (map seen_live c.args.lives.now.items) ≡ length c.args.lives.now.items = length-map c.args.lives.now.items seen_live in
    omega (arith, c.args.lives.now.ok.0, c.len-i-end.ensures) in
    let w = seen_there c.loop-i.lives.items i inside in
    let more = c.hear_at.ensures.lives w.0 w.1 in
    let before = c.loop-i.invariant.waiting in
    let here = c.hear_at.ensures.waiting in
    record {
      lives = subst (λ (n : ℕ). WarnedTo n ls (map seen_live c.hear_at.new.lives.items)) (sym (add-one i))
          (warned_step i ls (map seen_live c.loop-i.lives.items) (map seen_live c.hear_at.new.lives.items) w.0 more.0 c.loop-i.invariant.lives w.1 more.1);
      waiting = warned_twice c.args.waiting.now c.loop-i.waiting c.hear_at.new.waiting before.0 here.0 before.1 here.1;
      heard = subst (λ (n : ℕ). HeardTo n c.args.by c.args.waiting.now.r c.hear_at.new.waiting.r ls) (sym (add-one i))
          (heard_step i c.args.by c.args.waiting.now.r c.loop-i.waiting.r c.hear_at.new.waiting.r here.0 before.0 ls w.0 c.loop-i.invariant.heard
          (ap (λ (x : WaitingSays). x.r) before.1) (ap (λ (x : WaitingSays). x.r) here.1) (warned_old i _ _ w.0 c.loop-i.invariant.lives w.1)
          (c.hear_at.ensures.heard w.0 w.1));
    }

pub returns-clause-lives : goal.returns-clause-lives
returns-clause-lives c = warned_all c.loop-i.i _ _ c.loop-i.invariant.lives

pub returns-clause-heard : goal.returns-clause-heard
returns-clause-heard c =
    let b : length (map seen_live c.args.lives.now.items) ≡ length c.args.lives.now.items = length-map c.args.lives.now.items seen_live in
    heard_all c.loop-i.i c.args.by c.args.waiting.now.r c.loop-i.waiting.r (map seen_live c.args.lives.now.items)
    (omega (arith, c.args.lives.now.ok.0, c.len-i-end.ensures)) c.loop-i.invariant.heard
