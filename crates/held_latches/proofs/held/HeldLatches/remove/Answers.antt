use Rattle.std.proofs.Common.{◌≡◌, length, refl, ◌∙◌, arith}
use Rattle.std.proofs.lemmas.Option.{slice_get_read}
use Rattle.held_latches.specs.Holding.{without_below}
use Rattle.held_latches.proofs.Keeping.{none-spare}
use Rattle.held_latches.proofs.Removing.{begins, ends, goes-on, is-there}
use Rattle.held_latches.proofs.held.HeldLatches.remove.Goals as goal

pub loop-place-init : goal.loop-place-init
loop-place-init c = record { same = (refl, refl, refl); writers = (refl, refl); held = λ s n k o own only. begins c.args.self.now c.args.id s n k o }

pub remove_one-requires-clause-held : goal.remove_one-requires-clause-held
remove_one-requires-clause-held c =
    let (s, n, o, own, only) = c.requires.held in let ls = c.args.latches.now in let j = c.loop-place.place in
    let here = slice_get_read ls (length ls) j c.index-latches-place.result refl c.loop-place-test.true c.index-latches-place.is in (
      without_below c.args.id j s,
      n,
      (c.loop-place.invariant.held s n 0 (none-spare c.args.self.now s n o) own only).holds,
      is-there ls c.index-latches-place.result c.args.id c.args.lane j s here own,
    )

pub loop-place-preserved : goal.loop-place-preserved
loop-place-preserved c =
    let ls = c.args.latches.now in let j = c.loop-place.place in let l = c.index-latches-place.result in
    let here = slice_get_read ls (length ls) j l refl c.loop-place-test.true c.index-latches-place.is in
    let before = c.loop-place.invariant.same in let now = c.remove_one.ensures.table in
    let former = c.loop-place.invariant.writers in let last = c.remove_one.ensures.writers in record {
      same = (now.0 ∙ before.0, now.1 ∙ before.1, now.2 ∙ before.2);
      writers = (last.0 ∙ former.0, last.1 ∙ former.1);
      held = λ s n k o own only. goes-on c.remove_one.new.self ls l c.args.id j s n k here only
          (c.remove_one.ensures.held (without_below c.args.id j s) n k (c.loop-place.invariant.held s n k o own only)
          (is-there ls l c.args.id c.args.lane j s here own));
    }

pub returns-clause-held : goal.returns-clause-held
returns-clause-held c = λ s n k o own only.
    let ls = c.args.latches.now in let j = c.loop-place.place in
    let all : j ≡ length ls = let a = c.loop-place-test.false in let b = c.loop-place.auto.place-end in omega arith in
    ends c.loop-place.self ls c.args.id j s n k all only (c.loop-place.invariant.held s n k o own only)
