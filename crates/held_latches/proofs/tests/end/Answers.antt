use Rattle.std.proofs.Common.{◌≡◌, subst, arith}
use Rattle.latch_model.specs.Histories.{Snapshot}
use Rattle.held_latches.specs.Holding.{HasSpare}
use Rattle.held_latches.specs.Lists.{inserted, no_lists, own_from, without_by}
use Rattle.held_latches.proofs.OneRequest.{all-gone, holds-own, only-own}
use Rattle.held_latches.proofs.tests.end.Goals as goal

pub remove-requires-clause-held : goal.remove-requires-clause-held
remove-requires-clause-held c =
    let ls = c.args.latches.now in
    let s = inserted (own_from 1 0 0 ls) no_lists in
    let (m, _, h) = c.take_back.ensures.holds s 1 51 c.requires.held in
    (s, m, h.holds, holds-own ls c.requires.one, only-own ls c.requires.one)

pub returns-clause-held : goal.returns-clause-held
returns-clause-held c =
    let ls = c.args.latches.now in
    let s = inserted (own_from 1 0 0 ls) no_lists in
    let (m, e, h) = c.take_back.ensures.holds s 1 51 c.requires.held in
    let none : m ≡ 0 = (omega arith) in
    let left = c.remove.ensures.held s m 51 h (holds-own ls c.requires.one) (only-own ls c.requires.one) in
    subst (λ (t : Snapshot). HasSpare c.remove.new.self t 0 51) (all-gone ls c.requires.one)
    (subst (λ k. HasSpare c.remove.new.self (without_by 1 s) k 51) none left)
