use Rattle.std.proofs.Common.{ℕ, length, refl, ap, ◌∙◌, subst, Some}
use Rattle.std.proofs.lemmas.Option.{slice_get_read}
use Rattle.signal_board.specs.Rule.{InLane}
use Rattle.signal_board.proofs.Waiting.{lane_there}
use Rattle.signal_board.proofs.parallel.lane_of.Goals as goal

pub returns-in-Some : goal.returns-in-Some
returns-in-Some c c' =
    let h = c'.args.entries.now in
    let n = c'.loop-entry.entry-index in
    let lt = c'.loop-entry-test.true in
    let w = c'.in-Some.ensures in
    let at = slice_get_read h (length h) n c'.entry-item.result refl lt c'.entry-item.is in
    subst (λ (x : ℕ × ℕ). InLane h x.0 x.1) (λ i. (w.2 i, w.3 i)) (lane_there h _ c'.requires n w.0 lt (at ∙ ap Some w.1))
