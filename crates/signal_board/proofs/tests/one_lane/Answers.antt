use Rattle.std.proofs.Common.{ℕ, [], ◌∷◌, List, refl, sym, ap, ◌∙◌, subst}
use Rattle.signal_board.specs.Views.{PassView}
use Rattle.signal_board.proofs.Retiring.{InTurn, each_in_turn}
use Rattle.signal_board.proofs.tests.one_lane.Goals as goal

pub close-requires-clause-retired : goal.close-requires-clause-retired
close-requires-clause-retired c c' =
    let given = ap (λ x. x.given) c'.retire.ensures.desk ∙ ap (λ x. x.given) c'.enroll-pass.ensures.desk in
    let none_yet = ap (λ x. x.retired) c'.enroll-pass.ensures.desk ∙ ap (λ x. x.retired) c'.in_ok-board.ensures.desk in
    let p : PassView = c'.front.new.pass.p in
    let retired = ap (λ x. x.retired) c'.retire.ensures.desk ∙ ap (λ (l : List PassView). p ∷ l) none_yet in
    let who = ap (λ x. x.p.who) c'.front.ensures.pass ∙ ap (λ x. x.p.who) c'.enroll-pass.ensures.pass in
    let turn : InTurn (p ∷ []) 1 = (who, (0, refl, refl)) in
    each_in_turn _ _ (subst (λ (x : List PassView × ℕ). InTurn x.0 x.1) (λ i. (sym retired i, sym given i)) turn)
