use Rattle.std.proofs.Common.{ℕ, [], ◌∷◌, List, refl, sym, ap, ◌∙◌, subst}
use Rattle.signal_board.specs.Views.{PassView}
use Rattle.signal_board.proofs.Retiring.{InTurn, each_in_turn}
use Rattle.signal_board.proofs.parallel.close_all.Goals as goal

pub close-requires-clause-retired : goal.close-requires-clause-retired
close-requires-clause-retired c =
    let a = c.retire.ensures.desk in
    let b = c.retire-2.ensures.desk in
    let d = c.retire-3.ensures.desk in
    let e = c.retire-4.ensures.desk in
    let r = c.requires in
    let given = ap (λ x. x.given) e ∙ (ap (λ x. x.given) d ∙ (ap (λ x. x.given) b ∙ (ap (λ x. x.given) a ∙ r.desk.2))) in
    let first = ap (λ x. x.retired) a ∙ ap (λ (l : List PassView). c.args.one.p ∷ l) r.desk.3 in
    let second = ap (λ x. x.retired) b ∙ ap (λ (l : List PassView). c.args.two.p ∷ l) first in
    let third = ap (λ x. x.retired) d ∙ ap (λ (l : List PassView). c.args.three.p ∷ l) second in
    let retired = ap (λ x. x.retired) e ∙ ap (λ (l : List PassView). c.args.four.p ∷ l) third in
    let turn : InTurn (c.args.four.p ∷ c.args.three.p ∷ c.args.two.p ∷ c.args.one.p ∷ []) 4 =
    (r.four.1, (3, refl, (r.three.1, (2, refl, (r.two.1, (1, refl, (r.one.1, (0, refl, refl)))))))) in
    each_in_turn _ _ (subst (λ (x : List PassView × ℕ). InTurn x.0 x.1) (λ i. (sym retired i, sym given i)) turn)
