use Rattle.std.proofs.Common.{◌≡◌, ◌++◌, List, ℕ, ap, ◌∙◌, codes}
use Rattle.std.proofs.lemmas.List.{append_assoc}
use Rattle.std.proofs.lemmas.Result.{IfOk-equal}
use Rattle.step_run.specs.Texts.{counts_line}
use Rattle.step_run.proofs.lines.metrics_line.Goals as goal

five_parts : (o a b c d e : List ℕ) → ((((o ++ a) ++ b) ++ c) ++ d) ++ e ≡ o ++ ((((a ++ b) ++ c) ++ d) ++ e)
five_parts o a b c d e = simp append_assoc

pub returns : goal.returns
returns c =
    let before = c.args.out.now.items in
    let all = counts_line c.args.metrics.now.global in
    let own = counts_line c.args.metrics.now.local in
    IfOk-equal c.put-3.result c.put-3.new.out.items (c.counts_text-2.new.out.items ++ codes "\n")
    (before ++ (codes "metrics global" ++ all ++ codes " local" ++ own ++ codes "\n"))
    c.put-3.ensures
    (ap (λ w. w ++ codes "\n")
    (c.in_ok-counts_text-2.ensures
    ∙ ap (λ w. w ++ own) (c.in_ok-put-2.ensures
    ∙ ap (λ w. w ++ codes " local") (c.in_ok-counts_text.ensures
    ∙ ap (λ w. w ++ all) c.in_ok-put.ensures)))
    ∙ five_parts before (codes "metrics global") all (codes " local") own (codes "\n"))
