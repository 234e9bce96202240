use Rattle.std.proofs.Common.{◌++◌, codes, ap, ◌∙◌}
use Rattle.std.proofs.lemmas.Result.{on_ok_weaker}
use Rattle.std.proofs.lemmas.List.{append_assoc}
use Rattle.step_run.specs.Texts.{met_text, named_line, spread_text}
use Rattle.step_run.proofs.turn.blocked_lines.Goals as goal

pub returns : goal.returns
returns c = λ x e.
    let name = c.args.name.now in
    on_ok_weaker c.polled_line.result
    (λ w. w ∙ ap (λ y. y ++ named_line name (met_text (codes "blocked ") x)) c.in_ok-spread_line.ensures
    ∙ append_assoc c.args.out.now.items (spread_text c.args.spreads name c.args.by) (named_line name (met_text (codes "blocked ") x)))
    (c.polled_line.ensures.blocked x e)
