use Rattle.std.proofs.Common.{map, ap, ◌∙◌}
use Rattle.step_run.specs.Lives.{seen_live, with_value}
use Rattle.step_run.specs.declared.live.Value.{Value}
use Rattle.step_run.proofs.Lives.{set_value}
use Rattle.step_run.proofs.live.put.Goals as goal

pub returns : goal.returns
returns c =
    let xs = c.args.lives.now.items in
    set_value xs c.args.i c.index_mut-live.result.now c.replace.new.dest c.index_mut-live.ensures.value
    ∙ ap (λ (v : Value). with_value c.args.i v (map seen_live xs)) c.replace.ensures.after
