use Rattle.std.proofs.Common.{◌++◌, ap, List, ◌∙◌}
use Rattle.std.proofs.lemmas.Result.{on_ok_weaker}
use Rattle.script.specs.declared.command.Command.{Command}
use Rattle.script.proofs.Unrolled.{last_few, last_many}
use Rattle.script.proofs.make.close_last.Goals as goal

pub returns-then-n-le-SESSION_LIMIT : goal.returns-then-n-le-SESSION_LIMIT
returns-then-n-le-SESSION_LIMIT c =
    on_ok_weaker c.close_all.result (λ e. e ∙ ap (λ (ds : List Command). c.args.out.now.items ++ ds) (last_few c.args.n c.if-n-le-SESSION_LIMIT.true))
    c.close_all.ensures

pub returns : goal.returns
returns c =
    on_ok_weaker c.close_all-2.result (λ e. e ∙ ap (λ (ds : List Command). c.args.out.now.items ++ ds) (last_many c.args.n c.if-n-le-SESSION_LIMIT.false))
    c.close_all-2.ensures
