use Rattle.report.proofs.Values.{begin_put, end_put}
use Rattle.report.proofs.objects.put_object.Goals as goal

pub returns-in_ok-put-in-Begun : goal.returns-in_ok-put-in-Begun
returns-in_ok-put-in-Begun c = λ h own.
    begin_put h c.args.entry.now c.args.ids.now c.in-Begun.id c.in-Begun.lane c.in-Begun.who c.in-Begun.mode c.in-Begun.request
    c.args.out.now.items c.put.new.out.items c.in-Begun.is own (c.in_ok-put-in-Begun.ensures _ c.in_ok-value-in-Begun.ensures)

pub returns-in_ok-put-in-Ended : goal.returns-in_ok-put-in-Ended
returns-in_ok-put-in-Ended c = λ h own.
    end_put h c.args.entry.now c.in-Ended.id c.in-Ended.who c.in-Ended.grant c.in-Ended.poison c.in-Ended.fault
    c.args.out.now.items c.put-in-Ended.new.out.items c.in-Ended.is (c.in_ok-put-in-Ended.ensures _ c.in_ok-value-in-Ended.ensures)
