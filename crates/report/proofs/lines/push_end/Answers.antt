use Rattle.report.proofs.Parts.{end_written}
use Rattle.report.proofs.lines.push_end.Goals as goal

pub returns : goal.returns
returns c =
    end_written c.args.id c.args.grant.now c.args.poison c.args.fault c.checked_list.result.now c.args.out.now.items
    c.push_count.new.out.items c.extend_from_slice.new.self.items c.push_cause.new.out.items c.extend_from_slice-2.new.self.items
    c.push_fault.new.out.items c.extend_from_slice-3.new.self.items c.push_grant.new.out.items c.push_latches.new.out.items
    c.checked_list.ensures c.in_ok-push_count.ensures.ok c.in_ok-extend_from_slice.ensures.items c.in_ok-push_cause.ensures.text
    c.in_ok-extend_from_slice-2.ensures.items c.in_ok-push_fault.ensures.text c.in_ok-extend_from_slice-3.ensures.items
    c.in_ok-push_grant.ensures.text c.in_ok-push_latches.ensures
