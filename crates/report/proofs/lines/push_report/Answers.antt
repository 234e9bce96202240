use Rattle.report.proofs.Further.{report_lines}
use Rattle.report.proofs.lines.push_report.Goals as goal

pub returns : goal.returns
returns c =
    report_lines c.args.entries.now c.of.result c.args.out.now.items c.extend_from_slice.new.self.items c.push_entries.new.out.items
    c.summary_text.new.out.items c.of.ensures c.in_ok-extend_from_slice.ensures.items c.in_ok-push_entries.ensures c.in_ok-summary_text.ensures.ok
