use Rattle.std.proofs.Common.{◌∙◌, ap}
use Rattle.report.specs.Json.{summary_json}
use Rattle.report.specs.Plain.{shown}
use Rattle.report.proofs.Values.{report_written, summary_shown}
use Rattle.report.proofs.objects.put_report.Goals as goal

pub returns : goal.returns
returns c =
    report_written c.args.entries.now c.of.result c.args.out.now.items c.extend_from_slice.new.self.items c.put_entries.new.out.items
    c.extend_from_slice-2.new.self.items c.put.new.out.items c.extend_from_slice-3.new.self.items c.of.ensures
    c.in_ok-extend_from_slice.ensures.items c.in_ok-put_entries.ensures c.in_ok-extend_from_slice-2.ensures.items
    (c.in_ok-put.ensures (summary_json c.of.result) (ap shown c.in_ok-summary_object.ensures ∙ summary_shown c.of.result))
    c.in_ok-extend_from_slice-3.ensures.items
