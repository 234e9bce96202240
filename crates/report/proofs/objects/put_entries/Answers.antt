use Rattle.std.proofs.Common.{◌∙◌, ◌+◌, ap, drop, map}
use Rattle.latch_model.specs.Histories.{Begin, before, begins}
use Rattle.report.specs.Json.{entry_json}
use Rattle.report.proofs.Further.{drop_next, joined_next, passed_next}
use Rattle.report.proofs.objects.put_entries.Goals as goal

pub loop-entry-preserved : goal.loop-entry-preserved
loop-entry-preserved c =
    let h = c.args.entries.now in
    let n = c.loop-entry.entry-index in
    let e = c.entry-item.result in
    let there = c.loop-entry-test.true in
    let next = drop_next h n e there c.entry-item.is in
    let left = c.loop-entry.invariant.left ∙ ap (λ es. map (λ (b : Begin). before h b.id) (begins es)) next in record {
      written =
          joined_next (entry_json h) h n e c.args.out.now.items c.loop-entry.out.items c.put_entry.new.out.items c.loop-entry.first there c.entry-item.is
          c.loop-entry.invariant.none c.loop-entry.invariant.written (c.in_ok-put_entry.ensures h (c.next_list.ensures.own h (drop (n + 1) h) left));
      left = c.next_list.ensures.others h (drop (n + 1) h) left;
      none = passed_next h n e there c.entry-item.is;
    }
