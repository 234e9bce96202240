use Rattle.std.proofs.Common.{◌∙◌, ap}
use Rattle.script.specs.Commands.{policy_text}
use Rattle.report.proofs.Parts.{begin_written}
use Rattle.report.proofs.lines.push_begin.Goals as goal

pub returns : goal.returns
returns c =
    begin_written c.args.ids.now c.args.id c.args.lane c.args.who c.args.mode c.args.request.now c.tag.result
    c.mode_word.result.now c.policy_word.result.now c.list.result.now c.args.out.now.items
    c.push_count.new.out.items c.push_small.new.out.items c.push_small-2.new.out.items c.push_small-3.new.out.items
    c.push_word.new.out.items c.push_word-2.new.out.items c.extend_from_slice.new.self.items c.push_numbers.new.out.items c.push_latches.new.out.items
    c.tag.ensures c.mode_word.ensures (c.policy_word.ensures ∙ ap policy_text c.policy.ensures) (c.list.ensures.list ∙ c.latches.ensures)
    c.in_ok-push_count.ensures.ok c.in_ok-push_small.ensures c.in_ok-push_small-2.ensures c.in_ok-push_small-3.ensures
    c.in_ok-push_word.ensures c.in_ok-push_word-2.ensures c.in_ok-extend_from_slice.ensures.items c.in_ok-push_numbers.ensures.ok c.in_ok-push_latches.ensures
