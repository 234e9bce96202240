use Rattle.std.proofs.Common.{append_assoc}
use Rattle.report.proofs.counts.Summary.push.Goals as goal

pub returns-clause-ok : goal.returns-clause-ok
returns-clause-ok c =
    rw (
      c.in_ok-extend_from_slice.ensures.items,
      c.in_ok-push_count-6.ensures.ok,
      c.in_ok-push_count-5.ensures.ok,
      c.in_ok-push_count-4.ensures.ok,
      c.in_ok-push_count-3.ensures.ok,
      c.in_ok-push_count-2.ensures.ok,
      c.in_ok-push_count.ensures.ok,
    )
    (simp append_assoc)
