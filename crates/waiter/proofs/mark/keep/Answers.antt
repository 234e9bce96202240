use Rattle.waiter.proofs.mark.keep.Goals as goal

pub returns-clause-kept : goal.returns-clause-kept
returns-clause-kept c held is = λ i. record {
  by = is.whose i;
  lane = is.runs_in i;
  place = is.which i;
  latch = record { access = is.access_is i; span = c.span.ensures.span held is i; stamp = is.stamp_is i };
}
