use Rattle.script.proofs.Examples.{one_by_one_follows, waiting_follows, no_session_two, no_latches, another_line, exchanged_sessions, no_end, session_three}
use Rattle.script.proofs.following.two_conflicting_requests.Goals as goal

pub returns : goal.returns
returns c = record {
  one_by_one = one_by_one_follows;
  waiting = waiting_follows 1;
  waiting_late = waiting_follows 2;
  session_missing = no_session_two;
  latches_missing = no_latches;
  another_line = another_line;
  sessions_exchanged = exchanged_sessions;
  end_missing = no_end;
  session_added = session_three;
}
