-- What follows for the history of a run.
use Rattle.std.proofs.Common.{◌≡◌, ℕ, false, List, subst}
use Rattle.latch_model.specs.Histories.{is_open}
use Rattle.latch_model.specs.Legal.{IsLegal}
use Rattle.latch_model.specs.declared.history.Entry.{Entry}
use Rattle.latch_model.specs.declared.history.Sizes.{Sizes}
use Rattle.latch_model.proofs.Exclusion.{legal_excludes}
use Rattle.latch_model.proofs.Naming.{error_names, prerequisite_names}
use Rattle.script.specs.Follows.{FollowsScript}
use Rattle.script.specs.declared.command.Command.{Command}
use Rattle.replay.specs.Running.{program_sizes}
use Rattle.latch_tool.specs.Outcomes.{Shows, report_of}
use Rattle.latch_tool.specs.Replays.{IsRunOf}
use Rattle.latch_tool.specs.declared.form.Layout.{Layout}

-- A history that is legal at the program's sizes, that is closed and follows the script, is that of a run.
run_of : (commands : List Command) (h : List Entry) (sizes : Sizes) → sizes ≡ program_sizes → IsLegal h sizes → ((id : ℕ) → is_open h id ≡ false)
    → FollowsScript h commands → IsRunOf commands h
run_of commands h sizes same legal closed follows =
    let legal_so : IsLegal h program_sizes = subst (λ (s : Sizes). IsLegal h s) same legal in
    record {
      legal = legal_so;
      closed = closed;
      follows = follows;
      prerequisites = prerequisite_names h;
      excludes = legal_excludes h program_sizes legal_so;
      poison_errors = error_names h program_sizes legal_so closed;
    }

-- the report of such a history is one that `replay` may write
pub shows_run : (layout : Layout) (commands : List Command) (h : List Entry) (sizes : Sizes) (text : List ℕ) → sizes ≡ program_sizes → IsLegal h sizes
    → ((id : ℕ) → is_open h id ≡ false) → FollowsScript h commands → text ≡ report_of layout h → Shows layout commands text
shows_run layout commands h sizes text same legal closed follows is = (h, run_of commands h sizes same legal closed follows, is)
