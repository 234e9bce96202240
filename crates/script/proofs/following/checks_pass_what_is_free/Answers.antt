use Rattle.script.proofs.Examples.{check_passes, check_must_pass, check_fails, check_must_fail}
use Rattle.script.proofs.following.checks_pass_what_is_free.Goals as goal

pub returns : goal.returns
returns c = record { passed = check_passes; passed_only = check_must_pass; failed = check_fails; failed_only = check_must_fail }
