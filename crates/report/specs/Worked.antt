-- Worked examples of the reports: one request, which is granted and released.
use Rattle.std.specs.Prelude.{ℕ, List, [], ◌∷◌, ◌++◌, codes}
use Rattle.latch_model.specs.declared.history.Cause.TheVariants.{None as no_cause}
use Rattle.latch_model.specs.declared.history.Entry.{Entry}
use Rattle.latch_model.specs.declared.history.Entry.TheVariants.{Begun, Ended}
use Rattle.latch_model.specs.declared.history.Fault.TheVariants.{None as no_fault}
use Rattle.latch_model.specs.declared.history.Grant.TheVariants.{Waited}
use Rattle.latch_model.specs.declared.latch.Access.TheVariants.{Write}
use Rattle.latch_model.specs.declared.latch.Latch.{Latch}
use Rattle.latch_model.specs.declared.latch.Mode.TheVariants.{Acquire}
use Rattle.latch_model.specs.declared.latch.Policy.TheVariants.{Wait as policy_wait}

-- w:61
abbrev pub one_latch : Latch
one_latch = record { access = Write; span = (97 ∷ [], []); stamp = record { wall = 0; logical = 0 } }

-- the history of: acquire 1 a wait w:61, release a
abbrev pub one_request : List Entry
one_request =
    Begun 1 0 1 Acquire (record { tag = 2; policy = policy_wait; latches = one_latch ∷ [] })
    ∷ Ended 1 1 (Waited 1) no_cause no_fault ∷ []

abbrev pub one_report : List ℕ
one_report =
    codes "latch report 1\n"
    ++ codes "begin 1 lane=0 session=1 line=2 acquire wait before=- w:61\n"
    ++ codes "end 1 - - waited=1\n"
    ++ codes "requests 1 granted 1 checked 0 poisoned 0 cancelled 0 never 0\n"

abbrev pub one_json : List ℕ
one_json =
    codes "{\"entries\":[{\"before\":[],\"begin\":1,\"lane\":0,\"latches\":[\"w:61\"],\"line\":2,\"mode\":\"acquire\",\"policy\":\"wait\",\"session\":1},"
    ++ codes "{\"cause\":\"-\",\"end\":1,\"fault\":\"-\",\"grant\":\"waited=1\",\"latches\":[]}],"
    ++ codes "\"report\":1,\"summary\":{\"cancelled\":0,\"checked\":0,\"granted\":1,\"never\":0,\"poisoned\":0,\"requests\":1}}\n"
