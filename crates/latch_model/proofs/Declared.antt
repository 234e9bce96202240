-- Latches that lie in declared ones, by the test: the snapshot has the lists that they look at.
use Rattle.std.proofs.Common.{◌≡◌, true, List}
use Rattle.std.proofs.lemmas.Bool.{and_parts}
use Rattle.latch_model.specs.Checks.{is_declared}
use Rattle.latch_model.specs.Latches.{lies_in_latch, local}
use Rattle.latch_model.specs.declared.latch.Latch.{Latch}
use Rattle.latch_model.proofs.LatchLaws.{same_is, same_writes_is}
use Rattle.latch_model.proofs.Meeting.{Captured, captured_within}
use Rattle.latch_model.proofs.Members.{list_any_of}

pub captured_if_declared : (own : List Latch) (l : Latch) → is_declared own l ≡ true → Captured own l
captured_if_declared own l e =
    let d = list_any_of (lies_in_latch l) own e in
    let parts = and_parts _ _ d.2 in
    captured_within own l d.0 d.1 ((same_is (local l) (local d.0)).0 parts.0) ((same_writes_is l.access d.0.access).0 (and_parts _ _ parts.1).0)
