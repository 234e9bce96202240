-- What the tests on stamps answer, and that any two stamps are in order.
use Rattle.std.proofs.Common.{◌↔◌, IsTrue, arith}
use Rattle.std.proofs.lemmas.Bool.Decides.{nat_tests}
use Rattle.hlc_stamp.specs.declared.Stamp.{Stamp}
use Rattle.hlc_stamp.specs.Stamps.{StampUpTo, stamp_le, IsEmptyStamp, is_empty_stamp}

pub stamp_le_is : (a b : Stamp) → IsTrue (stamp_le a b) ↔ StampUpTo a b
stamp_le_is a b = (λ h. grind (arith, nat_tests), λ h. grind (arith, nat_tests))

pub is_empty_is : (a : Stamp) → IsTrue (is_empty_stamp a) ↔ IsEmptyStamp a
is_empty_is a = (λ h. grind (arith, nat_tests), λ h. grind (arith, nat_tests))
