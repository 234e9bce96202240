use Rattle.std.proofs.Common.{refl}
use Rattle.std.specs.List.{IsDistinct}
use Rattle.read_list.proofs.list.ReadList.new.Goals as goal

pub returns : goal.returns
unfolding IsDistinct
returns c = λ v. record { first_row = refl; last_row = refl; many = refl; linked = tt; distinct = tt }
