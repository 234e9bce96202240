use Rattle.std.proofs.Common.{nat_eq}
use Rattle.std.proofs.lemmas.List.Filters.{dedup_is}
use Rattle.shot_walks.proofs.Numbering.{sorted_once}
use Rattle.shot_walks.proofs.numbers.sort_once.Goals as goal

pub returns : goal.returns
returns c =
    sorted_once c.args.ids.now.items c.sort_unstable.new.self.items c.dedup.new.self.items c.sort_unstable.ensures.permutation c.sort_unstable.ensures.sorted
    (dedup_is nat_eq c.sort_unstable.new.self.items c.dedup.new.self.items c.dedup.ensures.filtered)
