use Rattle.shot_walks.proofs.Standing.{stands-end}
use Rattle.shot_walks.proofs.place.Place.end.Goals as goal

pub returns : goal.returns
returns c = λ k r shows none. stands-end k _ r shows none
