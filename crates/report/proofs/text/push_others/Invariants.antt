use Rattle.std.proofs.Common.{◌≡◌, ◌∷◌, ◌++◌, take, decimal}
use Rattle.std.specs.List.{flat_map}
use Rattle.report.proofs.text.push_others.Given as goal

-- the numbers passed so far are written, each with a comma in front of it
abbrev pub invariant-loop-n : goal.invariant-loop-n
invariant-loop-n l = l.out.items ≡ l.initial.out.items ++ flat_map (λ n. 44 ∷ decimal n) (take l.n-index l.numbers)
