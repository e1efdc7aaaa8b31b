use Rattle.std.proofs.Common.{◌≡◌, ℕ, ◌-◌, ◌^◌, List, length, take}
use Rattle.codes.specs.Sets.{SetOf, Before}
use Rattle.codes.specs.Steps.{Missed}
use Rattle.codes.proofs.Order.{value}
use Rattle.schemes.proofs.scheme.marking.first_met.Given as goal

abbrev pub invariant-loop-set : goal.invariant-loop-set
invariant-loop-set l =
    (length l.set ≡ 5)
    × SetOf l.n l.t (take l.t l.set)
    × ((ys : List ℕ) → SetOf l.n l.t ys → Before ys (take l.t l.set) → Missed l.masks (length l.masks) ys)

abbrev pub decreases-loop-set : goal.decreases-loop-set
decreases-loop-set l = 64 ^ l.t - value (take l.t l.set)
