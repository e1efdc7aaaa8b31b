use Rattle.std.proofs.Common.{◌≡◌, ℕ, ◌<◌, length, get_or, Some}
use Rattle.lists.specs.Told.{told}
use Rattle.schemes.proofs.scheme.attempting.bring_back.Given as goal

abbrev pub invariant-loop-p : goal.invariant-loop-p
invariant-loop-p l =
    (length l.back ≡ 64)
    × ((r to : ℕ) → r < l.p → told l.targets r ≡ Some to → get_or l.back r 0 ≡ get_or l.word to 0)
