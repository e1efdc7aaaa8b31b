use Rattle.std.proofs.Common.{◌≡◌, take}
use Rattle.codes.specs.Sets.{bits}
use Rattle.schemes.proofs.scheme.marking.number_of.Given as goal

abbrev pub invariant-loop-place : goal.invariant-loop-place
invariant-loop-place l = l.sum ≡ bits (take l.place-index l.place-items)
