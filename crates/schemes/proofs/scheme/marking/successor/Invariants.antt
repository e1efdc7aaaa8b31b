use Rattle.std.proofs.Common.{◌≤◌, take, drop}
use Rattle.codes.specs.Steps.{Last}
use Rattle.schemes.proofs.scheme.marking.successor.Given as goal

abbrev pub invariant-loop-j : goal.invariant-loop-j
invariant-loop-j l = (l.j ≤ l.t) × Last l.n (drop l.j (take l.t l.set))
