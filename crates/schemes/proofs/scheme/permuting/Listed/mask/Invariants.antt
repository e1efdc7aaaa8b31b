use Rattle.std.proofs.Common.{ltb}
use Rattle.codes.proofs.Mask.{Grown}
use Rattle.schemes.proofs.scheme.permuting.Listed.mask.Given as goal

abbrev pub invariant-loop-p : goal.invariant-loop-p
invariant-loop-p g l = Grown l.p l.mask (λ j. ltb ((g.L.Permutations.meaning l.self.list.now).target l.i j) l.k)
