use Rattle.std.proofs.Common.{◌≡◌, ℕ, ◌<◌, None}
use Rattle.codes.specs.Offenders.{unkept_unit}
use Rattle.schemes.specs.Lent.{code_lent}
use Rattle.schemes.proofs.scheme.attempting.Fitted.unkept.Given as goal

abbrev pub invariant-loop-i : goal.invariant-loop-i
invariant-loop-i g l = (r : ℕ) → r < l.i → unkept_unit (code_lent g.K.Kind.ring l.self.code) ((g.L.Permutations.meaning l.self.list.list.now).target r) ≡ None
