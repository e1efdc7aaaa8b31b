use Rattle.std.proofs.Common.{ℕ, ◌-◌, ◌<◌}
use Rattle.codes.specs.Code.{Succeeds}
use Rattle.schemes.specs.Lent.{code_lent}
use Rattle.schemes.proofs.scheme.attempting.Fitted.first_success.Given as goal

abbrev pub invariant-loop-i : goal.invariant-loop-i
invariant-loop-i g l =
    (j : ℕ) → j < l.i → Succeeds (code_lent g.K.Kind.ring l.self.code) l.self.t ((g.L.Permutations.meaning l.self.list.list.now).target j) l.v → ⊥

abbrev pub decreases-loop-i : goal.decreases-loop-i
decreases-loop-i g l = l.m - l.i
