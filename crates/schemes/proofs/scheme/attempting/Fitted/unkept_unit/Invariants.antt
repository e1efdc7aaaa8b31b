use Rattle.std.proofs.Common.{◌≡◌, ℕ, ◌<◌, true}
use Rattle.codes.specs.Code.{codeword, is_codeword, unit, moved}
use Rattle.schemes.specs.Lent.{code_lent}
use Rattle.schemes.proofs.scheme.attempting.Fitted.unkept_unit.Given as goal

abbrev pub invariant-loop-j : goal.invariant-loop-j
invariant-loop-j g l =
    let C = code_lent g.K.Kind.ring l.self.code in
    (r : ℕ) → r < l.j → is_codeword C (moved l.self.code.n ((g.L.Permutations.meaning l.self.list.list.now).target l.i) (codeword C (unit l.self.code.k r))) ≡ true
