use Rattle.schemes.specs.Lent.{code_lent}
use Rattle.schemes.proofs.Summing.{Summed}
use Rattle.schemes.proofs.scheme.words.Code.check_symbols.Given as goal

abbrev pub invariant-loop-i : goal.invariant-loop-i
invariant-loop-i g l = Summed (code_lent g.K.Kind.ring l.self) l.message l.few l.i l.sums
