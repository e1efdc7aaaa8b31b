use Rattle.schemes.proofs.Taking.{Moving}
use Rattle.schemes.proofs.scheme.permuting.Listed.take.Given as goal

abbrev pub invariant-loop-p : goal.invariant-loop-p
invariant-loop-p g l = Moving l.self.n ((g.L.Permutations.meaning l.self.list.now).target l.i) l.p l.came l.v l.word
