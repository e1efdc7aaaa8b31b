use Rattle.std.proofs.Common.{ℕ, sym, subst, arith, below_more}
use Rattle.codes.specs.Code.{Code, Succeeds}
use Rattle.schemes.specs.Lent.{code_lent}
use Rattle.schemes.proofs.scheme.attempting.Fitted.first_success.Goals as goal

pub loop-i-preserved : goal.loop-i-preserved
loop-i-preserved g c = below_more _ _ c.loop-i.invariant c.in_default.ensures

pub returns-then-i-m : goal.returns-then-i-m
returns-then-i-m g c = λ i h. c.loop-i.invariant i (omega arith)

pub returns-in-Some : goal.returns-in-Some
returns-in-Some g c =
    let C : Code = code_lent g.K.Kind.ring c.args.self.now.code in
    let target = (g.L.Permutations.meaning c.args.self.now.list.list.now).target in
    let (e, s, found) = c.in-Some.ensures in (
      omega arith,
      (subst (λ (i : ℕ). Succeeds C c.args.self.now.t (target i) c.args.v.now) (sym e) s, λ j h. c.loop-i.invariant j (omega arith)),
      found,
    )
