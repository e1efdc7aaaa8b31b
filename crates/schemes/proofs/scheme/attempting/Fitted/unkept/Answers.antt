use Rattle.std.proofs.Common.{sym, arith}
use Rattle.codes.specs.Code.{Code}
use Rattle.schemes.specs.Lent.{code_lent}
use Rattle.codes.specs.Offenders.{unkept_unit}
use Rattle.codes.proofs.Found.{least_with-some, least_with-none}
use Rattle.schemes.proofs.scheme.attempting.Fitted.unkept.Goals as goal

pub unkept_unit-requires : goal.unkept_unit-requires
unkept_unit-requires g c = let p = c.requires.permutations c.loop-i.i (omega arith) in record { within = omega arith; permutation = p }

pub returns-in-Some : goal.returns-in-Some
returns-in-Some g c =
    let C : Code = code_lent g.K.Kind.ring c.args.self.now.code in
    let M = g.L.Permutations.meaning c.args.self.now.list.list.now in
    sym (least_with-some (λ i. unkept_unit C (M.target i)) 0 M.count c.loop-i.i c.in-Some.j (omega arith) (omega arith) (sym c.in-Some.ensures) (λ y _ h. c.loop-i.invariant y h))

pub returns : goal.returns
returns g c =
    let C : Code = code_lent g.K.Kind.ring c.args.self.now.code in
    let M = g.L.Permutations.meaning c.args.self.now.list.list.now in
    sym (least_with-none (λ i. unkept_unit C (M.target i)) 0 M.count (λ y _ h. c.loop-i.invariant y (omega arith)))
