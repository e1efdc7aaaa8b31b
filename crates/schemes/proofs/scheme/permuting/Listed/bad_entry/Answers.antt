use Rattle.std.proofs.Common.{sym, arith, below_more}
use Rattle.codes.specs.Offenders.{bad_place}
use Rattle.codes.proofs.Found.{least_with-some, least_with-none}
use Rattle.codes.proofs.Offending.{clash_none}
use Rattle.schemes.proofs.scheme.permuting.Listed.bad_entry.Goals as goal

pub returns-in-Err : goal.returns-in-Err
returns-in-Err g c =
    let M = g.L.Permutations.meaning c.args.self.now.list.now in
    sym (least_with-some (λ i. bad_place c.args.self.now.n (M.target i)) 0 M.count c.loop-i.i _ (omega arith) (omega arith) c.in-Err.ensures (λ y _ h. c.loop-i.invariant y h))

pub loop-i-preserved : goal.loop-i-preserved
loop-i-preserved g c =
    let M = g.L.Permutations.meaning c.args.self.now.list.now in
    below_more _ _ c.loop-i.invariant (clash_none c.args.self.now.n (M.target c.loop-i.i) c.in_default.ensures.permutes)

pub returns : goal.returns
returns g c =
    let M = g.L.Permutations.meaning c.args.self.now.list.now in
    sym (least_with-none (λ i. bad_place c.args.self.now.n (M.target i)) 0 M.count (λ y _ h. c.loop-i.invariant y (omega arith)))
