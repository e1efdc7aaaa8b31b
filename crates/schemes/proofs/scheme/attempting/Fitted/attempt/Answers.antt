use Rattle.std.proofs.Common.{sym, refl, ◌∙◌, subst, arith}
use Rattle.std.proofs.lemmas.Bool.{true≢false}
use Rattle.codes.specs.Code.{Code, Permutation}
use Rattle.codes.proofs.Found.{none-some}
use Rattle.codes.proofs.Offending.{clash_none}
use Rattle.schemes.specs.Lent.{code_lent}
use Rattle.schemes.specs.Takes.{Takes, taken as taken_by}
use Rattle.schemes.proofs.Attempts.{length_codeword, far_is, distance_is, candidate_is, candidate_passes, candidate_serves}
use Rattle.schemes.proofs.scheme.attempting.Fitted.attempt.Goals as goal

pub returns-in_default : goal.returns-in_default
returns-in_default g c =
    let l = c.args.self.now.list in
    let σ = (g.L.Permutations.meaning l.list.now).target c.args.i in
    λ s. none-some _ (sym (clash_none l.n σ (subst (λ n. Permutation n σ) c.args.self.now.same s.0)) ∙ c.in_default.ensures)

pub returns-then-is_far : goal.returns-then-is_far
returns-then-is_far g c =
    let C : Code = code_lent g.K.Kind.ring c.args.self.now.code in
    let σ = (g.L.Permutations.meaning c.args.self.now.list.list.now).target c.args.i in
    let x = taken_by c.targets-targets.result c.in-Ok.taken in
    let taken : Takes C.n σ c.args.v.now x = subst (λ n. Takes n σ c.args.v.now x) (sym c.args.self.now.same) c.in-Ok.ensures in
    λ s. omega (arith, c.is_far.ensures c.if-is_far.true, far_is C (omega arith) σ c.args.v.now x taken, s.2)

pub returns-then-d-self : goal.returns-then-d-self
returns-then-d-self g c =
    let C : Code = code_lent g.K.Kind.ring c.args.self.now.code in
    let σ = (g.L.Permutations.meaning c.args.self.now.list.list.now).target c.args.i in
    let v = c.args.v.now in
    let x = taken_by c.targets-targets.result c.in-Ok.taken in
    let taken : Takes C.n σ v x = subst (λ n. Takes n σ v x) (sym c.args.self.now.same) c.in-Ok.ensures in
    let far = distance_is C (omega arith) σ v x taken c.codeword-codeword.result c.codeword-codeword.ensures c.distance-d.result c.distance-d.ensures.count in
    λ s. omega (arith, s.2)

pub bring_back-word-requires : goal.bring_back-word-requires
bring_back-word-requires g c =
    let C : Code = code_lent g.K.Kind.ring c.args.self.now.code in
    let σ = (g.L.Permutations.meaning c.args.self.now.list.list.now).target c.args.i in
    let v = c.args.v.now in
    let x = taken_by c.targets-targets.result c.in-Ok.taken in
    let taken : Takes C.n σ v x = subst (λ n. Takes n σ v x) (sym c.args.self.now.same) c.in-Ok.ensures in
    let long = length_codeword C (omega arith) σ v x taken c.codeword-codeword.result c.codeword-codeword.ensures in
    record { few = omega arith; within = λ p h. (σ p, taken.goes p (omega arith), omega (arith, taken.permutes.0 p (omega arith))) }

pub returns-then-not-is_codeword : goal.returns-then-not-is_codeword
returns-then-not-is_codeword g c =
    let C : Code = code_lent g.K.Kind.ring c.args.self.now.code in
    let σ = (g.L.Permutations.meaning c.args.self.now.list.list.now).target c.args.i in
    let v = c.args.v.now in
    let x = taken_by c.targets-targets.result c.in-Ok.taken in
    let taken : Takes C.n σ v x = subst (λ n. Takes n σ v x) (sym c.args.self.now.same) c.in-Ok.ensures in
    let is = candidate_is C (omega arith) σ v x taken c.codeword-codeword.result c.codeword-codeword.ensures c.bring_back-word.result (omega arith) c.bring_back-word.ensures in
    λ s. true≢false (sym (c.is_codeword.ensures ∙ candidate_passes C (omega arith) (g.met.K.Kind.rules c.args.self.now.code.kind.now) σ taken.permutes v c.requires.block _ is s.1) ∙ c.if-not-is_codeword.true)

pub returns : goal.returns
returns g c =
    let C : Code = code_lent g.K.Kind.ring c.args.self.now.code in
    let σ = (g.L.Permutations.meaning c.args.self.now.list.list.now).target c.args.i in
    let v = c.args.v.now in
    let x = taken_by c.targets-targets.result c.in-Ok.taken in
    let taken : Takes C.n σ v x = subst (λ n. Takes n σ v x) (sym c.args.self.now.same) c.in-Ok.ensures in
    let is = candidate_is C (omega arith) σ v x taken c.codeword-codeword.result c.codeword-codeword.ensures c.bring_back-word.result (omega arith) c.bring_back-word.ensures in
    let far = distance_is C (omega arith) σ v x taken c.codeword-codeword.result c.codeword-codeword.ensures c.distance-d.result c.distance-d.ensures.count in
    let serves = candidate_serves C (omega arith) (g.met.K.Kind.rules c.args.self.now.code.kind.now) σ taken.permutes v c.requires.block _ is (sym c.is_codeword.ensures ∙ c.if-not-is_codeword.false) in
    (refl, (taken.permutes, serves, omega arith), record { word = is; far = far })
