use Rattle.std.proofs.Common.{◌≡◌, ℕ, suc, ◌-◌, length, get_or, take, drop, sym, ◌∙◌, subst, arith}
use Rattle.std.proofs.lemmas.List.{length-take-le, get_or-take}
use Rattle.codes.specs.Steps.{Last}
use Rattle.codes.proofs.Step.{next_at}
use Rattle.schemes.proofs.scheme.marking.successor.Goals as goal

pub returns-then-can_rise : goal.returns-then-can_rise
returns-then-can_rise c =
    let t = c.args.t in
    let set = c.args.set in
    let new = c.run_from.result in
    let j = c.loop-j.j - 1 in
    let e : length (take t set) ≡ t = length-take-le t set (omega arith) in
    let f : length (take t new) ≡ t = length-take-le t new (omega arith) in
    let r : get_or (take t set) j 0 ≡ get_or set j 0 = get_or-take t set j 0 (omega arith) in
    let back : c.loop-j.j ≡ suc j = omega arith in
    let rises = c.if-can_rise.ensures in
    next_at c.args.n j (take t set) (take t new) (omega arith) (omega arith)
    (λ k h. get_or-take t new k 0 (omega arith) ∙ c.run_from.ensures.kept k h ∙ sym (get_or-take t set k 0 (omega arith)))
    (λ k a b. get_or-take t new k 0 (omega arith) ∙ c.run_from.ensures.numbered k a (omega arith) ∙ omega arith)
    (subst (λ (i : ℕ). Last c.args.n (drop i (take t set))) back c.loop-j.invariant.1)
    (omega arith)
