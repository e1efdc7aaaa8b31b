use Rattle.std.proofs.Common.{◌≡◌, ℕ, ◌<◌, length, get_or, take, sym, ◌∙◌, subst, arith}
use lib.Bits.{bit_and}
use Rattle.std.proofs.lemmas.List.{length-take-le, get_or-take}
use Rattle.codes.specs.Sets.{SetOf}
use Rattle.codes.specs.Steps.{run, Missed}
use Rattle.codes.proofs.Step.{run_is}
use Rattle.codes.proofs.Visited.{first_set, next_set, falls_later, Seen, seen_none, seen_more, seen_all}
use Rattle.schemes.proofs.scheme.marking.first_met.Goals as goal

pub loop-set-init : goal.loop-set-init
loop-set-init c =
    let n = c.args.n in
    let t = c.args.t in
    let new = c.run_from-set.result in
    let e : length (take t new) ≡ t = length-take-le t new (omega arith) in
    let r : take t new ≡ run 0 t = run_is 0 (take t new) t e (λ i h. get_or-take t new i 0 h ∙ c.run_from-set.ensures.numbered i (omega arith) h ∙ omega arith) in
    let P = Missed c.args.masks.now (length c.args.masks.now) in
    (omega arith, subst (SetOf n t) (sym r) (first_set n t (omega arith)), subst (Seen n t P) (sym r) (seen_none n t P))

pub returns-in_err-set : goal.returns-in_err-set
returns-in_err-set c =
    let v = c.loop-set.invariant in
    let P = Missed c.args.masks.now (length c.args.masks.now) in
    let h = subst (λ (b : ℕ). (i : ℕ) × (i < length c.args.masks.now) × (bit_and (get_or c.args.masks.now i 0) b ≡ 0)) c.number_of-number.ensures c.if-not-missed.ensures in
    let k = c.skip.ensures in
    let seen = k.seen h v.2 in
    rw c.from_residual.ensures
    (seen_all c.args.n c.args.t P (take c.args.t c.skip.result) c.in_err-set.ensures k.set seen.0 seen.1)

pub loop-set-smaller : goal.loop-set-smaller
loop-set-smaller c =
    falls_later c.args.n c.args.t (take c.args.t c.loop-set.set) (take c.args.t c.skip.result) (take c.args.t c.in_ok-set.set)
    (omega arith) c.skip.ensures.later c.in_ok-set.ensures c.loop-set.invariant.1 c.skip.ensures.set

pub loop-set-preserved : goal.loop-set-preserved
loop-set-preserved c =
    let v = c.loop-set.invariant in
    let P = Missed c.args.masks.now (length c.args.masks.now) in
    let h = subst (λ (b : ℕ). (i : ℕ) × (i < length c.args.masks.now) × (bit_and (get_or c.args.masks.now i 0) b ≡ 0)) c.number_of-number.ensures c.if-not-missed.ensures in
    let k = c.skip.ensures in
    let seen = k.seen h v.2 in
    let old = take c.args.t c.skip.result in
    let new = take c.args.t c.in_ok-set.set in
    (omega arith, next_set c.args.n c.args.t old new c.in_ok-set.ensures k.set, seen_more c.args.n c.args.t P old new c.in_ok-set.ensures k.set seen.0 seen.1)
