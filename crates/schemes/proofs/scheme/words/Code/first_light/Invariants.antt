use Rattle.std.proofs.Common.{◌≡◌, ℕ, ◌*◌, ◌<◌, ◌≤◌, false, leb}
use Rattle.schemes.specs.Lent.{code_lent}
use Rattle.codes.specs.Code.{codeword, weight, message}
use Rattle.schemes.proofs.scheme.words.Code.first_light.Given as goal

abbrev pub invariant-loop-lead : goal.invariant-loop-lead
invariant-loop-lead g l =
    let C = code_lent g.K.Kind.ring l.self in
    (y : ℕ) → 1 ≤ y → y < l.lead * C.ring.q → leb (weight C.n (codeword C (message C.ring.q C.k y))) l.limit ≡ false
