use Rattle.std.proofs.Common.{◌≡◌, ℕ, ◌<◌, ◌≤◌, ◌++◌, ◌∷◌, [], false, leb}
use Rattle.schemes.specs.Lent.{code_lent}
use Rattle.codes.specs.Code.{codeword, weight}
use Rattle.schemes.proofs.scheme.words.Code.light_end.Given as goal

abbrev pub invariant-loop-last : goal.invariant-loop-last
invariant-loop-last g l =
    let C = code_lent g.K.Kind.ring l.self in
    (y : ℕ) → l.initial.from ≤ y → y < l.last → leb (weight C.n (codeword C (l.head ++ (y ∷ [])))) l.limit ≡ false
