use Rattle.std.proofs.Common.{◌≡◌, ℕ, ◌+◌, ◌-◌, ◌*◌, length, take, drop, length-drop, sym, ap, ◌∙◌, arith}
use Rattle.std.proofs.lemmas.List.{get_or-take, get_or-drop, length-take-le}
use Rattle.codes.specs.Code.{Code, codeword, distance}
use Rattle.codes.proofs.Places.{distance_inner, distance-mono}
use Rattle.codes.proofs.Words.{codeword-check}
use Rattle.schemes.specs.Lent.{code_lent}
use Rattle.schemes.proofs.Bounds.{ltb_lt}
use Rattle.schemes.proofs.Summing.{begun_whole}
use Rattle.schemes.proofs.scheme.words.Code.is_far.Goals as goal

pub returns : goal.returns
returns g c =
    let C : Code = code_lent g.K.Kind.ring c.args.self.now in
    let w = c.args.word.now in
    let u = take C.k w in
    let few = 2 * (c.args.limit + 1) in
    let long : length u ≡ C.k = length-take-le C.k w (omega arith) in
    let x = take (C.k + few - C.k) (drop C.k w) in
    let y = take few c.check_symbols-checks.result in
    let wide : length x ≡ few = length-take-le (C.k + few - C.k) (drop C.k w) (omega (arith, length-drop C.k w)) ∙ omega arith in
    let inner = distance_inner C.k few w (codeword C u) x y
    (λ j h. get_or-take (C.k + few - C.k) (drop C.k w) j 0 (omega arith) ∙ get_or-drop C.k w j 0)
    (λ j h. get_or-take few c.check_symbols-checks.result j 0 h ∙ c.check_symbols-checks.ensures j h ∙ begun_whole C u j long ∙ sym (codeword-check C u long j (omega arith))) in
    let counted : c.distance.result ≡ distance few x y = c.distance.ensures.count ∙ ap (λ (m : ℕ). distance m x y) wide in
    λ more. omega (arith, ltb_lt c.args.limit c.distance.result more, counted, inner, distance-mono (C.k + few) C.n w (codeword C u) (omega arith))
