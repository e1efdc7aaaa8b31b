use Rattle.std.proofs.Common.{◌≡◌, ◌-◌, Decides, length, length-drop, take, drop, ◌∙◌, subst, arith}
use Rattle.std.proofs.lemmas.Bool.Decides.{Decides-eqb}
use Rattle.std.proofs.lemmas.List.{get_or-take, length-take-le, take_all}
use Rattle.std.proofs.lemmas.Slice.Eq.{slice_eq-Decides}
use Rattle.codes.specs.Code.{Code}
use Rattle.schemes.specs.Lent.{code_lent}
use Rattle.schemes.proofs.Same.{own_checks}
use Rattle.schemes.proofs.Summing.{begun_whole}
use Rattle.schemes.proofs.scheme.words.Code.is_codeword.Goals as goal

pub returns : goal.returns
returns g c =
    let C : Code = code_lent g.K.Kind.ring c.args.self.now in
    let w = c.args.word.now in
    let width = C.n - C.k in
    let checks = c.check_symbols-checks.result in
    own_checks C (omega arith) w (take width checks) c.requires (length-take-le width checks (omega arith))
    (λ j h. get_or-take width checks j 0 h ∙ c.check_symbols-checks.ensures j h ∙ begun_whole C (take C.k w) j (length-take-le C.k w (omega arith)))
    c.eq.result
    (subst (λ l. Decides c.eq.result (take width checks ≡ l)) (take_all (length w - C.k) (drop C.k w) (omega (arith, length-drop C.k w))) (slice_eq-Decides Decides-eqb _ _ c.eq.result c.eq.ensures))
