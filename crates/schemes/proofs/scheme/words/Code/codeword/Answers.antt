use Rattle.std.proofs.Common.{◌≡◌, ◌-◌, length, take, ap, ◌∙◌, ap₂, ◌++◌, arith}
use Rattle.std.proofs.lemmas.List.{get_or-take, length-take-le}
use Rattle.std.proofs.lemmas.List.FromFn.{fill_by_all}
use Rattle.codes.specs.Code.{Code, check}
use Rattle.schemes.specs.Lent.{code_lent}
use Rattle.schemes.proofs.Parts.{two_parts}
use Rattle.schemes.proofs.Summing.{begun_whole}
use Rattle.schemes.proofs.scheme.words.Code.codeword.Goals as goal

pub returns : goal.returns
returns g c =
    let C : Code = code_lent g.K.Kind.ring c.args.self.now in
    let w = C.n - C.k in
    let checks = c.check_symbols-checks.result in
    let front : c.copy_from_slice.new.self ≡ c.args.message.now = c.copy_from_slice.ensures.after in
    let back : c.copy_from_slice-2.new.self ≡ take w checks = c.copy_from_slice-2.ensures.after in
    let wide : length (take w checks) ≡ w = length-take-le w checks (omega arith) in
    two_parts C.n C.k c.copy_from_slice.new.self c.copy_from_slice-2.new.self _ _ (ap length front ∙ c.requires) (omega (arith, ap length front, ap length back))
    ∙ ap₂ ◌++◌ front (back ∙ fill_by_all (check C c.args.message.now) (take w checks) w 0 wide (λ j h. get_or-take w checks j 0 h ∙ c.check_symbols-checks.ensures j h ∙ begun_whole C c.args.message.now j c.requires))
