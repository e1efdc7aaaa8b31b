use Rattle.std.proofs.Common.{◌≡◌, ℕ, ◌-◌, [], ◌∷◌, leb, length, take, sym, ap, ◌∙◌, arith}
use Rattle.std.proofs.lemmas.List.{get_or-take, length-take-le}
use Rattle.codes.specs.Code.{Code, weight}
use Rattle.codes.proofs.Places.{distance-le}
use Rattle.schemes.specs.Lent.{code_lent}
use Rattle.schemes.proofs.Bounds.{gt_leb}
use Rattle.schemes.proofs.Searching.{ended, heavier, weighed}
use Rattle.schemes.proofs.scheme.words.Code.is_light.Goals as goal

pub overflow_add-whole : goal.overflow_add-whole
overflow_add-whole g c = omega (arith, c.requires.own, distance-le (length c.args.head.now) c.args.head.now [], c.requires.head, c.weight.ensures, distance-le 1 (c.args.last ∷ []) [])

pub returns-then-whole-limit : goal.returns-then-whole-limit
returns-then-whole-limit g c =
    let C : Code = code_lent g.K.Kind.ring c.args.self.now in
    sym (gt_leb _ _ (omega (arith, c.requires.own, c.weight.ensures, heavier C (omega arith) c.args.head.now c.args.last c.requires.head 0 [] (omega arith) (λ j h. absurd (omega arith)))))

pub overflow_add-whole-2 : goal.overflow_add-whole-2
overflow_add-whole-2 g c = omega (arith, c.weight-2.ensures, distance-le (length (take c.min-few.result c.add_row.new.sums)) (take c.min-few.result c.add_row.new.sums) [], length-take-le c.min-few.result c.add_row.new.sums (omega arith))

pub returns-then-whole-weight : goal.returns-then-whole-weight
returns-then-whole-weight g c =
    let C : Code = code_lent g.K.Kind.ring c.args.self.now in
    let few = c.min-few.result in
    let firsts = c.add_row.new.sums in
    let at = ended C (omega arith) c.args.head.now c.args.last c.requires.head few c.args.sums.now firsts c.args.self.now.few (omega arith) c.args.self.now.size c.told-sums
    (λ j h. c.requires.sums j (omega arith)) c.add_row.ensures in
    let counted : c.weight-2.result ≡ weight few (take few firsts) = c.weight-2.ensures ∙ ap (λ (m : ℕ). weight m (take few firsts)) (length-take-le few firsts (omega arith)) in
    sym (gt_leb _ _ (omega (
      arith,
      c.requires.own,
      c.weight.ensures,
      counted,
      heavier C (omega arith) c.args.head.now c.args.last c.requires.head few (take few firsts) (omega arith) (λ j h. get_or-take few firsts j 0 h ∙ at j h),
    )))

pub overflow_add-result : goal.overflow_add-result
overflow_add-result g c =
    let width = c.args.self.now.n - c.args.self.now.k in
    omega (arith, c.weight-3.ensures, distance-le (length (take width c.add_row-2.new.sums)) (take width c.add_row-2.new.sums) [], length-take-le width c.add_row-2.new.sums (omega arith))

pub returns : goal.returns
returns g c =
    let C : Code = code_lent g.K.Kind.ring c.args.self.now in
    let width = C.n - C.k in
    let checks = c.add_row-2.new.sums in
    let at = ended C (omega arith) c.args.head.now c.args.last c.requires.head width c.args.sums.now checks c.args.self.now.few (omega arith) c.args.self.now.size c.told-sums
    (λ j h. c.requires.sums j h) c.add_row-2.ensures in
    let counted : c.weight-3.result ≡ weight width (take width checks) = c.weight-3.ensures ∙ ap (λ (m : ℕ). weight m (take width checks)) (length-take-le width checks (omega arith)) in
    ap (λ (x : ℕ). leb x c.args.limit)
    (omega (
      arith,
      c.requires.own,
      c.weight.ensures,
      counted,
      weighed C (omega arith) c.args.head.now c.args.last c.requires.head (take width checks) (λ j h. get_or-take width checks j 0 h ∙ at j h),
    ))
