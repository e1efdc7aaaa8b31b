use Rattle.std.proofs.Common.{◌-◌, [], ◌∷◌, ◌++◌, leb, sym, ◌∙◌, arith}
use Rattle.codes.specs.Code.{Code, codeword, weight}
use Rattle.codes.proofs.Found.{least-some, least-none}
use Rattle.schemes.specs.Lent.{code_lent}
use Rattle.schemes.proofs.Bounds.{gt_leb}
use Rattle.schemes.proofs.Searching.{heavier}
use Rattle.schemes.proofs.scheme.words.Code.light_end.Goals as goal

pub returns-then-own-limit : goal.returns-then-own-limit
returns-then-own-limit g c =
    let C : Code = code_lent g.K.Kind.ring c.args.self.now in
    sym (least-none (λ last. leb (weight C.n (codeword C (c.args.head.now ++ (last ∷ [])))) c.args.limit) c.args.from (C.ring.q - c.args.from)
    (λ last _ _. gt_leb _ _ (omega (arith, c.weight-own.ensures, heavier C (omega arith) c.args.head.now last c.requires.head 0 [] (omega arith) (λ j h. absurd (omega arith))))))

pub returns-then-is_light : goal.returns-then-is_light
returns-then-is_light g c =
    let C : Code = code_lent g.K.Kind.ring c.args.self.now in
    sym (least-some (λ last. leb (weight C.n (codeword C (c.args.head.now ++ (last ∷ [])))) c.args.limit) c.args.from (C.ring.q - c.args.from) c.loop-last.last
    (omega arith) (omega arith) (sym c.is_light.ensures ∙ c.if-is_light.true) (λ y a b. c.loop-last.invariant y a b))

pub returns : goal.returns
returns g c =
    let C : Code = code_lent g.K.Kind.ring c.args.self.now in
    sym (least-none (λ last. leb (weight C.n (codeword C (c.args.head.now ++ (last ∷ [])))) c.args.limit) c.args.from (C.ring.q - c.args.from) (λ y a b. c.loop-last.invariant y a (omega arith)))
