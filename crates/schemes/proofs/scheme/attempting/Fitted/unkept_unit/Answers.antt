use Rattle.std.proofs.Common.{◌≡◌, take, not, sym, ap, ◌∙◌, subst, arith, below_more}
use Rattle.codes.specs.Code.{Code, codeword, unit, moved, is_codeword, Permutation}
use Rattle.codes.proofs.Found.{least-some, least-none, none-some}
use Rattle.codes.proofs.Offending.{clash_none}
use Rattle.schemes.specs.Lent.{code_lent}
use Rattle.schemes.specs.Takes.{Takes, taken as taken_by}
use Rattle.schemes.proofs.scheme.attempting.Fitted.unkept_unit.Goals as goal

pub unreachable-requires : goal.unreachable-requires
unreachable-requires g c =
    let l = c.args.self.now.list in
    let σ = (g.L.Permutations.meaning l.list.now).target c.args.i in
    none-some _ (sym (clash_none l.n σ (subst (λ n. Permutation n σ) c.args.self.now.same c.requires.permutation)) ∙ c.in_default.ensures)

pub returns-then-not-is_codeword : goal.returns-then-not-is_codeword
returns-then-not-is_codeword g c =
    let C : Code = code_lent g.K.Kind.ring c.args.self.now.code in
    let σ = (g.L.Permutations.meaning c.args.self.now.list.list.now).target c.args.i in
    let x = taken_by c.targets-targets.result c.in-Ok.image in
    let word = take C.n c.codeword-word.result in
    let taken : Takes C.n σ word x = subst (λ n. Takes n σ word x) (sym c.args.self.now.same) c.in-Ok.ensures in
    let is : take C.n x.word ≡ moved C.n σ (codeword C (unit C.k c.loop-j.j)) =
    taken.moves ∙ ap (moved C.n σ) (c.codeword-word.ensures ∙ ap (codeword C) (c.unit-message.ensures C.k (omega arith))) in
    sym (least-some (λ j. not (is_codeword C (moved C.n σ (codeword C (unit C.k j))))) 0 C.k c.loop-j.j (omega arith) (omega arith)
    (ap not (ap (is_codeword C) (sym is) ∙ sym c.is_codeword.ensures ∙ c.if-not-is_codeword.true)) (λ y _ h. ap not (c.loop-j.invariant y h)))

pub loop-j-preserved : goal.loop-j-preserved
loop-j-preserved g c =
    let C : Code = code_lent g.K.Kind.ring c.args.self.now.code in
    let σ = (g.L.Permutations.meaning c.args.self.now.list.list.now).target c.args.i in
    let x = taken_by c.targets-targets.result c.in-Ok.image in
    let word = take C.n c.codeword-word.result in
    let taken : Takes C.n σ word x = subst (λ n. Takes n σ word x) (sym c.args.self.now.same) c.in-Ok.ensures in
    let is : take C.n x.word ≡ moved C.n σ (codeword C (unit C.k c.loop-j.j)) =
    taken.moves ∙ ap (moved C.n σ) (c.codeword-word.ensures ∙ ap (codeword C) (c.unit-message.ensures C.k (omega arith))) in
    below_more _ _ c.loop-j.invariant (ap (is_codeword C) (sym is) ∙ sym c.is_codeword.ensures ∙ c.if-not-is_codeword.false)

pub returns : goal.returns
returns g c =
    let C : Code = code_lent g.K.Kind.ring c.args.self.now.code in
    let σ = (g.L.Permutations.meaning c.args.self.now.list.list.now).target c.args.i in
    sym (least-none (λ j. not (is_codeword C (moved C.n σ (codeword C (unit C.k j))))) 0 C.k (λ y _ h. ap not (c.loop-j.invariant y (omega arith))))
