use Rattle.std.proofs.Common.{◌≡◌, ℕ, ◌+◌, Bool, ltb, sym, ◌∙◌, subst, arith, le-ltb, lt-ltb}
use Rattle.lists.proofs.Replies.{replied}
use Rattle.codes.proofs.Mask.{Grown, grown_set, grown_clear}
use Rattle.schemes.proofs.scheme.permuting.Listed.mask.Goals as goal
use Rattle.schemes.proofs.scheme.permuting.Listed.mask.Goals.{then-to-k, else-to-k}

pub loop-p-preserved : goal.loop-p-preserved
loop-p-preserved g c =
    let M = g.L.Permutations.meaning c.args.self.now.list.now in
    let i = c.args.i in
    let p = c.loop-p.p in
    let f : ℕ → Bool = λ j. ltb (M.target i j) c.args.k in
    let to : c.in-Some.to ≡ M.target i p = (replied M i p c.in-Some.to (c.in-Some.ensures ∙ c.targets-targets.ensures p (omega arith))).2 in
    elim c.if-to-k.branch [
      | then-to-k w ↦ subst (λ (y : ℕ). Grown (p + 1) y f) (sym w.mask-is) (grown_set p c.loop-p.mask f (omega arith) c.loop-p.invariant (lt-ltb _ _ (omega (arith, w.if-to-k.true))))
      | else-to-k w ↦ subst (λ (y : ℕ). Grown (p + 1) y f) (sym w.mask-is) (grown_clear p c.loop-p.mask f c.loop-p.invariant (le-ltb _ _ (omega (arith, w.if-to-k.false))))
    ]
