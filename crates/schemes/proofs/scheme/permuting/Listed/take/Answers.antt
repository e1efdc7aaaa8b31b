use Rattle.std.proofs.Common.{◌≡◌, sym, ◌∙◌, subst, arith}
use Rattle.lists.specs.Meaning.{Meaning}
use Rattle.lists.proofs.Replies.{replied, reply_within}
use Rattle.schemes.specs.Takes.{taken}
use Rattle.schemes.proofs.Taking.{Moving, bad_high, bad_twice, moving_none, moving_all}
use Rattle.schemes.proofs.scheme.permuting.Listed.take.Goals as goal
use Rattle.schemes.proofs.scheme.permuting.Listed.take.Goals.{then-to-self-via-then-to-self, then-to-self-via-else-to-self+then-came-to}

pub loop-p-init : goal.loop-p-init
loop-p-init g c =
    moving_none c.args.self.now.n ((g.L.Permutations.meaning c.args.self.now.list.now).target c.args.i) c.args.self.now.few c.args.v.now

pub returns-then-to-self : goal.returns-then-to-self
returns-then-to-self g c =
    let M : Meaning = g.L.Permutations.meaning c.args.self.now.list.now in
    let n = c.args.self.now.n in
    let few = c.args.self.now.few in
    let p = c.loop-p.p in
    let there = replied M c.args.i p c.in_ok-to.to (sym c.in_ok-to.ensures.ok_part ∙ c.target.ensures ∙ c.requires.asked p (omega arith)) in
    elim c.then-to-self.branch [
      | then-to-self-via-then-to-self w ↦ bad_high n (M.target c.args.i) few p c.in_ok-to.to c.loop-p.came (omega arith) there.2 (omega arith) c.loop-p.invariant.come
      | then-to-self-via-else-to-self+then-came-to w ↦ bad_twice n (M.target c.args.i) few p c.in_ok-to.to c.loop-p.came (omega arith) there.2 (omega arith) w.if-came-to.true c.loop-p.invariant.come
    ]

pub returns : goal.returns
returns g c =
    let M : Meaning = g.L.Permutations.meaning c.args.self.now.list.now in
    let n = c.args.self.now.n in
    let σ = M.target c.args.i in
    let end : c.loop-p.p ≡ n = omega arith in
    moving_all n σ c.args.self.now.few c.loop-p.came c.args.v.now (taken c.args.targets.now c.loop-p.word)
    (λ p h. c.requires.asked p (omega arith) ∙ reply_within M c.args.i p (omega arith) (omega arith))
    (subst (λ p. Moving n σ p c.loop-p.came c.args.v.now c.loop-p.word) end c.loop-p.invariant)
