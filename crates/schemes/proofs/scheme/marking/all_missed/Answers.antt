use Rattle.std.proofs.Common.{ℕ, ◌+◌, length, sym, subst, arith}
use Rattle.schemes.proofs.Opening.{Open, open_none, open_same, open_more, open_all}
use Rattle.schemes.proofs.scheme.marking.all_missed.Goals as goal
use Rattle.schemes.proofs.scheme.marking.all_missed.Goals.{then-mask-head-eq0+else-rest-eq0, else-mask-head-eq0}

pub loop-mask-init : goal.loop-mask-init
loop-mask-init c = open_none c.args.masks.now c.args.head c.args.from

pub returns-then-rest-eq0 : goal.returns-then-rest-eq0
returns-then-rest-eq0 c =
    let masks = c.args.masks.now in
    λ _. open_all masks c.args.head c.args.from _ (c.loop-mask.mask-index + 1) (length masks) c.if-rest-eq0.true (omega arith)
    (open_more masks c.args.head c.args.from c.loop-mask.rest c.loop-mask.mask-index c.if-mask-head-eq0.true c.loop-mask.invariant)

pub loop-mask-preserved : goal.loop-mask-preserved
loop-mask-preserved c =
    let masks = c.args.masks.now in
    let head = c.args.head in
    let from = c.args.from in
    let i = c.loop-mask.mask-index in
    elim c.if-mask-head-eq0.branch [
      | then-mask-head-eq0+else-rest-eq0 w ↦
          subst (λ (x : ℕ). Open masks head from x (i + 1)) (sym w.rest-is) (open_more masks head from c.loop-mask.rest i w.if-mask-head-eq0.true c.loop-mask.invariant)
      | else-mask-head-eq0 w ↦
          subst (λ (x : ℕ). Open masks head from x (i + 1)) (sym w.rest-is) (open_same masks head from c.loop-mask.rest i c.loop-mask.invariant)
    ]
