use Rattle.std.proofs.Common.{◌≡◌, ◌*◌, ◌/◌, ◌%◌, ◌^◌, sym, ap, ◌∙◌, mod-lt, arith}
use Rattle.lists.proofs.Powers.{reduced, even_turn, odd_turn, last}
use Rattle.lists.proofs.power_times.Goals as goal
use Rattle.lists.proofs.power_times.Goals.{then-rest-eq1, else-rest-eq1}

pub loop-rest-init : goal.loop-rest-init
loop-rest-init c =
    let n = c.args.n in
    (mod-lt c.args.g c.requires, mod-lt c.args.p c.requires, reduced c.args.g c.args.i c.args.p n)

pub loop-rest-preserved : goal.loop-rest-preserved
loop-rest-preserved c =
    let n = c.args.n in
    let l = c.loop-rest in
    let s = l.square in
    elim c.if-rest-eq1.branch [
      | then-rest-eq1 w ↦ (
        mod-lt (s * s) c.requires,
        omega (arith, w.product-is, mod-lt (l.product * s) c.requires),
        ap (λ x. ((s * s % n) ^ (l.rest / 2) * x) % n) w.product-is ∙ odd_turn s l.rest l.product n w.if-rest-eq1.true ∙ l.invariant.2,
      )
      | else-rest-eq1 w ↦ (
        mod-lt (s * s) c.requires,
        omega (arith, w.product-is),
        ap (λ x. ((s * s % n) ^ (l.rest / 2) * x) % n) w.product-is ∙ even_turn s l.rest l.product n (omega arith) ∙ l.invariant.2,
      )
    ]

pub returns : goal.returns
returns c =
    let l = c.loop-rest in
    let none : l.rest ≡ 0 = omega arith in
    sym (last l.square l.product c.args.n l.invariant.1) ∙ ap (λ x. (l.square ^ x * l.product) % c.args.n) (sym none) ∙ l.invariant.2
