use Rattle.std.proofs.Common.{Some, Option, sym, ap, ◌∙◌}
use Rattle.std.specs.Option.{option_or}
use Rattle.std.proofs.lemmas.Result.{err_from_is_err_and}
use Rattle.faults.specs.Refusal.{Refusal, refusal}
use Rattle.promises.specs.Scheme.{Plan, plan, Handed, handing}
use Rattle.promises.specs.Trial.{verdict}
use Rattle.opening.proofs.go_live.Goals as goal

pub returns-in_err-live : goal.returns-in_err-live
returns-in_err-live g c =
    let R = g.K.Kind.ring c.args.kind.now in
    let h : Handed = handing R c.args.rows.now (g.L.Permutations.meaning c.args.list.now) in
    let drafted = c.in_ok-new.ensures in
    let found = c.in_err-live.ensures.tried.0 in
    let p = err_from_is_err_and c.from_residual-in_err-live.result c.from_residual-in_err-live.ensures.1 in
    rw p.1
    (ap (λ (o : Option Refusal). option_or o (verdict (plan c.args.n c.args.k c.args.t R.q) h)) drafted.0
    ∙ ap (λ (D : Plan). verdict D h) (sym drafted.1) ∙ found ∙ ap (λ f. Some (refusal f)) (sym p.2))
