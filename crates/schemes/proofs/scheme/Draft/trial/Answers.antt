use Rattle.std.proofs.Common.{◌≡◌, ◌<◌, true, is_ok, IfOk, None, Ok, Err, Result, sym, refl, ◌∙◌, subst, arith}
use Rattle.std.proofs.lemmas.Bool.{false≢true}
use Rattle.symbols.specs.Ring.{RingRules}
use Rattle.codes.proofs.Found.{none-some}
use Rattle.promises.specs.Scheme.{Plan, plan, Handed, handing}
use Rattle.promises.specs.Trial.{unfit, fails, Serves, Exactly}
use Rattle.promises.specs.Promise.{Promise}
use Rattle.promises.proofs.Promised.{law}
use Rattle.promises.proofs.Trying.{second_none, both_none, passes_serves, serves_passes}
use Rattle.schemes.specs.declared.scheme.Live.{Live}
use Rattle.schemes.specs.declared.scheme.Rejected.{Rejected}
use Rattle.schemes.specs.Told.{Tried, kept}
use Rattle.schemes.proofs.scheme.Draft.trial.Goals as goal

module _ (D : Plan) (h : Handed) (rules : RingRules h.ring) (some : 0 < D.k) (order : D.k < D.n) where
  promised-by : (r : Result Live Rejected) → Tried D h r → IfOk r (λ live. Promise (kept live) h)
  promised-by (Ok live) (none, is, _) = subst (λ S. Promise S h) (sym is) (law D h (record { rules = rules; some = some; order = order; verdict_none = none }))
  promised-by (Err x) tried = tt

  exactly-by : (r : Result Live Rejected) → Tried D h r → unfit D h ≡ None → Exactly (is_ok r ≡ true) (Serves D h)
  exactly-by (Ok live) (none, _, _) fit = ((λ _. passes_serves D h fit rules some (omega arith) (second_none (unfit D h) (fails D h) none)), (λ _. refl))
  exactly-by (Err x) (found, _) fit = (
    (λ e. absurd (false≢true e)),
    (λ serves. absurd (none-some _ (sym (both_none (unfit D h) (fails D h) fit (serves_passes D h fit rules some (omega arith) serves)) ∙ found))),
  )

pub returns : goal.returns
returns g c =
    let d = c.args.self in
    let D : Plan = plan d.n d.k d.t d.q in
    let h : Handed = handing (g.K.Kind.ring c.args.kind.now) c.args.rows.now (g.L.Permutations.meaning c.args.list.now) in
    let rules = g.met.K.Kind.rules c.args.kind.now in
    record {
      tried = c.decide.ensures;
      promised = promised-by D h rules (omega arith) (omega arith) c.decide.result c.decide.ensures;
      exactly = exactly-by D h rules (omega arith) (omega arith) c.decide.result c.decide.ensures;
    }
